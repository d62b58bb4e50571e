-- The scripts that were worked by hand have these traces and histories: the definitions are
-- evaluated, check values included.
use Rattle.std.proofs.Common.{◌≡◌, [], ◌∷◌, refl}
use Rattle.std.specs.Fmt.{digits}
use Rattle.hex.specs.Hex.{encode_with}
use Rattle.frame_spec.specs.Checksum.{crc, dividend, divide, without_first, generator, add_to_front, inverted, inverted_bit, bits_of, number_of, message_bits}
use Rattle.frame_spec.specs.Baseline.{checked_bytes, spelling, number_at, frame_of, trailer_at, given_check, computed_check, fault_of, frame_unless, packet_frame}
use Rattle.message_spec.specs.Fields.{padding, put}
use Rattle.message_spec.specs.Reading.{plain, message_of}
use Rattle.message_spec.specs.Types.{type_numbered, kind_of}
use Rattle.message_spec.specs.Text.{kind_text, cut, contents_text, message_text}
use Rattle.class_spec.specs.Classes.{class_table, class_row}
use Rattle.class_spec.specs.Masks.{known_mask, unknown_mask, fixed_mask, width_of}
use Rattle.mib_spec.specs.Database.{managed_of, with_entity, without_entity, zeros_of, values_of, with_values, counter, with_counter, with_counter_grown, image_values, with_software, ethernet, onu_g, onu2_g, t_cont, first_with, first}
use Rattle.mib_spec.specs.Requests.{new_entity, create_code, create_outcome, delete_code, delete_outcome, set_code, set_effect, set_outcome, get_code, get_outcome_in, reset_code, reset}
use Rattle.retry_spec.specs.Kept.{kept_for, kept_with}
use Rattle.unit_spec.specs.Onu.{onu_started, answer, take_request, onu_received, onu_ticked}
use Rattle.lane_spec.specs.Command.{command_frame}
use Rattle.lane_spec.specs.Lane.{lane_tick, lane_reply}
use Rattle.manager_spec.specs.Copying.{followed}
use Rattle.manager_spec.specs.Jobs.{job_goes_on}
use Rattle.manager_spec.specs.Submitting.{after_probe, after_submit}
use Rattle.manager_spec.specs.Steps.{response_of, after_packet, after_tick}
use Rattle.link_spec.specs.Link.{allowed, ways_past, fresh}
use Rattle.world_spec.specs.Ends.{arrives, noise, second}
use Rattle.world_spec.specs.Nodes.{delivery, flow, acted, step}
use Rattle.world_spec.specs.Trace.{effect_text, line_text, trace_from, trace}
use Rattle.world_spec.specs.History.{told_after}
use Rattle.world_laws.specs.Worked.{commands_in, probe_and_get, probe_and_get_trace, unproven, unproven_trace, occupied, occupied_trace, second_change, second_change_trace, reply_again, reply_again_trace, kept_reply, kept_reply_trace, two_kept, two_kept_trace, below_floor, below_floor_trace, given_up, given_up_trace, no_frames, no_frames_trace, unit_restarted, unit_restarted_trace, manager_restarted, manager_restarted_trace, number_comes_round, number_comes_round_trace}

pub record Traces : Type 0 where
  pub probe_and_get-is : trace probe_and_get ≡ probe_and_get_trace
  pub unproven-is : trace unproven ≡ unproven_trace
  pub occupied-is : trace occupied ≡ occupied_trace
  pub second_change-is : trace second_change ≡ second_change_trace
  pub reply_again-is : trace reply_again ≡ reply_again_trace
  pub kept_reply-is : trace kept_reply ≡ kept_reply_trace
  pub two_kept-is : trace two_kept ≡ two_kept_trace
  pub below_floor-is : trace below_floor ≡ below_floor_trace
  pub given_up-is : trace given_up ≡ given_up_trace
  pub no_frames-is : trace no_frames ≡ no_frames_trace
  pub unit_restarted-is : trace unit_restarted ≡ unit_restarted_trace
  pub manager_restarted-is : trace manager_restarted ≡ manager_restarted_trace
  pub number_comes_round-is : trace number_comes_round ≡ number_comes_round_trace

pub traces : Traces
unfolding probe_and_get probe_and_get_trace unproven unproven_trace occupied occupied_trace
    second_change second_change_trace reply_again reply_again_trace kept_reply kept_reply_trace
    two_kept two_kept_trace below_floor below_floor_trace given_up given_up_trace no_frames
    no_frames_trace unit_restarted unit_restarted_trace manager_restarted manager_restarted_trace
    number_comes_round number_comes_round_trace digits encode_with crc dividend divide
    without_first generator add_to_front inverted inverted_bit bits_of number_of message_bits
    checked_bytes spelling number_at frame_of trailer_at given_check computed_check fault_of
    frame_unless packet_frame padding put plain message_of type_numbered kind_of class_table
    class_row known_mask unknown_mask fixed_mask width_of managed_of with_entity without_entity
    zeros_of values_of with_values counter with_counter with_counter_grown image_values
    with_software ethernet onu_g onu2_g t_cont first_with first new_entity create_code
    create_outcome delete_code delete_outcome set_code set_effect set_outcome get_code
    get_outcome_in reset_code reset kept_for kept_with onu_started answer take_request
    onu_received onu_ticked command_frame lane_tick lane_reply followed job_goes_on response_of
    after_packet after_tick after_probe after_submit allowed ways_past fresh arrives noise second
    delivery flow acted step kind_text cut contents_text message_text effect_text line_text
    trace_from trace
traces = record {
  probe_and_get-is = refl;
  unproven-is = refl;
  occupied-is = refl;
  second_change-is = refl;
  reply_again-is = refl;
  kept_reply-is = refl;
  two_kept-is = refl;
  below_floor-is = refl;
  given_up-is = refl;
  no_frames-is = refl;
  unit_restarted-is = refl;
  manager_restarted-is = refl;
  number_comes_round-is = refl;
}

pub record Histories : Type 0 where
  -- carried out once, though it came twice
  pub kept_reply-is : commands_in kept_reply ≡ 0 ∷ []
  -- carried out once, though it was sent three times
  pub given_up-is : commands_in given_up ≡ 0 ∷ []
  -- the get was carried out in the second life, and answered
  pub unit_restarted-is : commands_in unit_restarted ≡ 1 ∷ 1 ∷ 0 ∷ []
  -- the second manager's probe was not carried out
  pub manager_restarted-is : commands_in manager_restarted ≡ 3 ∷ 3 ∷ 1 ∷ 1 ∷ 0 ∷ []

pub histories : Histories
unfolding kept_reply given_up unit_restarted manager_restarted crc dividend divide without_first
    generator add_to_front inverted inverted_bit bits_of number_of message_bits checked_bytes
    spelling number_at frame_of trailer_at given_check computed_check fault_of frame_unless
    packet_frame padding put plain message_of type_numbered kind_of class_table class_row
    known_mask unknown_mask fixed_mask width_of managed_of with_entity without_entity zeros_of
    values_of with_values counter with_counter with_counter_grown image_values with_software
    ethernet onu_g onu2_g t_cont first_with first new_entity create_code create_outcome
    delete_code delete_outcome set_code set_effect set_outcome get_code get_outcome_in reset_code
    reset kept_for kept_with onu_started answer take_request onu_received onu_ticked
    command_frame lane_tick lane_reply followed job_goes_on response_of after_packet after_tick
    after_probe after_submit allowed ways_past fresh arrives noise second delivery flow acted
    step told_after
histories = record {
  kept_reply-is = refl;
  given_up-is = refl;
  unit_restarted-is = refl;
  manager_restarted-is = refl;
}
