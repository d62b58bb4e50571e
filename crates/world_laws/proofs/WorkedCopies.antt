-- The scripts with a resynchronisation that were worked by hand have these traces and histories:
-- the definitions are evaluated, check values included.
use Rattle.std.proofs.Common.{◌≡◌, [], ◌∷◌, refl}
use Rattle.std.specs.Fmt.{digits}
use Rattle.hex.specs.Hex.{encode_with}
use Rattle.frame_spec.specs.Checksum.{crc, dividend, divide, without_first, generator, add_to_front, inverted, inverted_bit, bits_of, number_of, message_bits}
use Rattle.frame_spec.specs.Baseline.{checked_bytes, spelling, number_at, frame_of, trailer_at, given_check, computed_check, fault_of, frame_unless, packet_frame}
use Rattle.message_spec.specs.Fields.{padding, put}
use Rattle.message_spec.specs.Reading.{plain, message_of}
use Rattle.message_spec.specs.Types.{type_numbered, kind_of}
use Rattle.message_spec.specs.Text.{kind_text, cut, contents_text, message_text}
use Rattle.class_spec.specs.Classes.{class_table, class_row}
use Rattle.class_spec.specs.Masks.{known_mask, unknown_mask, fixed_mask, width_of}
use Rattle.mib_spec.specs.Database.{managed_of, with_entity, without_entity, zeros_of, values_of, with_values, counter, with_counter, with_counter_grown, image_values, with_software, ethernet, onu_g, onu2_g, t_cont, first_with, first}
use Rattle.mib_spec.specs.Requests.{new_entity, create_code, create_outcome, delete_code, delete_outcome, set_code, set_effect, set_outcome, get_code, get_outcome_in, reset_code, reset}
use Rattle.upload_spec.specs.Pieces.{piece_of, pieces, piece_at}
use Rattle.upload_spec.specs.Copies.{copied, copied_values, with_copied, without_copied, with_piece, piece_fault, copied_counter, copy_counter, after_create, after_set, after_delete, copy_grown}
use Rattle.retry_spec.specs.Kept.{kept_for, kept_with}
use Rattle.unit_spec.specs.Onu.{onu_started, answer, take_request, onu_received, onu_ticked}
use Rattle.lane_spec.specs.Command.{command_frame}
use Rattle.lane_spec.specs.Lane.{lane_tick, lane_reply}
use Rattle.manager_spec.specs.Copying.{followed}
use Rattle.manager_spec.specs.Resync.{gather_on}
use Rattle.manager_spec.specs.Jobs.{job_goes_on}
use Rattle.manager_spec.specs.Submitting.{after_probe, after_submit, after_check, after_resync}
use Rattle.manager_spec.specs.Steps.{response_of, after_packet, after_tick}
use Rattle.slot_spec.specs.Layout.{version}
use Rattle.link_spec.specs.Link.{allowed, ways_past, fresh}
use Rattle.world_spec.specs.Ends.{arrives, noise, second}
use Rattle.world_spec.specs.Nodes.{delivery, flow, acted, step}
use Rattle.world_spec.specs.Trace.{effect_text, line_text, entry_text, entry_line, trace_from, trace}
use Rattle.world_spec.specs.History.{told_after}
use Rattle.world_laws.specs.Worked.{commands_in}
use Rattle.world_laws.specs.WorkedCopies.{resynchronised, synced_trace, created_and_checked, created_and_checked_trace, counter_goes_round, counter_goes_round_trace, values_too_wide, values_too_wide_trace, set_refused, set_refused_trace, deleted_absent, deleted_absent_trace, change_in_the_way, change_in_the_way_trace, restarted_meanwhile, restarted_meanwhile_trace, refusals_in_order, refusals_in_order_trace}

pub record CopyTraces : Type 0 where
  pub resynchronised-is : trace resynchronised ≡ synced_trace
  pub created_and_checked-is : trace created_and_checked ≡ created_and_checked_trace
  pub counter_goes_round-is : trace counter_goes_round ≡ counter_goes_round_trace
  pub values_too_wide-is : trace values_too_wide ≡ values_too_wide_trace
  pub set_refused-is : trace set_refused ≡ set_refused_trace
  pub deleted_absent-is : trace deleted_absent ≡ deleted_absent_trace
  pub change_in_the_way-is : trace change_in_the_way ≡ change_in_the_way_trace
  pub restarted_meanwhile-is : trace restarted_meanwhile ≡ restarted_meanwhile_trace
  pub refusals_in_order-is : trace refusals_in_order ≡ refusals_in_order_trace

pub copy_traces : CopyTraces
unfolding version resynchronised synced_trace created_and_checked created_and_checked_trace
    counter_goes_round counter_goes_round_trace values_too_wide values_too_wide_trace set_refused
    set_refused_trace deleted_absent deleted_absent_trace change_in_the_way
    change_in_the_way_trace restarted_meanwhile restarted_meanwhile_trace refusals_in_order
    refusals_in_order_trace digits encode_with crc dividend divide without_first generator
    add_to_front inverted inverted_bit bits_of number_of message_bits checked_bytes spelling
    number_at frame_of trailer_at given_check computed_check fault_of frame_unless packet_frame
    padding put plain message_of type_numbered kind_of class_table class_row known_mask
    unknown_mask fixed_mask width_of managed_of with_entity without_entity zeros_of values_of
    with_values counter with_counter with_counter_grown image_values with_software ethernet onu_g
    onu2_g t_cont first_with first new_entity create_code create_outcome delete_code
    delete_outcome set_code set_effect set_outcome get_code get_outcome_in reset_code reset
    piece_of pieces piece_at copied copied_values with_copied without_copied with_piece
    piece_fault copied_counter copy_counter after_create after_set after_delete copy_grown
    kept_for kept_with onu_started answer take_request onu_received onu_ticked command_frame
    lane_tick lane_reply followed gather_on job_goes_on response_of after_packet after_tick
    after_probe after_submit after_check after_resync allowed ways_past fresh arrives noise second
    delivery flow acted step kind_text cut contents_text message_text entry_text entry_line
    effect_text line_text trace_from trace
copy_traces = record {
  resynchronised-is = refl;
  created_and_checked-is = refl;
  counter_goes_round-is = refl;
  values_too_wide-is = refl;
  set_refused-is = refl;
  deleted_absent-is = refl;
  change_in_the_way-is = refl;
  restarted_meanwhile-is = refl;
  refusals_in_order-is = refl;
}

pub record CopyHistories : Type 0 where
  -- the create was carried out once, though it came twice; each command but the probes was
  -- answered
  pub created_and_checked-is : commands_in created_and_checked
      ≡ 17 ∷ 17 ∷ 16 ∷ 16 ∷ 15 ∷ 15 ∷ 14 ∷ 14 ∷ 13 ∷ 13 ∷ 12 ∷ 12 ∷ 11 ∷ 11 ∷ 10 ∷ 10 ∷ 9 ∷ 9 ∷ 8
      ∷ 8 ∷ 7 ∷ 7 ∷ 6 ∷ 6 ∷ 5 ∷ 5 ∷ 4 ∷ 4 ∷ 3 ∷ 3 ∷ 2 ∷ 2 ∷ 1 ∷ 0 ∷ []
  -- the last request was carried out in the second life
  pub restarted_meanwhile-is : commands_in restarted_meanwhile
      ≡ 5 ∷ 5 ∷ 4 ∷ 4 ∷ 3 ∷ 3 ∷ 2 ∷ 2 ∷ 1 ∷ 0 ∷ []

pub copy_histories : CopyHistories
unfolding version created_and_checked restarted_meanwhile crc dividend divide without_first generator
    add_to_front inverted inverted_bit bits_of number_of message_bits checked_bytes spelling
    number_at frame_of trailer_at given_check computed_check fault_of frame_unless packet_frame
    padding put plain message_of type_numbered kind_of class_table class_row known_mask
    unknown_mask fixed_mask width_of managed_of with_entity without_entity zeros_of values_of
    with_values counter with_counter with_counter_grown image_values with_software ethernet onu_g
    onu2_g t_cont first_with first new_entity create_code create_outcome delete_code
    delete_outcome set_code set_effect set_outcome get_code get_outcome_in reset_code reset
    piece_of pieces piece_at copied copied_values with_copied without_copied with_piece
    piece_fault copied_counter copy_counter after_create after_set after_delete copy_grown
    kept_for kept_with onu_started answer take_request onu_received onu_ticked command_frame
    lane_tick lane_reply followed gather_on job_goes_on response_of after_packet after_tick
    after_probe after_submit after_check after_resync allowed ways_past fresh arrives noise
    second delivery flow acted step told_after
copy_histories = record {
  created_and_checked-is = refl;
  restarted_meanwhile-is = refl;
}
