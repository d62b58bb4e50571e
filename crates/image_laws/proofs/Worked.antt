-- The scripts that were worked by hand have these traces: the definitions are evaluated, check
-- values included.
use Rattle.std.proofs.Common.{◌≡◌, refl}
use Rattle.std.specs.Fmt.{digits}
use Rattle.hex.specs.Hex.{encode_with}
use Rattle.frame_spec.specs.Checksum.{crc, dividend, divide, without_first, generator, add_to_front, inverted, inverted_bit, bits_of, number_of, message_bits}
use Rattle.frame_spec.specs.Baseline.{checked_bytes, spelling, number_at, frame_of, trailer_at, given_check, computed_check, fault_of, frame_unless, packet_frame}
use Rattle.message_spec.specs.Fields.{padding, put}
use Rattle.message_spec.specs.Reading.{plain, message_of}
use Rattle.message_spec.specs.Types.{type_numbered, kind_of}
use Rattle.message_spec.specs.Text.{kind_text, cut, contents_text, message_text}
use Rattle.class_spec.specs.Classes.{class_table, class_row}
use Rattle.class_spec.specs.Masks.{known_mask, unknown_mask, fixed_mask, width_of}
use Rattle.mib_spec.specs.Database.{managed_of, with_entity, without_entity, zeros_of, values_of, with_values, counter, with_counter, with_counter_grown, image_values, with_software, ethernet, onu_g, onu2_g, t_cont, first_with, first}
use Rattle.mib_spec.specs.Requests.{get_code, get_outcome_in}
use Rattle.retry_spec.specs.Kept.{kept_for, kept_with}
use Rattle.store_spec.specs.Deeds.{image_code, start_code, seal_code, window_code, deed}
use Rattle.unit_spec.specs.Images.{reboot_code}
use Rattle.unit_spec.specs.Onu.{onu_started, answer, take_request, take_section, onu_received, onu_ticked, packet_deed}
use Rattle.window_spec.specs.Incoming.{fit, after_section, answer as arrival}
use Rattle.window_spec.specs.Outgoing.{section_count, section_at, after_window}
use Rattle.lane_spec.specs.Command.{command_frame, section_packet}
use Rattle.lane_spec.specs.Lane.{lane_tick, lane_reply}
use Rattle.manager_spec.specs.Copying.{followed, counted_in_step}
use Rattle.manager_spec.specs.Upgrade.{image_window, image_started, window_answered, end_answered}
use Rattle.manager_spec.specs.Jobs.{job_goes_on}
use Rattle.manager_spec.specs.Submitting.{after_probe, after_submit, after_image}
use Rattle.manager_spec.specs.Steps.{response_of, after_packet, after_tick}
use Rattle.link_spec.specs.Link.{allowed, ways_past, fresh}
use Rattle.world_spec.specs.Ends.{arrives, cut_in, noise, second}
use Rattle.world_spec.specs.Nodes.{delivery, cut_delivery, flow, acted, step}
use Rattle.world_spec.specs.Trace.{effect_text, line_text, trace_from, trace}
use Rattle.image_laws.specs.Worked.{image, windows_sent, windows_sent_trace, wrong_check, wrong_check_trace, cut_before, cut_before_trace, cut_behind, cut_behind_trace, cut_after, cut_after_trace, cut_to_byte, cut_to_byte_trace, committed_and_cut, committed_and_cut_trace, activated, activated_trace}

pub record Downloads : Type 0 where
  pub windows_sent-is : trace windows_sent ≡ windows_sent_trace
  pub wrong_check-is : trace wrong_check ≡ wrong_check_trace

pub downloads : Downloads
unfolding windows_sent windows_sent_trace wrong_check wrong_check_trace image digits encode_with crc dividend divide without_first generator
    add_to_front inverted inverted_bit bits_of number_of message_bits checked_bytes spelling
    number_at frame_of trailer_at given_check computed_check fault_of frame_unless packet_frame
    padding put plain message_of type_numbered kind_of class_table class_row known_mask
    unknown_mask fixed_mask width_of managed_of with_entity without_entity zeros_of values_of
    with_values counter with_counter with_counter_grown image_values with_software ethernet onu_g
    onu2_g t_cont first_with first get_code get_outcome_in kept_for kept_with image_code start_code
    seal_code window_code fit arrival after_section deed reboot_code onu_started answer take_request take_section onu_received
    onu_ticked packet_deed section_count section_at after_window command_frame section_packet
    lane_tick lane_reply followed counted_in_step image_window image_started window_answered
    end_answered job_goes_on response_of after_packet after_tick after_probe after_submit
    after_image allowed ways_past fresh arrives cut_in noise second delivery cut_delivery flow acted
    step kind_text cut contents_text message_text effect_text line_text trace_from trace
downloads = record {
  windows_sent-is = refl;
  wrong_check-is = refl;
}

pub record Cuts : Type 0 where
  pub cut_before-is : trace cut_before ≡ cut_before_trace
  pub cut_behind-is : trace cut_behind ≡ cut_behind_trace
  pub cut_after-is : trace cut_after ≡ cut_after_trace
  pub cut_to_byte-is : trace cut_to_byte ≡ cut_to_byte_trace
  pub committed_and_cut-is : trace committed_and_cut ≡ committed_and_cut_trace
  pub activated-is : trace activated ≡ activated_trace

pub cuts : Cuts
unfolding cut_before cut_before_trace cut_behind cut_behind_trace cut_after cut_after_trace cut_to_byte cut_to_byte_trace committed_and_cut committed_and_cut_trace activated activated_trace image digits encode_with crc dividend divide without_first generator
    add_to_front inverted inverted_bit bits_of number_of message_bits checked_bytes spelling
    number_at frame_of trailer_at given_check computed_check fault_of frame_unless packet_frame
    padding put plain message_of type_numbered kind_of class_table class_row known_mask
    unknown_mask fixed_mask width_of managed_of with_entity without_entity zeros_of values_of
    with_values counter with_counter with_counter_grown image_values with_software ethernet onu_g
    onu2_g t_cont first_with first get_code get_outcome_in kept_for kept_with image_code start_code
    seal_code window_code fit arrival after_section deed reboot_code onu_started answer take_request take_section onu_received
    onu_ticked packet_deed section_count section_at after_window command_frame section_packet
    lane_tick lane_reply followed counted_in_step image_window image_started window_answered
    end_answered job_goes_on response_of after_packet after_tick after_probe after_submit
    after_image allowed ways_past fresh arrives cut_in noise second delivery cut_delivery flow acted
    step kind_text cut contents_text message_text effect_text line_text trace_from trace
cuts = record {
  cut_before-is = refl;
  cut_behind-is = refl;
  cut_after-is = refl;
  cut_to_byte-is = refl;
  committed_and_cut-is = refl;
  activated-is = refl;
}
