-- The scripts with an audit that were worked by hand have these traces: the definitions are
-- evaluated, check values included.
use Rattle.std.proofs.Common.{◌≡◌, refl}
use Rattle.std.specs.Fmt.{digits}
use Rattle.hex.specs.Hex.{encode_with}
use Rattle.frame_spec.specs.Checksum.{crc, dividend, divide, without_first, generator, add_to_front, inverted, inverted_bit, bits_of, number_of, message_bits}
use Rattle.frame_spec.specs.Baseline.{checked_bytes, spelling, number_at, frame_of, trailer_at, given_check, computed_check, fault_of, frame_unless, packet_frame}
use Rattle.message_spec.specs.Fields.{padding, put}
use Rattle.message_spec.specs.Reading.{plain, message_of}
use Rattle.message_spec.specs.Types.{type_numbered, kind_of}
use Rattle.message_spec.specs.Text.{kind_text, cut, contents_text, message_text}
use Rattle.class_spec.specs.Classes.{class_table, class_row}
use Rattle.class_spec.specs.Masks.{known_mask, unknown_mask, fixed_mask, width_of}
use Rattle.mib_spec.specs.Database.{managed_of, with_entity, without_entity, zeros_of, values_of, with_values, counter, with_counter, with_counter_grown, image_values, with_software, ethernet, onu_g, onu2_g, t_cont, first_with, first}
use Rattle.mib_spec.specs.Requests.{get_code, get_outcome_in}
use Rattle.alarm_spec.specs.Alarms.{bitmap_found, with_alarm, without_alarm, with_bitmap, row_of, row_at}
use Rattle.alarm_spec.specs.Log.{change}
use Rattle.alarm_spec.specs.Table.{take_answer, after_take, begun, row_fault, with_row, after_row, finished}
use Rattle.retry_spec.specs.Kept.{kept_for, kept_with}
use Rattle.unit_spec.specs.Onu.{onu_started, answer, take_request, onu_received}
use Rattle.unit_spec.specs.Noticing.{may_alarm, onu_alarmed}
use Rattle.lane_spec.specs.Command.{command_frame}
use Rattle.lane_spec.specs.Lane.{lane_reply}
use Rattle.manager_spec.specs.Audit.{rows_on, alarm_came}
use Rattle.manager_spec.specs.Jobs.{job_goes_on}
use Rattle.manager_spec.specs.Submitting.{after_probe, after_audit}
use Rattle.manager_spec.specs.Steps.{response_of, after_packet}
use Rattle.link_spec.specs.Link.{allowed, ways_past, fresh}
use Rattle.world_spec.specs.Ends.{arrives}
use Rattle.world_spec.specs.Nodes.{delivery, flow, acted, step}
use Rattle.world_spec.specs.Trace.{effect_text, line_text, row_text, row_line, trace_from, trace}
use Rattle.audit_laws.specs.Worked.{audited, audited_trace, noticed, noticed_trace, job_in_the_way, job_in_the_way_trace}

pub record Traces : Type 0 where
  pub audited-is : trace audited ≡ audited_trace
  pub noticed-is : trace noticed ≡ noticed_trace
  pub job_in_the_way-is : trace job_in_the_way ≡ job_in_the_way_trace

pub traces : Traces
unfolding audited audited_trace noticed noticed_trace job_in_the_way job_in_the_way_trace digits
    encode_with crc dividend divide without_first generator add_to_front inverted inverted_bit
    bits_of number_of message_bits checked_bytes spelling number_at frame_of trailer_at
    given_check computed_check fault_of frame_unless packet_frame padding put plain message_of
    type_numbered kind_of class_table class_row known_mask unknown_mask fixed_mask width_of
    managed_of with_entity without_entity zeros_of values_of with_values counter with_counter
    with_counter_grown image_values with_software ethernet onu_g onu2_g t_cont first_with first
    get_code get_outcome_in bitmap_found with_alarm without_alarm with_bitmap row_of row_at change
    take_answer after_take begun row_fault with_row after_row finished kept_for kept_with
    onu_started answer take_request onu_received may_alarm onu_alarmed command_frame lane_reply
    rows_on alarm_came job_goes_on after_probe after_audit response_of after_packet allowed
    ways_past fresh arrives delivery flow acted step kind_text cut contents_text message_text
    effect_text line_text row_text row_line trace_from trace
traces = record { audited-is = refl; noticed-is = refl; job_in_the_way-is = refl }
