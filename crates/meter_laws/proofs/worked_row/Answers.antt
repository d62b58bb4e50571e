use Rattle.std.proofs.Common.{refl}
use Rattle.std.specs.Fmt.{digits}
use Rattle.hex.specs.Hex.{encode_with, decode_pairs}
use Rattle.message_spec.specs.Types.{type_numbered, kind_of}
use Rattle.message_spec.specs.Text.{kind_text, cut, contents_text, message_text}
use Rattle.script_spec.specs.Text.{lines_of, opening, words_of, decimal_value, mask_of}
use Rattle.script_spec.specs.Reading.{field_at}
use Rattle.meter_spec.specs.Events.{command_of, last_tci, is_repeat, carried, is_monitor, is_there}
use Rattle.meter_spec.specs.Events.{creates, synchronizes}
use Rattle.meter_spec.specs.Marks.{ticks_since_mark, is_mark, last_mark, mark_before, is_tick_mark}
use Rattle.meter_spec.specs.Marks.{counts, sum, current, interval, tick_marks}
use Rattle.meter_spec.specs.Replies.{padded, attribute_bytes, values_of, asked_mask, given}
use Rattle.meter_spec.specs.Replies.{contents_of, reply_to}
use Rattle.meter_spec.specs.Meter.{row_of, setting, monitor_with, monitor_of, kept, answer, counted}
use Rattle.meter_lines_spec.specs.Lines.{asked_by, line_of, line_at, lines_reading, reading}
use Rattle.meter_lines_spec.specs.Replies.{request, lines_text, meter_text}
use Rattle.meter_laws.proofs.worked_row.Goals as goal

pub returns : goal.returns
unfolding digits encode_with decode_pairs type_numbered kind_of kind_text cut contents_text
    message_text lines_of opening words_of decimal_value mask_of field_at command_of last_tci
    is_repeat carried is_monitor is_there creates synchronizes ticks_since_mark is_mark last_mark
    mark_before is_tick_mark counts sum current interval tick_marks padded attribute_bytes values_of
    asked_mask given contents_of reply_to row_of setting monitor_with monitor_of kept answer counted
    asked_by line_of line_at lines_reading reading request lines_text meter_text
returns c = record { law = refl }
