use Rattle.std.proofs.Common.{◌∙◌}
use Rattle.alarm_log.proofs.Bytes.{bitmap_read}
use Rattle.alarm_log.proofs.row.bitmap_in.Goals as goal

pub returns : goal.returns
returns c = c.copy_from_slice.ensures.after ∙ bitmap_read c.args.row.now c.told-row
