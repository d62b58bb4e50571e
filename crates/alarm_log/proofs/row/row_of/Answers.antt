use Rattle.std.proofs.Common.{ap, ◌∙◌, replicate}
use Rattle.std.specs.Int.{to_be_bytes, w16}
use Rattle.frame_spec.specs.Widths.{with_bytes_at}
use Rattle.alarm_spec.specs.Alarms.{row_of}
use Rattle.alarm_log.proofs.Bytes.{row_written}
use Rattle.alarm_log.proofs.row.row_of.Goals as goal

pub returns : goal.returns
unfolding row_of
returns c =
    c.put_at-3.ensures.written
    ∙ ap (with_bytes_at 4 c.args.bitmap.now) (c.put_at-2.ensures.written ∙ ap (with_bytes_at 2 c.to_be_bytes-2.result) (c.put_at.ensures.written ∙ ap (λ b. with_bytes_at 0 b (replicate 32 0)) c.to_be_bytes.ensures) ∙ ap (λ b. with_bytes_at 2 b (with_bytes_at 0 (to_be_bytes w16 c.args.entity.class) (replicate 32 0))) c.to_be_bytes-2.ensures)
    ∙ row_written c.args.entity.class c.args.entity.instance c.args.bitmap.now c.told-bitmap
