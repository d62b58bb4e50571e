use Rattle.std.proofs.Common.{arith}
use Rattle.alarm_log.proofs.Notices.{told_next}
use Rattle.alarm_log.proofs.table.told_all.Goals as goal

pub loop-place-preserved : goal.loop-place-preserved
loop-place-preserved c =
    told_next c.args.rows.now c.loop-place.told c.tell_at.new.rows c.args.waiting.now.items c.loop-place.place (omega (arith, c.loop-place-test.true, c.len-place-end.ensures.len)) c.loop-place.invariant c.in_ok-tell_at.ensures
