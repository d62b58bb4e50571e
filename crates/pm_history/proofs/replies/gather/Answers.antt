use Rattle.std.proofs.Common.{arith}
use Rattle.pm_history.proofs.Puts.{too_wide}
use Rattle.pm_history.proofs.replies.gather.Goals as goal

pub returns-then-len : goal.returns-then-len
returns-then-len c =
    too_wide c.args.monitor.now c.args.row.now c.args.mask c.loop-earlier.earlier c.loop-earlier.contents c.push_named.new.contents _ _ _
    c.loop-earlier.invariant.0 c.push_named.ensures (omega (arith, c.loop-earlier-test.true)) (omega (arith, c.if-len.true, c.len.ensures))
