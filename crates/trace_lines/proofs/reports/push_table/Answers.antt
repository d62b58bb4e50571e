use Rattle.std.proofs.Common.{arith}
use Rattle.trace_lines.proofs.Loops.{alarm_written}
use Rattle.trace_lines.proofs.reports.push_table.Goals as goal

pub loop-place-preserved : goal.loop-place-preserved
loop-place-preserved c =
    alarm_written c.args.event c.args.table.now.rows c.loop-place.place c.entry.result.0 c.entry.result.1 c.args.out.now c.loop-place.out c.push_row.new.out
    c.loop-place.invariant (omega (arith, c.loop-place-test.true, c.loop-place.auto.place-end, c.len-place-end.ensures))
    c.entry.ensures c.in_ok-push_row.ensures.text
