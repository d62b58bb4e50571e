use Rattle.std.proofs.Common.{arith}
use Rattle.trace_lines.proofs.Loops.{entry_written}
use Rattle.trace_lines.proofs.reports.push_copy.Goals as goal

pub loop-place-preserved : goal.loop-place-preserved
loop-place-preserved c =
    entry_written c.args.event c.args.copy.now c.loop-place.place c.entry-entry.result.entity c.entry-entry.result.mask.0 c.entry-entry.result.values.now c.args.out.now c.loop-place.out c.push_entry.new.out
    c.loop-place.invariant (omega (arith, c.loop-place-test.true, c.loop-place.auto.place-end, c.len-place-end.ensures))
    c.entry-entry.ensures.entity c.entry-entry.ensures.mask c.entry-entry.ensures.values c.in_ok-push_entry.ensures.text
