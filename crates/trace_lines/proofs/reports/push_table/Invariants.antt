use Rattle.trace_lines.proofs.Loops.{AlarmsSoFar}
use Rattle.trace_lines.proofs.reports.push_table.Given as goal

abbrev pub invariant-loop-place : goal.invariant-loop-place
invariant-loop-place l = AlarmsSoFar l.event l.table.rows l.place l.fn.out l.out
