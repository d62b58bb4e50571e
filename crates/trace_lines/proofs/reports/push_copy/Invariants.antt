use Rattle.trace_lines.proofs.Loops.{EntriesSoFar}
use Rattle.trace_lines.proofs.reports.push_copy.Given as goal

abbrev pub invariant-loop-place : goal.invariant-loop-place
invariant-loop-place l = EntriesSoFar l.event l.copy l.place l.fn.out l.out
