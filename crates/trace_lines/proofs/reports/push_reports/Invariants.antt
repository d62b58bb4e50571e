use Rattle.std.proofs.Common.{length}
use Rattle.trace_lines.proofs.Loops.{ReportsSoFar}
use Rattle.trace_lines.proofs.reports.push_reports.Given as goal

abbrev pub invariant-loop-report : goal.invariant-loop-report
invariant-loop-report l = ReportsSoFar l.event l.fn.manager l.manager l.fn.out l.out

abbrev pub decreases-loop-report : goal.decreases-loop-report
decreases-loop-report l = length l.manager.manager.reports
