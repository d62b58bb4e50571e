use Rattle.manager_jobs.proofs.Sections.{CutSoFar}
use Rattle.manager_jobs.proofs.upgrade.window_command.Given as goal

abbrev pub invariant-loop-number : goal.invariant-loop-number
invariant-loop-number l = CutSoFar l.outbox l.number l.sections
