use Rattle.olt_lanes.proofs.Sending.{SentSoFar}
use Rattle.olt_lanes.proofs.command.put_sections.Given as goal

abbrev pub invariant-loop-number : goal.invariant-loop-number
invariant-loop-number l = SentSoFar l.tci l.entity l.sections l.number l.initial.out l.out
