use Rattle.std.proofs.Common.{◌≡◌}
use Rattle.drill_spec.specs.Drill.{state_before, lines_until}
use Rattle.drill_run.specs.Drilled.{Drilled}
use Rattle.drill_run.proofs.drilling.run_all.Given as goal

abbrev pub invariant-loop-steps : goal.invariant-loop-steps
invariant-loop-steps l =
    Drilled (lines_until l.number l.steps) l.world l.runs.tally × (l.state ≡ state_before l.number l.steps)
