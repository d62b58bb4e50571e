use Rattle.std.proofs.Common.{List, ◌++◌, take}
use Rattle.script_spec.specs.Script.{Action}
use Rattle.drill_run.specs.Drilled.{Drilled}
use Rattle.drill_run.proofs.runs.Runs.run.Given as goal

abbrev pub invariant-loop-place : goal.invariant-loop-place
invariant-loop-place l =
    (done : List Action) → Drilled done l.fn.world l.fn.self.tally
    → Drilled (done ++ take l.place l.events) l.world l.self.tally
