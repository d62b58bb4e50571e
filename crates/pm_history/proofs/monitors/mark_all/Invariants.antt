use Rattle.std.proofs.Common.{◌≡◌, ◌++◌, take, drop}
use Rattle.pm_history.specs.Steps.{marked_all}
use Rattle.pm_history.proofs.monitors.mark_all.Given as goal

abbrev pub invariant-loop-place : goal.invariant-loop-place
invariant-loop-place l =
    l.monitors ≡ marked_all l.marks (take l.place l.initial.monitors) ++ drop l.place l.initial.monitors
