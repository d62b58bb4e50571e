use Rattle.std.proofs.Common.{◌≡◌, ◌++◌, take, drop}
use Rattle.pm_history.specs.Steps.{synchronized_all}
use Rattle.pm_history.proofs.monitors.synchronize_all.Given as goal

abbrev pub invariant-loop-place : goal.invariant-loop-place
invariant-loop-place l =
    l.monitors ≡ synchronized_all (take l.place l.initial.monitors) ++ drop l.place l.initial.monitors
