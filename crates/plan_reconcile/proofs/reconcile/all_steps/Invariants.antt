use Rattle.std.specs.Prelude.{◌≡◌, ◌++◌, drop}
use Rattle.plan_spec.specs.Steps.{steps}
use Rattle.plan_reconcile.specs.Items.{wanted_of}
use Rattle.plan_reconcile.specs.Made.{steps_of}
use Rattle.plan_reconcile.proofs.Planning.{later_steps}
use Rattle.plan_reconcile.proofs.reconcile.all_steps.Given as goal

abbrev pub invariant-loop-at : goal.invariant-loop-at
invariant-loop-at l = steps_of l.steps.items ++ later_steps l.have (wanted_of (drop l.at l.want)) ≡ steps l.have (wanted_of l.want)
