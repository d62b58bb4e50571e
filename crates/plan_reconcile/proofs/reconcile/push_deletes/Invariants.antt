use Rattle.std.specs.Prelude.{◌≡◌, ◌++◌, drop, map}
use Rattle.plan_spec.specs.Steps.{Delete, entities_where, goes, deletes}
use Rattle.plan_reconcile.specs.Items.{wanted_of}
use Rattle.plan_reconcile.specs.Made.{steps_of}
use Rattle.plan_reconcile.proofs.reconcile.push_deletes.Given as goal

abbrev pub invariant-loop-place : goal.invariant-loop-place
invariant-loop-place l = steps_of l.steps.items ++ map Delete (entities_where (goes (wanted_of l.want)) (drop l.place l.have)) ≡ steps_of l.fn.steps.items ++ deletes l.have (wanted_of l.want)
