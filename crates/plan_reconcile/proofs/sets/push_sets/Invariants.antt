use Rattle.std.specs.Prelude.{◌++◌, [], map}
use Rattle.plan_spec.specs.Steps.{set_of, groups_from}
use Rattle.plan_reconcile.specs.Made.{steps_of}
use Rattle.plan_reconcile.proofs.Setting.{SetsSoFar, left_over}
use Rattle.plan_reconcile.proofs.sets.push_sets.Given as goal

abbrev pub invariant-loop-place : goal.invariant-loop-place
invariant-loop-place l = SetsSoFar l.item.entity l.class.attributes l.item.mask.0 l.item.values l.standing
    (steps_of l.fn.steps.items ++ map (set_of l.item.entity) (groups_from [] (left_over l.standing l.class.attributes l.item.mask.0 l.item.values 0 0))) l.place l.from l.from_held l.group l.steps.items
