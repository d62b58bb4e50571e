use Rattle.std.specs.Prelude.{◌-◌}
use Rattle.plan_reconcile.specs.declared.items.Item.{Item}
use Rattle.plan_reconcile.specs.Items.{no_item}
use Rattle.mib_store.proofs.Order.{Narrows}
use Rattle.plan_reconcile.proofs.items.find.Given as goal

abbrev pub invariant-loop-low : goal.invariant-loop-low
invariant-loop-low l = Narrows (λ (p : Item). p.entity) no_item l.fn.items l.fn.entity l.low l.high

abbrev pub decreases-loop-low : goal.decreases-loop-low
decreases-loop-low l = l.high - l.low
