use Rattle.std.proofs.Common.{[], refl, ap, List, ℕ}
use Rattle.plan_reconcile.specs.declared.items.Item.{Item}
use Rattle.plan_reconcile.proofs.wanted.item_of.Goals as goal

pub returns : goal.returns
returns c = ap (λ (v : List ℕ). let i : Item = record { entity = c.args.entity; mask = c.args.mask; values = v } in i) (c.put.ensures.row [] refl refl)
