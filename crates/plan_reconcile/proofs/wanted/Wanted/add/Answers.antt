use Rattle.std.proofs.Common.{◌∙◌, ap, sym, subst}
use Rattle.plan_spec.specs.Wanting.{with_wanted}
use Rattle.plan_reconcile.specs.Items.{IsWanted, wanted_of}
use Rattle.plan_reconcile.proofs.Wanting.{item_added, added_wanted}
use Rattle.plan_reconcile.proofs.wanted.Wanted.add.Goals as goal

pub invariant_of-self-2 : goal.invariant_of-self-2
invariant_of-self-2 c =
    let a = c.in_ok-at.ensures.admitted in
    subst IsWanted (sym c.in-Ok.ensures.ok) (item_added c.self.inside.items c.in_ok-at.at c.item_of.result c.args.entity c.args.mask c.args.values.now c.item_of.ensures c.self.invariant a)

pub returns-clause-added : goal.returns-clause-added
returns-clause-added c =
    let a = c.in_ok-at.ensures.admitted in
    ap wanted_of c.in-Ok.ensures.ok ∙ added_wanted c.self.inside.items c.in_ok-at.at c.item_of.result c.args.entity c.args.mask c.args.values.now c.item_of.ensures a
    ∙ ap (with_wanted c.args.entity c.args.mask.0 c.args.values.now) c.self.view_is
