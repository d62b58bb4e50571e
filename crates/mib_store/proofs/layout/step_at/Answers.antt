use Rattle.std.proofs.Common.{ap, arith}
use Rattle.omci_attributes.proofs.Sums.{opened_next}
use Rattle.entity_classes.specs.declared.classes.Attribute.{Attribute}
use Rattle.mib_store.proofs.layout.step_at.Goals as goal

pub overflow_add-place : goal.overflow_add-place
overflow_add-place c = omega (arith, c.requires.rule.count)

pub returns : goal.returns
returns c =
    let o = opened_next c.args.class.now.attributes c.args.place c.in-Some.attribute (c.in-Some.ensures.place (omega arith)) in
    record { one = o.one; rest = o.rest; width = ap (λ (a : Attribute). a.width) o.is; picked = c.is_picked.ensures o.one o.is }
