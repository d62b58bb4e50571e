use Rattle.std.proofs.Common.{ap, arith, ◌∙◌}
use Rattle.class_spec.specs.Masks.{bit_of, has}
use Rattle.entity_classes.specs.declared.classes.Attribute.{Attribute}
use Rattle.omci_attributes.proofs.Sums.{opened_next, is_created}
use Rattle.plan_reconcile.proofs.Rows.{numbered_at}
use Rattle.plan_reconcile.proofs.attributes.part_at.Goals as goal

pub returns : goal.returns
returns c =
    let o = opened_next c.args.class.now.attributes c.args.place c.in-Some.attribute (c.in-Some.ensures.place (omega arith)) in
    let numbered = numbered_at c.args.class.now.attributes c.args.place o.one c.requires.rule.numbered o.rest in
    record {
      one = o.one;
      rest = o.rest;
      bit = c.bit.ensures ∙ ap (λ (a : Attribute). bit_of a.number) o.is;
      width = ap (λ (a : Attribute). a.width) o.is;
      few = omega (arith, numbered.2, ap (λ (a : Attribute). a.width) o.is);
      created = c.contains.ensures tt ∙ is_created c.in-Some.attribute o.one o.is;
      named = c.has.ensures ∙ ap (λ (a : Attribute). has c.args.named.0 a.number) o.is;
      held = c.has-2.ensures ∙ ap (λ (a : Attribute). has c.args.held.0 a.number) o.is;
    }
