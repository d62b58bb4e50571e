use Rattle.std.proofs.Common.{arith, refl, sym, ◌∙◌, false, true}
use Rattle.omci_attributes.proofs.Sums.{known_part, fixed_part, width_part}
use Rattle.omci_attributes.proofs.widths.part.Goals as goal

pub overflow_add-place : goal.overflow_add-place
overflow_add-place c = omega (arith, c.requires.rule.count)

pub returns-then-not-has-clause-known : goal.returns-then-not-has-clause-known
returns-then-not-has-clause-known c = known_part c.args.mask c.args.class.now.attributes c.args.place c.in-Some.attribute (c.in-Some.ensures.place (omega arith)) false (sym c.if-not-has.true ∙ c.has.ensures)

pub returns-then-not-has-clause-fixed : goal.returns-then-not-has-clause-fixed
returns-then-not-has-clause-fixed c = fixed_part c.args.mask c.args.class.now.attributes c.args.place c.in-Some.attribute (c.in-Some.ensures.place (omega arith)) false _ (sym c.if-not-has.true ∙ c.has.ensures) refl

pub returns-then-not-has-clause-width : goal.returns-then-not-has-clause-width
returns-then-not-has-clause-width c = width_part c.args.mask c.args.class.now.attributes c.args.place c.in-Some.attribute (c.in-Some.ensures.place (omega arith)) false (sym c.if-not-has.true ∙ c.has.ensures)

pub returns-then-contains-clause-known : goal.returns-then-contains-clause-known
returns-then-contains-clause-known c = omega (arith, known_part c.args.mask c.args.class.now.attributes c.args.place c.in-Some.attribute (c.in-Some.ensures.place (omega arith)) true (sym c.if-not-has.false ∙ c.has.ensures), c.bit-known.ensures)

pub returns-then-contains-clause-fixed : goal.returns-then-contains-clause-fixed
returns-then-contains-clause-fixed c = fixed_part c.args.mask c.args.class.now.attributes c.args.place c.in-Some.attribute (c.in-Some.ensures.place (omega arith)) true true (sym c.if-not-has.false ∙ c.has.ensures) (sym c.if-contains.true ∙ c.contains.ensures tt)

pub returns-then-contains-clause-width : goal.returns-then-contains-clause-width
returns-then-contains-clause-width c = width_part c.args.mask c.args.class.now.attributes c.args.place c.in-Some.attribute (c.in-Some.ensures.place (omega arith)) true (sym c.if-not-has.false ∙ c.has.ensures)

pub returns-clause-known : goal.returns-clause-known
returns-clause-known c = omega (arith, known_part c.args.mask c.args.class.now.attributes c.args.place c.in-Some.attribute (c.in-Some.ensures.place (omega arith)) true (sym c.if-not-has.false ∙ c.has.ensures), c.bit-known.ensures)

pub returns-clause-fixed : goal.returns-clause-fixed
returns-clause-fixed c = omega (arith, fixed_part c.args.mask c.args.class.now.attributes c.args.place c.in-Some.attribute (c.in-Some.ensures.place (omega arith)) true false (sym c.if-not-has.false ∙ c.has.ensures) (sym c.if-contains.false ∙ c.contains.ensures tt), c.bit-known.ensures)

pub returns-clause-width : goal.returns-clause-width
returns-clause-width c = width_part c.args.mask c.args.class.now.attributes c.args.place c.in-Some.attribute (c.in-Some.ensures.place (omega arith)) true (sym c.if-not-has.false ∙ c.has.ensures)
