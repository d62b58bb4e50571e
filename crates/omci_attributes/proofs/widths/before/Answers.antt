use Rattle.std.proofs.Common.{◌≡◌, ◌+◌, ◌-◌, arith}
use Rattle.class_spec.specs.Masks.{place_of}
use Rattle.omci_attributes.specs.Placed.{is_selected}
use Rattle.omci_attributes.proofs.Sums.{width-le, width-split}
use Rattle.omci_attributes.proofs.widths.before.Goals as goal

pub overflow_add-place : goal.overflow_add-place
overflow_add-place c =
    omega (arith, c.loop-earlier.invariant, c.part-place.ensures.width, width-le (is_selected c.args.mask) c.args.class.now.attributes, c.requires.rule.whole)

pub returns-clause-sum : goal.returns-clause-sum
unfolding place_of
returns-clause-sum c =
    let last : c.loop-earlier.earlier ≡ c.args.number - 1 = omega arith in
    let bound : c.args.number ≡ 1 + c.loop-earlier.earlier = omega arith in
    omega (arith, c.loop-earlier.invariant, width-split (is_selected c.args.mask) c.args.class.now.attributes 1 c.loop-earlier.earlier c.args.number c.requires.rule.numbered bound)

pub returns-clause-bound : goal.returns-clause-bound
returns-clause-bound c =
    omega (arith, c.loop-earlier.invariant, width-le (is_selected c.args.mask) c.args.class.now.attributes, c.requires.rule.whole)
