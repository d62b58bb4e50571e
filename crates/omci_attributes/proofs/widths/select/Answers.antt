use Rattle.std.proofs.Common.{◌≤◌, ◌-◌, refl, ap, length, arith}
use Rattle.class_spec.specs.Masks.{known_mask, unknown_mask, fixed_mask, width_of}
use Rattle.omci_attributes.specs.Placed.{is_selected, is_fixed}
use Rattle.omci_attributes.proofs.Sums.{mask-lt, mask-le, mask-all, width-all, width-le}
use Rattle.omci_attributes.proofs.widths.select.Goals as goal

pub overflow_add-known : goal.overflow_add-known
overflow_add-known c =
    let few = c.count-place-end.ensures.rule.count in
    omega (arith, c.loop-place.invariant.known, c.part-part.ensures.known, mask-lt (is_selected c.args.mask) c.args.class.now.attributes 1 16 c.count-place-end.ensures.rule.numbered (omega arith) refl)

pub overflow_add-fixed : goal.overflow_add-fixed
overflow_add-fixed c =
    let few = c.count-place-end.ensures.rule.count in
    omega (arith, c.loop-place.invariant.fixed, c.part-part.ensures.fixed, mask-lt (is_fixed c.args.mask) c.args.class.now.attributes 1 16 c.count-place-end.ensures.rule.numbered (omega arith) refl)

pub overflow_add-width : goal.overflow_add-width
overflow_add-width c =
    omega (arith, c.loop-place.invariant.width, c.part-part.ensures.width, width-le (is_selected c.args.mask) c.args.class.now.attributes, c.count-place-end.ensures.rule.whole)

pub overflow_sub-result : goal.overflow_sub-result
overflow_sub-result c =
    let few = c.count-place-end.ensures.rule.count in
    let all : length c.args.class.now.attributes ≤ c.loop-place.place = omega arith in
    omega (arith, mask-all (is_selected c.args.mask) c.args.class.now.attributes c.loop-place.place _ _ all c.loop-place.invariant.known, mask-le c.args.mask.0 c.args.class.now.attributes 1 16 c.count-place-end.ensures.rule.numbered (omega arith) refl)

pub returns-clause-known : goal.returns-clause-known
unfolding known_mask
returns-clause-known c =
    let all : length c.args.class.now.attributes ≤ c.loop-place.place = omega arith in
    mask-all (is_selected c.args.mask) c.args.class.now.attributes c.loop-place.place _ _ all c.loop-place.invariant.known

pub returns-clause-unknown : goal.returns-clause-unknown
unfolding known_mask unknown_mask
returns-clause-unknown c =
    let all : length c.args.class.now.attributes ≤ c.loop-place.place = omega arith in
    ap (λ n. c.args.mask.0 - n) (mask-all (is_selected c.args.mask) c.args.class.now.attributes c.loop-place.place _ _ all c.loop-place.invariant.known)

pub returns-clause-fixed : goal.returns-clause-fixed
unfolding fixed_mask
returns-clause-fixed c =
    let all : length c.args.class.now.attributes ≤ c.loop-place.place = omega arith in
    mask-all (is_fixed c.args.mask) c.args.class.now.attributes c.loop-place.place _ _ all c.loop-place.invariant.fixed

pub returns-clause-width : goal.returns-clause-width
unfolding width_of
returns-clause-width c =
    let all : length c.args.class.now.attributes ≤ c.loop-place.place = omega arith in
    width-all (is_selected c.args.mask) c.args.class.now.attributes c.loop-place.place _ _ all c.loop-place.invariant.width
