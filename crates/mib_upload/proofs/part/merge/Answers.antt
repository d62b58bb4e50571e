use Rattle.std.proofs.Common.{◌≤◌, ◌∙◌, ap, cond, length, arith}
use Rattle.omci_attributes.proofs.Sums.{mask-all}
use Rattle.mib_upload.specs.Merged.{picks, picks_or}
use Rattle.mib_upload.proofs.Overlays.{merged_start, merged_next, merged_end, bit_small}
use Rattle.mib_upload.proofs.part.merge.Goals as goal

pub loop-place-init : goal.loop-place-init
loop-place-init c =
    let rule = c.count-place-end.ensures.rule in
    merged_start (picks c.args.chosen) c.args.class.now.attributes c.args.given.now c.args.held.0 c.args.old.now _ rule.whole c.requires c.told-old

pub overflow_add-mask : goal.overflow_add-mask
overflow_add-mask c =
    let rule = c.count-place-end.ensures.rule in
    let bit = c.bit_if_so-mask.ensures ∙ ap (λ b. cond b c.step_at-step.result.bit 0) c.is_there.ensures in
    omega (arith, bit_small (picks c.args.chosen) c.args.class.now.attributes c.args.held.0 c.loop-place.place c.step_at-step.result c.step_at-step.ensures c.args.given.now c.args.old.now c.loop-place.mask c.loop-place.to c.loop-place.from c.loop-place.from_old c.loop-place.values rule.numbered rule.count c.loop-place.invariant, bit)

pub loop-place-preserved : goal.loop-place-preserved
loop-place-preserved c =
    merged_next (picks c.args.chosen) c.args.class.now.attributes c.args.held.0 c.loop-place.place c.step_at-step.result c.step_at-step.ensures c.args.given.now c.args.old.now c.loop-place.mask c.loop-place.to c.loop-place.from c.loop-place.from_old c.loop-place.values c.put.new.into c.value_of-value.result.now c.loop-place.invariant c.value_of-value.ensures c.put.ensures.front
    c.bit_if_so-mask.result c.if_so-to.result c.if_so-from.result c.if_so-from_old.result
    (c.bit_if_so-mask.ensures ∙ ap (λ b. cond b c.step_at-step.result.bit 0) c.is_there.ensures) (c.if_so-to.ensures ∙ ap (λ b. cond b c.step_at-step.result.width 0) c.is_there-in-loop-place.ensures) c.if_so-from.ensures c.if_so-from_old.ensures

pub returns-clause-values : goal.returns-clause-values
returns-clause-values c =
    let rule = c.count-place-end.ensures.rule in
    let all : length c.args.class.now.attributes ≤ c.loop-place.place = omega arith in
    merged_end (picks c.args.chosen) c.args.class.now.attributes c.args.given.now c.args.held.0 c.args.old.now c.loop-place.place c.loop-place.mask c.loop-place.to c.loop-place.from c.loop-place.from_old c.loop-place.values all rule.numbered rule.count c.requires (omega (arith, rule.whole, c.told-old)) c.loop-place.invariant

pub returns-clause-mask : goal.returns-clause-mask
returns-clause-mask c =
    let all : length c.args.class.now.attributes ≤ c.loop-place.place = omega arith in
    mask-all (picks_or c.args.chosen c.args.held.0) c.args.class.now.attributes c.loop-place.place _ _ all c.loop-place.invariant.bits
