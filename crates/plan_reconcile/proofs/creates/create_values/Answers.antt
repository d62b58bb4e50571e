use Rattle.std.proofs.Common.{ap, arith, length, ◌≤◌, ◌+◌}
use Rattle.plan_reconcile.proofs.Creating.{made_start, made_fits, made_next, made_end, room_created, room_named}
use Rattle.plan_reconcile.proofs.creates.create_values.Goals as goal

pub loop-place-init : goal.loop-place-init
loop-place-init c = made_start c.args.class.now.attributes c.args.mask.0 c.args.values.now c.count-place-end.ensures.rule.created c.count-place-end.ensures.rule.whole

pub put_if-requires : goal.put_if-requires
put_if-requires c = made_fits c.args.class.now.attributes c.args.mask.0 0 c.loop-place.place c.part_at-part.result c.part_at-part.ensures c.args.values.now c.loop-place.created c.loop-place.to c.loop-place.from c.loop-place.invariant c.told-values c.value_of-value.result.now c.value_of-value.ensures

pub overflow_add-to : goal.overflow_add-to
overflow_add-to c = omega (arith, room_created c.args.class.now.attributes c.args.mask.0 0 c.loop-place.place c.part_at-part.result c.part_at-part.ensures c.args.values.now c.loop-place.created c.loop-place.to c.loop-place.from c.loop-place.invariant, c.if_so-to.ensures)

pub overflow_add-from : goal.overflow_add-from
overflow_add-from c = omega (arith, room_named c.args.class.now.attributes c.args.mask.0 0 c.loop-place.place c.part_at-part.result c.part_at-part.ensures c.args.values.now c.loop-place.created c.loop-place.to c.loop-place.from c.loop-place.invariant, c.if_so-from.ensures)

pub loop-place-preserved : goal.loop-place-preserved
loop-place-preserved c = made_next c.args.class.now.attributes c.args.mask.0 0 c.loop-place.place c.part_at-part.result c.part_at-part.ensures c.args.values.now c.loop-place.created c.loop-place.to c.loop-place.from c.loop-place.invariant c.told-values c.value_of-value.result.now c.value_of-value.ensures c.put_if.new.into _ _ c.put_if.ensures.row (ap (λ n. c.loop-place.to + n) c.if_so-to.ensures) (ap (λ n. c.loop-place.from + n) c.if_so-from.ensures)

pub returns : goal.returns
returns c =
    let all : length c.args.class.now.attributes ≤ c.loop-place.place = omega arith in
    made_end c.args.class.now.attributes c.args.mask.0 c.args.values.now c.loop-place.created c.loop-place.place c.loop-place.to c.loop-place.from c.loop-place.invariant all
