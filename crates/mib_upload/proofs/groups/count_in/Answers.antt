use Rattle.std.proofs.Common.{◌≡◌, ◌+◌, ◌<◌, drop, length, subst, sym, arith}
use Rattle.mib_upload.specs.Groups.{groups_after, groups_of}
use Rattle.mib_upload.proofs.Cutting.{counted_next, counted_small, one_at_most, goes_on, IsGroup}
use Rattle.mib_upload.proofs.groups.count_in.Goals as goal

pub overflow_add-count : goal.overflow_add-count
overflow_add-count c =
    let few = c.count-place-end.ensures.rule.count in
    omega (arith, counted_small c.args.class.now.attributes c.loop-place.group c.loop-place.place c.loop-place.count few c.loop-place.invariant.count, one_at_most c.has_room-fits.result, c.one_unless-count.ensures)

pub loop-place-preserved : goal.loop-place-preserved
loop-place-preserved c =
    let rule = c.count-place-end.ensures.rule in
    let lt : c.loop-place.place < length c.args.class.now.attributes = omega arith in
    record {
      count = subst (λ g. c.loop-place.count + c.one_unless-count.result + length (groups_after g (drop (c.loop-place.place + 1) c.args.class.now.attributes)) ≡ length (groups_of c.args.class.now.attributes) + 1) (sym c.group_with-group.ensures) (counted_next c.args.class.now.attributes c.loop-place.place c.attribute_at-attribute.result c.loop-place.group c.has_room-fits.result c.loop-place.count c.one_unless-count.result _ c.attribute_at-attribute.ensures c.has_room-fits.ensures c.one_unless-count.ensures c.loop-place.invariant.count);
      group = subst (IsGroup c.args.class.now.attributes (c.loop-place.place + 1)) (sym c.group_with-group.ensures) (goes_on c.args.class.now.attributes c.loop-place.place c.attribute_at-attribute.result c.loop-place.group c.has_room-fits.result rule.numbered rule.count lt c.attribute_at-attribute.ensures c.has_room-fits.ensures c.loop-place.invariant.group);
    }
