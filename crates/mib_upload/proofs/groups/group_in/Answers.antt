use Rattle.std.proofs.Common.{◌≡◌, ◌+◌, ◌-◌, ◌<◌, ◌∙◌, drop, length, slice_get, subst, sym, arith}
use Rattle.mib_upload.specs.Groups.{groups_after, groups_of}
use Rattle.mib_upload.proofs.Cutting.{enough_left, not_sought, sought_next, goes_on, IsGroup}
use Rattle.mib_upload.proofs.groups.group_in.Goals as goal

pub overflow_sub-left : goal.overflow_sub-left
overflow_sub-left c = omega (arith, enough_left c.has_room-fits.result c.loop-place.left (sym c.ends_here.ensures ∙ c.if-ends_here.false), c.one_unless-left.ensures)

pub loop-place-preserved : goal.loop-place-preserved
loop-place-preserved c =
    let rule = c.count-place-end.ensures.rule in
    let lt : c.loop-place.place < length c.args.class.now.attributes = omega arith in
    record {
      found = subst (λ g. slice_get (groups_after g (drop (c.loop-place.place + 1) c.args.class.now.attributes)) (c.loop-place.left - c.one_unless-left.result) ≡ slice_get (groups_of c.args.class.now.attributes) c.args.number) (sym c.group_with-group.ensures)
          (sought_next c.args.class.now.attributes c.loop-place.place c.attribute_at-attribute.result c.loop-place.group c.has_room-fits.result c.loop-place.left c.one_unless-left.result c.attribute_at-attribute.ensures c.has_room-fits.ensures c.one_unless-left.ensures
          (not_sought c.has_room-fits.result c.loop-place.left (sym c.ends_here.ensures ∙ c.if-ends_here.false)) ∙ c.loop-place.invariant.found);
      group = subst (IsGroup c.args.class.now.attributes (c.loop-place.place + 1)) (sym c.group_with-group.ensures) (goes_on c.args.class.now.attributes c.loop-place.place c.attribute_at-attribute.result c.loop-place.group c.has_room-fits.result rule.numbered rule.count lt c.attribute_at-attribute.ensures c.has_room-fits.ensures c.loop-place.invariant.group);
    }
