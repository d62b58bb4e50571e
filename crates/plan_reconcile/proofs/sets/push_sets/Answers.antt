use Rattle.std.proofs.Common.{◌∙◌, ap, sym, arith, length, ◌≤◌, ◌+◌, ◌++◌, List}
use Rattle.class_spec.specs.Classes.{Attribute}
use Rattle.upload_spec.specs.Pieces.{values_named}
use Rattle.plan_spec.specs.Steps.{sets, set_of, set_groups, differing}
use Rattle.std.specs.Prelude.{map}
use Rattle.plan_reconcile.specs.Made.{steps_of}
use Rattle.plan_reconcile.specs.Turns.{held_from}
use Rattle.plan_reconcile.proofs.Setting.{sets_start, sets_next, sets_end}
use Rattle.plan_reconcile.proofs.Wanting.{attributes_of_row}
use Rattle.plan_reconcile.proofs.sets.push_sets.Goals as goal

pub loop-place-init : goal.loop-place-init
loop-place-init c = sets_start c.args.item.now.entity c.args.class.now.attributes c.args.item.now.mask.0 c.args.item.now.values c.args.standing c.args.steps.now.items c.requires.rule.numbered c.requires.rule.count c.requires.rule.whole

pub loop-place-preserved : goal.loop-place-preserved
loop-place-preserved c =
    sets_next c.args.item.now.entity c.args.class.now.attributes c.args.item.now.mask.0 c.args.item.now.values c.args.standing _ c.loop-place.place c.loop-place.from c.loop-place.from_held c.loop-place.group c.loop-place.steps.items c.loop-place.invariant c.part_at-part.result c.part_at-part.ensures
    c.requires.rule.numbered c.cut-value.result.now c.cut-value.ensures c.differs-differs.result c.differs-differs.ensures _ _ (ap (λ n. c.loop-place.from + n) c.if_so-from.ensures) (ap (λ n. c.loop-place.from_held + n) c.if_so-from_held.ensures) c.add_if.new.steps.items c.in_ok-group.group c.in_ok-group.ensures

pub returns : goal.returns
unfolding sets
returns c =
    let i = c.args.item.now in
    let all : length c.args.class.now.attributes ≤ c.loop-place.place = omega arith in
    c.in_ok-flush.ensures
    ∙ sets_end i.entity c.args.class.now.attributes i.mask.0 i.values c.args.standing _ c.loop-place.place c.loop-place.from c.loop-place.from_held c.loop-place.group c.loop-place.steps.items c.loop-place.invariant all
    ∙ ap (λ (l : List Attribute). steps_of c.args.steps.now.items ++ map (set_of i.entity) (set_groups (differing (held_from c.args.standing c.args.class.now.attributes 0) (values_named l i.mask.0 i.values) l))) (sym (attributes_of_row i.entity.class c.args.class.now c.requires.row))
