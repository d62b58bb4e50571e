use Rattle.std.proofs.Common.{◌++◌, ◌∙◌, ap, List, length, arith}
use Rattle.std.proofs.lemmas.List.{length-map}
use Rattle.plan_reconcile.specs.declared.items.Item.{Item}
use Rattle.plan_reconcile.specs.Matched.{place_from}
use Rattle.plan_spec.specs.Steps.{Step, steps, deletes}
use Rattle.plan_reconcile.specs.declared.steps.PlanStep.{PlanStep}
use Rattle.plan_reconcile.specs.Items.{wanted_of}
use Rattle.plan_reconcile.specs.Made.{steps_of}
use Rattle.plan_reconcile.proofs.Planning.{later_steps, later_next, place_here, class_here}
use Rattle.plan_reconcile.proofs.reconcile.all_steps.Goals as goal

pub bounds-places-at : goal.bounds-places-at
bounds-places-at c = omega (arith, c.loop-at-test.true, c.len-at-end.ensures.value, ap length c.requires.places, length-map c.args.want.now (λ (i : Item). place_from i.entity 0 c.args.have.now))

pub push_entity-requires-clause-place : goal.push_entity-requires-clause-place
push_entity-requires-clause-place c = place_here c.args.have.now c.args.want.now c.args.places.now c.loop-at.at c.item_at.result.now c.requires.places (omega (arith, c.loop-at-test.true, c.len-at-end.ensures.value)) c.item_at.ensures

pub push_entity-requires-clause-known : goal.push_entity-requires-clause-known
push_entity-requires-clause-known c = class_here c.args.want.now c.loop-at.at c.item_at.result.now c.requires.each (omega (arith, c.loop-at-test.true, c.len-at-end.ensures.value)) c.item_at.ensures

pub loop-at-init : goal.loop-at-init
unfolding steps
loop-at-init c =
    ap (λ (l : List Step). l ++ later_steps c.args.have.now (wanted_of c.args.want.now)) (c.in_ok-push_deletes.ensures ∙ ap (λ (l : List PlanStep). steps_of l ++ deletes c.args.have.now (wanted_of c.args.want.now)) c.new-steps.ensures.items)

pub loop-at-preserved : goal.loop-at-preserved
loop-at-preserved c =
    later_next c.args.have.now c.args.want.now c.loop-at.at c.item_at.result.now (steps_of c.loop-at.steps.items) (steps_of c.push_entity.new.steps.items) _ (omega (arith, c.loop-at-test.true, c.len-at-end.ensures.value)) c.item_at.ensures c.in_ok-push_entity.ensures c.loop-at.invariant
