use Rattle.std.proofs.Common.{◌≡◌, ◌∙◌, subst, Ok, Err}
use Rattle.upload_spec.specs.Pieces.{Copy}
use Rattle.plan_spec.specs.declared.PlanFault.TheVariants as fault
use Rattle.plan_spec.specs.Steps.{planned}
use Rattle.plan_reconcile.specs.declared.reconcile.PlanRefusal.TheVariants as refused
use Rattle.plan_reconcile.specs.Items.{wanted_of}
use Rattle.plan_reconcile.specs.Answers.{Refuses}
use Rattle.plan_reconcile.proofs.Planning.{planned_many, planned_steps, planned_not_made}
use Rattle.plan_reconcile.proofs.reconcile.plan.Goals as goal

pub returns-in-Err-clause-refused : goal.returns-in-Err-clause-refused
returns-in-Err-clause-refused c =
    let W : Copy = wanted_of c.items-items.result.now in
    let places = c.deref.ensures.value ∙ c.in-Ok.ensures.places_are in
    subst (λ (w : Copy). planned c.args.have.now w ≡ Err (fault.NotMade c.in-Err.entity)) c.items-items.ensures.seen (planned_not_made c.args.have.now W c.in-Err.entity (c.in-Err.ensures.not_made c.args.have.now places))

pub returns-then-count-gt-MOST_ENTITIES-clause-refused :
    goal.returns-then-count-gt-MOST_ENTITIES-clause-refused
returns-then-count-gt-MOST_ENTITIES-clause-refused c =
    let W : Copy = wanted_of c.items-items.result.now in
    let places = c.deref.ensures.value ∙ c.in-Ok.ensures.places_are in
    subst (λ (w : Copy). Refuses (planned c.args.have.now w) (refused.TooMany c.saturating_add-count.result)) c.items-items.ensures.seen
    (planned_many c.args.have.now W c.in-Ok.matches.count c.in-Ok-count_new.new c.in-Ok.ensures.count_is (c.in-Ok-count_new.ensures.new c.args.have.now places) c.saturating_add-count.result c.saturating_add-count.ensures c.if-count-gt-MOST_ENTITIES.true)

pub returns-in-Ok-all_steps-clause-steps : goal.returns-in-Ok-all_steps-clause-steps
returns-in-Ok-all_steps-clause-steps c =
    let W : Copy = wanted_of c.items-items.result.now in
    let places = c.deref.ensures.value ∙ c.in-Ok.ensures.places_are in
    subst (λ (w : Copy). planned c.args.have.now w ≡ Ok c.of.result) c.items-items.ensures.seen
    (planned_steps c.args.have.now W c.in-Ok.matches.count c.in-Ok-count_new.new c.in-Ok.ensures.count_is (c.in-Ok-count_new.ensures.new c.args.have.now places) c.saturating_add-count.result c.of.result c.saturating_add-count.ensures c.if-count-gt-MOST_ENTITIES.false (c.of.ensures ∙ c.in-Ok-all_steps.ensures))
