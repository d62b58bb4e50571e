use Rattle.std.proofs.Common.{◌≡◌, [], ◌∷◌, ◌++◌, Some, ◌∙◌, ap, sym, refl}
use Rattle.std.proofs.lemmas.List.{map-append}
use Rattle.upload_spec.specs.Pieces.{values_named}
use Rattle.plan_spec.specs.Steps.{Step, create_of, told_of}
use Rattle.plan_reconcile.specs.Items.{item_as}
use Rattle.plan_reconcile.specs.Made.{step_as, steps_of}
use Rattle.plan_reconcile.proofs.Planning.{stands_at, told_there, told_absent, steps_there, steps_new}
use Rattle.plan_reconcile.proofs.Wanting.{attributes_of_row}
use Rattle.plan_reconcile.proofs.reconcile.push_entity.Goals as goal

pub entry-entry-requires : goal.entry-entry-requires
entry-entry-requires c = (stands_at c.args.item.now.entity c.in-Some-place.place c.args.have.now (sym c.requires.place ∙ c.in-Some-place.is)).in_range

pub returns-in_ok-push_sets-in-Some-place : goal.returns-in_ok-push_sets-in-Some-place
returns-in_ok-push_sets-in-Some-place c =
    let i = c.args.item.now in
    let s = stands_at i.entity c.in-Some-place.place c.args.have.now (sym c.requires.place ∙ c.in-Some-place.is) in
    let e = c.entry-entry.result in
    let row = attributes_of_row i.entity.class c.in-Some.class (sym c.class.ensures.row ∙ c.in-Some.is) in
    steps_there (steps_of c.args.steps.now.items) (steps_of c.push_sets.new.steps.items) (item_as i) (Some (values_named c.in-Some.class.attributes e.mask.0 e.values.now)) (told_of i.entity c.args.have.now) _ refl
    (told_there i.entity c.in-Some-place.place e.mask.0 e.values.now c.in-Some.class.attributes c.args.have.now s row c.entry-entry.ensures.mask c.entry-entry.ensures.values) c.in_ok-push_sets-in-Some-place.ensures

pub returns-in_ok-push_sets-in-None : goal.returns-in_ok-push_sets-in-None
returns-in_ok-push_sets-in-None c =
    let i = c.args.item.now in
    let between : steps_of c.push.new.self.items ≡ steps_of c.args.steps.now.items ++ create_of i.entity (item_as i).1 ∷ [] =
    ap steps_of c.in_ok-push-in-None.ensures.items ∙ map-append step_as c.args.steps.now.items (c.create_of.result ∷ []) ∙ ap (λ (x : Step). steps_of c.args.steps.now.items ++ x ∷ []) c.create_of.ensures in
    steps_new (steps_of c.args.steps.now.items) (steps_of c.push.new.self.items) (steps_of c.push_sets-in-None.new.steps.items) (item_as i) (told_of i.entity c.args.have.now) (told_absent i.entity c.args.have.now (sym c.requires.place ∙ c.in-None.is)) between c.in_ok-push_sets-in-None.ensures
