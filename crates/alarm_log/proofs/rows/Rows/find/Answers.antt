use Rattle.std.proofs.Common.{rules, sym, subst, ◌∙◌, IfOk, IfErr}
use Rattle.std.proofs.lemmas.List.Sorted.{answers_always}
use Rattle.alarm_spec.specs.Alarms.{Alarms, IsAscending}
use Rattle.alarm_log.specs.Places.{IsAt, IsGap}
use Rattle.alarm_log.proofs.Places.{searched}
use Rattle.alarm_log.proofs.rows.Rows.find.Goals as goal

pub returns-clause-found : goal.returns-clause-found
returns-clause-found c =
    let facts = c.binary_search_by_key.ensures in
    let by_key = facts.position (λ alarm. alarm.0) (answers_always _ _ _ (λ f a r g called. search rules)) in
    let up : IsAscending c.deref.result.now = subst (λ (es : Alarms). IsAscending es) (sym c.deref.ensures.value) c.self.invariant in
    subst (λ (es : Alarms). IfOk c.binary_search_by_key.result (IsAt es c.args.entity)) (c.deref.ensures.value ∙ c.self.view_is) (searched c.deref.result.now c.args.entity up c.binary_search_by_key.result facts.bound by_key).found

pub returns-clause-absent : goal.returns-clause-absent
returns-clause-absent c =
    let facts = c.binary_search_by_key.ensures in
    let by_key = facts.position (λ alarm. alarm.0) (answers_always _ _ _ (λ f a r g called. search rules)) in
    let up : IsAscending c.deref.result.now = subst (λ (es : Alarms). IsAscending es) (sym c.deref.ensures.value) c.self.invariant in
    subst (λ (es : Alarms). IfErr c.binary_search_by_key.result (IsGap es c.args.entity)) (c.deref.ensures.value ∙ c.self.view_is) (searched c.deref.result.now c.args.entity up c.binary_search_by_key.result facts.bound by_key).absent
