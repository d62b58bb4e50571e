-- A second passes for the manager, and then for the unit.
use Rattle.std.proofs.Common.{◌≡◌, ℕ, List, [], ◌++◌, Option, Some, None, refl, sym, ◌∙◌, ap, subst, append_assoc}
use Rattle.link_spec.specs.Held.{Held}
use Rattle.manager_spec.specs.Manager.{Manager}
use Rattle.world_spec.specs.Happenings.{held_read, next_after_all}
use Rattle.world_spec.specs.Trace.{lines_text}
use Rattle.world_spec.specs.Ends.{Ends, Step, manager_ticks, unit_ticks, then_step, second}
use Rattle.link_replay.specs.Seen.{Seen, EndsStand, Follows}
use Rattle.link_replay.proofs.Reading.{lines_both, held_both, held_count}
use Rattle.link_replay.proofs.Following.{still_there, seen_as}

-- a second without a manager
pub not_ticked : (v w : Seen) (text : List ℕ) → v ≡ w → v.manager ≡ None
    → (e : Ends) → EndsStand w e → Follows (manager_ticks e.manager e) e w v text text
not_ticked v w text same off e s =
    let at : EndsStand v e = subst (λ (x : Seen). EndsStand x e) (sym same) s in
    seen_as (manager_ticks e.manager e) e v w v text text same
    (subst (λ (o : Option Manager). Follows (manager_ticks o e) e v v text text) (sym off ∙ at.manager_is) (still_there e v text at))

-- one step and then another of the same event
pub then_follows : (s : Step) (next : Ends → Step) (e : Ends) (old middle new : Seen) (before text after : List ℕ) → s.ends.event ≡ e.event
    → Follows s e old middle before text → Follows (next s.ends) s.ends middle new text after
    → Follows (then_step s next) e old new before after
then_follows s next e old middle new before text after same first second =
    let t = next s.ends in
    record {
      ends = second.ends;
      held = second.held ∙ ap (held_read t.happenings) first.held ∙ sym (held_both s.happenings t.happenings old.held);
      text =
          second.text
          ∙ ap (λ b. b ++ lines_text s.ends.event middle.held.count t.happenings) first.text
          ∙ append_assoc before (lines_text e.event old.held.count s.happenings) (lines_text s.ends.event middle.held.count t.happenings)
          ∙ ap (λ n. before ++ (lines_text e.event old.held.count s.happenings ++ lines_text n middle.held.count t.happenings)) same
          ∙ ap (λ n. before ++ (lines_text e.event old.held.count s.happenings ++ lines_text e.event n t.happenings)) (ap (λ (h : Held). h.count) first.held ∙ held_count s.happenings old.held)
          ∙ ap (λ b. before ++ b) (sym (lines_both e.event old.held.count s.happenings t.happenings));
    }

ticks_event : (o : Option Manager) (e : Ends) → (manager_ticks o e).ends.event ≡ e.event
ticks_event None e = refl
ticks_event (Some m) e = refl

pub both_ticked : (old middle new : Seen) (before text after : List ℕ)
    → ((e : Ends) → EndsStand old e → Follows (manager_ticks e.manager e) e old middle before text)
    → ((e : Ends) → EndsStand middle e → Follows (unit_ticks e.unit e) e middle new text after)
    → (e : Ends) → EndsStand old e → Follows (second e) e old new before after
unfolding second
both_ticked old middle new before text after manager unit e s =
    let first = manager e s in
    then_follows (manager_ticks e.manager e) (λ f. unit_ticks f.unit f) e old middle new before text after (ticks_event e.manager e) first
    (unit (manager_ticks e.manager e).ends first.ends)
