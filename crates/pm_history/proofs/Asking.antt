-- A frame that is answered.
use Rattle.std.proofs.Common.{◌≡◌, ℕ, Bool, true, false, [], ◌∷◌, Option, Some, None, refl, sym, ap, subst, ◌∙◌, arith}
use Rattle.std.specs.Prelude.{if◌then◌else◌, ◌&&◌, not, is_some}
use Rattle.std.proofs.lemmas.Grind.{common_steps}
use Rattle.omci_types.specs.declared.Frame.{Frame}
use Rattle.omci_types.specs.declared.Priority.{Priority}
use Rattle.omci_types.specs.declared.Priority.TheVariants.{Low, High}
use Rattle.tci_spec.specs.Tci.{is_low, priority_of}
use Rattle.meter_spec.specs.declared.Monitor.{Monitor}
use Rattle.meter_spec.specs.declared.Command.{Command}
use Rattle.meter_spec.specs.Events.{History, Asked, Grown, Ticked, command_of, last_tci, is_in, is_tci, is_repeat, carried}
use Rattle.meter_spec.specs.Replies.{reply_to}
use Rattle.meter_spec.specs.Meter.{Meter, monitor_of, kept, kept_by, meter_of, answer, answer_by}
use Rattle.pm_history.specs.Steps.{if_answers, kept_in, kept_for, reply_now, reply_found, reply_asked, answered}
use Rattle.pm_history.proofs.Counting.{found}

-- ---- which reply is kept

abbrev pub tci_in : Option Frame → Option ℕ
tci_in None = None
tci_in (Some f) = Some f.tci

pub reply_tci : (command : Command) (f : Frame) (m : Option Monitor) → (reply_to command f m).tci ≡ f.tci
unfolding reply_to
reply_tci command f m = refl

-- the kept reply answers the last request of its priority: by whether the request comes again, is
-- one at all, and is of the priority
kept_case : (again inside : Bool) (p : Priority) (f : Frame) (command : Option Command) (m : Option Monitor) (was : Option Frame) (last : Option ℕ) → tci_in was ≡ last → (again ≡ true → inside ≡ true → last ≡ Some f.tci) → is_in p f.tci ≡ inside → tci_in (kept_by p (Asked f) (if again then None else command) m was) ≡ (if is_some command && inside then Some f.tci else last)
kept_case true true p f None m was last same repeats is = same
kept_case true true p f (Some command) m was last same repeats is = same ∙ repeats refl refl
kept_case true false p f None m was last same repeats is = same
kept_case true false p f (Some command) m was last same repeats is = same
kept_case false inside p f None m was last same repeats is = same
kept_case false true p f (Some command) m was last same repeats is = ap (λ b. tci_in (if b then Some (reply_to command f m) else was)) is ∙ ap (λ (n : ℕ). Some n) (reply_tci command f m)
kept_case false false p f (Some command) m was last same repeats is = ap (λ b. tci_in (if b then Some (reply_to command f m) else was)) is ∙ same

is_tci_some : (tci : ℕ) (last : Option ℕ) → is_tci tci last ≡ true → last ≡ Some tci
is_tci_some tci None e = absurd cc
is_tci_some tci (Some other) e = ap (λ (n : ℕ). Some n) (grind (arith, common_steps, e))

high_if : (low : Bool) → not low ≡ true → (if low then Low else High) ≡ High
high_if true e = absurd cc
high_if false e = refl

same_priority : (p : Priority) (tci : ℕ) → is_in p tci ≡ true → priority_of tci ≡ p
same_priority Low tci e = rw e refl
same_priority High tci e = high_if (is_low tci) e

repeats_last : (p : Priority) (f : Frame) (h : History) → is_repeat f h ≡ true → is_in p f.tci ≡ true → last_tci p h ≡ Some f.tci
unfolding is_repeat
repeats_last p f h again inside = subst (λ q. last_tci q h ≡ Some f.tci) (same_priority p f.tci inside) (is_tci_some f.tci (last_tci (priority_of f.tci) h) again)

kept_tci : (p : Priority) (h : History) → tci_in (kept p h) ≡ last_tci p h
unfolding kept last_tci carried
kept_tci p [] = refl
kept_tci p (Grown i a n ∷ h) = kept_tci p h
kept_tci p (Ticked ∷ h) = kept_tci p h
kept_tci p (Asked f ∷ h) = kept_case (is_repeat f h) (is_in p f.tci) p f (command_of f) (monitor_of f.entity.instance h) (kept p h) (last_tci p h) (kept_tci p h) (λ again inside. repeats_last p f h again inside) refl

found_kept : (tci : ℕ) (was : Option Frame) (last : Option ℕ) → tci_in was ≡ last → if_answers tci was ≡ (if is_tci tci last then was else None)
found_kept tci None last same = rw (sym same) refl
found_kept tci (Some f) last same = rw (sym same) refl

kept_in_meter : (p : Priority) (h : History) → kept_in p (meter_of h) ≡ kept p h
unfolding meter_of
kept_in_meter Low h = refl
kept_in_meter High h = refl

pub kept_for_meter : (f : Frame) (h : History) → kept_for f.tci (meter_of h) ≡ (if is_repeat f h then kept (priority_of f.tci) h else None)
unfolding kept_for is_repeat
kept_for_meter f h = ap (if_answers f.tci) (kept_in_meter (priority_of f.tci) h) ∙ found_kept f.tci (kept (priority_of f.tci) h) (last_tci (priority_of f.tci) h) (kept_tci (priority_of f.tci) h)

pub has_kept : (f : Frame) (h : History) → is_repeat f h ≡ true → tci_in (kept (priority_of f.tci) h) ≡ Some f.tci
unfolding is_repeat
has_kept f h again = kept_tci (priority_of f.tci) h ∙ is_tci_some f.tci (last_tci (priority_of f.tci) h) again

-- ---- what is answered

reply_case : (again : Bool) (command : Option Command) (f : Frame) (h : History) (was : Option Frame) (s : Meter) → (again ≡ true → tci_in was ≡ Some f.tci) → kept_for f.tci s ≡ (if again then was else None) → ((c : Command) → reply_now c f s ≡ reply_to c f (monitor_of f.entity.instance h)) → reply_asked command f s ≡ answer_by command again was f (monitor_of f.entity.instance h)
reply_case again None f h was s has is reply = refl
reply_case true (Some c) f h (Some r) s has is reply = ap (λ k. reply_found k c f s) is
reply_case true (Some c) f h None s has is reply = absurd (none_some (has refl))
  where
    none_some : ◌≡◌ {A = Option ℕ} None (Some f.tci) → ⊥
    none_some e = cc
reply_case false (Some c) f h was s has is reply = ap (λ k. reply_found k c f s) is ∙ ap (λ (r : Frame). Some r) (reply c)

pub reply_is : (c : Command) (f : Frame) (h : History) → reply_now c f (meter_of h) ≡ reply_to c f (monitor_of f.entity.instance h)
unfolding reply_now
reply_is c f h = ap (reply_to c f) (found f.entity.instance h)

pub reply_stands : (f : Frame) (h : History) → answered f (meter_of h) ≡ answer f h
unfolding answered answer
reply_stands f h = reply_case (is_repeat f h) (command_of f) f h (kept (priority_of f.tci) h) (meter_of h) (λ again. has_kept f h again) (kept_for_meter f h) (λ c. reply_is c f h)
