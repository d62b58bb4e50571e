-- A count for an attribute of a monitor.
use Rattle.std.proofs.Common.{◌≡◌, ◌≢◌, ℕ, ◌-◌, ◌<◌, ◌≤◌, Bool, true, false, [], ◌∷◌, Option, Some, None, refl, sym, ap, subst, ◌∙◌, inl, inr, arith}
use Rattle.std.specs.Prelude.{if◌then◌else◌, ◌==◌, is_some}
use Rattle.std.proofs.lemmas.Bool.{cases_eq}
use Rattle.std.proofs.lemmas.Grind.{common_steps}
use Rattle.meter_spec.specs.declared.Monitor.{Monitor}
use Rattle.meter_spec.specs.declared.Command.{Command}
use Rattle.meter_spec.specs.declared.Command.TheVariants.{Create, Delete, Get, GetCurrent, SynchronizeTime}
use Rattle.meter_spec.specs.Events.{Event, History, Grown, creates, synchronizes, is_there, is_there_after, is_monitor, command_in, instance_in}
use Rattle.meter_spec.specs.Marks.{is_mark, ticks_since_mark, count_in}
use Rattle.meter_spec.specs.Meter.{monitor_with, monitor_of, kept, meter_of, counted, is_counter}
use Rattle.pm_history.specs.Steps.{grown, counts_in, counted_in, grown_in, monitor_at, with_monitor, with_monitors}
use Rattle.pm_history.proofs.Holdings.{with_same, with_grown, unmarked_count, made_by_none, timed_by_none}
use Rattle.pm_history.proofs.Fours.{four, four_same, put_four, at_four, at_none}
use Rattle.pm_history.proofs.Passing.{meter_same}

stays_out : (command : Option Command) (names was : Bool) → was ≡ false → is_there_after command names false was ≡ false
stays_out None names was none = none
stays_out (Some Create) true was none = refl
stays_out (Some Create) false was none = none
stays_out (Some Delete) true was none = refl
stays_out (Some Delete) false was none = none
stays_out (Some Get) names was none = none
stays_out (Some GetCurrent) names was none = none
stays_out (Some SynchronizeTime) names was none = none

never_there : (i : ℕ) (h : History) → is_monitor i ≡ false → is_there i h ≡ false
unfolding is_there
never_there i [] out = refl
never_there i (e ∷ h) out = ap (λ b. is_there_after (command_in e h) (instance_in e == i) b (is_there i h)) out ∙ stays_out (command_in e h) (instance_in e == i) (is_there i h) (never_there i h out)

pub none_of : (i : ℕ) (h : History) → is_there i h ≡ false → monitor_of i h ≡ None
unfolding monitor_of
none_of i h out = ap (λ b. if b then Some (monitor_with i h) else None) out

pub some_of : (i : ℕ) (h : History) → is_there i h ≡ true → monitor_of i h ≡ Some (monitor_with i h)
unfolding monitor_of
some_of i h is = ap (λ b. if b then Some (monitor_with i h) else None) is

by_monitor : (b : Bool) (i : ℕ) (h : History) → is_monitor i ≡ b → monitor_at i (four (λ j. monitor_of j h)) ≡ monitor_of i h
by_monitor true i h is = at_four i (λ j. monitor_of j h) is
by_monitor false i h is = at_none i (λ j. monitor_of j h) is ∙ sym (none_of i h (never_there i h is))

-- the monitor of an instance is found among the four
pub found : (i : ℕ) (h : History) → monitor_at i (meter_of h).monitors ≡ monitor_of i h
unfolding meter_of
found i h = by_monitor (is_monitor i) i h refl

pub is_monitor_there : (b : Bool) (i : ℕ) (h : History) → is_monitor i ≡ b → is_there i h ≡ true → is_monitor i ≡ true
is_monitor_there true i h is there = is
is_monitor_there false i h is there = cc_absurd (sym (never_there i h is) ∙ there)
  where
    cc_absurd : false ≡ true → is_monitor i ≡ true
    cc_absurd e = cc

pub of_same : (i : ℕ) (e : Event) (h : History) → is_mark e h ≡ false → creates i e h ≡ false → synchronizes e h ≡ false → ((a : ℕ) → 3 ≤ a → a < 17 → count_in i a e ≡ 0) → is_there i (e ∷ h) ≡ is_there i h → monitor_of i (e ∷ h) ≡ monitor_of i h
unfolding monitor_of
of_same i e h unmarked other untimed none there =
    ap (λ (m : Monitor). if is_there i (e ∷ h) then Some m else None) (with_same i e h unmarked other untimed none) ∙ ap (λ b. if b then Some (monitor_with i h) else None) there

there_grown : (i j a n : ℕ) (h : History) → is_there i (Grown j a n ∷ h) ≡ is_there i h
unfolding is_there
there_grown i j a n h = refl

of_grown_else : (i j a n : ℕ) (h : History) → ((b : ℕ) → 3 ≤ b → b < 17 → count_in i b (Grown j a n) ≡ 0) → monitor_of i (Grown j a n ∷ h) ≡ monitor_of i h
of_grown_else i j a n h none = of_same i (Grown j a n) h (unmarked_count j a n h) (made_by_none i j a n h) (timed_by_none j a n h) none (there_grown i j a n h)

not_counter : (a b : ℕ) → is_counter a ≡ false → 3 ≤ b → b < 17 → a ≢ b
not_counter a b out le lt e = grind (arith, common_steps, out, e)

count_other : (i j a b n : ℕ) → i ≢ j → count_in i b (Grown j a n) ≡ 0
count_other i j a b n differ = grind (arith, common_steps, differ)

is_range : (a : ℕ) → is_counter a ≡ true → (3 ≤ a) × (a < 17)
is_range a is = (grind (arith, common_steps, is), grind (arith, common_steps, is))

count_in_else : (i j a b n : ℕ) → a ≢ b → count_in i b (Grown j a n) ≡ 0
count_in_else i j a b n differ = grind (arith, common_steps, differ)

-- nothing is counted: the attribute is no counter
uncounted : (i a n : ℕ) (h : History) → is_counter a ≡ false → meter_of h ≡ meter_of (Grown i a n ∷ h)
unfolding meter_of kept ticks_since_mark
uncounted i a n h out = meter_same _ _ _ _ _ _ _ _
    (four_same (λ j. monitor_of j h) (λ j. monitor_of j (Grown i a n ∷ h)) (λ j. sym (of_grown_else j i a n h (λ b le lt. count_in_else j i a b n (not_counter a b out le lt)))))
    (omega arith) refl refl

-- nothing is counted: the monitor isn't there
absent : (i a n : ℕ) (h : History) → is_there i h ≡ false → meter_of h ≡ meter_of (Grown i a n ∷ h)
unfolding meter_of kept ticks_since_mark
absent i a n h out = meter_same _ _ _ _ _ _ _ _
    (four_same (λ j. monitor_of j h) (λ j. monitor_of j (Grown i a n ∷ h)) (λ j. elim (cases_eq j i) as (λ _. monitor_of j h ≡ monitor_of j (Grown i a n ∷ h)) [
      | inl same ↦ subst (λ k. monitor_of k h ≡ monitor_of k (Grown i a n ∷ h)) (sym same) (none_of i h out ∙ sym (none_of i (Grown i a n ∷ h) (there_grown i i a n h ∙ out)))
      | inr differ ↦ sym (of_grown_else j i a n h (λ b le lt. count_other j i a b n differ))
    ]))
    (omega arith) refl refl

-- it is counted
present : (i a n : ℕ) (h : History) → is_counter a ≡ true → is_there i h ≡ true → with_monitors (with_monitor i (Some (grown (a - 3) n (monitor_with i h))) (meter_of h).monitors) (meter_of h) ≡ meter_of (Grown i a n ∷ h)
unfolding meter_of kept ticks_since_mark
present i a n h is there = meter_same _ _ _ _ _ _ _ _
    (put_four i _ (λ j. monitor_of j h) (λ j. monitor_of j (Grown i a n ∷ h)) (is_monitor_there (is_monitor i) i h refl there)
    (some_of i (Grown i a n ∷ h) (there_grown i i a n h ∙ there) ∙ ap (λ (m : Monitor). Some m) (with_grown i a n h (is_range a is).0 (is_range a is).1))
    (λ j differ. of_grown_else j i a n h (λ b le lt. count_other j i a b n differ)))
    (omega arith) refl refl

by_there : (b : Bool) (i a n : ℕ) (h : History) → is_counter a ≡ true → is_there i h ≡ b → grown_in i a n (monitor_of i h) (meter_of h) ≡ meter_of (Grown i a n ∷ h)
by_there true i a n h is there = ap (λ m. grown_in i a n m (meter_of h)) (some_of i h there) ∙ present i a n h is there
by_there false i a n h is there = ap (λ m. grown_in i a n m (meter_of h)) (none_of i h there) ∙ absent i a n h there

by_counter : (b : Bool) (i a n : ℕ) (h : History) → is_counter a ≡ b → (if b then grown_in i a n (monitor_at i (meter_of h).monitors) (meter_of h) else meter_of h) ≡ meter_of (Grown i a n ∷ h)
by_counter true i a n h is = ap (λ m. grown_in i a n m (meter_of h)) (found i h) ∙ by_there (is_there i h) i a n h is refl
by_counter false i a n h out = uncounted i a n h out

pub count_stands : (i a n : ℕ) (h : History) → counted_in i a n (meter_of h) ≡ meter_of (Grown i a n ∷ h)
unfolding counted_in
count_stands i a n h = by_counter (is_counter a) i a n h refl

pub there_some : (i : ℕ) (h : History) → is_some (monitor_of i h) ≡ is_there i h
unfolding monitor_of
there_some i h = some_if (is_there i h) (monitor_with i h)
  where
    some_if : (b : Bool) (m : Monitor) → is_some (if b then Some m else None) ≡ b
    some_if true m = refl
    some_if false m = refl

pub count_answer : (i a : ℕ) (h : History) → counts_in i a (meter_of h) ≡ counted i a h
unfolding counts_in counted
count_answer i a h = rw (found i h) (rw (there_some i h) refl)
