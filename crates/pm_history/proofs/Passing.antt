-- Ticks that pass, one by one and by arithmetic.
use Rattle.std.proofs.Common.{◌≡◌, ℕ, zero, suc, ◌+◌, ◌/◌, ◌%◌, ◌<◌, Bool, true, false, List, [], ◌∷◌, Option, Some, None, refl, sym, ap, ◌∙◌, inl, inr, arith}
use Rattle.std.specs.Prelude.{if◌then◌else◌}
use Rattle.std.specs.Option.{option_map}
use Rattle.std.proofs.lemmas.Grind.{common_steps}
use Rattle.std.proofs.lemmas.Bool.{cases_lt}
use Rattle.omci_types.specs.declared.Frame.{Frame}
use Rattle.meter_spec.specs.declared.Monitor.{Monitor}
use Rattle.meter_spec.specs.Events.{History, Ticked, creates, synchronizes, is_there}
use Rattle.meter_spec.specs.Marks.{is_mark, ticks_since_mark}
use Rattle.meter_spec.specs.Meter.{Meter, monitor_with, monitor_of, kept, meter_of, with_ticks}
use Rattle.pm_history.specs.Steps.{marked, marked_all, passed}
use Rattle.pm_history.proofs.Sums.{ticks_lt}
use Rattle.pm_history.proofs.Holdings.{with_same, with_marked}
use Rattle.pm_history.proofs.Fours.{four, four_same}

pub meter_same : (monitors others : List (Option Monitor)) (ticks more : ℕ) (low one high two : Option Frame) → monitors ≡ others → ticks ≡ more → low ≡ one → high ≡ two → ◌≡◌ {A = Meter} (record { monitors = monitors; ticks = ticks; low = low; high = high }) (record { monitors = others; ticks = more; low = one; high = two })
meter_same monitors others ticks more low one high two a b c d = cc

pub marked_none : (ms : List (Option Monitor)) → marked_all 0 ms ≡ ms
unfolding marked_all marked
marked_none [] = refl
marked_none (None ∷ ms) = ap (λ (xs : List (Option Monitor)). None ∷ xs) (marked_none ms)
marked_none (Some m ∷ ms) = ap (λ (xs : List (Option Monitor)). Some m ∷ xs) (marked_none ms)

twice : (n k : ℕ) → ((n + k) % 256 + 1) % 256 ≡ (n + (k + 1)) % 256
twice n k = omega arith

marked_more : (k : ℕ) (m : Monitor) → marked 1 (marked k m) ≡ marked (k + 1) m
unfolding marked
marked_more zero m = refl
marked_more (suc k) m = grind (arith, common_steps, twice m.number (suc k))

marked_all_more : (k : ℕ) (ms : List (Option Monitor)) → marked_all 1 (marked_all k ms) ≡ marked_all (k + 1) ms
unfolding marked_all
marked_all_more k [] = refl
marked_all_more k (None ∷ ms) = ap (λ (xs : List (Option Monitor)). None ∷ xs) (marked_all_more k ms)
marked_all_more k (Some m ∷ ms) = rw (marked_more k m) (ap (λ (xs : List (Option Monitor)). Some (marked (k + 1) m) ∷ xs) (marked_all_more k ms))

one_more : (t : ℕ) (ms : List (Option Monitor)) → marked_all ((t % 900 + 1) / 900) (marked_all (t / 900) ms) ≡ marked_all ((t + 1) / 900) ms
one_more t ms = elim (cases_lt (t % 900 + 1) 900) as (λ _. marked_all ((t % 900 + 1) / 900) (marked_all (t / 900) ms) ≡ marked_all ((t + 1) / 900) ms) [
  | inl lt ↦ ap (λ n. marked_all n (marked_all (t / 900) ms)) (omega arith) ∙ marked_none (marked_all (t / 900) ms) ∙ ap (λ n. marked_all n ms) (omega arith)
  | inr ge ↦ ap (λ n. marked_all n (marked_all (t / 900) ms)) (omega arith) ∙ marked_all_more (t / 900) ms ∙ ap (λ n. marked_all n ms) (omega arith)
]

passed_more : (n : ℕ) (s : Meter) → passed 1 (passed n s) ≡ passed (suc n) s
unfolding passed
passed_more n s = meter_same _ _ _ _ _ _ _ _ (one_more (s.ticks + n) s.monitors ∙ ap (λ m. marked_all (m / 900) s.monitors) (omega arith)) (omega arith) refl refl

passed_none : (s : Meter) → s.ticks < 900 → passed 0 s ≡ s
unfolding passed
passed_none s lt = meter_same _ _ _ _ _ _ _ _ (ap (λ n. marked_all n s.monitors) (omega arith) ∙ marked_none s.monitors) (omega arith) refl refl

pub mapped : (b : Bool) (f : Monitor → Monitor) (x y : Monitor) → y ≡ f x → (if b then Some y else None) ≡ option_map f (if b then Some x else None)
mapped true f x y e = ap (λ (m : Monitor). Some m) e
mapped false f x y e = refl

nothing_made : (i : ℕ) (h : History) → creates i Ticked h ≡ false
unfolding creates
nothing_made i h = refl

nothing_timed : (h : History) → synchronizes Ticked h ≡ false
unfolding synchronizes
nothing_timed h = refl

of_marked : (i : ℕ) (h : History) → is_mark Ticked h ≡ true → option_map (marked 1) (monitor_of i h) ≡ monitor_of i (Ticked ∷ h)
unfolding monitor_of is_there
of_marked i h is = sym (mapped (is_there i h) (marked 1) (monitor_with i h) (monitor_with i (Ticked ∷ h)) (with_marked i h is (nothing_made i h) (nothing_timed h)))

of_unmarked : (i : ℕ) (h : History) → is_mark Ticked h ≡ false → monitor_of i h ≡ monitor_of i (Ticked ∷ h)
unfolding monitor_of is_there
of_unmarked i h is = ap (λ (m : Monitor). if is_there i h then Some m else None) (sym (with_same i Ticked h is (nothing_made i h) (nothing_timed h) (λ a le lt. refl)))

is_marked : (h : History) → ticks_since_mark h + 1 ≡ 900 → is_mark Ticked h ≡ true
unfolding is_mark
is_marked h e = grind (arith, common_steps, e)

isnt_marked : (h : History) → ticks_since_mark h + 1 < 900 → is_mark Ticked h ≡ false
unfolding is_mark
isnt_marked h e = grind (arith, common_steps, e)

ticks_marked : (h : History) → ticks_since_mark h + 1 ≡ 900 → ticks_since_mark (Ticked ∷ h) ≡ 0
unfolding ticks_since_mark
ticks_marked h e = grind (arith, common_steps, e)

ticks_more : (h : History) → ticks_since_mark h + 1 < 900 → ticks_since_mark (Ticked ∷ h) ≡ ticks_since_mark h + 1
unfolding ticks_since_mark
ticks_more h e = grind (arith, common_steps, e)

marked_four : (h : History) → is_mark Ticked h ≡ true → marked_all 1 (four (λ i. monitor_of i h)) ≡ four (λ i. monitor_of i (Ticked ∷ h))
unfolding marked_all
marked_four h is = four_same (λ i. option_map (marked 1) (monitor_of i h)) (λ i. monitor_of i (Ticked ∷ h)) (λ i. of_marked i h is)

pub tick_passed : (h : History) → passed 1 (meter_of h) ≡ meter_of (Ticked ∷ h)
unfolding passed meter_of kept
tick_passed h =
    let lt : ticks_since_mark h < 900 = ticks_lt h in
    elim (cases_lt (ticks_since_mark h + 1) 900) as (λ _. passed 1 (meter_of h) ≡ meter_of (Ticked ∷ h)) [
      | inl less ↦ meter_same _ _ _ _ _ _ _ _
          (ap (λ n. marked_all n (four (λ i. monitor_of i h))) (omega arith) ∙ marked_none (four (λ i. monitor_of i h)) ∙ four_same (λ i. monitor_of i h) (λ i. monitor_of i (Ticked ∷ h)) (λ i. of_unmarked i h (isnt_marked h less)))
          (omega (arith, ticks_more h less)) refl refl
      | inr ge ↦ let is : ticks_since_mark h + 1 ≡ 900 = omega arith in meter_same _ _ _ _ _ _ _ _
          (ap (λ n. marked_all n (four (λ i. monitor_of i h))) (omega arith) ∙ marked_four h (is_marked h is))
          (omega (arith, ticks_marked h is)) refl refl
    ]

ticks_of : (h : History) → (meter_of h).ticks ≡ ticks_since_mark h
unfolding meter_of
ticks_of h = refl

pub ticks_passed : (n : ℕ) (h : History) → passed n (meter_of h) ≡ meter_of (with_ticks n h)
unfolding with_ticks
ticks_passed zero h = passed_none (meter_of h) (omega (arith, ticks_lt h, ticks_of h))
ticks_passed (suc n) h = sym (passed_more n (meter_of h)) ∙ ap (passed 1) (ticks_passed n h) ∙ tick_passed (with_ticks n h)
