-- The four monitors: read and changed by their instances.
use Rattle.std.proofs.Common.{◌≡◌, ◌≢◌, ℕ, zero, suc, ◌+◌, ◌-◌, ◌<◌, true, false, List, [], ◌∷◌, Option, None, refl, sym, ap, ◌∙◌, arith}
use Rattle.std.specs.Prelude.{slice_get, slice_set}
use Rattle.std.proofs.lemmas.Grind.{common_steps}
use Rattle.meter_spec.specs.declared.Monitor.{Monitor}
use Rattle.meter_spec.specs.Events.{is_monitor}
use Rattle.pm_history.specs.Steps.{inner, monitor_at, with_monitor}

abbrev pub four : (ℕ → Option Monitor) → List (Option Monitor)
four g = g 257 ∷ g 258 ∷ g 259 ∷ g 260 ∷ []

pub four_same : (g other : ℕ → Option Monitor) → ((j : ℕ) → g j ≡ other j) → four g ≡ four other
four_same g other same = rw (same 257, same 258, same 259, same 260) refl

list_same : (a b c d x y z w : Option Monitor) → a ≡ x → b ≡ y → c ≡ z → d ≡ w → ◌≡◌ {A = List (Option Monitor)} (a ∷ b ∷ c ∷ d ∷ []) (x ∷ y ∷ z ∷ w ∷ [])
list_same a b c d x y z w p q r s = cc

put_place : (k : ℕ) (x : Option Monitor) (g other : ℕ → Option Monitor) → k < 4 → other (257 + k) ≡ x → ((j : ℕ) → j ≢ 257 + k → other j ≡ g j) → slice_set (four g) k x ≡ four other
put_place zero x g other lt here others = list_same _ _ _ _ _ _ _ _ (sym here) (sym (others 258 (λ e. omega arith))) (sym (others 259 (λ e. omega arith))) (sym (others 260 (λ e. omega arith)))
put_place (suc zero) x g other lt here others = list_same _ _ _ _ _ _ _ _ (sym (others 257 (λ e. omega arith))) (sym here) (sym (others 259 (λ e. omega arith))) (sym (others 260 (λ e. omega arith)))
put_place (suc (suc zero)) x g other lt here others = list_same _ _ _ _ _ _ _ _ (sym (others 257 (λ e. omega arith))) (sym (others 258 (λ e. omega arith))) (sym here) (sym (others 260 (λ e. omega arith)))
put_place (suc (suc (suc zero))) x g other lt here others = list_same _ _ _ _ _ _ _ _ (sym (others 257 (λ e. omega arith))) (sym (others 258 (λ e. omega arith))) (sym (others 259 (λ e. omega arith))) (sym here)
put_place (suc (suc (suc (suc k)))) x g other lt here others = absurd (omega arith)

at_place : (k : ℕ) (g : ℕ → Option Monitor) → k < 4 → inner (slice_get (four g) k) ≡ g (257 + k)
at_place zero g lt = refl
at_place (suc zero) g lt = refl
at_place (suc (suc zero)) g lt = refl
at_place (suc (suc (suc zero))) g lt = refl
at_place (suc (suc (suc (suc k)))) g lt = absurd (omega arith)

place_lt : (i : ℕ) → is_monitor i ≡ true → i - 257 < 4
unfolding is_monitor
place_lt i is = grind (arith, common_steps, is)

place_is : (i : ℕ) → is_monitor i ≡ true → 257 + (i - 257) ≡ i
unfolding is_monitor
place_is i is = grind (arith, common_steps, is)

pub put_four : (i : ℕ) (x : Option Monitor) (g other : ℕ → Option Monitor) → is_monitor i ≡ true → other i ≡ x → ((j : ℕ) → j ≢ i → other j ≡ g j) → with_monitor i x (four g) ≡ four other
unfolding with_monitor
put_four i x g other is here others =
    rw is (put_place (i - 257) x g other (place_lt i is) (ap other (place_is i is) ∙ here) (λ j differ. others j (λ e. differ (e ∙ sym (place_is i is)))))

pub at_four : (i : ℕ) (g : ℕ → Option Monitor) → is_monitor i ≡ true → monitor_at i (four g) ≡ g i
unfolding monitor_at
at_four i g is = rw is (at_place (i - 257) g (place_lt i is) ∙ ap g (place_is i is))

pub at_none : (i : ℕ) (g : ℕ → Option Monitor) → is_monitor i ≡ false → monitor_at i (four g) ≡ None
unfolding monitor_at
at_none i g is = rw is refl
