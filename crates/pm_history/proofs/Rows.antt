-- Rows of counters.
use Rattle.std.proofs.Common.{◌≡◌, ◌≢◌, ℕ, zero, suc, ◌+◌, ◌<◌, ◌≤◌, List, ◌∷◌, replicate, refl, sym, ap, ◌∙◌, arith}
use Rattle.std.specs.Prelude.{slice_index, slice_set}
use Rattle.meter_spec.specs.Meter.{row_of}

pub row_same : (many from : ℕ) (f g : ℕ → ℕ) → ((a : ℕ) → from ≤ a → a < from + many → f a ≡ g a) → row_of many from f ≡ row_of many from g
unfolding row_of
row_same zero from f g same = refl
row_same (suc many) from f g same =
    let first : f from ≡ g from = same from (omega arith) (omega arith) in
    rw first (ap (λ (xs : List ℕ). g from ∷ xs) (row_same many (suc from) f g (λ a le lt. same a (omega arith) (omega arith))))

pub row_zero : (many from : ℕ) (f : ℕ → ℕ) → ((a : ℕ) → from ≤ a → a < from + many → f a ≡ 0) → row_of many from f ≡ replicate many 0
unfolding row_of
row_zero zero from f none = refl
row_zero (suc many) from f none =
    let first : f from ≡ 0 = none from (omega arith) (omega arith) in
    rw first (ap (λ (xs : List ℕ). 0 ∷ xs) (row_zero many (suc from) f (λ a le lt. none a (omega arith) (omega arith))))

pub row_at : (many from at : ℕ) (f : ℕ → ℕ) → at < many → slice_index (row_of many from f) at ≡ f (from + at)
unfolding row_of
row_at zero from at f lt = absurd (omega arith)
row_at (suc many) from zero f lt = ap f (omega arith)
row_at (suc many) from (suc at) f lt = row_at many (suc from) at f (omega arith) ∙ ap f (omega arith)

pub row_set : (many from at n : ℕ) (f g : ℕ → ℕ) → at < many → g (from + at) ≡ n → ((a : ℕ) → from ≤ a → a < from + many → a ≢ from + at → g a ≡ f a) → slice_set (row_of many from f) at n ≡ row_of many from g
unfolding row_of
row_set zero from at n f g lt here others = absurd (omega arith)
row_set (suc many) from zero n f g lt here others =
    let first : g from ≡ n = ap g (omega arith) ∙ here in
    rw first (ap (λ (xs : List ℕ). n ∷ xs) (row_same many (suc from) f g (λ a le lt. sym (others a (omega arith) (omega arith) (λ same. omega arith)))))
row_set (suc many) from (suc at) n f g lt here others =
    let first : g from ≡ f from = others from (omega arith) (omega arith) (λ same. omega arith) in
    rw first (ap (λ (xs : List ℕ). f from ∷ xs) (row_set many (suc from) at n f g (omega arith) (ap g (omega arith) ∙ here) (λ a le lt differ. others a (omega arith) (omega arith) (λ same. differ (omega arith)))))
