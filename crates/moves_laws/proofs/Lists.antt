-- Lists that grow by one at their end.
use Rattle.std.proofs.Common.{◌≡◌, ℕ, zero, suc, ◌≤◌, List, [], ◌∷◌, ◌++◌, length, Some, slice_get, ◌⊎◌, inl, inr, ⊎_elim, refl, ap, arith}
use Rattle.std.proofs.lemmas.Option.{slice_get_within}

-- what stands in a list with one more at its end
pub got : {A : Type 0} (xs : List A) (x : A) (i : ℕ) (y : A) → slice_get (xs ++ x ∷ []) i ≡ Some y
    → (slice_get xs i ≡ Some y) ⊎ ((i ≡ length xs) × (x ≡ y))
got [] x zero y e = inr (refl, cc)
got [] x (suc i) y e = inl e
got (a ∷ xs) x zero y e = inl e
got (a ∷ xs) x (suc i) y e = ⊎_elim (λ h. inl h) (λ h. inr (ap suc h.0, h.1)) (got xs x i y e)

-- what stood there still stands
pub still : {A : Type 0} (xs ys : List A) (i : ℕ) (y : A) → slice_get xs i ≡ Some y
    → slice_get (xs ++ ys) i ≡ Some y
still [] ys i y e = absurd (cc)
still (x ∷ xs) ys zero y e = e
still (x ∷ xs) ys (suc i) y e = still xs ys i y e

pub added : {A : Type 0} (xs : List A) (x : A) → slice_get (xs ++ x ∷ []) (length xs) ≡ Some x
added [] x = refl
added (y ∷ xs) x = added xs x

-- past the end of a list stands nothing
pub nothing : {A : Type 0} {y : A} (xs : List A) (i : ℕ) → slice_get xs i ≡ Some y → length xs ≤ i
    → ⊥
nothing xs i e le = omega (arith, slice_get_within xs i _ e)
