-- The mask of attributes that stand one after the other, tested over all of them.
use Rattle.std.proofs.Common.{◌≡◌, ℕ, zero, suc, ◌+◌, ◌<◌, ◌≤◌, Bool, true, false, cond, [], ◌∷◌, length, refl, ap, subst, ◌∙◌, inl, inr, arith}
use Rattle.std.specs.Prelude.{◌&&◌, ◌||◌, not, nat_le, nat_lt}
use Rattle.std.proofs.lemmas.Bool.{false≢true, cases_lt}
use Rattle.std.proofs.lemmas.Bool.Decides.{nat_tests}
use Rattle.class_spec.specs.Masks.{has, bit_of}
use Rattle.mib_spec.specs.Database.{Values}
use Rattle.upload_spec.specs.Pieces.{mask_of}

-- the values have the numbers from this one on
abbrev pub IsRun : ℕ → Values → Type 0
IsRun number [] = Unit {0}
IsRun number (one ∷ rest) = (one.0 ≡ number) × IsRun (number + 1) rest

abbrev pub run_mask : ℕ → ℕ → ℕ
run_mask number zero = 0
run_mask number (suc count) = bit_of number + run_mask (number + 1) count

pub mask_run : (number : ℕ) (values : Values) → IsRun number values → mask_of values ≡ run_mask number (length values)
mask_run number [] h = refl
mask_run number (one ∷ rest) h = ap (λ n. bit_of n + mask_of rest) h.0 ∙ ap (λ m. bit_of number + m) (mask_run (number + 1) rest h.1)

abbrev all_below : ℕ → (ℕ → Bool) → Bool
all_below zero p = true
all_below (suc n) p = p n && all_below n p

both : (a b : Bool) → (a && b) ≡ true → (a ≡ true) × (b ≡ true)
both true b h = (refl, h)
both false b h = absurd (false≢true h)

at_below : (n : ℕ) (p : ℕ → Bool) → all_below n p ≡ true → (k : ℕ) → k < n → p k ≡ true
at_below zero p h k lt = absurd (omega arith)
at_below (suc n) p h k lt = elim (cases_lt k n) as (λ _. p k ≡ true) [
  | inl less ↦ at_below n p (both (p n) (all_below n p) h).1 k less
  | inr more ↦ let same : n ≡ k = omega (arith, lt, more) in subst (λ m. p m ≡ true) same (both (p n) (all_below n p) h).0
]

-- whether the number is one of so many from the first on
abbrev pub in_run : ℕ → ℕ → ℕ → Bool
in_run first count number = nat_le first number && nat_lt number (first + count)

abbrev same : Bool → Bool → Bool
same a b = cond a b (not b)

-- all attributes from 1 to 16
abbrev holds : ℕ → ℕ → ℕ → Bool
holds first count number = not (nat_le (first + 1 + count) 17) || same (has (run_mask (first + 1) count) (number + 1)) (in_run (first + 1) count (number + 1))

all_hold : all_below 17 (λ first. all_below 17 (λ count. all_below 16 (λ number. holds first count number))) ≡ true
all_hold = refl

abbrev small : ℕ → ℕ → Bool
small first count = not (nat_le (first + 1 + count) 17) || nat_lt (run_mask (first + 1) count) 65536

all_small : all_below 17 (λ first. all_below 17 (λ count. small first count)) ≡ true
all_small = refl

follows : (a b : Bool) → (not a || b) ≡ true → a ≡ true → b ≡ true
follows true b h yes_is = h
follows false b h yes_is = absurd (false≢true yes_is)

same_is : (a b : Bool) → same a b ≡ true → a ≡ b
same_is true true h = refl
same_is true false h = absurd (false≢true h)
same_is false true h = absurd (false≢true h)
same_is false false h = refl

pub has_run : (first count number : ℕ) → first + 1 + count ≤ 17 → number < 16 → has (run_mask (first + 1) count) (number + 1) ≡ in_run (first + 1) count (number + 1)
has_run first count number few low =
    let f : first < 17 = omega (arith, few) in
    let c : count < 17 = omega (arith, few) in
    let test = at_below 16 (λ number. holds first count number) (at_below 17 (λ count. all_below 16 (λ number. holds first count number)) (at_below 17 (λ first. all_below 17 (λ count. all_below 16 (λ number. holds first count number))) all_hold first f) count c) number low in
    let fit : nat_le (first + 1 + count) 17 ≡ true = grind (arith, nat_tests, few) in
    same_is _ _ (follows _ _ test fit)

pub run_small : (first count : ℕ) → first + 1 + count ≤ 17 → run_mask (first + 1) count < 65536
run_small first count few =
    let f : first < 17 = omega (arith, few) in
    let c : count < 17 = omega (arith, few) in
    let test = at_below 17 (λ count. small first count) (at_below 17 (λ first. all_below 17 (λ count. small first count)) all_small first f) count c in
    let fit : nat_le (first + 1 + count) 17 ≡ true = grind (arith, nat_tests, few) in
    let less : nat_lt (run_mask (first + 1) count) 65536 ≡ true = follows _ _ test fit in
    grind (arith, nat_tests, less)
