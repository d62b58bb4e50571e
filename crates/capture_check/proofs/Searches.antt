-- What it says that there is a place with a property, and which is the first or the last one.
use Rattle.std.proofs.Common.{◌≡◌, ℕ, zero, suc, ◌+◌, ◌<◌, ◌≤◌, Bool, true, false, Option, Some, None, nat_le, ◌&&◌, refl, sym, ap, subst, ◌∙◌, inl, inr, arith, true≢false, le-leb, leb-true}
use Rattle.std.specs.Prelude.{if◌then◌else◌}
use Rattle.std.proofs.lemmas.Bool.{cases_eq, cases_Bool, or_parts, or_from, and_left, and_right, true_from_ne_false}
use Rattle.capture_spec.specs.Places.{any_between, or_else, first_place, last_place, count_places}

pub same_bool : (a b : Bool) → (a ≡ true → b ≡ true) → (b ≡ true → a ≡ true) → a ≡ b
same_bool true b to back = sym (to refl)
same_bool false true to back = back refl
same_bool false false to back = refl

second : (a b : Bool) → a ≡ true → (a && b) ≡ false → b ≡ false
second true b is h = h
second false b is h = absurd (true≢false (sym is))

-- ---- any_between

pub none_each : (from to : ℕ) (p : ℕ → Bool) → any_between from to p ≡ false → (k : ℕ) → from ≤ k → k < to → p k ≡ false
unfolding any_between
none_each from zero p none k le lt = absurd (omega arith)
none_each from (suc to) p none k le lt = elim (cases_eq k to) as (λ _. p k ≡ false) [
  | inl same ↦ subst (λ j. p j ≡ false) (sym same) (second (nat_le from to) (p to) (le-leb from to (omega arith)) (or_parts (nat_le from to && p to) (any_between from to p) none).0)
  | inr differ ↦ none_each from to p (or_parts (nat_le from to && p to) (any_between from to p) none).1 k le (omega arith)
]

pub none_between : (from to : ℕ) (p : ℕ → Bool) → ((k : ℕ) → from ≤ k → k < to → p k ≡ false) → any_between from to p ≡ false
unfolding any_between
none_between from zero p none = refl
none_between from (suc to) p none = or_from (nat_le from to && p to) (any_between from to p)
    (elim (cases_Bool (nat_le from to)) as (λ _. (nat_le from to && p to) ≡ false) [
      | inl is ↦ and_right (nat_le from to) (p to) (none to (leb-true from to is) (omega arith))
      | inr out ↦ and_left (nat_le from to) (p to) out
    ])
    (none_between from to p (λ k le lt. none k le (omega arith)))

pub some_between : (from to : ℕ) (p : ℕ → Bool) (k : ℕ) → from ≤ k → k < to → p k ≡ true → any_between from to p ≡ true
some_between from to p k le lt is = true_from_ne_false (any_between from to p) (λ none. true≢false (sym is ∙ none_each from to p none k le lt))

-- ---- last_place

pub record IsLast (n : ℕ) (p : ℕ → Bool) (m : ℕ) : Type 0 where
  pub below : m < n
  pub has : p m ≡ true
  pub after : (k : ℕ) → m < k → k < n → p k ≡ false

abbrev or_zero : Option ℕ → ℕ
or_zero (Some m) = m
or_zero None = 0

none_some : (m : ℕ) → ◌≡◌ {A = Option ℕ} None (Some m) → ⊥
none_some m e = cc

last_by : (b : Bool) (n : ℕ) (p : ℕ → Bool) (m : ℕ) → p n ≡ b → (if b then Some n else last_place n p) ≡ Some m → (last_place n p ≡ Some m → IsLast n p m) → IsLast (suc n) p m
last_by true n p m is e before =
    let same : n ≡ m = ap or_zero e in
    record { below = omega arith; has = subst (λ j. p j ≡ true) same is; after = λ k le lt. absurd (omega arith) }
last_by false n p m is e before =
    let last = before e in
    record {
      below = omega (arith, last.below);
      has = last.has;
      after = λ k le lt. elim (cases_eq k n) as (λ _. p k ≡ false) [
        | inl same ↦ subst (λ j. p j ≡ false) (sym same) is
        | inr differ ↦ last.after k le (omega arith)
      ];
    }

pub last_some : (n : ℕ) (p : ℕ → Bool) (m : ℕ) → last_place n p ≡ Some m → IsLast n p m
unfolding last_place
last_some zero p m e = absurd (none_some m e)
last_some (suc n) p m e = last_by (p n) n p m refl e (last_some n p m)

none_by : (b : Bool) (n : ℕ) (p : ℕ → Bool) (k : ℕ) → p n ≡ b → (if b then Some n else last_place n p) ≡ None → (last_place n p ≡ None → k < n → p k ≡ false) → k < suc n → p k ≡ false
none_by true n p k is e before lt = absurd (none_some n (sym e))
none_by false n p k is e before lt = elim (cases_eq k n) as (λ _. p k ≡ false) [
  | inl same ↦ subst (λ j. p j ≡ false) (sym same) is
  | inr differ ↦ before e (omega arith)
]

pub last_none : (n : ℕ) (p : ℕ → Bool) → last_place n p ≡ None → (k : ℕ) → k < n → p k ≡ false
unfolding last_place
last_none zero p e k lt = absurd (omega arith)
last_none (suc n) p e k lt = none_by (p n) n p k refl e (λ none. last_none n p none k) lt

pub last_never : (n : ℕ) (p : ℕ → Bool) → ((k : ℕ) → k < n → p k ≡ false) → last_place n p ≡ None
unfolding last_place
last_never zero p none = refl
last_never (suc n) p none = rw (none n (omega arith)) (last_never n p (λ k lt. none k (omega arith)))

pub last_is : (n : ℕ) (p : ℕ → Bool) (m : ℕ) → m < n → p m ≡ true → ((k : ℕ) → m < k → k < n → p k ≡ false) → last_place n p ≡ Some m
unfolding last_place
last_is zero p m lt is after = absurd (omega arith)
last_is (suc n) p m lt is after = elim (cases_eq m n) as (λ _. (if p n then Some n else last_place n p) ≡ Some m) [
  | inl same ↦ rw (ap p (sym same) ∙ is) (ap (λ (j : ℕ). Some j) (sym same))
  | inr differ ↦ rw (after n (omega arith) (omega arith)) (last_is n p m (omega arith) is (λ k le less. after k le (omega arith)))
]

-- ---- first_place

pub or_else_none : {A : Type 0} (o : Option A) → or_else o None ≡ o
or_else_none (Some x) = refl
or_else_none None = refl

pub first_same : (n : ℕ) (p q : ℕ → Bool) → ((k : ℕ) → k < n → p k ≡ q k) → first_place n p ≡ first_place n q
unfolding first_place
first_same zero p q same = refl
first_same (suc n) p q same =
    ap (λ b. or_else (first_place n p) (if b then Some n else None)) (same n (omega arith))
    ∙ ap (λ o. or_else o (if q n then Some n else None)) (first_same n p q (λ k lt. same k (omega arith)))

pub first_never : (n : ℕ) (p : ℕ → Bool) → ((k : ℕ) → k < n → p k ≡ false) → first_place n p ≡ None
unfolding first_place
first_never zero p none = refl
first_never (suc n) p none =
    ap (λ b. or_else (first_place n p) (if b then Some n else None)) (none n (omega arith))
    ∙ or_else_none (first_place n p) ∙ first_never n p (λ k lt. none k (omega arith))

-- no place from one on has the property
pub first_beyond : (n m : ℕ) (p : ℕ → Bool) → m ≤ n → ((k : ℕ) → m ≤ k → k < n → p k ≡ false) → first_place n p ≡ first_place m p
unfolding first_place
first_beyond zero m p le none = let same : m ≡ 0 = omega arith in ap (λ j. first_place j p) (sym same)
first_beyond (suc n) m p le none = elim (cases_eq m (suc n)) as (λ _. or_else (first_place n p) (if p n then Some n else None) ≡ first_place m p) [
  | inl same ↦ ap (λ j. first_place j p) (sym same)
  | inr differ ↦ ap (λ b. or_else (first_place n p) (if b then Some n else None)) (none n (omega arith) (omega arith))
      ∙ or_else_none (first_place n p) ∙ first_beyond n m p (omega arith) (λ k less lt. none k less (omega arith))
]

pub first_found : (top n : ℕ) (p : ℕ → Bool) → first_place n p ≡ None → p n ≡ true → n < top → first_place top p ≡ Some n
unfolding first_place
first_found zero n p none is lt = absurd (omega arith)
first_found (suc top) n p none is lt = elim (cases_eq n top) as (λ _. or_else (first_place top p) (if p top then Some top else None) ≡ Some n) [
  | inl same ↦ subst (λ j. or_else (first_place j p) (if p j then Some j else None) ≡ Some n) same
      (ap (λ o. or_else o (if p n then Some n else None)) none ∙ ap (λ b. if b then Some n else None) is)
  | inr differ ↦ ap (λ o. or_else o (if p top then Some top else None)) (first_found top n p none is (omega arith))
]

-- one more place
pub first_next : (n : ℕ) (p : ℕ → Bool) → first_place (suc n) p ≡ or_else (first_place n p) (if p n then Some n else None)
unfolding first_place
first_next n p = refl

pub first_next_out : (n : ℕ) (p : ℕ → Bool) → p n ≡ false → first_place (suc n) p ≡ first_place n p
first_next_out n p out = first_next n p ∙ ap (λ b. or_else (first_place n p) (if b then Some n else None)) out ∙ or_else_none (first_place n p)

pub first_next_in : (n : ℕ) (p : ℕ → Bool) → p n ≡ true → first_place (suc n) p ≡ or_else (first_place n p) (Some n)
first_next_in n p is = first_next n p ∙ ap (λ b. or_else (first_place n p) (if b then Some n else None)) is

pub last_next_out : (n : ℕ) (p : ℕ → Bool) → p n ≡ false → last_place (suc n) p ≡ last_place n p
unfolding last_place
last_next_out n p out = ap (λ b. if b then Some n else last_place n p) out

pub last_next_in : (n : ℕ) (p : ℕ → Bool) → p n ≡ true → last_place (suc n) p ≡ Some n
unfolding last_place
last_next_in n p is = ap (λ b. if b then Some n else last_place n p) is

-- ---- count_places

pub count_next : (n : ℕ) (p : ℕ → Bool) → count_places (suc n) p ≡ count_places n p + (if p n then 1 else 0)
unfolding count_places
count_next n p = refl

if_le : (b : Bool) → (if b then 1 else 0) ≤ 1
if_le true = omega arith
if_le false = omega arith

pub count_le : (n : ℕ) (p : ℕ → Bool) → count_places n p ≤ n
unfolding count_places
count_le zero p = omega arith
count_le (suc n) p = omega (arith, count_le n p, if_le (p n))
