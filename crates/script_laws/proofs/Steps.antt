-- Steps of reading, one after the other, and tests of each element.
use Rattle.std.proofs.Common.{◌≡◌, ℕ, Bool, true, false, cond, List, [], ◌∷◌, Option, Some, None}
use Rattle.std.proofs.Common.{Result, Ok, Err, refl, ap}
use Rattle.std.specs.List.{AllPass, list_all}
use Rattle.std.proofs.lemmas.Bool.{and_parts, and_from}
use Rattle.std.proofs.lemmas.List.Elements.{All-nil, All-cons, All-head, All-tail}
use Rattle.script_spec.specs.Reading.{◌>>=◌, or_reason}

pub bind_ok : {A B E : Type 0} (r : Result A E) (f : A → Result B E) (y : B) → (r >>= f) ≡ Ok y
    → (x : A) × (r ≡ Ok x) × (f x ≡ Ok y)
bind_ok (Ok x) f y h = (x, refl, h)
bind_ok (Err e) f y h = cc

pub ok_same : {A E : Type 0} {x y : A} → ◌≡◌ {A = Result A E} (Ok x) (Ok y) → x ≡ y
ok_same h = cc

pub or_reason_ok : {A : Type 0} (reason : ℕ) (o : Option A) (v : A) → or_reason reason o ≡ Ok v
    → o ≡ Some v
or_reason_ok reason (Some w) v h = ap Some cc
or_reason_ok reason None v h = cc

-- what a test that has passed shows
pub chosen_some : {A : Type 0} (b : Bool) (x y : A) → cond b (Some x) None ≡ Some y
    → (b ≡ true) × (x ≡ y)
chosen_some true x y h = (refl, cc)
chosen_some false x y h = cc

-- ---- tests of each element

pub list_all-AllPass : {X : Type 0} (p : X → Bool) (xs : List X) → list_all p xs ≡ true
    → AllPass p xs
list_all-AllPass p [] h = All-nil _
list_all-AllPass p (x ∷ xs) h =
    All-cons (λ y. p y ≡ true) x xs (and_parts (p x) (list_all p xs) h).0
    (list_all-AllPass p xs (and_parts (p x) (list_all p xs) h).1)

pub AllPass-list_all : {X : Type 0} (p : X → Bool) (xs : List X) → AllPass p xs
    → list_all p xs ≡ true
AllPass-list_all p [] h = refl
AllPass-list_all p (x ∷ xs) h =
    and_from (p x) (list_all p xs) (All-head (λ y. p y ≡ true) x xs h)
    (AllPass-list_all p xs (All-tail (λ y. p y ≡ true) x xs h))
