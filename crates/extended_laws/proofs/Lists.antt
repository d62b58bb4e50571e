-- What stands one after the other in bytes, each with its own size: read one by one, and read again
-- as it was written.
use Rattle.std.proofs.Common.{◌≡◌, ℕ, zero, suc, ◌+◌, ◌-◌, ◌<◌, ◌≤◌, Bool, true, false, List, [], ◌∷◌, length, drop, Option, Some, None, nat_lt, refl, sym, ap, ◌∙◌, arith}
use Rattle.std.proofs.lemmas.Bool.{ltb-false, le-ltb, lt-ltb}
use Rattle.extended_spec.specs.Layouts.{each_after, need_after, cut_or}

-- what is passed over is dropped
each_passed : {A : Type 0} (size : List ℕ → ℕ) (one : List ℕ → A) (passed : ℕ) (bytes : List ℕ) → each_after size one passed bytes ≡ each_after size one 0 (drop passed bytes)
unfolding each_after
each_passed size one zero bytes = refl
each_passed size one (suc passed) [] = refl
each_passed size one (suc passed) (byte ∷ rest) = each_passed size one passed rest

need_passed : (size : List ℕ → ℕ) (before passed : ℕ) (bytes : List ℕ) → need_after size before passed bytes ≡ need_after size before 0 (drop passed bytes)
unfolding need_after
need_passed size before zero bytes = refl
need_passed size before (suc passed) [] = refl
need_passed size before (suc passed) (byte ∷ rest) = need_passed size before passed rest

drop_some : (n byte : ℕ) (rest : List ℕ) → 0 < n → drop (n - 1) rest ≡ drop n (byte ∷ rest)
drop_some zero byte rest some = absurd (omega arith)
drop_some (suc n) byte rest some = let same : suc n - 1 ≡ n = omega arith in ap (λ (k : ℕ). drop k rest) same

-- the first, and then those after it
pub each_more : {A : Type 0} (size : List ℕ → ℕ) (one : List ℕ → A) (bytes : List ℕ) → 0 < length bytes → 0 < size bytes →
    each_after size one 0 bytes ≡ one bytes ∷ each_after size one 0 (drop (size bytes) bytes)
unfolding each_after
each_more size one [] there some = absurd (omega arith)
each_more {A} size one (byte ∷ rest) there some =
    ap (λ (xs : List A). one (byte ∷ rest) ∷ xs)
    (each_passed size one (size (byte ∷ rest) - 1) rest ∙ ap (each_after size one 0) (drop_some (size (byte ∷ rest)) byte rest some))

pub need_more : (size : List ℕ → ℕ) (before : ℕ) (bytes : List ℕ) → 0 < length bytes → 0 < size bytes →
    need_after size before 0 bytes
    ≡ cut_or (nat_lt (length bytes) (size bytes)) (before + size bytes) (need_after size (before + size bytes) 0 (drop (size bytes) bytes))
unfolding need_after
need_more size before [] there some = absurd (omega arith)
need_more size before (byte ∷ rest) there some =
    ap (cut_or (nat_lt (length (byte ∷ rest)) (size (byte ∷ rest))) (before + size (byte ∷ rest)))
    (need_passed size (before + size (byte ∷ rest)) (size (byte ∷ rest) - 1) rest
    ∙ ap (need_after size (before + size (byte ∷ rest)) 0) (drop_some (size (byte ∷ rest)) byte rest some))

-- what is left where nothing was cut
pub whole : (cut : Bool) (need : ℕ) (further : Option ℕ) → cut_or cut need further ≡ None → (cut ≡ false) × (further ≡ None)
whole true need further none = absurd cc
whole false need further none = (refl, none)

pub record IsWhole (size : List ℕ → ℕ) (before : ℕ) (bytes : List ℕ) : Type 0 where
  pub fits : size bytes ≤ length bytes
  pub further : need_after size (before + size bytes) 0 (drop (size bytes) bytes) ≡ None

pub whole_first : (size : List ℕ → ℕ) (before : ℕ) (bytes : List ℕ) → 0 < length bytes → 0 < size bytes → need_after size before 0 bytes ≡ None → IsWhole size before bytes
whole_first size before bytes there some none =
    let both = whole _ _ _ (sym (need_more size before bytes there some) ∙ none) in
    record { fits = ltb-false (length bytes) (size bytes) both.0; further = both.1 }

pub cut_first : (size : List ℕ → ℕ) (before : ℕ) (bytes : List ℕ) → 0 < length bytes → length bytes < size bytes → need_after size before 0 bytes ≡ Some (before + size bytes)
cut_first size before bytes there cut =
    need_more size before bytes there (omega arith)
    ∙ ap (λ (b : Bool). cut_or b (before + size bytes) (need_after size (before + size bytes) 0 (drop (size bytes) bytes))) (lt-ltb (length bytes) (size bytes) cut)

pub whole_more : (size : List ℕ → ℕ) (before : ℕ) (bytes : List ℕ) → 0 < size bytes → size bytes ≤ length bytes → need_after size before 0 bytes ≡ need_after size (before + size bytes) 0 (drop (size bytes) bytes)
whole_more size before bytes some fits =
    need_more size before bytes (omega arith) some
    ∙ ap (λ (b : Bool). cut_or b (before + size bytes) (need_after size (before + size bytes) 0 (drop (size bytes) bytes))) (le-ltb (length bytes) (size bytes) fits)
