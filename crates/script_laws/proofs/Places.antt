-- Texts cut at the first byte of a kind.
use Rattle.std.proofs.Common.{◌≡◌, ◌≢◌, ℕ, suc, ◌+◌, ◌-◌, ◌<◌, ◌==◌, Bool, true, false, cond, List}
use Rattle.std.proofs.Common.{[], ◌∷◌, ◌++◌, ◌⊎◌, inl, inr, length, take, drop, get_or, Some, None}
use Rattle.std.proofs.Common.{refl, sym, ap, ◌∙◌, subst, arith, add-one, length-take, length-append}
use Rattle.std.proofs.Common.{append_assoc}
use Rattle.std.specs.List.{All, position, position_or_len}
use Rattle.std.proofs.lemmas.Bool.{eqb-true, eqb-false, ltb-false}
use Rattle.std.proofs.lemmas.List.{take-append-drop, get_or-take, get_or_append_left, take_rest}
use Rattle.std.proofs.Math.Seq.{drop-cons}
use Rattle.std.proofs.lemmas.List.Sums.{fails_before_first}
use Rattle.std.proofs.lemmas.List.Quantifiers.{position-Some}
use Rattle.script_spec.specs.Text.{lines_of, words_of}
use Rattle.script_laws.proofs.Lines.{NotFeed, IsOneLine, NoReturn, lines_of-feed, lines_of-return}
use Rattle.script_laws.proofs.Lines.{lines_of-last, no_lines}
use Rattle.script_laws.proofs.Words.{words_of-space, words_of-last}

abbrev Differs : ℕ → ℕ → Type 0
Differs wanted b = b ≢ wanted

not_chosen : {X : Type 0} (t : Bool) (x : X) → cond t (Some x) None ≡ None → t ≡ false
not_chosen true x e = cc
not_chosen false x e = refl

-- where no byte is the wanted one
pub no_place : (wanted : ℕ) (xs : List ℕ) → position (λ b. b == wanted) xs ≡ None
    → All (Differs wanted) xs
no_place wanted xs none =
    let past =
    ltb-false (position_or_len (λ b. b == wanted) xs) (length xs) (not_chosen _ _ none) in
    λ k d lt.
    eqb-false (get_or xs k d) wanted
    (fails_before_first (λ b. b == wanted) xs k d (omega arith))

-- a list cut at the first byte that is the wanted one
pub record CutAt (wanted : ℕ) (xs : List ℕ) (at : ℕ) : Type 0 where
  pub inside : at < length xs
  pub before : All (Differs wanted) (take at xs)
  pub whole : xs ≡ take at xs ++ (wanted ∷ drop (at + 1) xs)

before_differs : (wanted : ℕ) (xs : List ℕ) (at : ℕ) → position (λ b. b == wanted) xs ≡ Some at
    → (k d : ℕ) → k < at → get_or (take at xs) k d ≢ wanted
before_differs wanted xs at found k d below e =
    let is = position-Some (λ b. b == wanted) xs at d found in
    eqb-false (get_or xs k d) wanted (is.2 k below) (sym (get_or-take at xs k d below) ∙ e)

pub place_cuts : (wanted : ℕ) (xs : List ℕ) (at : ℕ) → position (λ b. b == wanted) xs ≡ Some at
    → CutAt wanted xs at
place_cuts wanted xs at found =
    let is = position-Some (λ b. b == wanted) xs at 0 found in
    let here : get_or xs at 0 ≡ wanted = eqb-true (get_or xs at 0) wanted is.1 in
    let tail : drop at xs ≡ wanted ∷ drop (at + 1) xs =
    drop-cons xs at 0 is.0 ∙ ap (λ b. b ∷ drop (suc at) xs) here
    ∙ ap (λ n. wanted ∷ drop n xs) (sym (add-one at)) in
    record {
      inside = is.0;
      before = λ k d lt. before_differs wanted xs at found k d (omega (arith, length-take at xs));
      whole = sym (take-append-drop at xs) ∙ ap (λ rest. take at xs ++ rest) tail;
    }

-- ---- lines

-- what stands before a line feed, and the line's text
abbrev pub IsTextOf : List ℕ → List ℕ → Type 0
IsTextOf line text = (line ≡ text ++ (13 ∷ [])) ⊎ ((text ≡ line) × NoReturn line)

pub lines_of-none : (bytes : List ℕ) → 0 < length bytes → position (λ b. b == 10) bytes ≡ None
    → lines_of bytes ≡ bytes ∷ lines_of []
lines_of-none bytes some none =
    lines_of-last bytes (no_place 10 bytes none) (λ e. absurd (omega (arith, ap length e)))
    ∙ ap (λ lines. bytes ∷ lines) (sym no_lines)

front_plain : (line text : List ℕ) → line ≡ text ++ (13 ∷ []) → IsOneLine line → IsOneLine text
front_plain line text is plain = λ k d lt.
    let same : get_or line k d ≡ get_or text k d =
    ap (λ l. get_or l k d) is ∙ get_or_append_left text (13 ∷ []) d k lt in
    let inside : k < length line = omega (arith, ap length is, length-append text (13 ∷ [])) in
    subst NotFeed same (plain k d inside)

pub lines_of-cut : (bytes text : List ℕ) (at : ℕ) → position (λ b. b == 10) bytes ≡ Some at
    → IsTextOf (take at bytes) text
    → lines_of bytes ≡ text ∷ lines_of (take (length bytes - (at + 1)) (drop (at + 1) bytes))
lines_of-cut bytes text at found (inl return) =
    let cut = place_cuts 10 bytes at found in
    let rest = drop (at + 1) bytes in
    ap lines_of
    (cut.whole ∙ ap (λ line. line ++ (10 ∷ rest)) return
    ∙ append_assoc text (13 ∷ []) (10 ∷ rest))
    ∙ lines_of-return text rest (front_plain (take at bytes) text return cut.before)
    ∙ ap (λ left. text ∷ lines_of left) (sym (take_rest bytes (at + 1)))
lines_of-cut bytes text at found (inr plain) =
    let cut = place_cuts 10 bytes at found in
    ap lines_of cut.whole ∙ lines_of-feed (take at bytes) (drop (at + 1) bytes) cut.before plain.1
    ∙ ap (λ line. line ∷ lines_of (drop (at + 1) bytes)) (sym plain.0)
    ∙ ap (λ left. text ∷ lines_of left) (sym (take_rest bytes (at + 1)))

-- ---- words

pub words_of-none : (text : List ℕ) → position (λ b. b == 32) text ≡ None
    → words_of text ≡ text ∷ []
words_of-none text none = words_of-last text (no_place 32 text none)

pub words_of-cut : (text : List ℕ) (at : ℕ) → position (λ b. b == 32) text ≡ Some at
    → words_of text ≡ take at text ∷ words_of (take (length text - (at + 1)) (drop (at + 1) text))
words_of-cut text at found =
    let cut = place_cuts 32 text at found in
    ap words_of cut.whole ∙ words_of-space (take at text) (drop (at + 1) text) cut.before
    ∙ ap (λ rest. take at text ∷ words_of rest) (sym (take_rest text (at + 1)))
