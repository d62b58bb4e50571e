-- The last n items of a list, and one more at its end.
use Rattle.std.proofs.Common.{◌≡◌, ℕ, ◌+◌, ◌-◌, ◌≤◌, List, [], ◌∷◌, ◌++◌, length, drop, sym, ap, ◌∙◌, arith, length-append}
use Rattle.std.proofs.lemmas.List.{drop-append-le, length-drop, drop-drop}
use Rattle.circular_buffer.specs.Buffer.{keep_last}

module _ {X : Type 0} where
  -- one more of the last n is one more of all
  pub keep_last-more : (n : ℕ) (xs : List X) (x : X) → keep_last n (xs ++ x ∷ []) ≡ keep_last n (keep_last n xs ++ x ∷ [])
  keep_last-more n xs x =
      let d = length xs - n in
      let all : length (xs ++ x ∷ []) ≡ length xs + 1 = length-append xs (x ∷ []) in
      let kept : length (drop d xs ++ x ∷ []) ≡ length xs - d + 1 = length-append (drop d xs) (x ∷ []) ∙ ap (λ k. k + 1) (length-drop d xs) in
      let within : d ≤ length xs = omega arith in
      let steps : d + (length (drop d xs ++ x ∷ []) - n) ≡ length (xs ++ x ∷ []) - n = omega arith in
      sym (ap (drop (length (drop d xs ++ x ∷ []) - n)) (sym (drop-append-le d xs (x ∷ []) within))
      ∙ drop-drop (length (drop d xs ++ x ∷ []) - n) d (xs ++ x ∷ [])
      ∙ ap (λ k. drop k (xs ++ x ∷ [])) steps)

  -- the place of the first of the last n
  pub before_last : (n : ℕ) (xs : List X) → length xs - length (keep_last n xs) ≡ length xs - n
  before_last n xs = let kept : length (keep_last n xs) ≡ length xs - (length xs - n) = length-drop (length xs - n) xs in omega arith
