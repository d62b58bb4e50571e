-- The words so far, and those that are left.
use Rattle.std.proofs.Common.{◌≡◌, ℕ, zero, suc, ◌+◌, ◌≤◌, List, [], ◌∷◌, ◌++◌, length, drop, map, refl, sym, ◌∙◌, ap, append_assoc, arith, get_or}
use Rattle.std.proofs.lemmas.List.{append-nil}
use Rattle.std.proofs.Math.Seq.{drop-cons}

-- one word more
pub next_word : {A : Type 0} (f : A → List ℕ) (arguments : List A) (place : ℕ) (first : A) (words more whole : List (List ℕ)) (word : List ℕ) → suc place ≤ length arguments → words ++ map f (drop place arguments) ≡ whole → word ≡ f (get_or arguments place first) → more ≡ words ++ word ∷ [] → more ++ map f (drop (place + 1) arguments) ≡ whole
next_word f arguments place first words more whole word here so_far is pushed =
    let cut = drop-cons arguments place first here in
    let one : place + 1 ≡ suc place = omega arith in
    ap (λ ws. ws ++ map f (drop (place + 1) arguments)) (pushed ∙ ap (λ w. words ++ w ∷ []) is)
    ∙ append_assoc words (f (get_or arguments place first) ∷ []) (map f (drop (place + 1) arguments))
    ∙ ap (λ k. words ++ f (get_or arguments place first) ∷ map f (drop k arguments)) one
    ∙ ap (λ rest. words ++ map f rest) (sym cut)
    ∙ so_far
