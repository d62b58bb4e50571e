-- The words of a text, and texts joined of words.
use Rattle.std.proofs.Common.{◌≡◌, ◌≢◌, ℕ, suc, ◌+◌, ◌==◌, List, [], ◌∷◌, ◌++◌, length, cond, refl}
use Rattle.std.proofs.Common.{sym, ap, ◌∙◌, inl, inr, arith}
use Rattle.std.specs.List.{All, join_with_byte, count_by}
use Rattle.std.proofs.lemmas.Bool.{ne_eqb, cases_eq, eq-eqb}
use Rattle.std.proofs.lemmas.List.Elements.{All-head, All-tail}
use Rattle.std.proofs.lemmas.List.Sums.{sum_by-cons}
use Rattle.script_spec.specs.Text.{words_of, words_with}

abbrev pub NotSpace : ℕ → Type 0
NotSpace b = b ≢ 32

-- no space stands in a word
abbrev pub IsOneWord : List ℕ → Type 0
IsOneWord word = All NotSpace word

-- a word, a space and a rest
pub words_of-space : (word rest : List ℕ) → IsOneWord word
    → words_of (word ++ (32 ∷ rest)) ≡ word ∷ words_of rest
unfolding words_of
words_of-space [] rest plain = refl
words_of-space (b ∷ word) rest plain =
    rw (
      words_of-space word rest (All-tail NotSpace b word plain),
      ne_eqb b 32 (All-head NotSpace b word plain),
    ) refl

-- a word that no space follows
pub words_of-last : (word : List ℕ) → IsOneWord word → words_of word ≡ word ∷ []
unfolding words_of
words_of-last [] plain = refl
words_of-last (b ∷ word) plain =
    rw (
      words_of-last word (All-tail NotSpace b word plain),
      ne_eqb b 32 (All-head NotSpace b word plain),
    ) refl

-- words that are joined are the words of the text
pub words_of-joined : (word : List ℕ) (words : List (List ℕ)) → IsOneWord word → All IsOneWord words
    → words_of (join_with_byte 32 (word ∷ words)) ≡ word ∷ words
words_of-joined word [] plain each = words_of-last word plain
words_of-joined word (next ∷ words) plain each =
    words_of-space word (join_with_byte 32 (next ∷ words)) plain
    ∙ ap (λ more. word ∷ more)
    (words_of-joined next words (All-head IsOneWord next words each)
    (All-tail IsOneWord next words each))

-- there is a first word
pub some_word : (text : List ℕ)
    → (word : List ℕ) × (words : List (List ℕ)) × (words_of text ≡ word ∷ words)
unfolding words_of
some_word [] = ([], [], refl)
some_word (b ∷ text) =
    let inner = some_word text in
    elim (cases_eq b 32) [
      | inl space ↦ ([], inner.0 ∷ inner.1, rw (eq-eqb b 32 space, inner.2) refl)
      | inr plain ↦ (b ∷ inner.0, inner.1, rw (ne_eqb b 32 plain, inner.2) refl)
    ]

-- the words of a text, joined, are the text
pub joined-words_of : (text : List ℕ) → join_with_byte 32 (words_of text) ≡ text
unfolding words_of
joined-words_of [] = refl
joined-words_of (b ∷ text) =
    let inner = some_word text in
    let joined : join_with_byte 32 (inner.0 ∷ inner.1) ≡ text =
    ap (join_with_byte 32) (sym inner.2) ∙ joined-words_of text in
    ap (λ words. join_with_byte 32 (words_with b words)) inner.2
    ∙ elim (cases_eq b 32) [
      | inl space ↦ rw (eq-eqb b 32 space)
          (ap (λ x. 32 ∷ x) joined ∙ ap (λ x. x ∷ text) (sym space))
      | inr plain ↦ rw (ne_eqb b 32 plain) (onto b inner.0 inner.1 ∙ ap (λ x. b ∷ x) joined)
    ]
  where
    onto : (b : ℕ) (word : List ℕ) (words : List (List ℕ))
        → join_with_byte 32 ((b ∷ word) ∷ words) ≡ b ∷ join_with_byte 32 (word ∷ words)
    onto b word [] = refl
    onto b word (next ∷ words) = refl

-- a space adds a word
length-words_with : (b : ℕ) (word : List ℕ) (words : List (List ℕ)) (n : ℕ)
    → suc (length words) ≡ n + 1 → length (words_with b (word ∷ words)) ≡ cond (b == 32) 1 0 + n + 1
length-words_with b word words n size =
    elim (cases_eq b 32) [
      | inl space ↦ rw (eq-eqb b 32 space) (omega arith)
      | inr plain ↦ rw (ne_eqb b 32 plain) (omega arith)
    ]

-- there is one word more than there are spaces
pub length-words_of : (text : List ℕ) → length (words_of text) ≡ count_by (λ b. b == 32) text + 1
unfolding words_of
length-words_of [] = refl
length-words_of (b ∷ text) =
    let inner = some_word text in
    let size : suc (length inner.1) ≡ count_by (λ b. b == 32) text + 1 =
    ap length (sym inner.2) ∙ length-words_of text in
    ap (λ words. length (words_with b words)) inner.2
    ∙ length-words_with b inner.0 inner.1 (count_by (λ b. b == 32) text) size
    ∙ ap (λ n. n + 1) (sym (sum_by-cons (λ x. cond (x == 32) 1 0) b text))
