-- The words that are left of a line.
use Rattle.std.proofs.Common.{◌≡◌, ℕ, List, ◌∷◌, Option, Some, None, Ok, Err, sym, ap, ◌∙◌}
use Rattle.script_spec.specs.Text.{words_of}
use Rattle.script_spec.specs.Reading.{word_at}
use Rattle.line_words.specs.Answers.{words_left}

-- no word is left
pub none_left : (rest : Option (List ℕ)) (words : List (List ℕ)) → words_left rest ≡ words
    → rest ≡ None → word_at words ≡ Err 1
none_left rest words view none = ap word_at (sym view ∙ ap words_left none)

-- the first word of the text that is left
pub some_left : (rest : Option (List ℕ)) (words : List (List ℕ)) (text word : List ℕ)
    (left : Option (List ℕ)) → words_left rest ≡ words → rest ≡ Some text
    → words_of text ≡ word ∷ words_left left → word_at words ≡ Ok (word, words_left left)
some_left rest words text word left view some first =
    ap word_at (sym view ∙ ap words_left some ∙ first)
