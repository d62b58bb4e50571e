-- A line that is named by one word, and a kind of line in a document.
use Rattle.std.proofs.Common.{◌≡◌, ℕ, true, false, cond, List, [], ◌∷◌, ◌++◌, Option, Some, None}
use Rattle.std.proofs.Common.{Ok, Err, sym, ap, ◌∙◌}
use Rattle.script_spec.specs.declared.Document.{Document}
use Rattle.script_spec.specs.declared.Line.{Line}
use Rattle.script_spec.specs.declared.TheConstants.{WORD_FAULT}
use Rattle.script_spec.specs.Script.{row, has}
use Rattle.script_spec.specs.Reading.{word_at, or_reason, line_named, known_in}
use Rattle.script_laws.proofs.Steps.{or_reason_ok}
use Rattle.script_laws.proofs.Table.{named_again}
use Rattle.line_words.specs.Answers.{Fails}
use Rattle.line_words.specs.declared.refusal.LineRefusal.{LineRefusal}
use Rattle.line_words.specs.declared.refusal.LineRefusal.TheVariants.{Reason, NoMemory}

first_word : (words : List (List ℕ)) (word : List ℕ) (rest : List (List ℕ))
    → word_at words ≡ Ok (word, rest) → words ≡ word ∷ rest
first_word [] word rest h = cc
first_word (first ∷ words) word rest h =
    let both : (first, words) ≡ (word, rest) = cc in
    ap (λ (p : List ℕ × List (List ℕ)). p.0 ∷ p.1) both

-- the line whose name is the first of some words
pub line_by_word : (line : Line) (name : List ℕ) → (row line).name ≡ name ∷ []
    → (words : List (List ℕ)) (word : List ℕ) (rest : List (List ℕ))
    → word_at words ≡ Ok (word, rest) → word ≡ name
    → or_reason WORD_FAULT (line_named words) ≡ Ok (line, rest)
line_by_word line name named words word rest read is =
    let begun : words ≡ (row line).name ++ rest =
    first_word words word rest read ∙ ap (λ w. w ∷ rest) is ∙ ap (λ ws. ws ++ rest) (sym named) in
    ap (λ ws. or_reason WORD_FAULT (line_named ws)) begun
    ∙ ap (or_reason WORD_FAULT) (named_again line rest)

-- ---- a kind of line that the document has, or doesn't have

abbrev Found : Type 0
Found = Line × List (List ℕ)

pub known_line : (document : Document) (o : Option Found) (found : Found)
    → or_reason WORD_FAULT o ≡ Ok found → has document found.0 ≡ true
    → or_reason WORD_FAULT (known_in document o) ≡ Ok found
known_line document o found named there =
    ap (λ p. or_reason WORD_FAULT (known_in document p)) (or_reason_ok WORD_FAULT o found named)
    ∙ ap (λ b. or_reason WORD_FAULT (cond b (Some found) None)) there

pub unknown_line : (document : Document) (o : Option Found) (found : Found)
    → or_reason WORD_FAULT o ≡ Ok found → has document found.0 ≡ false
    → or_reason WORD_FAULT (known_in document o) ≡ Err WORD_FAULT
unknown_line document o found named there =
    ap (λ p. or_reason WORD_FAULT (known_in document p)) (or_reason_ok WORD_FAULT o found named)
    ∙ ap (λ b. or_reason WORD_FAULT (cond b (Some found) None)) there

pub unnamed_line : (refusal : LineRefusal) (document : Document) (o : Option Found)
    → Fails refusal (or_reason WORD_FAULT o)
    → Fails refusal (or_reason WORD_FAULT (known_in document o))
unnamed_line NoMemory document o failed = tt
unnamed_line (Reason reason) document None failed = failed
unnamed_line (Reason reason) document (Some found) failed = cc
