-- What a refusal of a part says of the whole.
use Rattle.std.proofs.Common.{◌≡◌, ℕ, ◌+◌, List, ◌∷◌, false, Result, sym, ap, ◌∙◌, subst}
use Rattle.capture_spec.specs.Runs.{Lines}
use Rattle.capture_spec.specs.Input.{item_at, item_in, lines_reading, header_at, capture_reading}
use Rattle.script_spec.specs.Text.{lines_of, words_of, is_passed_over, opening}
use Rattle.script_spec.specs.Reading.{on_line, as_header}
use Rattle.line_words.specs.Answers.{FailsScript, LacksHeader}
use Rattle.line_words.specs.declared.refusal.ScriptRefusal.{ScriptRefusal}
use Rattle.line_words.specs.declared.refusal.ScriptRefusal.TheVariants.{Fault, NoMemory}
use Rattle.capture_run.proofs.Loops.{with_front, fails, no_item, no_opening, no_header}

pub item_fails : (e : ScriptRefusal) (line : ℕ) (text : List ℕ) → is_passed_over text ≡ false
    → FailsScript e (on_line line (item_at (words_of text)))
    → FailsScript e (on_line line (item_in text))
item_fails NoMemory line text plain failed = tt
item_fails (Fault at reason) line text plain failed = no_item line text (at, reason) plain failed

pub lines_fail : (e : ScriptRefusal) (front : Lines) (line : ℕ) (text : List ℕ)
    (texts left : List (List ℕ)) (all : Result Lines (ℕ × ℕ)) → left ≡ text ∷ texts
    → with_front front (lines_reading line left) ≡ all
    → FailsScript e (on_line line (item_in text)) → FailsScript e all
lines_fail NoMemory front line text texts left all is so_far failed = tt
lines_fail (Fault at reason) front line text texts left all is so_far failed =
    sym so_far ∙ ap (λ ls. with_front front (lines_reading line ls)) is
    ∙ fails front line text texts (at, reason) failed

pub opening_fails : (bytes : List ℕ) (e : ScriptRefusal) → LacksHeader e bytes
    → FailsScript e (capture_reading bytes)
opening_fails bytes e lacks =
    subst (λ refusal. FailsScript refusal (capture_reading bytes)) (sym lacks.2)
    (no_opening bytes lacks.0 lacks.1)

pub header_fails : (bytes : List ℕ) (e : ScriptRefusal) (line : ℕ) (text : List ℕ)
    (texts : List (List ℕ)) → opening 1 (lines_of bytes) ≡ (line, text ∷ texts)
    → FailsScript e (as_header line (header_at (words_of text)))
    → FailsScript e (capture_reading bytes)
header_fails bytes NoMemory line text texts opens failed = tt
header_fails bytes (Fault at reason) line text texts opens failed =
    no_header bytes line text texts (at, reason) opens failed
