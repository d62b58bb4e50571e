-- What a refusal of a part says of the whole.
use Rattle.std.proofs.Common.{◌≡◌, ℕ, ◌+◌, List, ◌∷◌, false, Result, Ok, sym, ap, ◌∙◌, subst}
use Rattle.script_spec.specs.declared.Document.{Document}
use Rattle.script_spec.specs.Script.{Action}
use Rattle.script_spec.specs.Text.{lines_of, words_of, is_passed_over, opening}
use Rattle.script_spec.specs.Reading.{on_line, as_header, line_action, event_at, events_reading}
use Rattle.script_spec.specs.Reading.{whole_reading}
use Rattle.line_words.specs.Answers.{FailsScript, LacksHeader}
use Rattle.line_words.specs.declared.refusal.ScriptRefusal.{ScriptRefusal}
use Rattle.line_words.specs.declared.refusal.ScriptRefusal.TheVariants.{Fault, NoMemory}
use Rattle.replay_script.proofs.Loops.{with_front, fails, no_event, no_opening, no_header}
use Rattle.replay_script.proofs.Loops.{no_events}

pub event_fails : (e : ScriptRefusal) (document : Document) (line : ℕ) (text : List ℕ)
    → is_passed_over text ≡ false
    → FailsScript e (on_line line (line_action document (words_of text)))
    → FailsScript e (on_line line (event_at document text))
event_fails NoMemory document line text plain failed = tt
event_fails (Fault at reason) document line text plain failed =
    no_event document line text (at, reason) plain failed

pub events_fail : (e : ScriptRefusal) (document : Document) (front : List Action) (line : ℕ)
    (text : List ℕ) (lines left : List (List ℕ)) (all : Result (List Action) (ℕ × ℕ))
    → left ≡ text ∷ lines → with_front front (events_reading document line left) ≡ all
    → FailsScript e (on_line line (event_at document text)) → FailsScript e all
events_fail NoMemory document front line text lines left all is so_far failed = tt
events_fail (Fault at reason) document front line text lines left all is so_far failed =
    sym so_far ∙ ap (λ ls. with_front front (events_reading document line ls)) is
    ∙ fails document front line text lines (at, reason) failed

module _ {A B : Type 0} (head : List (List ℕ) → Result A ℕ) (made : A → List Action → B)
    (document : Document) (bytes : List ℕ) where
  pub opening_fails : (e : ScriptRefusal) → LacksHeader e bytes
      → FailsScript e (whole_reading head made document bytes)
  opening_fails e lacks =
      subst (λ refusal. FailsScript refusal (whole_reading head made document bytes)) (sym lacks.2)
      (no_opening head made document bytes lacks.0 lacks.1)

  pub header_fails : (e : ScriptRefusal) (line : ℕ) (text : List ℕ) (lines : List (List ℕ))
      → opening 1 (lines_of bytes) ≡ (line, text ∷ lines)
      → FailsScript e (as_header line (head (words_of text)))
      → FailsScript e (whole_reading head made document bytes)
  header_fails NoMemory line text lines opens failed = tt
  header_fails (Fault at reason) line text lines opens failed =
      no_header head made document bytes line text lines (at, reason) opens failed

  pub later_fails : (e : ScriptRefusal) (line : ℕ) (text : List ℕ) (lines : List (List ℕ))
      (header : A) → opening 1 (lines_of bytes) ≡ (line, text ∷ lines)
      → as_header line (head (words_of text)) ≡ Ok header
      → FailsScript e (events_reading document (line + 1) lines)
      → FailsScript e (whole_reading head made document bytes)
  later_fails NoMemory line text lines header opens begun failed = tt
  later_fails (Fault at reason) line text lines header opens begun failed =
      no_events head made document bytes line text lines header (at, reason) opens begun failed
