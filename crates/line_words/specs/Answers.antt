-- How an answer of the code stands to what reading gives.
use Rattle.std.specs.Prelude.{◌≡◌, ◌≢◌, ℕ, Bool, true, false, ◌⊎◌, List, [], ◌∷◌, ◌++◌, codes}
use Rattle.std.specs.Prelude.{Option, Some, None, Result, Ok, Err}
use Rattle.extended_frames.specs.declared.front.Shown.{Shown}
use Rattle.extended_frames.specs.declared.front.Shown.TheVariants as shown
use Rattle.script_spec.specs.declared.Line.{Line}
use Rattle.script_spec.specs.declared.TheConstants.{HEADER_FAULT}
use Rattle.script_spec.specs.Text.{lines_of, words_of, after_name, opening}
use Rattle.script_spec.specs.Reading.{or_among}
use Rattle.line_words.specs.declared.lines.FirstLine.{FirstLine}
use Rattle.line_words.specs.declared.refusal.LineRefusal.{LineRefusal}
use Rattle.line_words.specs.declared.refusal.LineRefusal.TheVariants as refused
use Rattle.line_words.specs.declared.refusal.ScriptRefusal.{ScriptRefusal}
use Rattle.line_words.specs.declared.refusal.ScriptRefusal.TheVariants as script

-- the words of the text that is left, if one is
abbrev pub words_left : Option (List ℕ) → List (List ℕ)
words_left (Some text) = words_of text
words_left None = []

-- one of two kinds of line, by the end that the first word names, and the words after it
abbrev pub end_named : Line → Line → List (List ℕ) → Option (Line × List (List ℕ))
end_named unit olt words =
    or_among unit (after_name (codes "unit" ∷ []) words)
    (or_among olt (after_name (codes "olt" ∷ []) words) None)

-- whether a whole frame of either message set is shown
abbrev pub is_whole : Shown → Bool
is_whole (shown.Whole count) = true
is_whole shown.Open = false
is_whole (shown.Faulty fault) = false

-- what stands before a line feed, and the line's text: one carriage return at the end is no part of
-- it
abbrev pub IsTextOf : List ℕ → List ℕ → Type 0
IsTextOf line text =
    (line ≡ text ++ (13 ∷ [])) ⊎ ((text ≡ line) × ((front : List ℕ) → line ≢ front ++ (13 ∷ [])))

-- the answer, seen by `view`, is what reading a line gives, unless memory ran out
abbrev pub Fails : {Y : Type 0} → LineRefusal → Result Y ℕ → Type 0
Fails (refused.Reason reason) read = read ≡ Err reason
Fails refused.NoMemory read = Unit {0}

abbrev pub Gives : {X Y : Type 0} → (X → Y) → Result X LineRefusal → Result Y ℕ → Type 0
Gives view (Ok value) read = read ≡ Ok (view value)
Gives view (Err refusal) read = Fails refusal read

-- the same for a script's lines
abbrev pub FailsScript : {Y : Type 0} → ScriptRefusal → Result Y (ℕ × ℕ) → Type 0
FailsScript (script.Fault line reason) read = read ≡ Err (line, reason)
FailsScript script.NoMemory read = Unit {0}

abbrev pub GivesScript : {X Y : Type 0} → (X → Y) → Result X ScriptRefusal → Result Y (ℕ × ℕ)
    → Type 0
GivesScript view (Ok value) read = read ≡ Ok (view value)
GivesScript view (Err refusal) read = FailsScript refusal read

-- what the bytes write, a script or orders, is the answer, unless memory ran out
abbrev pub ReadsOnly : {A : Type 0} → (A → List ℕ → Type 0) → Result A ScriptRefusal → List ℕ
    → Type 0
ReadsOnly {A} writes answer bytes =
    (written : A) → writes written bytes → (answer ≡ Ok written) ⊎ (answer ≡ Err script.NoMemory)

-- a refusal for a fault names the first fault of the bytes
abbrev pub IsFaultOf : (List ℕ → Option (ℕ × ℕ)) → ScriptRefusal → List ℕ → Type 0
IsFaultOf first (script.Fault line reason) bytes = first bytes ≡ Some (line, reason)
IsFaultOf first script.NoMemory bytes = Unit {0}

-- the first fault of the bytes is the answer, unless memory ran out
abbrev pub RefusesOnly : {A : Type 0} → (List ℕ → Option (ℕ × ℕ)) → Result A ScriptRefusal → List ℕ
    → Type 0
RefusesOnly first answer bytes =
    (line reason : ℕ) → first bytes ≡ Some (line, reason)
    → (answer ≡ Err (script.Fault line reason)) ⊎ (answer ≡ Err script.NoMemory)

-- the first line that isn't passed over, with its number and the bytes after it
abbrev pub IsFirstLine : FirstLine → List ℕ → Type 0
IsFirstLine first bytes =
    opening 1 (lines_of bytes) ≡ (first.line, first.text.now ∷ lines_of first.rest.now)

-- no line is left where the header's would stand
abbrev pub LacksHeader : ScriptRefusal → List ℕ → Type 0
LacksHeader refusal bytes =
    (line : ℕ) × (opening 1 (lines_of bytes) ≡ (line, []))
    × (refusal ≡ script.Fault line HEADER_FAULT)
