-- The lines so far, and what reading the lines that are left gives.
use Rattle.std.proofs.Common.{◌≡◌, ℕ, ◌+◌, List, [], ◌∷◌, ◌++◌, Option, Some, None, Result, Ok, Err}
use Rattle.std.proofs.Common.{refl, sym, ap, ◌∙◌, append_assoc, true, false}
use Rattle.std.proofs.lemmas.List.{append-nil}
use Rattle.std.specs.Option.{option_to_list}
use Rattle.script_spec.specs.Text.{words_of, is_passed_over}
use Rattle.script_spec.specs.Reading.{◌>>=◌, on_line}
use Rattle.line_words.specs.Answers.{FailsScript}
use Rattle.line_words.specs.declared.refusal.ScriptRefusal.{ScriptRefusal}
use Rattle.line_words.specs.declared.refusal.ScriptRefusal.TheVariants.{Fault, NoMemory}
use Rattle.meter_lines_spec.specs.declared.MeterLine.{MeterLine}
use Rattle.meter_lines_spec.specs.Lines.{line_of, line_at, lines_reading, with_line}

-- the lines so far, in front of those that reading gives
abbrev pub with_front : List MeterLine → Result (List MeterLine) (ℕ × ℕ)
    → Result (List MeterLine) (ℕ × ℕ)
with_front front read = read >>= λ later. Ok (front ++ later)

with_line-front : (front later : List MeterLine) (line : Option MeterLine)
    → (front ++ option_to_list line) ++ later ≡ front ++ with_line line later
with_line-front front later None = append_assoc front [] later
with_line-front front later (Some line) = append_assoc front (line ∷ []) later

-- one line more
pub goes_on : (front : List MeterLine) (number : ℕ) (text : List ℕ) (texts : List (List ℕ))
    (line : Option MeterLine) → on_line number (line_at text) ≡ Ok line
    → with_front (front ++ option_to_list line) (lines_reading (number + 1) texts)
    ≡ with_front front (lines_reading number (text ∷ texts))
unfolding lines_reading
goes_on front number text texts line is =
    moved front (lines_reading (number + 1) texts) line
    ∙ ap (λ read.
    with_front front
    (read >>= λ a. lines_reading (number + 1) texts >>= λ later. Ok (with_line a later))) (sym is)
  where
    moved : (front : List MeterLine) (read : Result (List MeterLine) (ℕ × ℕ))
        (line : Option MeterLine)
        → with_front (front ++ option_to_list line) read
        ≡ with_front front (read >>= λ later. Ok (with_line line later))
    moved front (Ok later) line = ap Ok (with_line-front front later line)
    moved front (Err e) line = refl

-- no line is left
pub ends : (front : List MeterLine) (number : ℕ)
    → with_front front (lines_reading number []) ≡ Ok front
unfolding lines_reading
ends front number = ap Ok (append-nil front)

-- a line with a fault
fails : (front : List MeterLine) (number : ℕ) (text : List ℕ) (texts : List (List ℕ))
    (fault : ℕ × ℕ) → on_line number (line_at text) ≡ Err fault
    → with_front front (lines_reading number (text ∷ texts)) ≡ Err fault
unfolding lines_reading
fails front number text texts fault is =
    ap (λ read.
    with_front front
    (read >>= λ a. lines_reading (number + 1) texts >>= λ later. Ok (with_line a later))) is

pub lines_fail : (e : ScriptRefusal) (front : List MeterLine) (number : ℕ) (text : List ℕ)
    (texts left : List (List ℕ)) (all : Result (List MeterLine) (ℕ × ℕ)) → left ≡ text ∷ texts
    → with_front front (lines_reading number left) ≡ all
    → FailsScript e (on_line number (line_at text)) → FailsScript e all
lines_fail NoMemory front number text texts left all is so_far failed = tt
lines_fail (Fault at reason) front number text texts left all is so_far failed =
    sym so_far ∙ ap (λ ls. with_front front (lines_reading number ls)) is
    ∙ fails front number text texts (at, reason) failed

-- ---- one line

pub passed_line : (number : ℕ) (text : List ℕ) → is_passed_over text ≡ true
    → on_line number (line_at text) ≡ Ok None
unfolding line_at
passed_line number text passed = rw passed refl

line_is : (text : List ℕ) → is_passed_over text ≡ false
    → line_at text ≡ (line_of (words_of text) >>= λ line. Ok (Some line))
unfolding line_at
line_is text plain = rw plain refl

some_case : (number : ℕ) (read : Result MeterLine ℕ) (line : MeterLine)
    → on_line number read ≡ Ok line → on_line number (read >>= λ a. Ok (Some a)) ≡ Ok (Some line)
some_case number (Ok a) line e = ap (λ x. Ok (Some x)) cc
some_case number (Err reason) line e = cc

none_case : (number : ℕ) (read : Result MeterLine ℕ) (fault : ℕ × ℕ)
    → on_line number read ≡ Err fault → on_line number (read >>= λ a. Ok (Some a)) ≡ Err fault
none_case number (Ok a) fault e = cc
none_case number (Err reason) fault e = ap Err cc

pub some_line : (number : ℕ) (text : List ℕ) (line : MeterLine) → is_passed_over text ≡ false
    → on_line number (line_of (words_of text)) ≡ Ok line
    → on_line number (line_at text) ≡ Ok (Some line)
some_line number text line plain read =
    ap (on_line number) (line_is text plain) ∙ some_case number (line_of (words_of text)) line read

pub line_fails : (e : ScriptRefusal) (number : ℕ) (text : List ℕ) → is_passed_over text ≡ false
    → FailsScript e (on_line number (line_of (words_of text)))
    → FailsScript e (on_line number (line_at text))
line_fails NoMemory number text plain failed = tt
line_fails (Fault at reason) number text plain failed =
    ap (on_line number) (line_is text plain)
    ∙ none_case number (line_of (words_of text)) (at, reason) failed
