-- The lines of a run of the interval counters: a header, and then requests, counts and ticks.
-- Lines, words, numbers and masks are those of scripts.
use Rattle.std.specs.Prelude.{ℕ, ◌+◌, if◌then◌else◌, List, [], ◌∷◌, length, codes, Option, Some}
use Rattle.std.specs.Prelude.{None, Result, Ok, Err}
use Rattle.std.specs.Str.{bytes_eq}
use Rattle.meter_spec.specs.declared.Command.TheVariants as command
use Rattle.script_spec.specs.declared.TheConstants.{MAX_ID, MAX_ATTRIBUTE, WORD_FAULT, HEADER_FAULT}
use Rattle.script_spec.specs.Fields.{Value, Form, Decimal, MaskDigits}
use Rattle.script_spec.specs.Script.{number_at}
use Rattle.script_spec.specs.Text.{lines_of, words_of, is_passed_over, opening}
use Rattle.script_spec.specs.Reading.{◌>>=◌, or_reason, word_at, values_at, counted, on_line}
use Rattle.meter_lines_spec.specs.declared.TheConstants.{MAX_COUNT, MAX_TICKS}
use Rattle.meter_lines_spec.specs.declared.Word.{Word}
use Rattle.meter_lines_spec.specs.declared.Word.TheVariants as words
use Rattle.meter_lines_spec.specs.declared.MeterLine.{MeterLine}
use Rattle.meter_lines_spec.specs.declared.MeterLine.TheVariants as lines

-- ---- one line

-- the word that a line begins with
abbrev pub word_named : List ℕ → Option Word
word_named word =
    if bytes_eq word (codes "create") then Some words.Create
    else if bytes_eq word (codes "delete") then Some words.Delete
    else if bytes_eq word (codes "get") then Some words.Get
    else if bytes_eq word (codes "current") then Some words.Current
    else if bytes_eq word (codes "sync") then Some words.Sync
    else if bytes_eq word (codes "count") then Some words.Count
    else if bytes_eq word (codes "tick") then Some words.Tick
    else None

-- an instance
abbrev pub instance : Form
instance = Decimal 0 MAX_ID

-- the forms of the words after the first one
abbrev pub fields : Word → List Form
fields words.Create = instance ∷ []
fields words.Delete = instance ∷ []
fields words.Get = instance ∷ MaskDigits ∷ []
fields words.Current = instance ∷ MaskDigits ∷ []
fields words.Sync = []
fields words.Count = instance ∷ Decimal 1 MAX_ATTRIBUTE ∷ Decimal 0 MAX_COUNT ∷ []
fields words.Tick = Decimal 1 MAX_TICKS ∷ []

-- what a line asks for that says these values
abbrev pub line_with : Word → List Value → MeterLine
line_with words.Create v = lines.Request command.Create (number_at 0 v) 0
line_with words.Delete v = lines.Request command.Delete (number_at 0 v) 0
line_with words.Get v = lines.Request command.Get (number_at 0 v) (number_at 1 v)
line_with words.Current v = lines.Request command.GetCurrent (number_at 0 v) (number_at 1 v)
line_with words.Sync v = lines.Request command.SynchronizeTime 0 0
line_with words.Count v = lines.Count (number_at 0 v) (number_at 1 v) (number_at 2 v)
line_with words.Tick v = lines.Pass (number_at 0 v)

-- what the words after the first one ask for
unfoldable pub asked_by : Word → List (List ℕ) → Result MeterLine ℕ
asked_by word texts = do
  parts ← counted (length (fields word)) texts
  values ← values_at (fields word) parts
  Ok (line_with word values)

-- What a line of these words asks for, or its fault: first their number is tested, and then each
-- from left to right.
unfoldable pub line_of : List (List ℕ) → Result MeterLine ℕ
line_of texts = do
  first ← word_at texts
  word ← or_reason WORD_FAULT (word_named first.0)
  asked_by word first.1

-- ---- all lines

-- what one line asks for; a line that is passed over asks for nothing
unfoldable pub line_at : List ℕ → Result (Option MeterLine) ℕ
line_at text =
    if is_passed_over text then Ok None
    else line_of (words_of text) >>= λ line. Ok (Some line)

-- a line before others
abbrev pub with_line : Option MeterLine → List MeterLine → List MeterLine
with_line None later = later
with_line (Some line) later = line ∷ later

-- the lines of these texts, the first of which has the number `number`, or the first fault
unfoldable pub lines_reading : ℕ → List (List ℕ) → Result (List MeterLine) (ℕ × ℕ)
lines_reading number [] = Ok []
lines_reading number (text ∷ texts) = do
  line ← on_line number (line_at text)
  later ← lines_reading (number + 1) texts
  Ok (with_line line later)

-- the text of a header
abbrev pub header : List ℕ
header = codes "meter 1"

-- the lines after the header's, or the first fault; the header is missing where no line is left
abbrev pub read_from : ℕ → List (List ℕ) → Result (List MeterLine) (ℕ × ℕ)
read_from number [] = Err (number, HEADER_FAULT)
read_from number (text ∷ texts) =
    if bytes_eq text header then lines_reading (number + 1) texts else Err (number, HEADER_FAULT)

-- What the bytes ask for, line by line, or their first fault: the line's number, from 1, and the
-- reason.
unfoldable pub reading : List ℕ → Result (List MeterLine) (ℕ × ℕ)
reading bytes = read_from (opening 1 (lines_of bytes)).0 (opening 1 (lines_of bytes)).1
