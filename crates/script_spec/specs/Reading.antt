-- Reading a script or orders from left to right: what they say, or their first fault by line and
-- reason.
use Rattle.std.specs.Prelude.{ℕ, ◌+◌, ◌&&◌, ◌==◌, nat_le, if◌then◌else◌, List, [], ◌∷◌, length}
use Rattle.std.specs.Prelude.{Option, Some, None, Result, Ok, Err, codes}
use Rattle.std.specs.Option.{option_map}
use Rattle.std.specs.Str.{bytes_eq}
use Rattle.omci_types.specs.declared.Priority.{Priority}
use Rattle.omci_types.specs.declared.Priority.TheVariants.{Low, High}
use Rattle.slot_spec.specs.declared.Pick.{Pick}
use Rattle.slot_spec.specs.declared.Pick.TheVariants.{Old, New, Byte}
use Rattle.extended_spec.specs.declared.AnyFault.{AnyFault}
use Rattle.extended_spec.specs.Frames.{any_fault_of}
use Rattle.script_spec.specs.declared.Document.{Document}
use Rattle.script_spec.specs.declared.Document.TheVariants as documents
use Rattle.script_spec.specs.declared.Line.{Line}
use Rattle.script_spec.specs.declared.TheConstants.{WORD_FAULT, NUMBER_FAULT, HEX_FAULT}
use Rattle.script_spec.specs.declared.TheConstants.{HEADER_FAULT, NOISE_FAULT}
use Rattle.script_spec.specs.Fields.{Value, Lane, Number, Bytes, Check, PickOf, number_in, Form}
use Rattle.script_spec.specs.Fields.{LaneName, Decimal, MaskDigits, CheckDigits, PickName, HexBytes}
use Rattle.script_spec.specs.Fields.{NoiseBytes}
use Rattle.script_spec.specs.Script.{Action, row, all_lines, has, action_with, Header, header_name}
use Rattle.script_spec.specs.Script.{header_size, room_field, fields_after_room, header_with}
use Rattle.script_spec.specs.Script.{Script, OrdersHeader, orders_row, orders_header_with, Orders}
use Rattle.script_spec.specs.Text.{lines_of, words_of, after_name, is_passed_over, opening}
use Rattle.script_spec.specs.Text.{lane_text, is_number, decimal_value, hex_bytes, mask_of}
use Rattle.script_spec.specs.Text.{check_of, byte_of, old_text, new_text}

infixl 10 ◌>>=◌
abbrev pub ◌>>=◌ : {A B E : Type 0} → Result A E → (A → Result B E) → Result B E
(Ok x) >>= f = f x
(Err e) >>= f = Err e

-- ---- words

abbrev pub lane_of : List ℕ → Option Priority
lane_of word =
    if bytes_eq word (lane_text Low) then Some Low
    else if bytes_eq word (lane_text High) then Some High
    else None

-- a check value that is given
abbrev pub some_check : Option ℕ → Option (Option ℕ)
some_check None = None
some_check (Some check) = Some (Some check)

-- a check value, or none for `-`
abbrev pub check_word : List ℕ → Option (Option ℕ)
check_word word = if bytes_eq word (codes "-") then Some None else some_check (check_of word)

-- a pick by its name, or by its byte
abbrev pub pick_word : List ℕ → Option Pick
pick_word word =
    if bytes_eq word old_text then Some Old
    else if bytes_eq word new_text then Some New
    else option_map Byte (byte_of word)

abbrev pub number_of : ℕ → ℕ → List ℕ → Option ℕ
number_of low high word = if is_number low high word then Some (decimal_value word) else None

-- the bytes, if there are neither too few nor too many
abbrev pub within : ℕ → ℕ → Option (List ℕ) → Option (List ℕ)
within fewest most (Some bytes) =
    if nat_le fewest (length bytes) && nat_le (length bytes) most then Some bytes else None
within fewest most None = None

abbrev pub bytes_of : ℕ → ℕ → List ℕ → Option (List ℕ)
bytes_of fewest most word = within fewest most (hex_bytes word)

-- the value of a word, or the reason for which the word is refused
abbrev pub or_reason : {A : Type 0} → ℕ → Option A → Result A ℕ
or_reason reason (Some value) = Ok value
or_reason reason None = Err reason

-- bytes with this fault as a frame of either set; bytes without one are no noise
abbrev pub noise_with : Option AnyFault → List ℕ → Result (List ℕ) ℕ
noise_with (Some fault) bytes = Ok bytes
noise_with None bytes = Err NOISE_FAULT

abbrev pub noise_of : ℕ → List ℕ → Result (List ℕ) ℕ
noise_of most word =
    or_reason HEX_FAULT (bytes_of 0 most word) >>= λ bytes. noise_with (any_fault_of bytes) bytes

-- what a word says in a field of this form
abbrev pub word_value : Form → List ℕ → Result Value ℕ
word_value LaneName word = or_reason WORD_FAULT (lane_of word) >>= λ lane. Ok (Lane lane)
word_value (Decimal low high) word =
    or_reason NUMBER_FAULT (number_of low high word) >>= λ n. Ok (Number n)
word_value MaskDigits word = or_reason HEX_FAULT (mask_of word) >>= λ mask. Ok (Number mask)
word_value CheckDigits word = or_reason HEX_FAULT (check_word word) >>= λ check. Ok (Check check)
word_value PickName word = or_reason HEX_FAULT (pick_word word) >>= λ pick. Ok (PickOf pick)
word_value (HexBytes fewest most) word =
    or_reason HEX_FAULT (bytes_of fewest most word) >>= λ bytes. Ok (Bytes bytes)
word_value (NoiseBytes most) word = noise_of most word >>= λ bytes. Ok (Bytes bytes)

-- the first word, and the words after it
abbrev pub word_at : List (List ℕ) → Result (List ℕ × List (List ℕ)) ℕ
word_at [] = Err WORD_FAULT
word_at (word ∷ words) = Ok (word, words)

-- what the first word says in a field of this form, and the words after it
unfoldable pub field_at : Form → List (List ℕ) → Result (Value × List (List ℕ)) ℕ
field_at form words = do
  word ← word_at words
  value ← word_value form word.0
  Ok (value, word.1)

-- what the words say in these fields, one after the other
abbrev pub values_at : List Form → List (List ℕ) → Result (List Value) ℕ
values_at [] words = Ok []
values_at (form ∷ forms) words = do
  value ← field_at form words
  values ← values_at forms value.1
  Ok (value.0 ∷ values)

-- ---- lines

-- as many words as there have to be
abbrev pub counted : ℕ → List (List ℕ) → Result (List (List ℕ)) ℕ
counted count words = if length words == count then Ok words else Err WORD_FAULT

-- a kind of line whose name has these words after it, or else one of the others
abbrev pub or_among : Line → Option (List (List ℕ)) → Option (Line × List (List ℕ))
    → Option (Line × List (List ℕ))
or_among line (Some words) others = Some (line, words)
or_among line None others = others

-- the first of some kinds of lines whose name the words begin with, and the words after it
abbrev pub named_among : List Line → List (List ℕ) → Option (Line × List (List ℕ))
named_among [] words = None
named_among (line ∷ lines) words =
    or_among line (after_name (row line).name words) (named_among lines words)

unfoldable pub line_named : List (List ℕ) → Option (Line × List (List ℕ))
line_named words = named_among all_lines words

-- a kind of line that a document doesn't have is unknown there
abbrev pub known_in : Document → Option (Line × List (List ℕ)) → Option (Line × List (List ℕ))
known_in document (Some found) = if has document found.0 then Some found else None
known_in document None = None

abbrev pub line_at : Document → List (List ℕ) → Result (Line × List (List ℕ)) ℕ
line_at document words = or_reason WORD_FAULT (known_in document (line_named words))

-- what the words after a line's name ask for
unfoldable pub action_at : Line → List (List ℕ) → Result Action ℕ
action_at line words = do
  parts ← counted (length (row line).fields) words
  values ← values_at (row line).fields parts
  Ok (action_with line values)

unfoldable pub line_action : Document → List (List ℕ) → Result Action ℕ
line_action document words = do
  found ← line_at document words
  action_at found.0 found.1

unfoldable pub header_at : List (List ℕ) → Result Header ℕ
header_at words = do
  after ← or_reason WORD_FAULT (after_name header_name words)
  parts ← counted header_size after
  room ← field_at room_field parts
  values ← values_at (fields_after_room (number_in room.0)) room.1
  Ok (header_with (room.0 ∷ values))

-- the header of orders
unfoldable pub orders_header_at : List (List ℕ) → Result OrdersHeader ℕ
orders_header_at words = do
  after ← or_reason WORD_FAULT (after_name orders_row.name words)
  parts ← counted (length orders_row.fields) after
  values ← values_at orders_row.fields parts
  Ok (orders_header_with values)

-- ---- scripts and orders

-- what was read of a line, or the fault with the line's number
abbrev pub on_line : {A : Type 0} → ℕ → Result A ℕ → Result A (ℕ × ℕ)
on_line line (Ok value) = Ok value
on_line line (Err reason) = Err (line, reason)

-- each fault of a header has one reason
abbrev pub as_header : {A : Type 0} → ℕ → Result A ℕ → Result A (ℕ × ℕ)
as_header line (Ok value) = Ok value
as_header line (Err reason) = Err (line, HEADER_FAULT)

-- an action before others
abbrev pub with_action : Option Action → List Action → List Action
with_action None actions = actions
with_action (Some action) actions = action ∷ actions

-- what an event's line asks for; a line that is passed over asks for nothing
unfoldable pub event_at : Document → List ℕ → Result (Option Action) ℕ
event_at document text =
    if is_passed_over text then Ok None
    else line_action document (words_of text) >>= λ action. Ok (Some action)

-- the actions of lines of events, the first of which has the number `line`
unfoldable pub events_reading : Document → ℕ → List (List ℕ) → Result (List Action) (ℕ × ℕ)
events_reading document line [] = Ok []
events_reading document line (text ∷ texts) = do
  action ← on_line line (event_at document text)
  actions ← events_reading document (line + 1) texts
  Ok (with_action action actions)

-- What the header's line and those after it make, where `head` reads the header. The line is
-- missing where no line is left.
abbrev pub read_from : {A B : Type 0} → (List (List ℕ) → Result A ℕ) → (A → List Action → B)
    → Document → ℕ → List (List ℕ) → Result B (ℕ × ℕ)
read_from head made document line [] = Err (line, HEADER_FAULT)
read_from head made document line (text ∷ texts) = do
  header ← as_header line (head (words_of text))
  actions ← events_reading document (line + 1) texts
  Ok (made header actions)

-- the same of all bytes, from the first line that isn't passed over
abbrev pub whole_reading : {A B : Type 0} → (List (List ℕ) → Result A ℕ) → (A → List Action → B)
    → Document → List ℕ → Result B (ℕ × ℕ)
whole_reading head made document bytes =
    read_from head made document (opening 1 (lines_of bytes)).0 (opening 1 (lines_of bytes)).1

-- a header and its actions
abbrev pub script_of : Header → List Action → Script
script_of header actions = record { header = header; actions = actions }

-- the script that the bytes write, or their first fault
unfoldable pub reading : List ℕ → Result Script (ℕ × ℕ)
reading bytes = whole_reading header_at script_of documents.Script bytes

abbrev pub orders_of : OrdersHeader → List Action → Orders
orders_of header actions = record { header = header; actions = actions }

-- the orders that the bytes write, or their first fault
unfoldable pub orders_reading : List ℕ → Result Orders (ℕ × ℕ)
orders_reading bytes = whole_reading orders_header_at orders_of documents.Orders bytes
