-- The first fault of bytes that are no script, or no orders: the line's number, from 1, and the
-- reason.
use Rattle.std.specs.Prelude.{ℕ, ◌+◌, ◌/◌, ◌%◌, Bool, true, false, ◌&&◌, ◌||◌, ◌==◌, nat_le}
use Rattle.std.specs.Prelude.{if◌then◌else◌, List, [], ◌∷◌, length, codes, Option, Some, None}
use Rattle.std.specs.Prelude.{is_some, is_none, unwrap_or}
use Rattle.std.specs.List.{list_all}
use Rattle.std.specs.Str.{bytes_eq}
use Rattle.hex.specs.Hex.{is_hex_digit}
use Rattle.omci_types.specs.declared.Priority.TheVariants.{Low, High}
use Rattle.extended_spec.specs.Frames.{any_fault_of}
use Rattle.script_spec.specs.declared.Document.{Document}
use Rattle.script_spec.specs.declared.Document.TheVariants as documents
use Rattle.script_spec.specs.declared.Line.{Line}
use Rattle.script_spec.specs.declared.TheConstants.{WORD_FAULT, NUMBER_FAULT, HEX_FAULT}
use Rattle.script_spec.specs.declared.TheConstants.{HEADER_FAULT, NOISE_FAULT}
use Rattle.script_spec.specs.Fields.{Form, LaneName, Decimal, MaskDigits, CheckDigits, PickName}
use Rattle.script_spec.specs.Fields.{HexBytes, NoiseBytes}
use Rattle.script_spec.specs.Script.{row, header_name, header_row, orders_row}
use Rattle.script_spec.specs.Text.{lines_of, words_of, after_name, is_passed_over, opening}
use Rattle.script_spec.specs.Text.{lane_text, old_text, new_text}
use Rattle.script_spec.specs.Text.{is_number, decimal_value, hex_bytes}
use Rattle.script_spec.specs.Reading.{line_named, known_in}

-- ---- words

abbrev pub is_lane : List ℕ → Bool
is_lane word = bytes_eq word (lane_text Low) || bytes_eq word (lane_text High)

-- hex digits in either case of a number of bytes within the bounds; `-` stands for no byte
abbrev pub is_hex : ℕ → ℕ → List ℕ → Bool
is_hex fewest most word =
    if bytes_eq word (codes "-") then fewest == 0
    else nat_le 1 (length word) && (length word % 2 == 0) && list_all is_hex_digit word
    && nat_le fewest (length word / 2) && nat_le (length word / 2) most

-- so many hex digits in either case
abbrev pub are_digits : ℕ → List ℕ → Bool
are_digits count word = (length word == count) && list_all is_hex_digit word

-- four hex digits in either case
abbrev pub is_mask : List ℕ → Bool
is_mask word = are_digits 4 word

-- eight hex digits in either case, or `-`
abbrev pub is_check : List ℕ → Bool
is_check word = bytes_eq word (codes "-") || are_digits 8 word

-- `old`, `new`, or two hex digits in either case
abbrev pub is_pick : List ℕ → Bool
is_pick word = bytes_eq word old_text || bytes_eq word new_text || are_digits 2 word

-- hex of bytes that don't decode as a frame of either message set
abbrev pub is_noise : List ℕ → Bool
is_noise word = is_some (any_fault_of (unwrap_or (hex_bytes word) []))

-- the reason, unless the test holds
abbrev pub unless : Bool → ℕ → Option ℕ
unless true reason = None
unless false reason = Some reason

-- the first of two faults, if there is one
abbrev pub first_of : {A : Type 0} → Option A → Option A → Option A
first_of (Some fault) others = Some fault
first_of None others = others

-- the reason for which a word is none of the form
abbrev pub word_fault : Form → List ℕ → Option ℕ
word_fault LaneName word = unless (is_lane word) WORD_FAULT
word_fault (Decimal low high) word = unless (is_number low high word) NUMBER_FAULT
word_fault MaskDigits word = unless (is_mask word) HEX_FAULT
word_fault CheckDigits word = unless (is_check word) HEX_FAULT
word_fault PickName word = unless (is_pick word) HEX_FAULT
word_fault (HexBytes fewest most) word = unless (is_hex fewest most word) HEX_FAULT
word_fault (NoiseBytes most) word =
    first_of (unless (is_hex 0 most word) HEX_FAULT) (unless (is_noise word) NOISE_FAULT)

-- The words are tested from left to right.
abbrev pub words_fault : List Form → List (List ℕ) → Option ℕ
words_fault [] [] = None
words_fault [] (word ∷ words) = Some WORD_FAULT
words_fault (form ∷ forms) [] = Some WORD_FAULT
words_fault (form ∷ forms) (word ∷ words) =
    first_of (word_fault form word) (words_fault forms words)

-- ---- lines

-- Before the words their number is tested.
abbrev pub counted_fault : List Form → List (List ℕ) → Option ℕ
counted_fault forms words =
    if length words == length forms then words_fault forms words else Some WORD_FAULT

abbrev pub named_fault : Option (Line × List (List ℕ)) → Option ℕ
named_fault (Some found) = counted_fault (row found.0).fields found.1
named_fault None = Some WORD_FAULT

-- the fault of an event's line, by its words
unfoldable pub line_fault : Document → List (List ℕ) → Option ℕ
line_fault document words = named_fault (known_in document (line_named words))

-- whether the words are those of a header, after its name
abbrev pub are_header : Option (List (List ℕ)) → Bool
are_header (Some (room ∷ words)) =
    is_none (words_fault (header_row (decimal_value room)).fields (room ∷ words))
are_header _ = false

unfoldable pub is_header : List (List ℕ) → Bool
is_header words = are_header (after_name header_name words)

-- the same of orders
abbrev pub are_orders_header : Option (List (List ℕ)) → Bool
are_orders_header (Some words) = is_none (counted_fault orders_row.fields words)
are_orders_header None = false

unfoldable pub is_orders_header : List (List ℕ) → Bool
is_orders_header words = are_orders_header (after_name orders_row.name words)

-- the fault of a line, with the line's number
abbrev pub at_line : ℕ → Option ℕ → Option (ℕ × ℕ)
at_line line (Some reason) = Some (line, reason)
at_line line None = None

-- Lines that are passed over have no fault.
abbrev pub event_fault : Document → List ℕ → Option ℕ
event_fault document text =
    if is_passed_over text then None else line_fault document (words_of text)

-- the first fault of lines of events, the first of which has the number `line`
unfoldable pub events_fault : Document → ℕ → List (List ℕ) → Option (ℕ × ℕ)
events_fault document line [] = None
events_fault document line (text ∷ texts) =
    first_of (at_line line (event_fault document text)) (events_fault document (line + 1) texts)

-- The first fault from the header's line on, where `is_head` tells a header. The line is missing,
-- or it has a fault, or one after it has.
abbrev pub fault_from : (List (List ℕ) → Bool) → Document → ℕ → List (List ℕ) → Option (ℕ × ℕ)
fault_from is_head document line [] = Some (line, HEADER_FAULT)
fault_from is_head document line (text ∷ texts) =
    if is_head (words_of text) then events_fault document (line + 1) texts
    else Some (line, HEADER_FAULT)

-- the same of all bytes, from the first line that isn't passed over
abbrev pub first_fault : (List (List ℕ) → Bool) → Document → List ℕ → Option (ℕ × ℕ)
first_fault is_head document bytes =
    fault_from is_head document (opening 1 (lines_of bytes)).0 (opening 1 (lines_of bytes)).1

-- the first fault of bytes that are no script
unfoldable pub fault : List ℕ → Option (ℕ × ℕ)
fault bytes = first_fault is_header documents.Script bytes

-- the first fault of bytes that are no orders
unfoldable pub orders_fault : List ℕ → Option (ℕ × ℕ)
orders_fault bytes = first_fault is_orders_header documents.Orders bytes
