-- The texts of which scripts are made: words, and the numbers and bytes that words stand for.
use Rattle.std.specs.Prelude.{ℕ, ◌+◌, ◌-◌, ◌*◌, Bool, true, ◌&&◌, nat_le, ◌==◌, if◌then◌else◌, List}
use Rattle.std.specs.Prelude.{[], ◌∷◌, length, slice_index, codes, Option, Some, None, Result, Ok}
use Rattle.std.specs.Prelude.{Err}
use Rattle.std.specs.List.{list_all, onto_first}
use Rattle.std.specs.Char.{is_ascii_digit}
use Rattle.std.specs.Str.{bytes_eq}
use Rattle.std.specs.Int.{w32, from_be_bytes}
use Rattle.hex.specs.Hex.{decode_of, decode_sized}
use Rattle.hex.specs.declared.error.FromHexError.{FromHexError}
use Rattle.omci_types.specs.declared.Priority.{Priority}
use Rattle.omci_types.specs.declared.Priority.TheVariants.{Low, High}
use Rattle.script_spec.specs.declared.TheConstants.{MAX_DIGITS}

-- ---- lines

abbrev pub starts_with_feed : List ℕ → Bool
starts_with_feed bytes = slice_index bytes 0 == 10

-- the lines of a byte and of what follows it, where `lines` are the lines of what follows
abbrev pub lines_with : ℕ → List ℕ → List (List ℕ) → List (List ℕ)
lines_with byte rest lines =
    if byte == 10 then [] ∷ lines
    else if byte == 13 && starts_with_feed rest then lines
    else onto_first byte lines

-- The texts between line feeds. A carriage return directly before a line feed is no part of the
-- text, and the last text may lack its line feed.
unfoldable pub lines_of : List ℕ → List (List ℕ)
lines_of [] = []
lines_of (byte ∷ rest) = lines_with byte rest (lines_of rest)

-- an empty line, or one that begins with `#`
abbrev pub is_passed_over : List ℕ → Bool
is_passed_over [] = true
is_passed_over (byte ∷ rest) = byte == 35

-- the lines from the first one on that isn't passed over, and that one's number, where the first of
-- all has the number `line`
unfoldable pub opening : ℕ → List (List ℕ) → ℕ × List (List ℕ)
opening line [] = (line, [])
opening line (text ∷ texts) =
    if is_passed_over text then opening (line + 1) texts else (line, text ∷ texts)

-- ---- words

-- the words of a byte and of what follows it, where `words` are the words of what follows
abbrev pub words_with : ℕ → List (List ℕ) → List (List ℕ)
words_with byte words = if byte == 32 then [] ∷ words else onto_first byte words

-- The texts between spaces. Two spaces side by side have an empty word between them.
unfoldable pub words_of : List ℕ → List (List ℕ)
words_of [] = [] ∷ []
words_of (byte ∷ rest) = words_with byte (words_of rest)

-- the words after those of a name, if they begin with it
abbrev pub after_name : List (List ℕ) → List (List ℕ) → Option (List (List ℕ))
after_name [] words = Some words
after_name (name ∷ names) [] = None
after_name (name ∷ names) (word ∷ words) =
    if bytes_eq word name then after_name names words else None

-- ---- lanes

-- the name of a lane
abbrev pub lane_text : Priority → List ℕ
lane_text Low = codes "low"
lane_text High = codes "high"

-- ---- picks

-- the names of what a cut gives to each byte, but for a stated one
abbrev pub old_text : List ℕ
old_text = codes "old"

abbrev pub new_text : List ℕ
new_text = codes "new"

-- ---- numbers

-- the number of decimal digits, where `front` is the number of the digits before them
abbrev pub value_from : ℕ → List ℕ → ℕ
value_from front [] = front
value_from front (digit ∷ digits) = value_from (front * 10 + (digit - 48)) digits

unfoldable pub decimal_value : List ℕ → ℕ
decimal_value digits = value_from 0 digits

-- 1 to `MAX_DIGITS` decimal digits
abbrev pub is_numeral : List ℕ → Bool
is_numeral word =
    nat_le 1 (length word) && nat_le (length word) MAX_DIGITS && list_all is_ascii_digit word

-- a numeral of a number from `low` to `high`
abbrev pub is_number : ℕ → ℕ → List ℕ → Bool
is_number low high word =
    is_numeral word && nat_le low (decimal_value word) && nat_le (decimal_value word) high

-- ---- bytes

-- the bytes of an answer of the hex decoder
abbrev pub decoded : Result (List ℕ) FromHexError → Option (List ℕ)
decoded (Ok bytes) = Some bytes
decoded (Err error) = None

-- the bytes of hex digits in either case; `-` stands for no byte
unfoldable pub hex_bytes : List ℕ → Option (List ℕ)
hex_bytes word =
    if length word == 0 then None
    else if bytes_eq word (codes "-") then Some []
    else decoded (decode_of word)

-- the number of two bytes, the high one first
abbrev pub mask_value : Option (List ℕ) → Option ℕ
mask_value (Some bytes) = Some (slice_index bytes 0 * 256 + slice_index bytes 1)
mask_value None = None

-- the mask that exactly four hex digits stand for
unfoldable pub mask_of : List ℕ → Option ℕ
mask_of word = mask_value (decoded (decode_sized word 2))

-- the number of four bytes, the first one highest
abbrev pub check_value : Option (List ℕ) → Option ℕ
check_value (Some bytes) = Some (from_be_bytes w32 bytes)
check_value None = None

-- the check value that exactly eight hex digits stand for
unfoldable pub check_of : List ℕ → Option ℕ
check_of word = check_value (decoded (decode_sized word 4))

-- the first byte
abbrev pub first_byte : Option (List ℕ) → Option ℕ
first_byte (Some bytes) = Some (slice_index bytes 0)
first_byte None = None

-- the byte that exactly two hex digits stand for
unfoldable pub byte_of : List ℕ → Option ℕ
byte_of word = first_byte (decoded (decode_sized word 1))
