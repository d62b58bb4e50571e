-- What the text of a capture says, or its first fault by line and reason.
use Rattle.std.specs.Prelude.{ℕ, ◌+◌, ◌/◌, ◌%◌, ◌==◌, ◌&&◌, ◌||◌, not, Bool, true, false}
use Rattle.std.specs.Prelude.{if◌then◌else◌}
use Rattle.std.specs.Prelude.{List, [], ◌∷◌, ◌++◌, codes, Option, Some, None, Result, Ok, Err}
use Rattle.std.specs.Str.{bytes_eq}
use Rattle.omci_types.specs.declared.Frame.{Frame}
use Rattle.frame_spec.specs.declared.TheConstants.{FRAME_BYTES}
use Rattle.frame_spec.specs.Baseline.{packet_frame}
use Rattle.script_spec.specs.declared.TheConstants.{WORD_FAULT, HEADER_FAULT}
use Rattle.script_spec.specs.Fields.{HexBytes, bytes_in}
use Rattle.script_spec.specs.Text.{lines_of, words_of, after_name, is_passed_over, opening}
use Rattle.script_spec.specs.Reading.{◌>>=◌, or_reason, word_at, field_at, counted, on_line}
use Rattle.script_spec.specs.Reading.{as_header}
use Rattle.capture_spec.specs.declared.TheConstants.{AK, TYPES, SECTION, FRAME_FAULT, WAY_FAULT}
use Rattle.capture_spec.specs.declared.CaptureItem.{CaptureItem}
use Rattle.capture_spec.specs.declared.CaptureItem.TheVariants.{Down, Up, Start}
use Rattle.capture_spec.specs.Runs.{Lines, wants_reply}

-- ---- frames

-- whether a frame has AK
abbrev pub is_reply : Frame → Bool
is_reply frame = frame.kind / AK % 2 == 1

-- whether bit 8 of a frame's type byte is set
abbrev pub has_bit_8 : Frame → Bool
has_bit_8 frame = frame.kind / 128 == 1

-- Whether an OLT may send a frame: it has a TCI and neither AK nor bit 8, and it has AR unless it
-- is a download section.
abbrev pub goes_down : Frame → Bool
goes_down frame =
    not (is_reply frame) && not (has_bit_8 frame)
    && (wants_reply frame || frame.kind % TYPES == SECTION)
    && not (frame.tci == 0)

-- Whether a unit may send a frame: a notice, which has TCI 0, or what has AK and neither AR nor
-- bit 8.
abbrev pub comes_up : Frame → Bool
comes_up frame =
    frame.tci == 0
    || is_reply frame && not (wants_reply frame) && not (has_bit_8 frame)

-- ---- lines

-- the frame of the one word that is left: 48 bytes in hex
unfoldable pub frame_left : List (List ℕ) → Result Frame ℕ
frame_left words = do
  parts ← counted 1 words
  bytes ← field_at (HexBytes FRAME_BYTES FRAME_BYTES) parts
  or_reason FRAME_FAULT (packet_frame (bytes_in bytes.0))

-- an item, if its frame can go its way
abbrev pub on_way : Bool → CaptureItem → Result CaptureItem ℕ
on_way true item = Ok item
on_way false item = Err WAY_FAULT

abbrev pub down_left : List (List ℕ) → Result CaptureItem ℕ
down_left words = frame_left words >>= λ frame. on_way (goes_down frame) (Down frame)

abbrev pub up_left : List (List ℕ) → Result CaptureItem ℕ
up_left words = frame_left words >>= λ frame. on_way (comes_up frame) (Up frame)

abbrev pub start_left : List (List ℕ) → Result CaptureItem ℕ
start_left words = counted 0 words >>= λ rest. Ok Start

-- what a line of this name with these words after it has
abbrev pub item_named : List ℕ → List (List ℕ) → Result CaptureItem ℕ
item_named name words =
    if bytes_eq name (codes "down") then down_left words
    else if bytes_eq name (codes "up") then up_left words
    else if bytes_eq name (codes "start") then start_left words
    else Err WORD_FAULT

-- What the words of a line say.
unfoldable pub item_at : List (List ℕ) → Result CaptureItem ℕ
item_at words = do
  name ← word_at words
  item_named name.0 name.1

-- What a line says; a line that is passed over says nothing.
unfoldable pub item_in : List ℕ → Result (Option CaptureItem) ℕ
item_in text =
    if is_passed_over text then Ok None
    else item_at (words_of text) >>= λ item. Ok (Some item)

-- ---- all lines

-- the line of a number with this item, if it has one
abbrev pub line_with : ℕ → Option CaptureItem → Lines
line_with line (Some item) = record { line = line; item = item } ∷ []
line_with line None = []

-- What lines say, the first of which has the number `line`.
unfoldable pub lines_reading : ℕ → List (List ℕ) → Result Lines (ℕ × ℕ)
lines_reading line [] = Ok []
lines_reading line (text ∷ texts) = do
  item ← on_line line (item_in text)
  lines ← lines_reading (line + 1) texts
  Ok (line_with line item ++ lines)

-- the header: the word `capture` and its version
unfoldable pub header_at : List (List ℕ) → Result (List (List ℕ)) ℕ
header_at words = do
  after ← or_reason WORD_FAULT (after_name (codes "capture" ∷ codes "1" ∷ []) words)
  counted 0 after

-- what the header's line and those after it say; the header is missing where no line is left
abbrev pub capture_from : ℕ → List (List ℕ) → Result Lines (ℕ × ℕ)
capture_from line [] = Err (line, HEADER_FAULT)
capture_from line (text ∷ texts) = do
  header ← as_header line (header_at (words_of text))
  lines_reading (line + 1) texts

-- What a text says, from its first line on that isn't passed over.
unfoldable pub capture_reading : List ℕ → Result Lines (ℕ × ℕ)
capture_reading bytes = capture_from (opening 1 (lines_of bytes)).0 (opening 1 (lines_of bytes)).1
