-- What is said of a stream of frames of both message sets: the line of each frame, which frames are
-- refused, and the reason where a stream has a fault.
use Rattle.std.specs.Prelude.{◌≡◌, ℕ, ◌+◌, Bool, true, false, List, [], ◌∷◌, ◌++◌, length, codes, decimal, Option, Some, None, All}
use Rattle.std.specs.List.{flat_map}
use Rattle.stream_spec.specs.Streams.{Front, Whole, Open, Faulty}
use Rattle.extended_spec.specs.declared.AnyFault.{AnyFault}
use Rattle.extended_spec.specs.declared.AnyFault.TheVariants.{Device, Short, Trailer, Check, Length, NoMemory}
use Rattle.extended_spec.specs.declared.LongFault.{LongFault}
use Rattle.extended_spec.specs.declared.LongFault.TheVariants as message
use Rattle.extended_spec.specs.Frames.{Any, IsAny, any_spelling}
use Rattle.extended_spec.specs.Messages.{any_message_fault}
use Rattle.extended_spec.specs.Streams.{any_front}
use Rattle.extended_spec.specs.Text.{any_text}
use Rattle.show_spec.specs.declared.TheConstants.{DEVICE_REASON, SHORT_REASON, TRAILER_REASON, CHECK_REASON, LENGTH_REASON, CONTENTS_REASON, BITS_REASON}

-- ---- lines

-- the line of a frame
unfoldable pub frame_line : Any → List ℕ
frame_line frame = any_text frame ++ codes "\n"

-- the lines of some frames
abbrev pub frame_lines : List Any → List ℕ
frame_lines frames = flat_map frame_line frames

-- the bytes of some frames, one after the other
abbrev pub frame_bytes : List Any → List ℕ
frame_bytes frames = flat_map any_spelling frames

-- ---- reasons

-- the reason of a fault. That of want of memory is never asked for: it is no fault of bytes.
abbrev pub stream_reason : AnyFault → ℕ
stream_reason (Device byte) = DEVICE_REASON
stream_reason (Short have) = SHORT_REASON
stream_reason (Trailer trailer) = TRAILER_REASON
stream_reason (Check given computed) = CHECK_REASON
stream_reason (Length given) = LENGTH_REASON
stream_reason NoMemory = 0

-- why a frame that is no message is refused: one whose type is unknown isn't
abbrev pub message_reason : Option LongFault → Option ℕ
message_reason None = None
message_reason (Some (message.UnknownType number)) = None
message_reason (Some (message.Bits byte)) = Some BITS_REASON
message_reason (Some (message.ContentsShort have need)) = Some CONTENTS_REASON
message_reason (Some message.NoMemory) = None

abbrev pub is_unknown_type : Option LongFault → Bool
is_unknown_type None = false
is_unknown_type (Some (message.UnknownType number)) = true
is_unknown_type (Some (message.Bits byte)) = false
is_unknown_type (Some (message.ContentsShort have need)) = false
is_unknown_type (Some message.NoMemory) = false

-- which frames are refused, and why: none by `show`
abbrev pub none_refused : Any → Option ℕ
none_refused frame = None

-- and those that are no message, but for an unknown type, by `check`
unfoldable pub no_message_refused : Any → Option ℕ
no_message_refused frame = message_reason (any_message_fault frame)

-- 1 for a frame of unknown type
abbrev pub one_if : Bool → ℕ
one_if true = 1
one_if false = 0

-- how many of some frames have an unknown type
abbrev pub unknown_count : List Any → ℕ
unknown_count [] = 0
unknown_count (frame ∷ frames) = one_if (is_unknown_type (any_message_fault frame))
    + unknown_count frames

-- ---- streams

-- The bytes are those of some frames, of which none is refused, and then the rest.
pub record Passes (refused : Any → Option ℕ) (bytes : List ℕ) (frames : List Any) (rest : List ℕ)
    : Type 0 where
  pub spelled : bytes ≡ frame_bytes frames ++ rest
  pub valid : All IsAny frames
  pub passed : All (λ frame. refused frame ≡ None) frames

-- why bytes are refused that begin no frame yet: where the stream has ended with them
abbrev pub open_reason : Bool → List ℕ → Option ℕ
open_reason false rest = None
open_reason true [] = None
open_reason true (byte ∷ rest) = Some SHORT_REASON

abbrev pub reason_by : (Any → Option ℕ) → Bool → List ℕ → Front Any AnyFault → Option ℕ
reason_by refused ended rest (Whole frame count) = refused frame
reason_by refused ended rest Open = open_reason ended rest
reason_by refused ended rest (Faulty fault) = Some (stream_reason fault)

-- Why bytes are refused at their front, if they are. The stream may have ended with them.
unfoldable pub reason_at : (Any → Option ℕ) → Bool → List ℕ → Option ℕ
reason_at refused ended rest = reason_by refused ended rest (any_front rest)

-- ---- what `check` writes

-- the line of a stream in which no frame is refused: its frames, and those of unknown type
unfoldable pub count_text : ℕ → ℕ → List ℕ
count_text frames unknown = codes "frames " ++ decimal frames ++ codes " unknown "
    ++ decimal unknown ++ codes "\n"
