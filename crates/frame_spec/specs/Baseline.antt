-- A baseline frame and its one spelling in 48 bytes, after ITU-T G.988, clause 11.2.
-- Places in a list count from 0: byte 1 of the standard is at place 0.
use Rattle.std.specs.Prelude.{◌≡◌, ℕ, ◌<◌, ◌^◌, List, [], ◌∷◌, ◌++◌, length, take, drop, slice_index, if◌then◌else◌, nat_lt, nat_le, ◌==◌, ◌&&◌, not, Option, Some, None, Result, Ok, Err}
use Rattle.std.specs.Int.{from_be_bytes, to_be_bytes, w16, w32}
use Rattle.std.specs.Str.{bytes_eq}
use Rattle.omci_types.specs.declared.Frame.{Frame}
use Rattle.frame_spec.specs.declared.FrameFault.{FrameFault}
use Rattle.frame_spec.specs.declared.FrameFault.TheVariants.{Device, Short, Trailer, Check}
use Rattle.frame_spec.specs.declared.TheConstants.{FRAME_BYTES, CHECKED_BYTES, CONTENTS_BYTES, BASELINE_DEVICE, BASELINE_TRAILER}
use Rattle.frame_spec.specs.Checksum.{crc}

abbrev pub IsBytes : List ℕ → Type 0
IsBytes bytes = (place : ℕ) → slice_index bytes place < 256

-- a frame whose fields are within their widths
pub record IsFrame (frame : Frame) : Type 0 where
  pub tci_fits : frame.tci < 2 ^ 16
  pub kind_fits : frame.kind < 256
  pub class_fits : frame.entity.class < 2 ^ 16
  pub instance_fits : frame.entity.instance < 2 ^ 16
  pub contents_whole : length frame.contents ≡ CONTENTS_BYTES
  pub contents_fit : IsBytes frame.contents

-- The frame's 48 bytes, field by field.
pub record Spells (frame : Frame) (bytes : List ℕ) : Type 0 where
  pub whole : length bytes ≡ FRAME_BYTES
  pub tci : take 2 bytes ≡ to_be_bytes w16 frame.tci
  pub kind : slice_index bytes 2 ≡ frame.kind
  pub device : slice_index bytes 3 ≡ BASELINE_DEVICE
  pub class : take 2 (drop 4 bytes) ≡ to_be_bytes w16 frame.entity.class
  pub instance : take 2 (drop 6 bytes) ≡ to_be_bytes w16 frame.entity.instance
  pub contents : take CONTENTS_BYTES (drop 8 bytes) ≡ frame.contents
  pub trailer : take 4 (drop 40 bytes) ≡ BASELINE_TRAILER
  pub check : drop CHECKED_BYTES bytes ≡ to_be_bytes w32 (crc (take CHECKED_BYTES bytes))

-- the 44 bytes of a frame that its check value is taken of
unfoldable pub checked_bytes : Frame → List ℕ
checked_bytes frame =
    to_be_bytes w16 frame.tci
    ++ frame.kind ∷ BASELINE_DEVICE ∷ []
    ++ to_be_bytes w16 frame.entity.class
    ++ to_be_bytes w16 frame.entity.instance
    ++ frame.contents
    ++ BASELINE_TRAILER

-- the one spelling of a frame
unfoldable pub spelling : Frame → List ℕ
spelling frame = checked_bytes frame ++ to_be_bytes w32 (crc (checked_bytes frame))

-- The 16-bit number at a place, the high byte first.
unfoldable pub number_at : ℕ → List ℕ → ℕ
number_at place bytes = from_be_bytes w16 (take 2 (drop place bytes))

-- What the fields say, read at their places, whether the bytes spell a frame or not.
unfoldable pub frame_of : List ℕ → Frame
frame_of bytes = record {
  tci = number_at 0 bytes;
  kind = slice_index bytes 2;
  entity = record { class = number_at 4 bytes; instance = number_at 6 bytes };
  contents = take CONTENTS_BYTES (drop 8 bytes);
}

-- bytes 41 to 44
unfoldable pub trailer_at : List ℕ → List ℕ
trailer_at bytes = take 4 (drop 40 bytes)

-- the check value in bytes 45 to 48
unfoldable pub given_check : List ℕ → ℕ
given_check bytes = from_be_bytes w32 (take 4 (drop CHECKED_BYTES bytes))

-- the check value of bytes 1 to 44
unfoldable pub computed_check : List ℕ → ℕ
computed_check bytes = crc (take CHECKED_BYTES bytes)

-- The first fault of the bytes, in the order in which they are tested. Bytes after the 48th don't
-- matter.
unfoldable pub fault_of : List ℕ → Option FrameFault
fault_of bytes =
    if nat_le 4 (length bytes)
    && not (slice_index bytes 3 == BASELINE_DEVICE) then Some (Device (slice_index bytes 3))
    else if nat_lt (length bytes) FRAME_BYTES then Some (Short (length bytes))
    else if not (bytes_eq (trailer_at bytes) BASELINE_TRAILER)
    then Some (Trailer (trailer_at bytes))
    else if not (given_check bytes == computed_check bytes) then Some (Check (given_check bytes)
    (computed_check bytes))
    else None

-- what decoding answers where this is the first fault of the bytes
unfoldable pub answer_of : Option FrameFault → List ℕ → Result Frame FrameFault
answer_of None bytes = Ok (frame_of bytes)
answer_of (Some fault) bytes = Err fault

-- The frame that the bytes begin with, or their first fault.
unfoldable pub decoded : List ℕ → Result Frame FrameFault
decoded bytes = answer_of (fault_of bytes) bytes

-- the frame of a packet of so many bytes with this first fault
unfoldable pub frame_unless : Option FrameFault → List ℕ → Option Frame
frame_unless None bytes = if length bytes == FRAME_BYTES then Some (frame_of bytes) else None
frame_unless (Some fault) bytes = None

-- The frame of a packet that is exactly one frame.
unfoldable pub packet_frame : List ℕ → Option Frame
packet_frame bytes = frame_unless (fault_of bytes) bytes
