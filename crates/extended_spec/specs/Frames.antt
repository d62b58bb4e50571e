-- An extended frame and its one spelling, and what bytes are a frame of either message set.
-- Places in a list count from 0: byte 1 of the standard is at place 0.
use Rattle.std.specs.Prelude.{◌≡◌, ℕ, ◌+◌, ◌<◌, ◌≤◌, ◌^◌, Bool, true, false, List, [], ◌∷◌, ◌++◌, length, take, drop, slice_index, if◌then◌else◌, nat_lt, nat_le, ◌==◌, ◌&&◌, not, Option, Some, None, Result, Ok, Err}
use Rattle.std.specs.Int.{from_be_bytes, to_be_bytes, w16, w32}
use Rattle.omci_types.specs.declared.EntityId.{EntityId}
use Rattle.omci_types.specs.declared.Frame.{Frame}
use Rattle.frame_spec.specs.declared.TheConstants.{FRAME_BYTES}
use Rattle.frame_spec.specs.declared.FrameFault.{FrameFault}
use Rattle.frame_spec.specs.declared.FrameFault.TheVariants as baseline
use Rattle.frame_spec.specs.Checksum.{crc}
use Rattle.frame_spec.specs.Baseline.{IsBytes, IsFrame, spelling, number_at, frame_of, fault_of}
use Rattle.extended_spec.specs.declared.TheConstants.{EXTENDED_DEVICE, HEADER_BYTES, CHECK_BYTES, MAX_LONG_CONTENTS}
use Rattle.extended_spec.specs.declared.AnyFault.{AnyFault}
use Rattle.extended_spec.specs.declared.AnyFault.TheVariants.{Device, Short, Trailer, Check, Length}

-- an extended frame: what its bytes say, apart from the parts that follow from it
pub record Long : Type 0 where
  pub tci : ℕ
  pub kind : ℕ
  pub entity : EntityId
  pub contents : List ℕ

-- an extended frame whose fields are within their widths
pub record IsLong (frame : Long) : Type 0 where
  pub tci_fits : frame.tci < 2 ^ 16
  pub kind_fits : frame.kind < 256
  pub class_fits : frame.entity.class < 2 ^ 16
  pub instance_fits : frame.entity.instance < 2 ^ 16
  pub contents_few : length frame.contents ≤ MAX_LONG_CONTENTS
  pub contents_fit : IsBytes frame.contents

-- the bytes of an extended frame that its check value is taken of
unfoldable pub long_checked : Long → List ℕ
long_checked frame =
    to_be_bytes w16 frame.tci
    ++ frame.kind ∷ EXTENDED_DEVICE ∷ []
    ++ to_be_bytes w16 frame.entity.class
    ++ to_be_bytes w16 frame.entity.instance
    ++ to_be_bytes w16 (length frame.contents)
    ++ frame.contents

-- the one spelling of an extended frame
unfoldable pub long_spelling : Long → List ℕ
long_spelling frame = long_checked frame ++ to_be_bytes w32 (crc (long_checked frame))

-- the number of contents bytes that bytes 9 and 10 give
unfoldable pub length_at : List ℕ → ℕ
length_at bytes = number_at 8 bytes

-- what the fields of an extended frame say, whether the bytes spell one or not
unfoldable pub long_of : List ℕ → Long
long_of bytes = record {
  tci = number_at 0 bytes;
  kind = slice_index bytes 2;
  entity = record { class = number_at 4 bytes; instance = number_at 6 bytes };
  contents = take (length_at bytes) (drop HEADER_BYTES bytes);
}

-- the check value after the contents
unfoldable pub long_given : List ℕ → ℕ
long_given bytes = from_be_bytes w32
    (take CHECK_BYTES (drop (HEADER_BYTES + length_at bytes) bytes))

-- the check value of all bytes before it
unfoldable pub long_computed : List ℕ → ℕ
long_computed bytes = crc (take (HEADER_BYTES + length_at bytes) bytes)

-- the bytes of an extended frame whose header is there
abbrev pub long_bytes : List ℕ → ℕ
long_bytes bytes = HEADER_BYTES + length_at bytes + CHECK_BYTES

-- The first fault of bytes whose device is that of the extended set. Bytes after the frame don't
-- matter; a length that is too large is found as soon as it is there.
unfoldable pub long_fault_of : List ℕ → Option AnyFault
long_fault_of bytes =
    if nat_lt (length bytes) HEADER_BYTES then Some (Short (length bytes))
    else if nat_lt MAX_LONG_CONTENTS (length_at bytes) then Some (Length (length_at bytes))
    else if nat_lt (length bytes) (long_bytes bytes) then Some (Short (length bytes))
    else if not (long_given bytes == long_computed bytes) then Some (Check (long_given bytes)
    (long_computed bytes))
    else None

-- a fault of a baseline frame as one of a frame of either set
abbrev pub as_any : Option FrameFault → Option AnyFault
as_any None = None
as_any (Some (baseline.Device byte)) = Some (Device byte)
as_any (Some (baseline.Short have)) = Some (Short have)
as_any (Some (baseline.Trailer trailer)) = Some (Trailer trailer)
as_any (Some (baseline.Check given computed)) = Some (Check given computed)

-- byte 4 is there and is the extended set's device
unfoldable pub is_extended : List ℕ → Bool
is_extended bytes = nat_le 4 (length bytes) && (slice_index bytes 3 == EXTENDED_DEVICE)

abbrev pub fault_in : Bool → List ℕ → Option AnyFault
fault_in true bytes = long_fault_of bytes
fault_in false bytes = as_any (fault_of bytes)

-- the first fault of bytes, which may be a frame of either set
unfoldable pub any_fault_of : List ℕ → Option AnyFault
any_fault_of bytes = fault_in (is_extended bytes) bytes

-- a frame of either set
pub data Any : Type 0 where
  Baseline : Frame → Any
  Extended : Long → Any

abbrev pub IsAny : Any → Type 0
IsAny (Baseline frame) = IsFrame frame
IsAny (Extended frame) = IsLong frame

abbrev pub any_spelling : Any → List ℕ
any_spelling (Baseline frame) = spelling frame
any_spelling (Extended frame) = long_spelling frame

abbrev pub frame_in : Bool → List ℕ → Any
frame_in true bytes = Extended (long_of bytes)
frame_in false bytes = Baseline (frame_of bytes)

abbrev pub bytes_in : Bool → List ℕ → ℕ
bytes_in true bytes = long_bytes bytes
bytes_in false bytes = FRAME_BYTES

-- what the fields say of a frame of the set that byte 4 names
unfoldable pub any_of : List ℕ → Any
any_of bytes = frame_in (is_extended bytes) bytes

-- the number of bytes of the frame that the bytes begin with
unfoldable pub any_bytes : List ℕ → ℕ
any_bytes bytes = bytes_in (is_extended bytes) bytes

abbrev pub any_answer : Option AnyFault → List ℕ → Result Any AnyFault
any_answer None bytes = Ok (any_of bytes)
any_answer (Some fault) bytes = Err fault

-- the frame of either set that the bytes begin with, or their first fault
unfoldable pub any_decoded : List ℕ → Result Any AnyFault
any_decoded bytes = any_answer (any_fault_of bytes) bytes
