-- The bytes of a disk that stand for two image slots.
use Rattle.std.specs.Prelude.{◌≡◌, ◌⊎◌, ℕ, zero, suc, ◌+◌, ◌*◌, ◌%◌, ◌≤◌, List, [], ◌∷◌, ◌++◌, length, take, get_or, replicate, Option, Some, None, IsSome}
use Rattle.std.specs.Int.{from_be_bytes, to_be_bytes, w32}
use Rattle.frame_spec.specs.Checksum.{crc}
use Rattle.slot_spec.specs.declared.TheConstants.{MAGIC, COMMIT_PLACE, FIRST_GATE, SECOND_GATE, OPEN_GATE, ENTRY_BYTES, FIRST_ENTRY, SECOND_ENTRY, VERSION_BYTES, HEADER_BYTES, MAX_ROOM}
use Rattle.slot_spec.specs.Crash.{field}
use Rattle.slot_spec.specs.Slots.{SlotPair, image_at}

-- `OMCISLT1`
abbrev pub magic : List ℕ
magic = MAGIC

-- where the parts of a slot stand
abbrev pub gate_place : ℕ → ℕ
gate_place zero = FIRST_GATE
gate_place (suc _) = SECOND_GATE

abbrev pub entry_place : ℕ → ℕ
entry_place zero = FIRST_ENTRY
entry_place (suc _) = SECOND_ENTRY

abbrev pub image_place : ℕ → ℕ → ℕ
image_place room zero = HEADER_BYTES
image_place room (suc _) = HEADER_BYTES + room

abbrev pub commit_place : ℕ
commit_place = COMMIT_PLACE

-- the byte of an open gate
abbrev pub open_gate : ℕ
open_gate = OPEN_GATE

abbrev pub IsOpen : ℕ → List ℕ → Type 0
IsOpen slot bytes = field (gate_place slot) 1 bytes ≡ open_gate ∷ []

-- an image's first 14 bytes, filled with zeros
unfoldable pub version : List ℕ → List ℕ
version image = take VERSION_BYTES (image ++ replicate VERSION_BYTES 0)

-- the entry of a slot that holds an image: its length, its check value, its version
unfoldable pub entry : List ℕ → List ℕ
entry image = to_be_bytes w32 (length image) ++ to_be_bytes w32 (crc image) ++ version image

-- the length that an entry gives
unfoldable pub given_length : List ℕ → ℕ
given_length bytes = from_be_bytes w32 (take 4 bytes)

-- from 1 to the room
abbrev pub IsLength : ℕ → ℕ → Type 0
IsLength room given = (1 ≤ given) × (given ≤ room)

-- a slot holds an image: its gate is open, the length is in range, the entry is that of the image,
-- and the image stands at the content's front
pub record HoldsImage (room : ℕ) (gate given content image : List ℕ) : Type 0 where
  pub opened : gate ≡ open_gate ∷ []
  pub within : IsLength room (length image)
  pub entered : given ≡ entry image
  pub content_is : take (length image) content ≡ image

-- a slot has an image exactly where its gate is open and the length of its entry is in range
abbrev pub SlotStands : ℕ → List ℕ → List ℕ → List ℕ → Option (List ℕ) → Type 0
SlotStands room gate given content (Some image) = HoldsImage room gate given content image
SlotStands room gate given content None = gate ≡ open_gate ∷ [] → IsLength room (given_length given)
    → ⊥

abbrev pub SlotIn : ℕ → List ℕ → ℕ → Option (List ℕ) → Type 0
SlotIn room bytes slot image =
    SlotStands room (field (gate_place slot) 1 bytes) (field (entry_place slot) ENTRY_BYTES bytes)
    (field (image_place room slot) room bytes) image

-- the bytes stand for the slots, with so much room in each slot
pub record StandsAt (room : ℕ) (bytes : List ℕ) (s : SlotPair) : Type 0 where
  pub magic_is : field 0 8 bytes ≡ magic
  pub room_is : field 8 4 bytes ≡ to_be_bytes w32 room
  pub room_fits : IsLength MAX_ROOM room
  pub long : HEADER_BYTES + 2 * room ≤ length bytes
  pub committed_is : get_or bytes commit_place 0 % 2 ≡ s.committed
  pub bootable : IsSome (image_at s.committed s)
  pub first : SlotIn room bytes 0 s.first
  pub second : SlotIn room bytes 1 s.second

-- the bytes stand for the slots, with some room
abbrev pub Stands : List ℕ → SlotPair → Type 0
Stands bytes s = (room : ℕ) × StandsAt room bytes s

-- the bytes stand for one of these slots
abbrev pub StandsAmong : ℕ → List SlotPair → List ℕ → Type 0
StandsAmong room [] bytes = ⊥
StandsAmong room (s ∷ ss) bytes = StandsAt room bytes s ⊎ StandsAmong room ss bytes

-- each open gate has an image in its slot
pub record GatesHold (bytes : List ℕ) (s : SlotPair) : Type 0 where
  pub first_gate : IsOpen 0 bytes → IsSome s.first
  pub second_gate : IsOpen 1 bytes → IsSome s.second
