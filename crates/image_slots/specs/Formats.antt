-- What a format leaves on a disk.
use Rattle.std.specs.Prelude.{◌≡◌, ℕ, ◌+◌, ◌*◌, ◌≤◌, ◌<◌, ◌⊎◌, max, Bool, true, false, ◌&&◌, nat_le, if◌then◌else◌, ◌-◌, ◌++◌, replicate, Option, Some, None, List, [], ◌∷◌, length, Result, Ok, Err}
use Rattle.std.specs.Int.{to_be_bytes, w32}
use Rattle.slot_spec.specs.declared.Trap.TheVariants.{Clear}
use Rattle.slot_spec.specs.declared.TheConstants.{ROOM_PLACE, CLOSED_GATE, ENTRY_BYTES, HEADER_BYTES}
use Rattle.image_slots.specs.declared.slots.Slots.{Slots}
use Rattle.image_slots.specs.declared.format.FormatRefusal.{FormatRefusal}
use Rattle.image_slots.specs.declared.format.FormatRefusal.TheVariants.{Size, Fault}
use Rattle.slot_spec.specs.Crash.{field}
use Rattle.slot_spec.specs.Slots.{SlotPair}
use Rattle.slot_spec.specs.Layout.{magic, commit_place, gate_place, entry_place, image_place, open_gate, entry, StandsAt, GatesHold}
use Rattle.slot_spec.specs.Rig.{Rigged, RigHolds, Call, Write, Sync}

-- the image is in slot 0, which is committed, and slot 1 has none
abbrev pub formatted_slots : List ℕ → SlotPair
formatted_slots image = record { first = Some image; second = None; committed = 0 }

-- how long the disk is then: it grows where it is shorter than the slots
abbrev pub formatted_length : ℕ → ℕ → ℕ
formatted_length room size = max size (HEADER_BYTES + 2 * room)

-- what stands behind the magic
pub record FormattedBody (room : ℕ) (entry_of image was bytes : List ℕ) : Type 0 where
  pub room_is : field ROOM_PLACE 4 bytes ≡ to_be_bytes w32 room
  pub committed : field commit_place 1 bytes ≡ 0 ∷ []
  pub first_gate : field (gate_place 0) 1 bytes ≡ open_gate ∷ []
  pub second_gate : field (gate_place 1) 1 bytes ≡ CLOSED_GATE ∷ []
  pub entry_is : field (entry_place 0) ENTRY_BYTES bytes ≡ entry_of
  pub image_is : field (image_place room 0) (length image) bytes ≡ image
  pub long : length bytes ≡ formatted_length room (length was)

-- the whole
pub record Formatted (room : ℕ) (entry_of image was bytes : List ℕ) : Type 0 where
  pub magic_is : field 0 8 bytes ≡ magic
  pub body : FormattedBody room entry_of image was bytes

-- a disk that reads so, and that each crash leaves so
pub record FormattedDisk {D : Type 0} (seen : D → Option (List ℕ)) (may_leave : D → List ℕ → Type 0)
    (room : ℕ) (entry_of image was : List ℕ) (disk : D) : Type 0 where
  pub now : List ℕ
  pub reads : seen disk ≡ Some now
  pub formatted : Formatted room entry_of image was now
  pub only : (bytes : List ℕ) → may_leave disk bytes → bytes ≡ now

abbrev pub format_disk : {D : Type 0} → Result (Slots D) (FormatRefusal D) → D
format_disk (Ok slots) = slots.disk
format_disk (Err (Size disk size room)) = disk
format_disk (Err (Fault disk)) = disk

abbrev pub format_faults : {D : Type 0} → Result (Slots D) (FormatRefusal D) → Bool
format_faults (Ok slots) = false
format_faults (Err (Size disk size room)) = false
format_faults (Err (Fault disk)) = true

abbrev pub FormatRefused : {D : Type 0} → D → ℕ → ℕ → FormatRefusal D → Type 0
FormatRefused before space asked (Size disk size room) = (disk ≡ before) × (size ≡ asked)
    × (room ≡ space) × ((asked ≡ 0) ⊎ (space < asked))
FormatRefused before space asked (Fault disk) = (1 ≤ asked) × (asked ≤ space)

-- the writes behind the magic
abbrev pub body_calls : ℕ → List ℕ → List ℕ → List Call
body_calls room entry_of image =
    Write ROOM_PLACE (to_be_bytes w32 room) ∷ Write commit_place (0 ∷ [])
    ∷ Write (gate_place 0) (open_gate ∷ []) ∷ Write (gate_place 1) (CLOSED_GATE ∷ [])
    ∷ Write (entry_place 0) entry_of
    ∷ Write (image_place room 0) image ∷ Write (HEADER_BYTES + 2 * room - 1) (0 ∷ []) ∷ []

-- the magic is taken away, and stands again last
abbrev pub layout_calls : ℕ → List ℕ → List ℕ → List Call
layout_calls room entry_of image = (Write 0 (replicate 8 0) ∷ Sync ∷ [])
    ++ (body_calls room entry_of image ++ ((Sync ∷ []) ++ (Write 0 magic ∷ Sync ∷ [])))

-- an image that doesn't fit makes no device call
abbrev pub format_calls : ℕ → List ℕ → List Call
format_calls room image = if nat_le 1 (length image)
    && nat_le (length image) room then layout_calls room (entry image) image else []

-- over a rig: what the disk reads as and what a cut with each pick would leave stand for the slots,
-- each open gate has an image, and where there was no trap there is none
pub record FormatLeaves (room : ℕ) (image : List ℕ) (r after : Rigged) : Type 0 where
  pub stands : RigHolds (StandsAt room) (formatted_slots image) after
  pub gates : RigHolds GatesHold (formatted_slots image) after
  pub clear : r.trap ≡ Clear → after.trap ≡ Clear
