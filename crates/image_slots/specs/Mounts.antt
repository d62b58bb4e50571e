-- What a mount answers, and the device calls that it makes.
use Rattle.std.specs.Prelude.{◌≡◌, ℕ, not, ◌&&◌, Bool, true, false, if◌then◌else◌, nat_lt, nat_le, [], ◌∷◌, List, get_or, length, None, IsSome, Result, Ok, Err}
use Rattle.slot_spec.specs.declared.Pick.{Pick}
use Rattle.slot_spec.specs.declared.TheConstants.{HEADER_BYTES, ROOM_PLACE}
use Rattle.image_slots.specs.declared.slots.Slots.{Slots}
use Rattle.image_slots.specs.declared.mount.MountRefusal.{MountRefusal}
use Rattle.image_slots.specs.declared.mount.MountRefusal.TheVariants.{NoUnit, Fault, NoImage}
use Rattle.slot_spec.specs.Crash.{field}
use Rattle.slot_spec.specs.Layout.{gate_place, entry_place}
use Rattle.slot_spec.specs.Rig.{Rigged, Call, Read, Sync, trap_is_met}
use Rattle.slot_spec.specs.Header.{number_at, disk_header_in, has_unit, view_at}

abbrev pub mount_disk : {D : Type 0} → Result (Slots D) (MountRefusal D) → D
mount_disk (Ok slots) = slots.disk
mount_disk (Err (NoUnit disk length magic room)) = disk
mount_disk (Err (Fault disk)) = disk
mount_disk (Err (NoImage disk slot gate size)) = disk

abbrev pub mount_faults : {D : Type 0} → Result (Slots D) (MountRefusal D) → Bool
mount_faults (Ok slots) = false
mount_faults (Err (NoUnit disk length magic room)) = false
mount_faults (Err (Fault disk)) = true
mount_faults (Err (NoImage disk slot gate size)) = false

-- a disk that is too short for a header isn't called
abbrev pub mount_calls : ℕ → List Call
mount_calls size = if nat_lt size HEADER_BYTES then [] else Sync ∷ Read 0 HEADER_BYTES ∷ []

-- what was found in bytes that begin so: slots, whose committed one is valid
abbrev pub MountFinds : {D : Type 0} → ℕ → List ℕ → Slots D → Type 0
MountFinds size bytes slots = (has_unit size bytes ≡ true) × (slots.header ≡ disk_header_in bytes)
    × IsSome (view_at slots.header.committed slots.header)

-- a refusal of a disk that has a header
abbrev pub HeadRefused : {D : Type 0} → ℕ → List ℕ → MountRefusal D → Type 0
HeadRefused size bytes (NoUnit disk length magic room) = (has_unit size bytes ≡ false)
    × (length ≡ size) × (magic ≡ field 0 8 bytes) × (room ≡ number_at ROOM_PLACE bytes)
HeadRefused size bytes (Fault disk) = ⊥
HeadRefused size bytes (NoImage disk slot gate given) =
    (has_unit size bytes ≡ true) × (slot ≡ (disk_header_in bytes).committed)
    × (view_at slot (disk_header_in bytes) ≡ None) × (gate ≡ get_or bytes (gate_place slot) 0)
    × (given ≡ number_at (entry_place slot) bytes)

-- the refusal of a disk of at least 4,096 bytes, or a fault
abbrev pub MountRefused : {D : Type 0} → ℕ → List ℕ → MountRefusal D → Type 0
MountRefused size bytes (NoUnit disk length magic room) =
    HeadRefused size bytes (NoUnit disk length magic room)
MountRefused size bytes (Fault disk) = Unit {0}
MountRefused size bytes (NoImage disk slot gate given) =
    HeadRefused size bytes (NoImage disk slot gate given)

abbrev pub IsMountFault : {D : Type 0} → MountRefusal D → Type 0
IsMountFault (Fault disk) = Unit {0}
IsMountFault (NoUnit disk length magic room) = ⊥
IsMountFault (NoImage disk slot gate given) = ⊥

-- whether a mount's first sync is done
abbrev pub mount_syncs : ℕ → Rigged → Bool
mount_syncs size r = nat_le HEADER_BYTES size && not (trap_is_met r.trap)

-- A mount leaves what the disk reads as. Where its first sync is done, a cut with each pick leaves
-- the same; else what it would have left before.
pub record MountLeaves (size : ℕ) (r after : Rigged) : Type 0 where
  pub reads : after.bytes ≡ r.bytes
  pub cuts : (pick : Pick) → after.cut pick ≡ (if mount_syncs size r then r.bytes else r.cut pick)
