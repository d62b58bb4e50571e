-- What a start makes of its disk.
use Rattle.std.specs.Prelude.{◌≡◌, ℕ, Bool, true, false, List, Option, Some, IsSome}
use Rattle.slot_spec.specs.Crash.{Moments}
use Rattle.slot_spec.specs.Rig.{Rigged, Makes}
use Rattle.slot_spec.specs.Header.{has_unit, disk_header_in, view_at}
use Rattle.image_slots.specs.declared.mount.MountRefusal.{MountRefusal}
use Rattle.image_slots.specs.declared.mount.MountRefusal.TheVariants.{NoUnit, Fault, NoImage}
use Rattle.image_slots.specs.Mounts.{mount_calls, MountLeaves}
use Rattle.image_store.specs.Carries.{Caused}

-- the disk that a refusal gives back, and whether a device call failed
abbrev pub refusal_disk : {D : Type 0} → MountRefusal D → D
refusal_disk (NoUnit disk length magic room) = disk
refusal_disk (Fault disk) = disk
refusal_disk (NoImage disk slot gate size) = disk

abbrev pub refusal_faults : {D : Type 0} → MountRefusal D → Bool
refusal_faults (NoUnit disk length magic room) = false
refusal_faults (Fault disk) = true
refusal_faults (NoImage disk slot gate size) = false

-- bytes are those of a disk of slots whose committed slot has an image
abbrev pub IsUnit : ℕ → List ℕ → Type 0
IsUnit size bytes = (has_unit size bytes ≡ true)
    × IsSome (view_at (disk_header_in bytes).committed (disk_header_in bytes))

-- A start leaves what its disk reads as, and a crash at each of its moments leaves what one before
-- it might have left. Over a rig its device calls are those of a mount, a call failed exactly where
-- one of them does, and a cut leaves what the disk reads as once the first sync is done.
pub record Started {D : Type 0} (seen : D → Option (List ℕ)) (may_leave : D → List ℕ → Type 0)
    (clock : D → ℕ) (left_since : D → ℕ → List ℕ → Type 0) (rig : D → Option Rigged)
    (faults : D → ℕ) (size : ℕ) (old new : D) (fails : Bool) : Type 0 where
  pub reads : seen new ≡ seen old
  pub moments : Moments clock left_since may_leave old new (may_leave old)
  pub made : Makes (mount_calls size) (rig old) (rig new) fails
  pub outcome : (r : Rigged) → rig old ≡ Some r
      → (after : Rigged) × (rig new ≡ Some after) × MountLeaves size r after
  pub cause : Caused fails (faults old) (faults new)
