-- What a request makes of a store.
use Rattle.std.specs.Prelude.{◌≡◌, ℕ, ◌+◌, ◌≤◌, ◌++◌, if◌then◌else◌, Bool, true, false, List, []}
use Rattle.std.specs.Prelude.{◌∷◌}
use Rattle.std.specs.Prelude.{length, drop, Option, Some, None}
use Rattle.std.specs.Str.{bytes_eq}
use Rattle.omci_core.specs.Causes.{Rose}
use Rattle.slot_spec.specs.declared.TheConstants.{CLOSED_GATE}
use Rattle.slot_spec.specs.declared.Trap.TheVariants.{Clear}
use Rattle.slot_spec.specs.Crash.{Moments, HasLength, field}
use Rattle.slot_spec.specs.Slots.{SlotPair, Change, mid}
use Rattle.slot_spec.specs.Layout.{StandsAt, StandsAmong, GatesHold, open_gate, gate_place}
use Rattle.slot_spec.specs.Layout.{entry_place, image_place, commit_place, entry}
use Rattle.slot_spec.specs.Rig.{Rigged, RigHolds, Call, Read, Write, Sync, after_calls, calls_fail}
use Rattle.slot_spec.specs.Outcome.{Leaves}
use Rattle.window_spec.specs.Incoming.{Window}
use Rattle.store_spec.specs.State.{StoreState, Loading}
use Rattle.store_spec.specs.Deeds.{Deed, Ignore, Refuse, RefuseWindow, GiveUp, Begin, Hold, Put}
use Rattle.store_spec.specs.Deeds.{Seal, Activate, Commit, Recommit}
use Rattle.store_spec.specs.Effects.{change_of, store_after, handled_by, calls_device}
use Rattle.store_spec.specs.declared.Handled.{Handled}
use Rattle.image_store.specs.declared.state.State.{State}
use Rattle.image_store.specs.declared.state.Done.{Done}
use Rattle.image_store.specs.Stands.{Kept, state_disk, StateStands, StoreStands}

-- What becomes of a disk of slots while this is made of them: each crash leaves the slots before or
-- those after it; the disk keeps its length; and over a rig each cut, and what the disk reads as,
-- are those of the number of the device call at which it stopped, and each open gate keeps an
-- image.
pub record Changed {D : Type 0} (may_leave : D → List ℕ → Type 0) (clock : D → ℕ)
    (left_since : D → ℕ → List ℕ → Type 0) (rig : D → Option Rigged) (room : ℕ) (change : Change)
    (s : SlotPair) (old new : D) : Type 0 where
  pub moments : Moments clock left_since may_leave old new (StandsAmong room (mid change s))
  pub length : (size : ℕ) → HasLength may_leave size old → HasLength may_leave size new
  pub outcome : (r : Rigged) → rig old ≡ Some r → Leaves (StandsAt room) change s r.trap (rig new)
  pub gates : (r : Rigged) → rig old ≡ Some r → RigHolds GatesHold s r
      → Leaves GatesHold change s r.trap (rig new)

-- Of a disk whose store is whole; where the store is broken, nothing becomes of its disk.
abbrev pub DiskChanges : {D : Type 0} → (D → List ℕ → Type 0) → (D → ℕ) → (D → ℕ → List ℕ → Type 0)
    → (D → Option Rigged) → ℕ → Deed → StoreState → D → D → Type 0
DiskChanges may_leave clock left_since rig room d m old new =
    (m.broken ≡ false → Changed may_leave clock left_since rig room (change_of d) m.slots old new)
    × (m.broken ≡ true → new ≡ old)

-- whether the gate of a slot is open in bytes
abbrev pub gate_is_open : ℕ → List ℕ → Bool
gate_is_open slot bytes = bytes_eq (field (gate_place slot) 1 bytes) (open_gate ∷ [])

-- what joins a download is written behind what was put
abbrev pub put_calls : ℕ → List ℕ → Option Loading → List Call
put_calls room bytes None = []
put_calls room bytes (Some l) =
    Write (image_place room l.target + length l.put) (drop (length l.put) bytes) ∷ []

-- the device calls of a deed, in their order, on a disk that reads so: a download that begins
-- closes its slot's gate where that is open
abbrev pub deed_calls : ℕ → Deed → StoreState → List ℕ → List Call
deed_calls room Ignore m bytes = []
deed_calls room (Refuse code) m bytes = []
deed_calls room (RefuseWindow code) m bytes = []
deed_calls room (GiveUp code) m bytes = []
deed_calls room (Begin slot size granted) m bytes =
    if gate_is_open slot bytes then
    Write (gate_place slot) (CLOSED_GATE ∷ []) ∷ Sync ∷ [] else []
deed_calls room (Hold window) m bytes = []
deed_calls room (Put all) m bytes = put_calls room all m.download
deed_calls room (Seal slot image) m bytes = (Write (entry_place slot) (entry image) ∷ Sync ∷ [])
    ++ (Write (gate_place slot) (open_gate ∷ []) ∷ Sync ∷ [])
deed_calls room (Activate leaves) m bytes = []
deed_calls room (Commit slot) m bytes = Write commit_place (slot ∷ []) ∷ Sync ∷ []
deed_calls room (Recommit slot) m bytes = []

-- over a rig: these calls were made up to the first that failed and no other, and a call failed
-- exactly where one of them does
abbrev pub MakesCalls : ℕ → Deed → StoreState → Option Rigged → Option Rigged → Bool → Type 0
MakesCalls room d m old new fails = (r : Rigged) → old ≡ Some r
    → (new ≡ Some (after_calls (deed_calls room d m r.bytes) r))
    × (fails ≡ calls_fail (deed_calls room d m r.bytes) r)

-- each of these calls lies within a disk of so many bytes
abbrev pub IsWithin : ℕ → List Call → Type 0
IsWithin size [] = Unit {0}
IsWithin size (Read at count ∷ calls) = (at + count ≤ size) × IsWithin size calls
IsWithin size (Write at bytes ∷ calls) = (at + length bytes ≤ size) × IsWithin size calls
IsWithin size (Sync ∷ calls) = IsWithin size calls

-- so does each of a deed's
abbrev pub CallsWithin : ℕ → Deed → StoreState → Option Rigged → Type 0
CallsWithin room d m told = (r : Rigged) → told ≡ Some r
    → IsWithin (length r.bytes) (deed_calls room d m r.bytes)

-- a disk tells that it has no trap
abbrev pub HasNoTrap : Option Rigged → Type 0
HasNoTrap told = (r : Rigged) × (told ≡ Some r) × (r.trap ≡ Clear)

-- without a trap no call fails, and there is none afterwards
abbrev pub StaysClear : Option Rigged → Option Rigged → Bool → Type 0
StaysClear old new fails = (r : Rigged) → old ≡ Some r → r.trap ≡ Clear
    → (fails ≡ false) × HasNoTrap new

-- a device call failed exactly where the disk's count of faults rose
abbrev pub Caused : (fails : Bool) (before now : ℕ) → Type 0
Caused true before now = Rose before now
Caused false before now = now ≡ before

-- A deed is done: whether a device call failed in it, which none does where it makes none, the
-- store after it, what is answered, the device calls over a rig, and what became of the disk.
pub record Carried {D : Type 0} (seen : D → Option (List ℕ)) (may_leave : D → List ℕ → Type 0)
    (clock : D → ℕ) (left_since : D → ℕ → List ℕ → Type 0) (rig : D → Option Rigged)
    (faults : D → ℕ)
    (room active granted : ℕ) (window : Window) (old : D) (did : Done D) (d : Deed)
    (m : StoreState) : Type 0 where
  pub fails : Bool
  pub stands : StateStands seen may_leave room active granted window did.state
      (store_after fails d m)
  pub handled_is : did.handled ≡ handled_by fails d
  pub calls : fails ≡ true → calls_device d ≡ true
  pub made : MakesCalls room d m (rig old) (rig (state_disk did.state)) fails
  pub within : CallsWithin room d m (rig old)
  pub cause : Caused fails (faults old) (faults (state_disk did.state))
  pub disk : DiskChanges may_leave clock left_since rig room d m old (state_disk did.state)

-- the same of a store
pub record StoreCarried {D : Type 0} (seen : D → Option (List ℕ)) (may_leave : D → List ℕ → Type 0)
    (clock : D → ℕ) (left_since : D → ℕ → List ℕ → Type 0) (rig : D → Option Rigged)
    (faults : D → ℕ)
    (old new : Kept D) (handled : Handled) (d : Deed) (m : StoreState) : Type 0 where
  pub fails : Bool
  pub stands : StoreStands seen may_leave new (store_after fails d m)
  pub handled_is : handled ≡ handled_by fails d
  pub before : State D
  pub before_is : old.state ≡ Some before
  pub calls : fails ≡ true → calls_device d ≡ true
  pub made : MakesCalls old.room d m (rig (state_disk before)) (rig (state_disk stands.state)) fails
  pub within : CallsWithin old.room d m (rig (state_disk before))
  pub cause : Caused fails (faults (state_disk before)) (faults (state_disk stands.state))
  pub disk : DiskChanges may_leave clock left_since rig old.room d m (state_disk before)
      (state_disk stands.state)
