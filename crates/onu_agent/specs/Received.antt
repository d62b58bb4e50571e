-- What a packet makes of a unit and of its disk.
use Rattle.std.specs.Prelude.{◌≡◌, Bool, true, ℕ, List, Option, Some}
use Rattle.slot_spec.specs.Rig.{Rigged}
use Rattle.store_spec.specs.Deeds.{Deed}
use Rattle.store_spec.specs.Effects.{calls_device}
use Rattle.unit_spec.specs.declared.Note.{Note}
use Rattle.unit_spec.specs.declared.Did.{Did}
use Rattle.unit_spec.specs.Onu.{Onu, Answer, Reception, onu_received, packet_deed}
use Rattle.omci_types.specs.declared.Frame.{Frame}
use Rattle.image_store.specs.declared.state.State as images
use Rattle.image_store.specs.Stands.{Kept as Images, state_disk}
use Rattle.image_store.specs.Carries.{Caused, DiskChanges, MakesCalls, CallsWithin, StaysClear}
use Rattle.onu_agent.specs.State.{Held, UnitStands}

-- What became of the disk in a deed of the store: a device call failed only where the deed makes
-- some, and exactly where the disk's count of faults rose. Over a rig it makes the deed's calls, up
-- to the first that fails; each lies within the disk, so that none fails without a trap. And what
-- each crash leaves, and each cut over a rig.
pub record Touches {D : Type 0} (may_leave : D → List ℕ → Type 0) (clock : D → ℕ)
    (left_since : D → ℕ → List ℕ → Type 0) (rig : D → Option Rigged) (faults : D → ℕ)
    (fails : Bool) (old new : Images D) (d : Deed) (u : Onu) : Type 0 where
  pub before : images.State D
  pub before_is : old.state ≡ Some before
  pub after : images.State D
  pub after_is : new.state ≡ Some after
  pub calls : fails ≡ true → calls_device d ≡ true
  pub made : MakesCalls u.room d u.store (rig (state_disk before)) (rig (state_disk after)) fails
  pub within : CallsWithin u.room d u.store (rig (state_disk before))
  pub clear : StaysClear (rig (state_disk before)) (rig (state_disk after)) fails
  pub cause : Caused fails (faults (state_disk before)) (faults (state_disk after))
  pub disk : DiskChanges may_leave clock left_since rig u.room d u.store (state_disk before)
      (state_disk after)

-- Something came to a unit, by whether a device call failed in it, and with this deed of its store:
-- the unit after it, what it did, its reply, and what became of its disk.
pub record Came {D : Type 0} (seen : D → Option (List ℕ)) (may_leave : D → List ℕ → Type 0)
    (clock : D → ℕ) (left_since : D → ℕ → List ℕ → Type 0) (rig : D → Option Rigged)
    (faults : D → ℕ) (old new : Held D) (did : Did) (reply : List ℕ) (came : Bool → Reception)
    (d : Deed) (u : Onu) : Type 0 where
  pub fails : Bool
  pub stands : UnitStands seen may_leave new (came fails).unit
  pub did_is : did ≡ (came fails).did
  pub reply_is : reply ≡ (came fails).reply
  pub disk : Touches may_leave clock left_since rig faults fails old.images new.images d u

-- a packet came
abbrev pub Received : {D : Type 0} → (D → Option (List ℕ)) → (D → List ℕ → Type 0) → (D → ℕ)
    → (D → ℕ → List ℕ → Type 0) → (D → Option Rigged) → (D → ℕ) → (old new : Held D) → Did
    → (reply bytes : List ℕ) → Onu → Type 0
Received seen may_leave clock left_since rig faults old new did reply bytes u =
    Came seen may_leave clock left_since rig faults old new did reply
    (λ fails. onu_received fails bytes u) (packet_deed bytes u) u

-- the same of a request that is carried out: its response, and what else is told of it
pub record CarriedOut {D : Type 0} (seen : D → Option (List ℕ)) (may_leave : D → List ℕ → Type 0)
    (clock : D → ℕ) (left_since : D → ℕ → List ℕ → Type 0) (rig : D → Option Rigged)
    (faults : D → ℕ) (old new : Held D) (reply : Frame) (note : Option Note)
    (given : Bool → Answer) (d : Deed) (u : Onu) : Type 0 where
  pub fails : Bool
  pub stands : UnitStands seen may_leave new (given fails).unit
  pub reply_is : reply ≡ (given fails).reply
  pub note_is : note ≡ (given fails).note
  pub disk : Touches may_leave clock left_since rig faults fails old.images new.images d u
