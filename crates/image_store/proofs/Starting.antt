-- What a mount says of a start.
use Rattle.std.proofs.Common.{◌≡◌, ℕ, Bool, true, false, List, Option, Some, IsSome, Result, Err}
use Rattle.std.proofs.Common.{refl, ap, subst}
use Rattle.omci_core.specs.Causes.{Rose}
use Rattle.slot_spec.specs.declared.DiskHeader.{DiskHeader}
use Rattle.slot_spec.specs.Crash.{Moments}
use Rattle.slot_spec.specs.Rig.{Rigged, Makes}
use Rattle.slot_spec.specs.Header.{view_at}
use Rattle.image_slots.specs.declared.slots.Slots.{Slots}
use Rattle.image_slots.specs.declared.mount.MountRefusal.{MountRefusal}
use Rattle.image_slots.specs.declared.mount.MountRefusal.TheVariants.{NoUnit, Fault, NoImage}
use Rattle.image_slots.specs.Mounts.{mount_disk, mount_faults, mount_calls, MountLeaves, MountFinds}
use Rattle.image_store.specs.declared.state.State.{State}
use Rattle.image_store.specs.declared.state.State.TheVariants as form
use Rattle.image_store.specs.Stands.{state_disk}
use Rattle.image_store.specs.Carries.{Caused}
use Rattle.image_store.specs.Starts.{Started, IsUnit, refusal_disk, refusal_faults}
use Rattle.image_store.proofs.Carrying.{one_state}

-- one refusal is another's, whatever the call would have given
pub refused_as : {A B E : Type 0} (a b : E) → ◌≡◌ {A = Result A E} (Err a) (Err b)
    → ◌≡◌ {A = Result B E} (Err a) (Err b)
refused_as a b is = ap (λ e. Err e) (same a b is)
  where
    same : {A E : Type 0} (a b : E) → ◌≡◌ {A = Result A E} (Err a) (Err b) → a ≡ b
    same a b e = cc

module _ {D : Type 0} (seen : D → Option (List ℕ)) (may_leave : D → List ℕ → Type 0)
    (clock : D → ℕ) (left_since : D → ℕ → List ℕ → Type 0) (rig : D → Option Rigged)
    (faults : D → ℕ) (size : ℕ) (old : D) where
  caused : (fails : Bool) (new : D) → (fails ≡ true → Rose (faults old) (faults new))
      → (fails ≡ false → faults new ≡ faults old) → Caused fails (faults old) (faults new)
  caused true new rose kept = rose refl
  caused false new rose kept = kept refl

  pub started : (new : D) (fails : Bool) → seen new ≡ seen old
      → Moments clock left_since may_leave old new (may_leave old)
      → Makes (mount_calls size) (rig old) (rig new) fails
      → ((r : Rigged) → rig old ≡ Some r
      → (after : Rigged) × (rig new ≡ Some after) × MountLeaves size r after)
      → (fails ≡ true → Rose (faults old) (faults new))
      → (fails ≡ false → faults new ≡ faults old)
      → Started seen may_leave clock left_since rig faults size old new fails
  started new fails reads moments made outcome rose kept = record {
    reads = reads;
    moments = moments;
    made = made;
    outcome = outcome;
    cause = caused fails new rose kept;
  }

  -- what is said of the slots is said of the store's state
  pub of_state : (P : D → Type 0) (o : Option (State D)) (slots : Slots D) (state : State D)
      → o ≡ Some (form.Whole slots) → o ≡ Some state → P slots.disk → P (state_disk state)
  of_state P o slots state whole is said =
      subst (λ (x : State D). P (state_disk x)) (one_state o (form.Whole slots) state whole is) said

  -- and what is said of a mount that failed is said of its refusal
  pub of_refusal : (P : D → Bool → Type 0) (refusal : MountRefusal D)
      → P (mount_disk (Err refusal)) (mount_faults (Err refusal))
      → P (refusal_disk refusal) (refusal_faults refusal)
  of_refusal P (NoUnit disk length magic room) said = said
  of_refusal P (Fault disk) said = said
  of_refusal P (NoImage disk slot gate given) said = said

-- bytes in which slots were found
pub found_unit : {D : Type 0} (size : ℕ) (bytes : List ℕ) (slots : Slots D)
    → MountFinds size bytes slots → IsUnit size bytes
found_unit size bytes slots found = (
  found.0,
  subst (λ (h : DiskHeader). IsSome (view_at h.committed h)) found.1 found.2,
)
