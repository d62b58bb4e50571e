-- What a call does to the count of faults of a store's disk, whatever the disk tells.
use Rattle.std.specs.Prelude.{◌≡◌, ◌⊎◌, ◌&&◌, not, ℕ, Bool, false, Option, Some, None}
use Rattle.omci_core.specs.Causes.{Rose}
use Rattle.image_store.specs.declared.state.State.{State}
use Rattle.image_store.specs.Stands.{Kept, state_disk, state_broken}
use Rattle.image_store.specs.Carries.{Caused}

-- a count is as it was, or has risen
abbrev pub Counted : (before now : ℕ) → Type 0
Counted before now = (now ≡ before) ⊎ Rose before now

-- a device call failed: no call of the disk had failed before, and one has now
abbrev pub breaks : {D : Type 0} → State D → State D → Bool
breaks old new = not (state_broken old) && state_broken new

-- the count of a state's disk rose exactly where a device call failed
abbrev pub StateCounts : {D : Type 0} → (D → ℕ) → (old new : State D) → Type 0
StateCounts faults old new =
    Caused (breaks old new) (faults (state_disk old)) (faults (state_disk new))

-- the count of the disk of the state that a store has
abbrev pub held_faults : {D : Type 0} → (D → ℕ) → Option (State D) → ℕ
held_faults faults None = 0
held_faults faults (Some state) = faults (state_disk state)

-- whether a call of that disk failed
abbrev pub held_broken : {D : Type 0} → Option (State D) → Bool
held_broken None = false
held_broken (Some state) = state_broken state

-- the count of a store's disk
abbrev pub store_faults : {D : Type 0} → (D → ℕ) → Kept D → ℕ
store_faults faults s = held_faults faults s.state

-- a device call failed between two states of a store
abbrev pub store_breaks : {D : Type 0} → Kept D → Kept D → Bool
store_breaks old new = not (held_broken old.state) && held_broken new.state

-- The count of a store's disk rose exactly where a device call failed, which leaves the store
-- broken; and else it is as it was.
abbrev pub StoreCounts : {D : Type 0} → (D → ℕ) → (old new : Kept D) → Type 0
StoreCounts faults old new =
    Caused (store_breaks old new) (store_faults faults old) (store_faults faults new)
