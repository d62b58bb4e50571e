-- What a store holds of its disk, and the store of the definitions that it stands for.
use Rattle.std.specs.Prelude.{◌≡◌, ℕ, Bool, true, false, List, Option, Some, None}
use Rattle.std.specs.Prelude.{IsSome}
use Rattle.omci_types.specs.declared.Software.{Software}
use Rattle.slot_spec.specs.Slots.{mid}
use Rattle.slot_spec.specs.Layout.{StandsAmong}
use Rattle.slot_spec.specs.Owner.{Settled, Filling}
use Rattle.image_slots.specs.declared.slots.Slots.{Slots}
use Rattle.image_slots.specs.declared.download.Download.{Download}
use Rattle.image_slots.specs.Answers.{Loaded}
use Rattle.window_spec.specs.Incoming.{Window}
use Rattle.store_spec.specs.State.{StoreState, loading_of, software_of}
use Rattle.image_store.specs.declared.state.State.{State}
use Rattle.image_store.specs.declared.state.State.TheVariants as form

-- a store: the state of its disk; the most sections of a window, and what is held of the one that
-- comes; the room of each slot, and the active slot
pub record Kept (D : Type 0) : Type 0 where
  pub state : Option (State D)
  pub granted : ℕ
  pub window : Window
  pub room : ℕ
  pub active : ℕ

-- the disk of a state
abbrev pub state_disk : {D : Type 0} → State D → D
state_disk (form.Whole slots) = slots.disk
state_disk (form.Filling download) = download.disk
state_disk (form.Broken broken software) = broken.disk

-- whether a call of it failed
abbrev pub state_broken : {D : Type 0} → State D → Bool
state_broken (form.Whole slots) = false
state_broken (form.Filling download) = false
state_broken (form.Broken broken software) = true

-- the slots of a store in which no device call failed
pub record SlotsStand {D : Type 0} (seen : D → Option (List ℕ)) (may_leave : D → List ℕ → Type 0)
    (room active : ℕ) (slots : Slots D) (m : StoreState) : Type 0 where
  pub whole : m.broken ≡ false
  pub room_is : slots.header.room ≡ room
  pub active_is : m.active ≡ active
  pub settled : Settled seen may_leave slots.disk slots.header m.slots

-- the download that runs: as much of the image stands in its slot as was put, and what is held of
-- the window is that of the definitions once it is cut where the image ends
pub record LoadingStands {D : Type 0} (seen : D → Option (List ℕ)) (may_leave : D → List ℕ → Type 0)
    (room active granted : ℕ) (window : Window) (download : Download D)
    (m : StoreState) : Type 0 where
  pub whole : m.broken ≡ false
  pub room_is : download.header.room ≡ room
  pub active_is : m.active ≡ active
  pub put : List ℕ
  pub filling : Filling seen may_leave download.disk download.header download.target m.slots put
  pub loaded : Loaded download put
  pub download_is : m.download ≡ Some (loading_of download.target download.size granted put window)

-- a disk of which a call failed: each crash leaves the slots before that request, or those that it
-- makes
pub record BrokenStands {D : Type 0} (seen : D → Option (List ℕ)) (may_leave : D → List ℕ → Type 0)
    (room active : ℕ) (disk : D) (software : Software) (m : StoreState) : Type 0 where
  pub broken_is : m.broken ≡ true
  pub active_is : m.active ≡ active
  pub told : IsSome (seen disk)
  pub crash : (image : List ℕ) → may_leave disk image → StandsAmong room (mid m.doubt m.slots) image
  pub software_is : software ≡ software_of m

abbrev pub StateStands : {D : Type 0} → (D → Option (List ℕ)) → (D → List ℕ → Type 0)
    → (room active granted : ℕ) → Window → State D → StoreState → Type 0
StateStands seen may_leave room active granted window (form.Whole slots) m =
    SlotsStand seen may_leave room active slots m × (m.download ≡ None)
StateStands seen may_leave room active granted window (form.Filling download) m =
    LoadingStands seen may_leave room active granted window download m
StateStands seen may_leave room active granted window (form.Broken broken software) m =
    BrokenStands seen may_leave room active broken.disk software m × (m.download ≡ None)

-- a store stands for one of the definitions, with so much room in each slot
pub record StoreStands {D : Type 0} (seen : D → Option (List ℕ)) (may_leave : D → List ℕ → Type 0)
    (s : Kept D) (m : StoreState) : Type 0 where
  pub state : State D
  pub state_is : s.state ≡ Some state
  pub stands : StateStands seen may_leave s.room s.active s.granted s.window state m
