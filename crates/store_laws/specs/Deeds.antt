-- What is so of each store that a unit comes to have, and of a deed that a request comes to in it.
use Rattle.std.specs.Prelude.{◌≡◌, ◌≢◌, ◌⊎◌, ℕ, ◌<◌, true, false, ◌++◌, Option, Some}
use Rattle.std.specs.Prelude.{None, IsSome}
use Rattle.slot_spec.specs.Slots.{SlotPair, Keep, image_at, after_change}
use Rattle.store_spec.specs.History.{Ledger, with_entries}
use Rattle.store_spec.specs.State.{Loading, StoreState}
use Rattle.store_spec.specs.Deeds.{Deed, Ignore, Refuse, RefuseWindow, GiveUp, Begin, Hold, Put}
use Rattle.store_spec.specs.Deeds.{Seal, Activate, Commit, Recommit}
use Rattle.store_spec.specs.Effects.{change_of, entries_before, entries_behind}
use Rattle.store_laws.specs.Explained.{ExplainedBy}

-- a slot that an image may be put into
pub record IsSpare (s : SlotPair) (slot : ℕ) : Type 0 where
  pub below : slot < 2
  pub other : slot ≢ s.committed
  pub empty : image_at slot s ≡ None

abbrev pub LoadsSpare : SlotPair → Option Loading → Type 0
LoadsSpare s None = Unit {0}
LoadsSpare s (Some l) = IsSpare s l.target

-- A store is sound: nothing is in doubt while it is whole, the committed slot is 0 or 1, whatever
-- became of what is in doubt, and so is the active one; a download goes to a spare slot, and there
-- is none in a broken store.
pub record IsSound (m : StoreState) : Type 0 where
  pub sure : m.broken ≡ false → m.doubt ≡ Keep
  pub below : m.slots.committed < 2
  pub below_made : (after_change m.doubt m.slots).committed < 2
  pub active : m.active < 2
  pub spare : LoadsSpare m.slots m.download
  pub quiet : m.broken ≡ true → m.download ≡ None

-- what a deed finds in the slots
abbrev pub Fits : SlotPair → Deed → Type 0
Fits s Ignore = Unit {0}
Fits s (Refuse code) = Unit {0}
Fits s (RefuseWindow code) = Unit {0}
Fits s (GiveUp code) = Unit {0}
Fits s (Begin slot size granted) = (slot < 2) × (slot ≢ s.committed)
Fits s (Hold window) = Unit {0}
Fits s (Put bytes) = Unit {0}
Fits s (Seal slot image) = IsSpare s slot
Fits s (Activate leaves) = Unit {0}
Fits s (Commit slot) = (slot < 2) × (slot ≢ s.committed) × IsSome (image_at slot s)
Fits s (Recommit slot) = slot ≡ s.committed

-- a deed that a broken store may come to
abbrev pub IsIdle : Deed → Type 0
IsIdle Ignore = Unit {0}
IsIdle (Refuse code) = Unit {0}
IsIdle (RefuseWindow code) = Unit {0}
IsIdle (GiveUp code) = ⊥
IsIdle (Begin slot size granted) = ⊥
IsIdle (Hold window) = ⊥
IsIdle (Put bytes) = ⊥
IsIdle (Seal slot image) = ⊥
IsIdle (Activate leaves) = ⊥
IsIdle (Commit slot) = ⊥
IsIdle (Recommit slot) = ⊥

-- a deed that a request comes to in a store
pub record Meets (m : StoreState) (d : Deed) : Type 0 where
  pub fits : Fits m.slots d
  pub calm : ((m.broken ≡ false) × (m.doubt ≡ Keep)) ⊎ IsIdle d

-- What the papers explain around a deed: once it has begun, the slots before it and those that it
-- makes; once it is done, those that it makes.
pub record Around (l : Ledger) (s : SlotPair) (d : Deed) : Type 0 where
  pub before : ExplainedBy (with_entries (entries_before d) l) s
  pub made : ExplainedBy (with_entries (entries_before d) l) (after_change (change_of d) s)
  pub behind : ExplainedBy (with_entries (entries_behind d ++ entries_before d) l)
      (after_change (change_of d) s)
