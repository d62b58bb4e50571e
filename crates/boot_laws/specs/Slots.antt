-- The image slots of the unit: those of its store while it is on, and those that its last life left
-- while it is off.
use Rattle.std.specs.Prelude.{◌≡◌, ℕ, Option, Some, None}
use Rattle.omci_types.specs.declared.Boot.{Boot}
use Rattle.slot_spec.specs.Slots.{SlotPair}
use Rattle.unit_spec.specs.Onu.{Onu, onu_started}
use Rattle.world_spec.specs.Ends.{Ends}

abbrev pub slots_of : Option Onu → SlotPair → SlotPair
slots_of None off = off
slots_of (Some u) off = u.store.slots

abbrev pub slots_in : Ends → SlotPair
slots_in e = slots_of e.unit e.slots

-- a unit that has just started with these slots
pub record StartsWith (slots : SlotPair) (o : Option Onu) : Type 0 where
  pub boot : Boot
  pub room : ℕ
  pub unit : o ≡ Some (onu_started boot room slots)
