-- What an answer of a run of the unit alone says of the sink, of the disk and of the link.
use Rattle.std.specs.Prelude.{ℕ, ◌≡◌, List, length, Option, Some}
use Rattle.slot_spec.specs.Slots.{SlotPair}
use Rattle.slot_spec.specs.Layout.{StandsAt}
use Rattle.image_store.specs.Starts.{IsUnit}
use Rattle.turn_spec.specs.Arrivals.{Arrival}
use Rattle.unit_turns.specs.declared.ending.UnitStatus.{UnitStatus}
use Rattle.unit_turns.specs.declared.ending.UnitStatus.TheVariants as ended
use Rattle.unit_turns.specs.Ending.{CausedBy, DiskCausedBy, EndsBare, UnitEnds}
use Rattle.omci_top.specs.declared.status.Status.{Status}
use Rattle.omci_top.specs.declared.status.Status.TheVariants.{Done, WriteFault, DiskFault, LinkFault, NoUnit, NoMemory}

-- the answer to a run that ended so
abbrev pub unit_status : UnitStatus → Status
unit_status ended.Done = Done
unit_status ended.DiskFault = DiskFault
unit_status ended.NoUnit = NoUnit
unit_status ended.LinkFault = LinkFault
unit_status ended.WriteFault = WriteFault
unit_status ended.NoMemory = NoMemory

-- What a run of the unit comes to: how it ended, with the counts of the link, of the sink and of
-- the disk; where the disk told bytes that stand for some slots, what was taken, sent and written,
-- and what a crash may leave of the disk; and where it told bytes of no unit, that nothing was taken,
-- sent or written.
pub record AnswersUnit {D : Type 0} (seen : D → Option (List ℕ)) (may_leave : D → List ℕ → Type 0)
    (clock : D → ℕ) (left_since : D → ℕ → List ℕ → Type 0) (faults : D → ℕ) (status : Status)
    (turns : ℕ) (before now : D) (left_before left_now : Option (List Arrival))
    (sent_before sent_now : Option (List (List ℕ)))
    (written_before written_now : Option (List ℕ))
    (link_before link_now sink_before sink_now : ℕ) : Type 0 where
  pub ended : UnitStatus
  pub status_is : status ≡ unit_status ended
  pub cause : CausedBy ended link_before link_now sink_before sink_now
  pub disk_cause : DiskCausedBy ended (faults before) (faults now)
  pub ends : (room : ℕ) (slots : SlotPair) (bytes : List ℕ) → seen before ≡ Some bytes
      → StandsAt room bytes slots
      → UnitEnds seen may_leave clock left_since faults ended room slots turns before now
      left_before left_now sent_before sent_now written_before written_now
  pub bare : (bytes : List ℕ) → seen before ≡ Some bytes → ¬ IsUnit (length bytes) bytes
      → EndsBare ended × (left_now ≡ left_before) × (sent_now ≡ sent_before)
      × (written_now ≡ written_before)
