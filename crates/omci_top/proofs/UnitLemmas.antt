-- What a run of the unit comes to, from how it ended, and what the top call says of it.
use Rattle.std.proofs.Common.{◌≡◌, ◌≢◌, ℕ, inl, inr, List, Option, Some, refl, subst}
use Rattle.omci_core.specs.Causes.{Rose}
use Rattle.slot_spec.specs.Slots.{SlotPair}
use Rattle.turn_spec.specs.Arrivals.{Arrival}
use Rattle.unit_turns.specs.declared.ending.UnitStatus.{UnitStatus}
use Rattle.unit_turns.specs.declared.ending.UnitStatus.TheVariants as ended
use Rattle.unit_turns.specs.Ending.{CausedBy, DiskCausedBy, EndsBare, UnitEnds}
use Rattle.command_lines.specs.declared.Command.{Command}
use Rattle.command_lines.specs.declared.Command.TheVariants.{Unit}
use Rattle.omci_top.specs.Units.{unit_status, AnswersUnit}
use Rattle.omci_top.specs.declared.status.Status.{Status}
use Rattle.omci_top.specs.declared.status.Status.TheVariants.{Done, WriteFault, DiskFault, LinkFault, NoUnit, NoMemory}

-- the count of the disk, by the answer
pub unit_disk_fault : (old new : ℕ) (e : UnitStatus) → DiskCausedBy e old new
    → unit_status e ≡ DiskFault → Rose old new
unit_disk_fault old new ended.Done cause is = absurd (cc)
unit_disk_fault old new ended.DiskFault cause is = cause
unit_disk_fault old new ended.NoUnit cause is = absurd (cc)
unit_disk_fault old new ended.LinkFault cause is = absurd (cc)
unit_disk_fault old new ended.WriteFault cause is = absurd (cc)
unit_disk_fault old new ended.NoMemory cause is = absurd (cc)

-- on a disk of no unit a run is refused where memory suffices and no device call fails
pub unit_refuses_of : (old new : ℕ) (e : UnitStatus) → EndsBare e → DiskCausedBy e old new
    → ¬ Rose old new → unit_status e ≢ NoMemory → unit_status e ≡ NoUnit
unit_refuses_of old new ended.Done bare cause calm some = absurd bare
unit_refuses_of old new ended.DiskFault bare cause calm some = absurd (calm cause)
unit_refuses_of old new ended.NoUnit bare cause calm some = refl
unit_refuses_of old new ended.LinkFault bare cause calm some = absurd bare
unit_refuses_of old new ended.WriteFault bare cause calm some = absurd bare
unit_refuses_of old new ended.NoMemory bare cause calm some = absurd (some refl)

module _ (lb ln kb kn : ℕ) where
  -- the counts of the sink and of the link, by the answer
  pub unit_write_fault : (e : UnitStatus) → CausedBy e lb ln kb kn → unit_status e ≡ WriteFault
      → Rose kb kn
  unit_write_fault ended.Done cause is = absurd (cc)
  unit_write_fault ended.DiskFault cause is = absurd (cc)
  unit_write_fault ended.NoUnit cause is = absurd (cc)
  unit_write_fault ended.LinkFault cause is = absurd (cc)
  unit_write_fault ended.WriteFault cause is = cause.1
  unit_write_fault ended.NoMemory cause is = absurd (cc)

  pub unit_write_kept : (e : UnitStatus) → CausedBy e lb ln kb kn → unit_status e ≢ WriteFault
      → kn ≡ kb
  unit_write_kept ended.Done cause isnt = cause.1
  unit_write_kept ended.DiskFault cause isnt = cause.1
  unit_write_kept ended.NoUnit cause isnt = cause.1
  unit_write_kept ended.LinkFault cause isnt = cause.1
  unit_write_kept ended.WriteFault cause isnt = absurd (isnt refl)
  unit_write_kept ended.NoMemory cause isnt = cause.1

  pub unit_link_fault : (e : UnitStatus) → CausedBy e lb ln kb kn → unit_status e ≡ LinkFault
      → Rose lb ln
  unit_link_fault ended.Done cause is = absurd (cc)
  unit_link_fault ended.DiskFault cause is = absurd (cc)
  unit_link_fault ended.NoUnit cause is = absurd (cc)
  unit_link_fault ended.LinkFault cause is = cause.0
  unit_link_fault ended.WriteFault cause is = absurd (cc)
  unit_link_fault ended.NoMemory cause is = absurd (cc)

  pub unit_link_kept : (e : UnitStatus) → CausedBy e lb ln kb kn → unit_status e ≢ LinkFault
      → ln ≡ lb
  unit_link_kept ended.Done cause isnt = cause.0
  unit_link_kept ended.DiskFault cause isnt = cause.0
  unit_link_kept ended.NoUnit cause isnt = cause.0
  unit_link_kept ended.LinkFault cause isnt = absurd (isnt refl)
  unit_link_kept ended.WriteFault cause isnt = cause.0
  unit_link_kept ended.NoMemory cause isnt = cause.0

  -- on a disk of slots a run ends as it should where memory suffices and nothing outside fails
  pub unit_runs_of : {D : Type 0} (seen : D → Option (List ℕ)) (may_leave : D → List ℕ → Type 0)
      (clock : D → ℕ) (left_since : D → ℕ → List ℕ → Type 0) (faults : D → ℕ) (e : UnitStatus)
      (room : ℕ) (slots : SlotPair) (turns : ℕ) (before now : D)
      (left_before left_now : Option (List Arrival)) (sent_before sent_now : Option (List (List ℕ)))
      (written_before written_now : Option (List ℕ))
      → UnitEnds seen may_leave clock left_since faults e room slots turns before now left_before
      left_now sent_before sent_now written_before written_now
      → CausedBy e lb ln kb kn → DiskCausedBy e (faults before) (faults now)
      → ¬ Rose kb kn → ¬ Rose lb ln → ¬ Rose (faults before) (faults now)
      → unit_status e ≢ NoMemory → unit_status e ≡ Done
  unit_runs_of seen may_leave clock left_since faults ended.Done room slots turns before now left_before left_now sent_before sent_now written_before written_now ends cause rose calm_sink calm_link calm_disk some = refl
  unit_runs_of seen may_leave clock left_since faults ended.DiskFault room slots turns before now left_before left_now sent_before sent_now written_before written_now ends cause rose calm_sink calm_link calm_disk some = absurd (calm_disk rose)
  unit_runs_of seen may_leave clock left_since faults ended.NoUnit room slots turns before now left_before left_now sent_before sent_now written_before written_now (inl begun) cause rose calm_sink calm_link calm_disk some = elim begun.failed [ ]
  unit_runs_of seen may_leave clock left_since faults ended.NoUnit room slots turns before now left_before left_now sent_before sent_now written_before written_now (inr ran) cause rose calm_sink calm_link calm_disk some = elim ran.2 [ ]
  unit_runs_of seen may_leave clock left_since faults ended.LinkFault room slots turns before now left_before left_now sent_before sent_now written_before written_now ends cause rose calm_sink calm_link calm_disk some = absurd (calm_link cause.0)
  unit_runs_of seen may_leave clock left_since faults ended.WriteFault room slots turns before now left_before left_now sent_before sent_now written_before written_now ends cause rose calm_sink calm_link calm_disk some = absurd (calm_sink cause.1)
  unit_runs_of seen may_leave clock left_since faults ended.NoMemory room slots turns before now left_before left_now sent_before sent_now written_before written_now ends cause rose calm_sink calm_link calm_disk some = absurd (some refl)

-- the run of so many turns as the words say
pub unit_of_words : {D : Type 0} (seen : D → Option (List ℕ)) (may_leave : D → List ℕ → Type 0)
    (clock : D → ℕ) (left_since : D → ℕ → List ℕ → Type 0) (faults : D → ℕ) (which : Command)
    (found : Option Command) (made turns : ℕ) (s : Status) (before now : D)
    (left_before left_now : Option (List Arrival)) (sent_before sent_now : Option (List (List ℕ)))
    (wb wn : Option (List ℕ)) (lb ln kb kn : ℕ) → Some which ≡ found → which ≡ Unit made
    → AnswersUnit seen may_leave clock left_since faults s made before now left_before left_now sent_before sent_now wb wn lb ln kb kn
    → found ≡ Some (Unit turns)
    → AnswersUnit seen may_leave clock left_since faults s turns before now left_before left_now sent_before sent_now wb wn lb ln kb kn
unit_of_words seen may_leave clock left_since faults which found made turns s before now left_before left_now sent_before sent_now wb wn lb ln kb kn is kind answers words =
    let same : made ≡ turns = cc in
    subst (λ n. AnswersUnit seen may_leave clock left_since faults s n before now left_before left_now sent_before sent_now wb wn lb ln kb kn) same answers

-- the words are those of the unit
pub unit_words : (which : Command) (found : Option Command) (made : ℕ) → Some which ≡ found
    → which ≡ Unit made → found ≡ Some (Unit made)
unit_words which found made is kind = cc
