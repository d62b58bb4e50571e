-- What each answer of a run of the manager alone says of the source, of the sink and of the link.
use Rattle.std.specs.Prelude.{ℕ, ◌≡◌, ◌⊎◌, List, [], Option, Some}
use Rattle.std.specs.Io.KnownBytes.{Appends}
use Rattle.omci_core.specs.Causes.{Rose}
use Rattle.script_spec.specs.Script.{Orders}
use Rattle.script_spec.specs.Grammar.{WritesOrders}
use Rattle.script_spec.specs.Fault.{orders_fault}
use Rattle.turn_spec.specs.Arrivals.{Arrival}
use Rattle.whole_writes.specs.Writing.{WritesFront}
use Rattle.olt_turns.specs.Running.{HasRun, HasRunInPart}
use Rattle.omci_top.specs.Streams.{ReadsWhole, ReadsPast}
use Rattle.omci_top.specs.Texts.{input_text}
use Rattle.omci_top.specs.declared.status.Status.{Status}
use Rattle.omci_top.specs.declared.status.Status.TheVariants.{Done, Input, ReadFault, WriteFault, LinkFault, TooLong, NoMemory}
use Rattle.omci_top.specs.declared.streams.TheConstants.{LARGEST_INPUT}

-- a front of the line that tells the first fault of the input was written
abbrev pub TellsFront : List ℕ → (before now : Option (List ℕ)) → Type 0
TellsFront input before now =
    (place : ℕ) × (reason : ℕ) × (orders_fault input ≡ Some (place, reason))
    × WritesFront (input_text place reason) before now

-- of a link by what it tells: the arrivals left, the packets sent, and its count of faults
module _ {L : Type 0} (left : L → Option (List Arrival)) (sent : L → Option (List (List ℕ)))
    (faults : L → ℕ) where
  -- the input spells orders, and the run of the manager over them, and over what the link gave, has
  -- come to its end: its packets were sent, and its lines written
  abbrev pub RunsOrders : (turns : ℕ) → List ℕ → (before now : L)
      (written_before written_now : Option (List ℕ)) → Type 0
  RunsOrders turns input before now written_before written_now =
      (orders : Orders) × WritesOrders orders input
      × HasRun turns orders (left before) (left now) (sent before) (sent now) written_before
      written_now

  -- the same of a run that a fault broke off: fronts of its packets and of its lines went out
  abbrev pub BreaksOffOrders : (turns : ℕ) → List ℕ → (before now : L)
      (written_before written_now : Option (List ℕ)) → Type 0
  BreaksOffOrders turns input before now written_before written_now =
      (orders : Orders) × WritesOrders orders input
      × HasRunInPart turns orders (left before) (left now) (sent before) (sent now) written_before
      written_now

  -- What the run over orders comes to at the link and at the sink, by its answer.
  abbrev pub RanOrders : Status → (turns : ℕ) → Orders → (before now : L)
      (written_before written_now : Option (List ℕ)) (write_before write_now : ℕ) → Type 0
  RanOrders Done turns orders before now written_before written_now write_before write_now =
      HasRun turns orders (left before) (left now) (sent before) (sent now) written_before
      written_now
      × (faults now ≡ faults before) × (write_now ≡ write_before)
  RanOrders WriteFault turns orders before now written_before written_now write_before write_now =
      HasRunInPart turns orders (left before) (left now) (sent before) (sent now) written_before
      written_now
      × (faults now ≡ faults before) × Rose write_before write_now
  RanOrders LinkFault turns orders before now written_before written_now write_before write_now =
      HasRunInPart turns orders (left before) (left now) (sent before) (sent now) written_before
      written_now
      × Rose (faults before) (faults now) × (write_now ≡ write_before)
  RanOrders NoMemory turns orders before now written_before written_now write_before write_now =
      HasRunInPart turns orders (left before) (left now) (sent before) (sent now) written_before
      written_now
      × (faults now ≡ faults before) × (write_now ≡ write_before)
  RanOrders _ turns orders before now written_before written_now write_before write_now = ⊥

  -- What a run on an input comes to at the link and at the sink, by its answer. No other answer
  -- comes.
  abbrev pub OltEnds : Status → (turns : ℕ) → List ℕ → (before now : L)
      (written_before written_now : Option (List ℕ)) (write_before write_now : ℕ) → Type 0
  OltEnds Done turns input before now written_before written_now write_before write_now =
      RunsOrders turns input before now written_before written_now
      × (faults now ≡ faults before) × (write_now ≡ write_before)
  OltEnds (Input place reason) turns input before now written_before written_now write_before
      write_now =
      (orders_fault input ≡ Some (place, reason))
      × Appends written_before written_now (input_text place reason)
      × (now ≡ before) × (write_now ≡ write_before)
  OltEnds WriteFault turns input before now written_before written_now write_before write_now =
      ((BreaksOffOrders turns input before now written_before written_now
      × (faults now ≡ faults before))
      ⊎ (TellsFront input written_before written_now × (now ≡ before)))
      × Rose write_before write_now
  OltEnds LinkFault turns input before now written_before written_now write_before write_now =
      BreaksOffOrders turns input before now written_before written_now
      × Rose (faults before) (faults now) × (write_now ≡ write_before)
  OltEnds NoMemory turns input before now written_before written_now write_before write_now =
      ((BreaksOffOrders turns input before now written_before written_now
      × (faults now ≡ faults before))
      ⊎ ((TellsFront input written_before written_now × (now ≡ before))
      ⊎ (Appends written_before written_now [] × (now ≡ before))))
      × (write_now ≡ write_before)
  OltEnds _ turns input before now written_before written_now write_before write_now = ⊥

  -- the source was read to its end, and a run on what it gave ended with this answer
  pub record OltReads (status : Status) (turns : ℕ) (before now : L)
      (left_before left_now written_before written_now : Option (List ℕ))
      (write_before write_now : ℕ) : Type 0 where
    pub input : List ℕ
    pub read : ReadsWhole LARGEST_INPUT left_before left_now input
    pub ends : OltEnds status turns input before now written_before written_now write_before
        write_now

  -- What a run of the manager comes to, by its answer.
  abbrev pub AnswersOlt : Status → (turns : ℕ) (before now : L)
      (left_before left_now written_before written_now : Option (List ℕ))
      (read_before read_now write_before write_now : ℕ) → Type 0
  AnswersOlt ReadFault turns before now left_before left_now written_before written_now read_before
      read_now write_before write_now =
      Rose read_before read_now × (now ≡ before) × (write_now ≡ write_before)
  AnswersOlt TooLong turns before now left_before left_now written_before written_now read_before
      read_now write_before write_now =
      ReadsPast LARGEST_INPUT left_before left_now
      × (read_now ≡ read_before) × (now ≡ before) × (write_now ≡ write_before)
  AnswersOlt NoMemory turns before now left_before left_now written_before written_now read_before
      read_now write_before write_now =
      (((now ≡ before) × Appends written_before written_now [] × (write_now ≡ write_before))
      ⊎ OltReads NoMemory turns before now left_before left_now written_before written_now
      write_before
      write_now)
      × (read_now ≡ read_before)
  AnswersOlt status turns before now left_before left_now written_before written_now read_before
      read_now write_before write_now =
      OltReads status turns before now left_before left_now written_before written_now write_before
      write_now
      × (read_now ≡ read_before)
