-- What a packet makes of a unit that runs alone, and what was written of a line.
use Rattle.std.specs.Prelude.{◌≡◌, ℕ, ◌++◌, Bool, List, Option, Result, Ok, Err}
use Rattle.std.specs.Option.{option_map}
use Rattle.std.specs.Io.KnownBytes.{Appends}
use Rattle.omci_core.specs.Causes.{Rose}
use Rattle.slot_spec.specs.Rig.{Rigged}
use Rattle.unit_spec.specs.Onu.{Onu, onu_received, packet_deed}
use Rattle.onu_agent.specs.State.{State, AgentStands}
use Rattle.onu_agent.specs.Received.{Touches}
use Rattle.trace_lines.specs.declared.writing.RunFault.{RunFault}
use Rattle.trace_lines.specs.declared.writing.RunFault.TheVariants as run_fault
use Rattle.turn_spec.specs.UnitTurns.{reply_of}
use Rattle.unit_turns.specs.declared.packets.PacketFault.{PacketFault}
use Rattle.unit_turns.specs.declared.packets.PacketFault.TheVariants as packet_fault

-- the packets sent once these are among them, where they are told
abbrev pub sent_more : List (List ℕ) → Option (List (List ℕ)) → Option (List (List ℕ))
sent_more packets told = option_map (λ before. before ++ packets) told

-- a front of a line was written
pub record LineBroken (line : List ℕ) (before now : Option (List ℕ)) : Type 0 where
  pub front : List ℕ
  pub rest : List ℕ
  pub parts : front ++ rest ≡ line
  pub wrote : Appends before now front

-- what became of a line that was to be written
abbrev pub WritesLine : {A : Type 0} → List ℕ → Result A RunFault
    → (before now : Option (List ℕ)) (faults_before faults_now : ℕ) → Type 0
WritesLine line (Ok _) before now faults_before faults_now =
    Appends before now line × (faults_now ≡ faults_before)
WritesLine line (Err run_fault.NoMemory) before now faults_before faults_now =
    (now ≡ before) × (faults_now ≡ faults_before)
WritesLine line (Err run_fault.Write) before now faults_before faults_now =
    LineBroken line before now × Rose faults_before faults_now

-- A packet came to a unit, which has these packets for an answer: whether a device call failed in
-- it, the unit after it, and what became of the disk.
pub record PacketTaken {D : Type 0} (seen : D → Option (List ℕ)) (may_leave : D → List ℕ → Type 0)
    (clock : D → ℕ) (left_since : D → ℕ → List ℕ → Type 0) (rig : D → Option Rigged)
    (faults : D → ℕ) (old new : State D) (packets : List (List ℕ)) (bytes : List ℕ)
    (u : Onu) : Type 0 where
  pub fails : Bool
  pub stands : AgentStands seen may_leave new (onu_received fails bytes u).unit
  pub disk : Touches may_leave clock left_since rig faults fails old.unit.images new.unit.images
      (packet_deed bytes u) u
  pub answer : packets ≡ reply_of (onu_received fails bytes u).did
      (onu_received fails bytes u).reply

-- a packet came, by how its turn ended, and what was sent of its answer
abbrev pub Answers : {D A : Type 0} → (D → Option (List ℕ)) → (D → List ℕ → Type 0) → (D → ℕ)
    → (D → ℕ → List ℕ → Type 0) → (D → Option Rigged) → (D → ℕ) → (old new : State D)
    → Result A PacketFault → (sent_before sent_now : Option (List (List ℕ))) → (bytes : List ℕ)
    → Onu → Type 0
Answers seen may_leave clock left_since rig faults old new (Ok _) sent_before sent_now bytes u =
    (packets : List (List ℕ))
    × PacketTaken seen may_leave clock left_since rig faults old new packets bytes u
    × (sent_now ≡ sent_more packets sent_before)
Answers seen may_leave clock left_since rig faults old new (Err packet_fault.Link) sent_before
    sent_now bytes u =
    (packets : List (List ℕ))
    × PacketTaken seen may_leave clock left_since rig faults old new packets bytes u
    × (sent_now ≡ sent_before)
Answers seen may_leave clock left_since rig faults old new (Err packet_fault.NoMemory) sent_before
    sent_now bytes u =
    (new.unit.images ≡ old.unit.images) × (sent_now ≡ sent_before)

-- the counts of a link's faults, by how a packet's turn ended
abbrev pub SendsOrFails : {A : Type 0} → Result A PacketFault → (before now : ℕ) → Type 0
SendsOrFails (Ok _) before now = now ≡ before
SendsOrFails (Err packet_fault.Link) before now = Rose before now
SendsOrFails (Err packet_fault.NoMemory) before now = now ≡ before
