-- How the run of a unit alone ends.
use Rattle.std.specs.Prelude.{◌≡◌, ◌⊎◌, ℕ, true, false, List, [], ◌∷◌, Option, IsSome, Result, Ok, Err}
use Rattle.std.specs.Io.KnownBytes.{Appends}
use Rattle.omci_core.specs.Causes.{Rose}
use Rattle.slot_spec.specs.Slots.{SlotPair}
use Rattle.slot_spec.specs.Layout.{StandsAt}
use Rattle.slot_spec.specs.Crash.{Moments, HasLength}
use Rattle.slot_spec.specs.Rig.{Rigged}
use Rattle.omci_types.specs.declared.Boot.{Boot}
use Rattle.image_store.specs.Stands.{state_disk}
use Rattle.image_store.specs.Counts.{Counted, store_faults}
use Rattle.image_store.specs.Starts.{Started}
use Rattle.unit_spec.specs.Onu.{onu_started}
use Rattle.onu_agent.specs.State.{AgentStands}
use Rattle.onu_agent.specs.declared.agent.StartRefusal.{StartRefusal}
use Rattle.onu_agent.specs.declared.agent.StartRefusal.TheVariants as refused
use Rattle.unit_turns.specs.Taking.{LineBroken}
use Rattle.turn_spec.specs.Arrivals.{Arrival, Quiet}
use Rattle.turn_spec.specs.UnitTurns.{Turn, is_over, is_closed, unit_run, start_line}
use Rattle.unit_turns.specs.declared.ending.UnitStatus.{UnitStatus}
use Rattle.unit_turns.specs.declared.ending.UnitStatus.TheVariants.{Done, DiskFault, NoUnit}
use Rattle.unit_turns.specs.declared.ending.UnitStatus.TheVariants.{LinkFault, WriteFault, NoMemory}
use Rattle.unit_turns.specs.declared.ending.UnitEnd as ending
use Rattle.unit_turns.specs.declared.running.Running as running
use Rattle.unit_turns.specs.Running.{UnitRuns, DiskAfter, Shown}

-- The counts of faults of the link and of the sink, by how the run ended: each has risen where its
-- call failed, and is as it was else.
abbrev pub CausedBy : UnitStatus → (link_before link_now sink_before sink_now : ℕ) → Type 0
CausedBy Done link_before link_now sink_before sink_now =
    (link_now ≡ link_before) × (sink_now ≡ sink_before)
CausedBy DiskFault link_before link_now sink_before sink_now =
    (link_now ≡ link_before) × (sink_now ≡ sink_before)
CausedBy NoUnit link_before link_now sink_before sink_now =
    (link_now ≡ link_before) × (sink_now ≡ sink_before)
CausedBy LinkFault link_before link_now sink_before sink_now =
    Rose link_before link_now × (sink_now ≡ sink_before)
CausedBy WriteFault link_before link_now sink_before sink_now =
    (link_now ≡ link_before) × Rose sink_before sink_now
CausedBy NoMemory link_before link_now sink_before sink_now =
    (link_now ≡ link_before) × (sink_now ≡ sink_before)

-- The count of the disk's faults, by how the run ended: it has risen where a call of the disk
-- failed in its attach or in a start. Else it has risen or is as it was, since a call may fail in a
-- packet.
abbrev pub DiskCausedBy : UnitStatus → (before now : ℕ) → Type 0
DiskCausedBy Done before now = Counted before now
DiskCausedBy DiskFault before now = Rose before now
DiskCausedBy NoUnit before now = Counted before now
DiskCausedBy LinkFault before now = Counted before now
DiskCausedBy WriteFault before now = Counted before now
DiskCausedBy NoMemory before now = Counted before now

-- the same of a start or a turn, which goes on where it is Ok
abbrev pub DiskCounts : {D : Type 0} → (D → ℕ) → Result (running.Running D) (ending.UnitEnd D)
    → (before : ℕ) → Type 0
DiskCounts faults (Ok unit) before =
    Counted before (store_faults faults unit.agent.unit.images)
DiskCounts faults (Err end) before = DiskCausedBy end.status before (faults end.disk)

-- how a run ends on a disk that told bytes of no unit
abbrev pub EndsBare : UnitStatus → Type 0
EndsBare Done = ⊥
EndsBare DiskFault = Unit {0}
EndsBare NoUnit = Unit {0}
EndsBare LinkFault = ⊥
EndsBare WriteFault = ⊥
EndsBare NoMemory = Unit {0}

-- the same of a start, which never goes on there
abbrev pub StartsBare : {D : Type 0} → Result (running.Running D) (ending.UnitEnd D) → Type 0
StartsBare (Ok unit) = ⊥
StartsBare (Err end) = EndsBare end.status

-- one event, or none
abbrev pub IsOneAtMost : List Arrival → Type 0
IsOneAtMost [] = Unit {0}
IsOneAtMost (arrival ∷ []) = Unit {0}
IsOneAtMost (arrival ∷ earlier ∷ more) = ⊥

-- the counts of a turn, which goes on where it is Ok
abbrev pub TurnCausedBy : {D : Type 0} → Result (running.Running D) (ending.UnitEnd D)
    → (link_before link_now sink_before sink_now : ℕ) → Type 0
TurnCausedBy (Ok unit) link_before link_now sink_before sink_now =
    (link_now ≡ link_before) × (sink_now ≡ sink_before)
TurnCausedBy (Err end) link_before link_now sink_before sink_now =
    CausedBy end.status link_before link_now sink_before sink_now

-- the answer to a refused start
abbrev pub refusal_status : {D : Type 0} → StartRefusal D → UnitStatus
refusal_status (refused.NoUnit disk length magic room) = NoUnit
refusal_status (refused.Fault disk) = DiskFault
refusal_status (refused.NoImage disk slot gate size) = NoUnit
refusal_status (refused.NoMemory disk) = NoMemory

-- the counts of the sink's faults, by what a start came to: no other answers come
abbrev pub StartCause : UnitStatus → (before now : ℕ) → Type 0
StartCause Done before now = ⊥
StartCause DiskFault before now = now ≡ before
StartCause NoUnit before now = now ≡ before
StartCause LinkFault before now = ⊥
StartCause WriteFault before now = Rose before now
StartCause NoMemory before now = now ≡ before

-- the same, whatever it came to
abbrev pub StartCausedBy : {D : Type 0} → Result (running.Running D) (ending.UnitEnd D)
    → (before now : ℕ) → Type 0
StartCausedBy (Ok unit) before now = now ≡ before
StartCausedBy (Err end) before now = StartCause end.status before now

module _ {D : Type 0} (seen : D → Option (List ℕ)) (may_leave : D → List ℕ → Type 0)
    (clock : D → ℕ) (left_since : D → ℕ → List ℕ → Type 0) (rig : D → Option Rigged)
    (faults : D → ℕ) where
  -- each crash leaves these slots
  abbrev pub Leaves : ℕ → SlotPair → D → Type 0
  Leaves room s now = (image : List ℕ) → may_leave now image → StandsAt room image s

  -- What a start with these slots came to where it failed: a fault of the disk; one of the sink
  -- amid the line; or want of memory, before the unit started or amid its line.
  abbrev pub StartFailed : UnitStatus → (room size turn life : ℕ) → Boot → SlotPair → (old now : D)
      → (written_before written_now : Option (List ℕ)) → Type 0
  StartFailed Done room size turn life boot s old now written_before written_now = ⊥
  StartFailed NoUnit room size turn life boot s old now written_before written_now = ⊥
  StartFailed LinkFault room size turn life boot s old now written_before written_now = ⊥
  StartFailed DiskFault room size turn life boot s old now written_before written_now =
      Started seen may_leave clock left_since rig faults size old now true
      × (written_now ≡ written_before)
  StartFailed WriteFault room size turn life boot s old now written_before written_now =
      Started seen may_leave clock left_since rig faults size old now false × Leaves room s now
      × LineBroken (start_line turn life (onu_started boot room s)) written_before written_now
  StartFailed NoMemory room size turn life boot s old now written_before written_now =
      Started seen may_leave clock left_since rig faults size old now false
      × (Unit {0} ⊎ Leaves room s now) × (written_now ≡ written_before)

  -- a unit has started, and its line is written
  pub record StartDone (room size turn life : ℕ) (boot : Boot) (s : SlotPair) (old : D)
      (unit : running.Running D) (written_before written_now : Option (List ℕ)) : Type 0 where
    pub stands : AgentStands seen may_leave unit.agent (onu_started boot room s)
    pub size_is : unit.size ≡ size
    pub life_is : unit.life ≡ life
    pub long : HasLength may_leave size (state_disk stands.stands.images.state)
    pub begun : Started seen may_leave clock left_since rig faults size old
        (state_disk stands.stands.images.state) false
    pub written : Appends written_before written_now
        (start_line turn life (onu_started boot room s))

  -- what a start came to
  abbrev pub StartComes : Result (running.Running D) (ending.UnitEnd D)
      → (room size turn life : ℕ) → Boot → SlotPair → (old : D)
      → (written_before written_now : Option (List ℕ)) → Type 0
  StartComes (Ok unit) room size turn life boot s old written_before written_now =
      StartDone room size turn life boot s old unit written_before written_now
  StartComes (Err end) room size turn life boot s old written_before written_now =
      StartFailed end.status room size turn life boot s old end.disk written_before written_now

-- how a first start may fail on a disk of slots
abbrev pub StartFails : UnitStatus → (before now : ℕ) → Type 0
StartFails DiskFault before now = Rose before now
StartFails NoMemory before now = Unit {0}
StartFails Done before now = ⊥
StartFails NoUnit before now = ⊥
StartFails LinkFault before now = ⊥
StartFails WriteFault before now = ⊥

module _ {D : Type 0} (seen : D → Option (List ℕ)) (may_leave : D → List ℕ → Type 0)
    (clock : D → ℕ) (left_since : D → ℕ → List ℕ → Type 0) (faults : D → ℕ) where
  -- What a run came to that began with these slots, by how it ended: the turns taken, newest first;
  -- what became of the disk in them, as the first mount left it; and what the link and the lines
  -- show. A start that a device call failed comes before the first turn or after a second that
  -- found the unit leaving, and where memory ran out the last event may count as no turn.
  abbrev pub RunEnds : UnitStatus → (room : ℕ) (s0 : SlotPair) (limit : ℕ) (mounted now : D)
      (left_before left_now : Option (List Arrival))
      (sent_before sent_now : Option (List (List ℕ)))
      (written_before written_now : Option (List ℕ)) → Type 0
  RunEnds Done room s0 limit mounted now left_before left_now sent_before sent_now written_before
      written_now =
      (turns : List Turn) × (is_over limit turns ≡ true)
      × DiskAfter seen may_leave clock left_since faults room s0 limit mounted now 0 turns
      × Shown room s0 turns [] [] [] left_before left_now sent_before sent_now written_before
      written_now
  RunEnds DiskFault room s0 limit mounted now left_before left_now sent_before sent_now
      written_before written_now =
      (turns : List Turn) × (is_over limit turns ≡ false)
      × IsSome (unit_run room s0 turns).unit.leaving
      × DiskAfter seen may_leave clock left_since faults room s0 limit mounted now 1 turns
      × Shown room s0 turns (Quiet ∷ []) [] [] left_before left_now sent_before sent_now
      written_before written_now
  RunEnds NoUnit room s0 limit mounted now left_before left_now sent_before sent_now written_before
      written_now = ⊥
  RunEnds LinkFault room s0 limit mounted now left_before left_now sent_before sent_now
      written_before written_now =
      (turns : List Turn) × (sent_rest : List (List ℕ))
      × DiskAfter seen may_leave clock left_since faults room s0 limit mounted now 0 turns
      × Shown room s0 turns [] sent_rest [] left_before left_now sent_before sent_now
      written_before written_now
  RunEnds WriteFault room s0 limit mounted now left_before left_now sent_before sent_now
      written_before written_now =
      (turns : List Turn) × (text_rest : List ℕ)
      × DiskAfter seen may_leave clock left_since faults room s0 limit mounted now 0 turns
      × Shown room s0 turns [] [] text_rest left_before left_now sent_before sent_now
      written_before written_now
  RunEnds NoMemory room s0 limit mounted now left_before left_now sent_before sent_now
      written_before written_now =
      (turns : List Turn) × (after : List Arrival) × (text_rest : List ℕ)
      × IsOneAtMost after
      × DiskAfter seen may_leave clock left_since faults room s0 limit mounted now 0 turns
      × Shown room s0 turns after [] text_rest left_before left_now sent_before sent_now
      written_before written_now

  -- a turn after these turns: it goes on with one more, or the run ends
  abbrev pub TurnEnds : Result (running.Running D) (ending.UnitEnd D) → (room : ℕ) (s0 : SlotPair)
      (limit : ℕ) (mounted : D) (turns : List Turn)
      (left_before left_now : Option (List Arrival))
      (sent_before sent_now : Option (List (List ℕ)))
      (written_before written_now : Option (List ℕ)) → Type 0
  TurnEnds (Ok unit) room s0 limit mounted turns left_before left_now sent_before sent_now
      written_before written_now =
      (t : Turn) × (is_closed (t ∷ turns) ≡ false)
      × UnitRuns seen may_leave clock left_since faults room s0 limit mounted unit.agent unit.size
      unit.life (t ∷ turns)
      × Shown room s0 (t ∷ turns) [] [] [] left_before left_now sent_before sent_now written_before
      written_now
  TurnEnds (Err end) room s0 limit mounted turns left_before left_now sent_before sent_now
      written_before written_now =
      RunEnds end.status room s0 limit mounted end.disk left_before left_now sent_before
      sent_now written_before written_now

  -- the disk as its first mount left it
  pub record Mounted (old mounted : D) : Type 0 where
    pub reads : seen mounted ≡ seen old
    pub moments : Moments clock left_since may_leave old mounted (may_leave old)
    pub cause : faults mounted ≡ faults old

  -- A first start failed: nothing was taken, sent or written, and a crash leaves what one at the
  -- run's beginning could have left.
  pub record Unstarted (status : UnitStatus) (old now : D)
      (left_before left_now : Option (List Arrival))
      (sent_before sent_now : Option (List (List ℕ)))
      (written_before written_now : Option (List ℕ)) : Type 0 where
    pub failed : StartFails status (faults old) (faults now)
    pub moments : Moments clock left_since may_leave old now (may_leave old)
    pub left_is : left_now ≡ left_before
    pub sent_is : sent_now ≡ sent_before
    pub written_is : written_now ≡ written_before

  -- What a whole run came to on a disk that read as bytes of these slots: its first start failed,
  -- by a fault or for want of memory; or its first mount was done, and it went on from there.
  abbrev pub UnitEnds : UnitStatus → (room : ℕ) (s0 : SlotPair) (limit : ℕ) (old now : D)
      (left_before left_now : Option (List Arrival))
      (sent_before sent_now : Option (List (List ℕ)))
      (written_before written_now : Option (List ℕ)) → Type 0
  UnitEnds status room s0 limit old now left_before left_now sent_before sent_now written_before
      written_now =
      Unstarted status old now left_before left_now sent_before sent_now written_before written_now
      ⊎ ((mounted : D) × Mounted old mounted
      × RunEnds status room s0 limit mounted now left_before left_now sent_before sent_now
      written_before written_now)
