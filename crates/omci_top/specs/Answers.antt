-- What each answer of the top call says of the source and of the sink.
use Rattle.std.specs.Prelude.{ℕ, ◌≡◌, ◌⊎◌, List, [], Option, Some, None}
use Rattle.std.specs.Io.KnownBytes.{Appends}
use Rattle.omci_core.specs.Causes.{Rose}
use Rattle.script_spec.specs.Script.{Script}
use Rattle.script_spec.specs.Grammar.{Writes}
use Rattle.script_spec.specs.Fault.{fault}
use Rattle.world_spec.specs.Nodes.{Nodes, first_nodes, nodes_after}
use Rattle.world_spec.specs.Trace.{trace}
use Rattle.omci_top.specs.Headline.{WritesTrace, ActsOnce, TakesOwnReplies, CopiesDatabases, StaysInStep, AuditsAlarms, DownloadsImages, AlwaysBoots}
use Rattle.omci_top.specs.Streams.{ReadsWhole, ReadsPast}
use Rattle.link_replay.specs.Seen.{State, WorldStands}
use Rattle.whole_writes.specs.Writing.{WritesFront}
use Rattle.omci_top.specs.Texts.{input_text, answer_to}
use Rattle.omci_top.specs.declared.status.Status.{Status}
use Rattle.omci_top.specs.declared.status.Status.TheVariants.{Done, Usage, Input, ReadFault, WriteFault, DiskFault, LinkFault, NoUnit, TooLong, NoMemory, TooLarge}
use Rattle.omci_top.specs.declared.streams.TheConstants.{LARGEST_INPUT}

-- the exit status of the program
abbrev pub status_number : Status → ℕ
status_number Done = 0
status_number Usage = 1
status_number (Input place reason) = 2
status_number ReadFault = 3
status_number WriteFault = 4
status_number DiskFault = 5
status_number LinkFault = 6
status_number NoUnit = 7
status_number TooLong = 8
status_number NoMemory = 9
status_number TooLarge = 10

-- a world is there, and stands for these nodes
abbrev pub StandsFor : Nodes → Option State → Type 0
StandsFor nodes None = ⊥
StandsFor nodes (Some world) = WorldStands world nodes

-- a world that ran all events of a script stands for the machine's nodes after them
abbrev pub StandsAfter : Script → Option State → Type 0
StandsAfter script world = StandsFor (nodes_after script.actions (first_nodes script.header)) world

-- What writing a whole text comes to, by the answer of the run: all of it, or a front of it.
abbrev pub Ran : Status → List ℕ → Option (List ℕ) → Option (List ℕ) → ℕ → ℕ → Type 0
Ran Done whole before now faults_before faults_now = Appends before now whole
    × (faults_now ≡ faults_before)
Ran NoMemory whole before now faults_before faults_now = WritesFront whole before now
    × (faults_now ≡ faults_before)
Ran WriteFault whole before now faults_before faults_now = WritesFront whole before now
    × Rose faults_before faults_now
Ran _ whole before now faults_before faults_now = ⊥

-- What writing the line of a fault comes to.
abbrev pub Told : Status → ℕ → ℕ → Option (List ℕ) → Option (List ℕ) → ℕ → ℕ → Type 0
Told (Input line why) place reason before now faults_before faults_now =
    (line ≡ place) × (why ≡ reason) × Appends before now (input_text place reason)
    × (faults_now ≡ faults_before)
Told NoMemory place reason before now faults_before faults_now =
    WritesFront (input_text place reason) before now × (faults_now ≡ faults_before)
Told WriteFault place reason before now faults_before faults_now =
    WritesFront (input_text place reason) before now × Rose faults_before faults_now
Told _ place reason before now faults_before faults_now = ⊥

-- What a run on an input comes to at the sink, by its answer. No other answer comes.
abbrev pub Ends : Status → Option State → List ℕ → Option (List ℕ) → Option (List ℕ) → ℕ → ℕ
    → Type 0
Ends Done world input before now faults_before faults_now =
    ((script : Script) × Writes script input × Appends before now (trace script)
    × StandsAfter script world) × (faults_now ≡ faults_before)
Ends (Input place reason) world input before now faults_before faults_now =
    (fault input ≡ Some (place, reason)) × Appends before now (input_text place reason)
    × (faults_now ≡ faults_before)
Ends NoMemory world input before now faults_before faults_now =
    WritesFront (answer_to input) before now × (faults_now ≡ faults_before)
Ends WriteFault world input before now faults_before faults_now =
    WritesFront (answer_to input) before now × Rose faults_before faults_now
Ends _ world input before now faults_before faults_now = ⊥

-- The headline: what a replay that is done promises. The script was read to its end, and what was
-- written is exactly what the manager and the unit did under it. Whatever it loses, delays,
-- repeats, cuts off or starts again: no command acts twice on a unit that lives on; each reply that
-- the manager takes is its command's own; a completed resynchronisation gives it the unit's
-- database, and from then on the two keep step; a completed audit gives it the unit's alarms; a
-- completed download leaves its very image; and at every moment the unit can start, with an image
-- that was checked before it was committed.
pub record Replays (world : Option State)
    (left_before left_now written_before written_now : Option (List ℕ)) : Type 0 where
  pub input : List ℕ
  pub script : Script
  pub read : ReadsWhole LARGEST_INPUT left_before left_now input
  pub spelled : Writes script input
  pub traced : WritesTrace script written_before written_now
  pub ended : StandsAfter script world
  pub once : ActsOnce script
  pub answered : TakesOwnReplies script
  pub synced : CopiesDatabases script
  pub in_step : StaysInStep script
  pub audited : AuditsAlarms script
  pub downloaded : DownloadsImages script
  pub bootable : AlwaysBoots script

-- The source was read to its end, its bytes have this first fault, and the one line that says so
-- was written.
pub record Refuses (place reason : ℕ) (left_before left_now written_before written_now : Option
    (List ℕ)) : Type 0 where
  pub input : List ℕ
  pub read : ReadsWhole LARGEST_INPUT left_before left_now input
  pub faulty : fault input ≡ Some (place, reason)
  pub told : Appends written_before written_now (input_text place reason)

-- The source was read to its end, and a front was written of what is to be written of its bytes.
pub record BreaksOffAt (left_before left_now written_before written_now : Option (List ℕ)) : Type 0
  where
    pub input : List ℕ
    pub read : ReadsWhole LARGEST_INPUT left_before left_now input
    pub front : WritesFront (answer_to input) written_before written_now

-- What a replay comes to, by its answer. A command line that is a replay's isn't answered by Usage.
abbrev pub AnswersReplay : Status → Option State
    → (left_before left_now written_before written_now : Option (List ℕ))
    (read_before read_now write_before write_now : ℕ) → Type 0
AnswersReplay Done world left_before left_now written_before written_now read_before read_now
    write_before write_now =
    Replays world left_before left_now written_before written_now × (read_now ≡ read_before)
    × (write_now ≡ write_before)
AnswersReplay Usage world left_before left_now written_before written_now read_before read_now
    write_before write_now = ⊥
AnswersReplay (Input place reason) world left_before left_now written_before written_now read_before
    read_now write_before write_now =
    Refuses place reason left_before left_now written_before written_now × (read_now ≡ read_before)
    × (write_now ≡ write_before)
AnswersReplay ReadFault world left_before left_now written_before written_now read_before read_now
    write_before write_now =
    Rose read_before read_now × (write_now ≡ write_before)
AnswersReplay WriteFault world left_before left_now written_before written_now read_before read_now
    write_before write_now =
    BreaksOffAt left_before left_now written_before written_now × (read_now ≡ read_before)
    × Rose write_before write_now
AnswersReplay DiskFault world left_before left_now written_before written_now read_before read_now
    write_before write_now = ⊥
AnswersReplay LinkFault world left_before left_now written_before written_now read_before read_now
    write_before write_now = ⊥
AnswersReplay NoUnit world left_before left_now written_before written_now read_before read_now
    write_before write_now = ⊥
AnswersReplay TooLong world left_before left_now written_before written_now read_before read_now
    write_before write_now =
    ReadsPast LARGEST_INPUT left_before left_now × (read_now ≡ read_before) × (write_now ≡ write_before)
AnswersReplay NoMemory world left_before left_now written_before written_now read_before read_now
    write_before write_now =
    (Appends written_before written_now []
    ⊎ BreaksOffAt left_before left_now written_before written_now)
    × (read_now ≡ read_before) × (write_now ≡ write_before)
AnswersReplay TooLarge world left_before left_now written_before written_now read_before read_now
    write_before write_now = ⊥
