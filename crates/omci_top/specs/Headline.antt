-- What is promised of each script, a definition for each phrase of the headline. The history is
-- that of the trace: both are read off one list of what happens.
use Rattle.std.specs.Prelude.{ℕ, List, Option, take}
use Rattle.std.specs.Io.KnownBytes.{Appends}
use Rattle.script_spec.specs.Script.{Script}
use Rattle.world_spec.specs.Ends.{factory_slots}
use Rattle.world_spec.specs.Nodes.{first_nodes, nodes_after}
use Rattle.world_spec.specs.Trace.{trace}
use Rattle.world_spec.specs.History.{history_of}
use Rattle.history_spec.specs.History.{Entry, Once, Answered, SyncedRight, AuditedRight, DownloadedRight, store_history}
use Rattle.store_spec.specs.History.{Bootable}
use Rattle.step_laws.specs.InStep.{ScriptInStep}
use Rattle.boot_laws.specs.Slots.{slots_in}

-- what both ends did over the whole script, newest first
abbrev pub script_history : Script → List Entry
script_history script = history_of script.header script.actions

-- What was written is the trace of both ends, line for line.
abbrev pub WritesTrace : Script → (before now : Option (List ℕ)) → Type 0
WritesTrace script before now = Appends before now (trace script)

-- No command is carried out twice in one life of the unit, however often its request comes.
abbrev pub ActsOnce : Script → Type 0
ActsOnce script = Once (script_history script)

-- Each reply that a manager takes for a command, a probe aside, is the one that the unit made when
-- it carried out that very command last.
abbrev pub TakesOwnReplies : Script → Type 0
TakesOwnReplies script = Answered (script_history script)

-- Each resynchronisation that is completed gives the manager the database that the unit put by when
-- it carried out that resynchronisation's own upload command last.
abbrev pub CopiesDatabases : Script → Type 0
CopiesDatabases script = SyncedRight (script_history script)

-- After each line: while the manager says that it is in step, and the unit lives on since the last
-- resynchronisation, its database agrees with the manager's copy but for one outstanding change.
abbrev pub StaysInStep : Script → Type 0
StaysInStep script = ScriptInStep script.header script.actions

-- Each audit that is completed gives the manager the alarms that the unit put by when it carried
-- out that audit's own command last, followed by the notices that were taken since the reply to it.
abbrev pub AuditsAlarms : Script → Type 0
AuditsAlarms script = AuditedRight (script_history script)

-- Each download that is done put into its slot, byte for byte, the image that was handed to the
-- manager: it is the one that the unit checked last for that slot.
abbrev pub DownloadsImages : Script → Type 0
DownloadsImages script = DownloadedRight (script_history script)

-- After each line, a power cut amid a write among them, the unit can start: its committed slot was
-- committed last, or a commit of it was begun since; and it holds the image that was checked last
-- for it, before that commit was begun, or the one that the factory put there.
abbrev pub AlwaysBoots : Script → Type 0
AlwaysBoots script =
    (lines : ℕ)
    → Bootable (store_history (history_of script.header (take lines script.actions)))
    (factory_slots script.header.factory)
    (slots_in (nodes_after (take lines script.actions) (first_nodes script.header)).ends)
