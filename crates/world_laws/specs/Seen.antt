-- What is seen of the machine over a script, and what of it stands in the history.
use Rattle.std.specs.Prelude.{ℕ, ◌≡◌, Bool, true, false, List, [], ◌∷◌, ◌++◌, Some}
use Rattle.omci_types.specs.declared.Frame.{Frame}
use Rattle.frame_spec.specs.Baseline.{packet_frame}
use Rattle.link_spec.specs.Link.{count}
use Rattle.mib_spec.specs.Database.{Database}
use Rattle.upload_spec.specs.Pieces.{Copy}
use Rattle.alarm_spec.specs.Alarms.{Alarms}
use Rattle.unit_spec.specs.declared.Note.{Note}
use Rattle.unit_spec.specs.declared.Note.TheVariants as note
use Rattle.store_spec.specs.History.{StoreEntry}
use Rattle.unit_spec.specs.Onu.{Onu}
use Rattle.manager_spec.specs.declared.Report.TheVariants as report
use Rattle.script_spec.specs.Script.{Header, Script, Action}
use Rattle.history_spec.specs.History.{Entry, CarriedOut, TookReply, TookSnapshot, Synced, TookAlarms, Audited, Stored, Downloaded, Remarked}
use Rattle.world_spec.specs.Happenings.{Happening, UnitStarted, PacketCame, UnitCarried, UnitNoted, ImageStored, ReplyTaken, CopyTold, TableTold, ImageTold, Reported, next_after}
use Rattle.world_spec.specs.Ends.{factory_software}
use Rattle.world_spec.specs.Nodes.{Nodes, step, first_nodes}
use Rattle.world_spec.specs.Trace.{happening_text}
use Rattle.world_spec.specs.History.{Told, first_told, tell, tell_all}

-- ---- the trace

-- something that happened, the number of its event, and that of the next packet
pub record Seen : Type 0 where
  pub event : ℕ
  pub next : ℕ
  pub happening : Happening

abbrev pub seen_at : ℕ → ℕ → Happening → Seen
seen_at event next h = record { event = event; next = next; happening = h }

-- what happened in an event, whose first packet has that number
abbrev pub seen_in : ℕ → ℕ → List Happening → List Seen
seen_in event next [] = []
seen_in event next (h ∷ rest) = seen_at event next h ∷ seen_in event (next_after h next) rest

-- what happened over these lines
unfoldable pub seen_from : List Action → Nodes → List Seen
seen_from [] n = []
seen_from (a ∷ rest) n =
    seen_in (step a n).nodes.ends.event (count n.link) (step a n).happenings
    ++ seen_from rest (step a n).nodes

-- and over a script, the unit's start before it
abbrev pub all_seen : Script → List Seen
all_seen s =
    seen_at 0 0 (UnitStarted 1 (factory_software s.header.factory))
    ∷ seen_from s.actions (first_nodes s.header)

-- its lines in the trace
abbrev pub lines_of : Seen → List ℕ
lines_of s = happening_text s.event s.next s.happening

-- ---- the history

-- an entry of the history without its command, and without the notices that an audit's table
-- follows
pub data Deed : Type 0 where
  Carried : (life : ℕ) (reply : List ℕ) (before : Database) → Deed
  Took : (packet : List ℕ) → Deed
  PutBy : (life : ℕ) (database : Database) → Deed
  Gave : (copy : Copy) → Deed
  PutAlarmsBy : (life : ℕ) (alarms : Alarms) → Deed
  GaveTable : (table : Alarms) → Deed
  StoredIt : (entry : StoreEntry) → Deed
  GaveImage : (slot : ℕ) (image : List ℕ) → Deed

abbrev pub deed_of : Entry → Deed
deed_of (CarriedOut life command reply before) = Carried life reply before
deed_of (TookReply command packet) = Took packet
deed_of (Remarked (TookSnapshot life command database)) = PutBy life database
deed_of (Remarked (Synced command copy)) = Gave copy
deed_of (Remarked (TookAlarms life command alarms)) = PutAlarmsBy life alarms
deed_of (Remarked (Audited command table notices)) = GaveTable table
deed_of (Remarked (Stored entry)) = StoredIt entry
deed_of (Remarked (Downloaded slot image)) = GaveImage slot image

-- what a unit put by, if anything, by what is told of it
abbrev pub put_by : ℕ → Note → Onu → List Deed → List Deed
put_by life (note.Snapshot entities counter) before older = PutBy life before.database ∷ older
put_by life (note.Alarms rows) before older = PutAlarmsBy life before.log.alarms ∷ older
put_by life (note.Sealed slot size check) before older = older
put_by life (note.Committed slot) before older = older
put_by life (note.Leaving boot) before older = older

-- the deeds after what happened, newest first, where that packet came last
abbrev pub with_happening : Happening → List ℕ → List Deed → List Deed
with_happening (UnitCarried life reply before) packet older = Carried life reply before ∷ older
with_happening (UnitNoted life note before) packet older = put_by life note before older
with_happening (ImageStored entry) packet older = StoredIt entry ∷ older
with_happening (ImageTold slot image) packet older = GaveImage slot image ∷ older
with_happening (ReplyTaken lane) packet older = Took packet ∷ older
with_happening (CopyTold copy) packet older = Gave copy ∷ older
with_happening (TableTold table) packet older = GaveTable table ∷ older
with_happening _ packet older = older

abbrev pub packet_after : Happening → List ℕ → List ℕ
packet_after (PacketCame number packet) before = packet.bytes
packet_after _ before = before

-- the deeds after all that is seen, newest first, from these and the packet that came last
abbrev pub deeds_after : List Seen → List ℕ → List Deed → List Deed
deeds_after [] packet older = older
deeds_after (s ∷ later) packet older =
    deeds_after later (packet_after s.happening packet) (with_happening s.happening packet older)

-- ---- the replies that are handed on

-- the newest entry is that a packet was taken as a reply, and this is its frame
abbrev pub IsNewest : Frame → List Entry → Type 0
IsNewest reply [] = ⊥
IsNewest reply (TookReply command packet ∷ older) = packet_frame packet ≡ Some reply
IsNewest reply (CarriedOut life command packet before ∷ older) = ⊥
IsNewest reply (Remarked remark ∷ older) = ⊥

-- a reply was taken right before, and is the newest
abbrev pub WasTaken : (taken : Bool) → Frame → List Entry → Type 0
WasTaken true reply history = IsNewest reply history
WasTaken false reply history = ⊥

-- a reply is handed on right after it was taken, as the frame of the packet that was taken
abbrev pub IsHandedOn : (taken : Bool) → Happening → List Entry → Type 0
IsHandedOn taken (Reported (report.Took reply)) history = WasTaken taken reply history
IsHandedOn taken _ history = Unit {0}

abbrev pub is_taking : Happening → Bool
is_taking (ReplyTaken lane) = true
is_taking _ = false

-- each reply that is handed on among these happenings
abbrev pub AreHandedOn : (taken : Bool) → List Happening → Told → Type 0
AreHandedOn taken [] t = Unit {0}
AreHandedOn taken (h ∷ rest) t =
    IsHandedOn taken h t.history × AreHandedOn (is_taking h) rest (tell h t)

-- and in each of these lines
unfoldable pub HandOn : List Action → Nodes → Told → Type 0
HandOn [] n t = Unit {0}
HandOn (a ∷ rest) n t =
    AreHandedOn false (step a n).happenings t
    × HandOn rest (step a n).nodes (tell_all (step a n).happenings t)

-- and in a script
abbrev pub ScriptHandsOn : Header → List Action → Type 0
ScriptHandsOn h actions = HandOn actions (first_nodes h) first_told
