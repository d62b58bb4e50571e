-- The history's reading of what happens: its commands, numbered over the whole run in the order in
-- which the managers drew them, and what became of each. The machine itself knows no such numbers.
use Rattle.std.specs.Prelude.{ℕ, ◌+◌, ◌==◌, Bool, true, false, List, [], ◌∷◌, ◌++◌, slice_get, Option, Some, None}
use Rattle.omci_types.specs.declared.Priority.{Priority}
use Rattle.omci_types.specs.declared.Priority.TheVariants.{Low, High}
use Rattle.script_spec.specs.Script.{Header, Action}
use Rattle.unit_spec.specs.declared.Note.{Note}
use Rattle.unit_spec.specs.declared.Note.TheVariants as note
use Rattle.unit_spec.specs.Onu.{Onu}
use Rattle.alarm_spec.specs.Alarms.{Alarm}
use Rattle.history_spec.specs.History.{Entry, CarriedOut, TookReply, Remark, Remarked, TookSnapshot, Synced, TookAlarms, Audited, Stored, Downloaded}
use Rattle.world_spec.specs.Happenings.{Happening, Whose, OfLane, OfArrival, OfNobody, PacketCame, PacketSent, UnitCarried, UnitNoted, ImageStored, CommandDrawn, JobAsked, ReplyTaken, NoticeTaken, CopyTold, TableTold, ImageTold}
use Rattle.world_spec.specs.Nodes.{Nodes, step, first_nodes}

-- How many commands were drawn, the command of each packet on the link (a reply has its request's),
-- the command that each lane drew last, that by which the manager's job asked last for a snapshot,
-- the notices that were taken since its reply, the packet that came last with its command, and what
-- has happened, newest first.
pub record Told : Type 0 where
  pub drawn : ℕ
  pub names : List ℕ
  pub low : ℕ
  pub high : ℕ
  pub asking : ℕ
  pub notices : List Alarm
  pub came : ℕ
  pub packet : List ℕ
  pub history : List Entry

abbrev pub first_told : Told
first_told =
    record {
      drawn = 0;
      names = [];
      low = 0;
      high = 0;
      asking = 0;
      notices = [];
      came = 0;
      packet = [];
      history = [];
    }

-- the command that a lane drew last
abbrev pub drawn_in : Priority → Told → ℕ
drawn_in Low t = t.low
drawn_in High t = t.high

abbrev pub draws_in : Priority → Told → Told
draws_in Low t = record t { drawn = t.drawn + 1; low = t.drawn }
draws_in High t = record t { drawn = t.drawn + 1; high = t.drawn }

-- a notice belongs to no command, and nobody asks for its name
abbrev pub name_of : Whose → Told → ℕ
name_of (OfLane lane) t = drawn_in lane t
name_of OfArrival t = t.came
name_of OfNobody t = 0

abbrev pub name_at : ℕ → List ℕ → ℕ
name_at number names = or_first (slice_get names number) where
  or_first : Option ℕ → ℕ
  or_first None = 0
  or_first (Some name) = name

abbrev pub with_entry : Entry → Told → Told
with_entry entry t = record t { history = entry ∷ t.history }

-- what is remarked of a request that was carried out
abbrev pub remark_of : ℕ → ℕ → Note → Onu → Option Remark
remark_of life command (note.Snapshot entities counter) before =
    Some (TookSnapshot life command before.database)
remark_of life command (note.Alarms rows) before = Some (TookAlarms life command before.log.alarms)
remark_of life command (note.Sealed slot size check) before = None
remark_of life command (note.Committed slot) before = None
remark_of life command (note.Leaving boot) before = None

abbrev pub with_remark : Option Remark → Told → Told
with_remark None t = t
with_remark (Some remark) t = with_entry (Remarked remark) t

abbrev pub notices_if : Bool → List Alarm → List Alarm
notices_if true notices = []
notices_if false notices = notices

-- the reply to the command that asked for a snapshot came: from now on notices are counted
abbrev pub answers_in : Priority → Told → Told
answers_in lane t = record t { notices = notices_if (drawn_in lane t == t.asking) t.notices }

abbrev pub tell : Happening → Told → Told
tell (PacketCame number packet) t = record t {
  came = name_at number t.names;
  packet = packet.bytes;
}
tell (PacketSent whose packet) t = record t { names = t.names ++ name_of whose t ∷ [] }
tell (UnitCarried life reply before) t = with_entry (CarriedOut life t.came reply before) t
tell (UnitNoted life note before) t = with_remark (remark_of life t.came note before) t
tell (ImageStored entry) t = with_entry (Remarked (Stored entry)) t
tell (CommandDrawn lane) t = draws_in lane t
tell (JobAsked lane) t = record t { asking = drawn_in lane t }
tell (ReplyTaken lane) t = with_entry (TookReply (drawn_in lane t) t.packet) (answers_in lane t)
tell (NoticeTaken notice) t = record t { notices = t.notices ++ notice ∷ [] }
tell (CopyTold copy) t = with_entry (Remarked (Synced t.asking copy)) t
tell (TableTold table) t = with_entry (Remarked (Audited t.asking table t.notices)) t
tell (ImageTold slot image) t = with_entry (Remarked (Downloaded slot image)) t
tell _ t = t

abbrev pub tell_all : List Happening → Told → Told
tell_all [] t = t
tell_all (h ∷ rest) t = tell_all rest (tell h t)

-- the lines of a script, told
unfoldable pub told_after : List Action → Nodes → Told → Told
told_after [] n t = t
told_after (a ∷ rest) n t = told_after rest (step a n).nodes (tell_all (step a n).happenings t)

-- the history of a script, newest first
abbrev pub history_of : Header → List Action → List Entry
history_of h actions = (told_after actions (first_nodes h) first_told).history
