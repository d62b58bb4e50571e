-- What callers see of a world, and the nodes that it stands for. And what a step of the ends makes
-- of it and of a text to which its lines are added.
use Rattle.std.specs.Prelude.{◌≡◌, ℕ, ◌+◌, ◌*◌, Bool, false, List, [], ◌∷◌, ◌++◌, length, Option, Some, None}
use Rattle.omci_types.specs.declared.Boot.{Boot}
use Rattle.frame_spec.specs.Baseline.{frame_of}
use Rattle.slot_spec.specs.declared.TheConstants.{HEADER_BYTES}
use Rattle.slot_spec.specs.declared.Trap.TheVariants.{Clear}
use Rattle.slot_spec.specs.Crash.{HasLength}
use Rattle.slot_spec.specs.Slots.{SlotPair}
use Rattle.slot_spec.specs.Layout.{StandsAt}
use Rattle.slot_disk.specs.Memory.{MemState, MayLeave}
use Rattle.link_spec.specs.declared.Direction.TheVariants.{Down, Up}
use Rattle.link_spec.specs.Link.{Sent, is_down, empty_link}
use Rattle.link_spec.specs.Held.{Held, held_of, held_sent}
use Rattle.upload_spec.specs.Pieces.{Copy}
use Rattle.alarm_spec.specs.Alarms.{Alarms}
use Rattle.store_spec.specs.State.{software_of}
use Rattle.script_spec.specs.Script.{Header}
use Rattle.unit_spec.specs.declared.Did.{Did}
use Rattle.unit_spec.specs.declared.Did.TheVariants as did
use Rattle.unit_spec.specs.declared.Note.{Note}
use Rattle.unit_spec.specs.Onu.{Onu, onu_started}
use Rattle.image_store.specs.declared.state.State.{State as Form}
use Rattle.image_store.specs.Stands.{state_disk}
use Rattle.onu_agent.specs.State.{State as Agent, AgentStands}
use Rattle.manager_spec.specs.declared.Report.{Report}
use Rattle.manager_spec.specs.Manager.{Manager, manager_started}
use Rattle.world_spec.specs.declared.Effect.TheVariants as effect
use Rattle.world_spec.specs.Happenings.{held_read}
use Rattle.world_spec.specs.Ends.{Ends, Step}
use Rattle.world_spec.specs.Nodes.{Nodes}
use Rattle.world_spec.specs.Trace.{line_text, lines_text}

-- how many lines are done, how many lives the unit has had, how many bytes its disk has, its agent,
-- and its disk while it is off; the manager; and what is held of the link
pub record Seen : Type 0 where
  pub event : ℕ
  pub lives : ℕ
  pub length : ℕ
  pub unit : Option (Agent MemState)
  pub disk : Option MemState
  pub manager : Option Manager
  pub held : Held

-- ---- what a world stands for

-- what a disk in memory reads as
abbrev pub reads : MemState → Option (List ℕ)
reads disk = Some disk.bytes

-- a disk of so many bytes that stands for these slots, with no trap
pub record DiskStands (room size : ℕ) (disk : MemState) (s : SlotPair) : Type 0 where
  pub long : length disk.bytes ≡ size
  pub slots : StandsAt room disk.bytes s
  pub clear : disk.trap ≡ Clear

-- an agent whose disk has so many bytes, no trap, and never failed
pub record AgentRuns (room size : ℕ) (agent : Agent MemState) (u : Onu) : Type 0 where
  pub stands : AgentStands reads MayLeave agent u
  pub room_is : u.room ≡ room
  pub whole : u.store.broken ≡ false
  pub form : Form MemState
  pub form_is : agent.unit.images.state ≡ Some form
  pub long : HasLength MayLeave size (state_disk form)
  pub clear : (state_disk form).trap ≡ Clear

-- a unit that is on is an agent, and one that is off a disk
abbrev pub UnitStands : (room size : ℕ) → Option (Agent MemState) → Option MemState → Option Onu
    → SlotPair → Type 0
UnitStands room size (Some agent) disk (Some u) s = AgentRuns room size agent u
UnitStands room size (Some agent) disk None s = ⊥
UnitStands room size None (Some disk) None s = DiskStands room size disk s
UnitStands room size None None None s = ⊥
UnitStands room size None disk (Some u) s = ⊥

-- the bytes of a disk with so much room in each slot
abbrev pub disk_bytes : ℕ → ℕ
disk_bytes room = HEADER_BYTES + 2 * room

pub record EndsStand (w : Seen) (e : Ends) : Type 0 where
  pub event_is : w.event ≡ e.event
  pub lives_is : w.lives ≡ e.lives
  pub size_is : w.length ≡ disk_bytes e.room
  pub manager_is : w.manager ≡ e.manager
  pub unit : UnitStands e.room w.length w.unit w.disk e.unit e.slots

pub record Stands (w : Seen) (n : Nodes) : Type 0 where
  pub ends : EndsStand w n.ends
  pub held : w.held ≡ held_of n.link

-- the unit's life that an agent began on a disk
pub record Woken (boot : Boot) (room : ℕ) (s : SlotPair) (old new : Seen) : Type 0 where
  pub agent : Agent MemState
  pub new_is : new ≡ record old { lives = old.lives + 1; unit = Some agent; disk = None }
  pub runs : AgentRuns room old.length agent (onu_started boot room s)

-- the unit is off, and its disk stands for these slots
pub record OffStands (w : Seen) (e : Ends) (s : SlotPair) : Type 0 where
  pub event_is : w.event ≡ e.event
  pub lives_is : w.lives ≡ e.lives
  pub size_is : w.length ≡ disk_bytes e.room
  pub manager_is : w.manager ≡ e.manager
  pub off : w.unit ≡ None
  pub disk : MemState
  pub disk_is : w.disk ≡ Some disk
  pub stands : DiskStands e.room w.length disk s

-- a world before the unit's first life
abbrev pub unstarted : (size : ℕ) → MemState → Header → Seen
unstarted size disk h =
    record {
      event = 0;
      lives = 0;
      length = size;
      unit = None;
      disk = Some disk;
      manager = Some (manager_started h.low h.high);
      held = held_of empty_link;
    }

-- a world, and whether memory ran out in an earlier call
pub record State : Type 0 where
  pub spent : Bool
  pub seen : Seen

-- a world whose memory never ran out stands for nodes
pub record WorldStands (w : State) (n : Nodes) : Type 0 where
  pub sound : w.spent ≡ false
  pub stands : Stands w.seen n

-- ---- what a step makes of it

-- the world stands for the ends after the step, and has carried and written what happened
pub record Follows (s : Step) (e : Ends) (old new : Seen) (before after : List ℕ) : Type 0 where
  pub ends : EndsStand new s.ends
  pub held : new.held ≡ held_read s.happenings old.held
  pub text : after ≡ before ++ lines_text e.event old.held.count s.happenings

-- the ends, and what is held of the link
pub record Scene : Type 0 where
  pub ends : Ends
  pub held : Held

-- these, and a text
pub record Shown : Type 0 where
  pub scene : Scene
  pub text : List ℕ

abbrev pub shown : Scene → List ℕ → Shown
shown w text = record { scene = w; text = text }

-- the ends after a step, and the text with its lines
abbrev pub followed : Step → Scene → List ℕ → Shown
followed s w text =
    shown
    (record { ends = s.ends; held = held_read s.happenings w.held })
    (text ++ lines_text w.ends.event w.held.count s.happenings)

-- the line of the unit's present life
abbrev pub life_text : (event lives : ℕ) → Option Onu → List ℕ
life_text event lives None = []
life_text event lives (Some u) = line_text event (effect.UnitStarted lives (software_of u.store))

-- whether a packet goes to the unit
abbrev pub goes_down : Option Sent → Bool
goes_down None = false
goes_down (Some s) = is_down s.direction

-- ---- what the unit did

abbrev pub up : List ℕ → Sent
up bytes = record { direction = Up; bytes = bytes }

abbrev pub up_text : (event next : ℕ) → List ℕ → List ℕ
up_text event next bytes = line_text event (effect.PacketSent next Up (frame_of bytes))

abbrev pub note_text : ℕ → Option Note → List ℕ
note_text event None = []
note_text event (Some note) = line_text event (effect.Noted note)

-- the lines of what the unit did with a packet in that life
abbrev pub did_text : (event next life : ℕ) → Did → List ℕ → List ℕ
did_text event next life did.Dropped reply = line_text event effect.Dropped
did_text event next life did.Held reply = line_text event effect.Held
did_text event next life did.Kept reply = line_text event effect.Kept ++ up_text event next reply
did_text event next life (did.Carried note) reply =
    line_text event (effect.Carried life) ++ (note_text event note ++ up_text event next reply)

-- and its reply on the link
abbrev pub did_held : Did → List ℕ → Held → Held
did_held did.Dropped reply h = h
did_held did.Held reply h = h
did_held did.Kept reply h = held_sent (up reply) h
did_held (did.Carried _) reply h = held_sent (up reply) h

-- ---- what the manager did

abbrev pub reports_in : Option Manager → List Report
reports_in None = []
reports_in (Some m) = m.reports

abbrev pub copy_in : Option Manager → Option Copy
copy_in None = None
copy_in (Some m) = m.copy

abbrev pub alarms_in : Option Manager → Alarms
alarms_in None = []
alarms_in (Some m) = m.table.rows

-- a manager whose reports were taken out
abbrev pub without_reports : Option Manager → Option Manager
without_reports None = None
without_reports (Some m) = Some (record m { reports = [] })

abbrev pub down : List ℕ → Sent
down bytes = record { direction = Down; bytes = bytes }

-- packets go down, one after the other
abbrev pub with_downs : List (List ℕ) → Held → Held
with_downs [] h = h
with_downs (p ∷ rest) h = with_downs rest (held_sent (down p) h)

-- a line for each, from that number on
abbrev pub downs_text : (event next : ℕ) → List (List ℕ) → List ℕ
downs_text event next [] = []
downs_text event next (p ∷ rest) =
    line_text event (effect.PacketSent next Down (frame_of p)) ++ downs_text event (next + 1) rest
