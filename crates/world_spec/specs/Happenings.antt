-- What happens in the machine of both ends, one thing after the other. A step of the machine gives
-- its ends and the list of what happened; the link, the trace and the history are three readings of
-- that list.
use Rattle.std.specs.Prelude.{ℕ, ◌+◌, List, [], ◌∷◌}
use Rattle.omci_types.specs.declared.Priority.{Priority}
use Rattle.omci_types.specs.declared.Software.{Software}
use Rattle.mib_spec.specs.Database.{Database}
use Rattle.upload_spec.specs.Pieces.{Copy}
use Rattle.alarm_spec.specs.Alarms.{Alarm, Alarms}
use Rattle.store_spec.specs.History.{StoreEntry}
use Rattle.unit_spec.specs.Onu.{Onu}
use Rattle.unit_spec.specs.declared.Note.{Note}
use Rattle.manager_spec.specs.declared.Refusal.{Refusal}
use Rattle.manager_spec.specs.declared.Report.{Report}
use Rattle.link_spec.specs.Link.{Sent, Link, sent_on, delivered_on, emptied}
use Rattle.link_spec.specs.Held.{Held, held_sent, held_delivered, held_emptied}

-- whose packet it is: of the command that is outstanding in a lane, of the command whose packet
-- came, or of none
pub data Whose : Type 0 where
  OfLane : (lane : Priority) → Whose
  OfArrival : Whose
  OfNobody : Whose

pub data Happening : Type 0 where
  -- an end starts: the unit its so-manieth life with this software, or the manager
  UnitStarted : (life : ℕ) (software : Software) → Happening
  ManagerStarted : Happening
  -- the link delivers that packet to its end
  PacketCame : (number : ℕ) (packet : Sent) → Happening
  -- a packet goes onto the link
  PacketSent : (whose : Whose) (packet : Sent) → Happening
  -- in that life the unit carries out the request that came: its reply's packet, and the database
  -- before it
  UnitCarried : (life : ℕ) (reply : List ℕ) (before : Database) → Happening
  -- what else is told of the request that was carried out in that life, by that unit before it
  UnitNoted : (life : ℕ) (note : Note) (before : Onu) → Happening
  -- the unit gives the kept reply to what came, or does nothing with it
  UnitKept : Happening
  UnitDropped : Happening
  -- the unit holds a section that isn't its window's last
  UnitHeld : Happening
  -- the unit's store of software images has this for the history
  ImageStored : (entry : StoreEntry) → Happening
  -- the power of the unit goes while a packet comes
  PowerCut : Happening
  -- the manager draws the next command of a lane
  CommandDrawn : (lane : Priority) → Happening
  -- by the command that the lane drew last the manager's job asks for a snapshot
  JobAsked : (lane : Priority) → Happening
  -- the manager takes what came as the reply to the lane's command, which isn't a probe
  ReplyTaken : (lane : Priority) → Happening
  -- the manager takes an alarm notice
  NoticeTaken : (notice : Alarm) → Happening
  -- the copy that a resynchronisation has given, and the table that an audit has given
  CopyTold : (copy : Copy) → Happening
  TableTold : (table : Alarms) → Happening
  -- a download of this image into that slot has ended
  ImageTold : (slot : ℕ) (image : List ℕ) → Happening
  -- the manager reports something, or refuses a submission
  Reported : (report : Report) → Happening
  Refused : (refusal : Refusal) → Happening
  -- a line asks for what can't happen now
  NotEnabled : Happening

-- ---- the link's reading

abbrev pub on_link : Happening → Link → Link
on_link (UnitStarted life software) l = emptied l
on_link ManagerStarted l = emptied l
on_link (PacketCame number packet) l = delivered_on number packet l
on_link (PacketSent whose packet) l = sent_on packet l
on_link _ l = l

-- the link after all this
abbrev pub link_read : List Happening → Link → Link
link_read [] l = l
link_read (h ∷ rest) l = link_read rest (on_link h l)

-- the same of what is held of a link
abbrev pub on_held : Happening → Held → Held
on_held (UnitStarted life software) l = held_emptied l
on_held ManagerStarted l = held_emptied l
on_held (PacketCame number packet) l = held_delivered number packet l
on_held (PacketSent whose packet) l = held_sent packet l
on_held _ l = l

abbrev pub held_read : List Happening → Held → Held
held_read [] l = l
held_read (h ∷ rest) l = held_read rest (on_held h l)

-- the number of the next packet after it, from the number of the next packet before it
abbrev pub next_after : Happening → ℕ → ℕ
next_after (PacketSent whose packet) next = next + 1
next_after _ next = next

abbrev pub next_after_all : List Happening → ℕ → ℕ
next_after_all [] next = next
next_after_all (h ∷ rest) next = next_after_all rest (next_after h next)
