-- What holds of a manager that is on, of the packets that may come from it, and of the unit,
-- whatever
-- happens: of its lanes, of a resynchronisation that runs, and of its copy while it is in step.
use Rattle.std.proofs.Common.{◌≡◌, ◌≢◌, ℕ, ◌<◌, ◌≤◌, ◌^◌, Bool, true, false, not, ◌||◌, List, [], length}
use Rattle.std.proofs.Common.{Option, Some, None, ◌⊎◌, inl, inr, refl, sym, subst}
use Rattle.std.specs.List.{Contains}
use Rattle.std.proofs.lemmas.Bool.{false≢true}
use Rattle.omci_types.specs.declared.Priority.{Priority}
use Rattle.omci_types.specs.declared.Priority.TheVariants.{Low, High}
use Rattle.tci_spec.specs.Tci.{priority_of}
use Rattle.frame_spec.specs.Baseline.{spelling, packet_frame}
use Rattle.message_spec.specs.declared.Message.TheVariants.{Asked}
use Rattle.message_spec.specs.declared.Request.TheVariants as request
use Rattle.message_spec.specs.Reading.{plain}
use Rattle.mib_spec.specs.Database.{Database, has_unit_entities}
use Rattle.upload_spec.specs.Pieces.{Copy}
use Rattle.omci_types.specs.declared.EntityId.{EntityId}
use Rattle.omci_types.specs.declared.Frame.{Frame}
use Rattle.link_spec.specs.Link.{Sent, Link, lane_of}
use Rattle.lane_spec.specs.declared.Purpose.TheVariants as purpose
use Rattle.lane_spec.specs.Command.{Command, command_packets, is_changing}
use Rattle.lane_spec.specs.Lane.{Lane, Waiting}
use Rattle.manager_spec.specs.declared.Phase.TheVariants as phase
use Rattle.manager_spec.specs.Manager.{Stage, Probing, Asking, Gathering, AskingAlarms}
use Rattle.manager_spec.specs.Manager.{GatheringRows, Manager}
use Rattle.manager_spec.specs.Manager.{StartingImage, SendingImage, EndingImage, DelayingEnd}
use Rattle.manager_spec.specs.Upgrade.{start_command, end_image_command}
use Rattle.manager_spec.specs.Submitting.{leaves_copy}
use Rattle.manager_spec.specs.Steps.{response_of}
use Rattle.unit_spec.specs.Onu.{Onu}
use Rattle.history_spec.specs.History.{Entry, WasCarried, LastReply, LastSnapshot}
use Rattle.world_spec.specs.History.{Told}
use Rattle.resync_laws.specs.Agreeing.{IsCopied}
use Rattle.resync_laws.proofs.Reading.{is_plain}
use Rattle.step_laws.specs.InStep.{LastSynced, LastSnapshotIn, CarriedOn}
use Rattle.step_laws.proofs.Coming.{Coming}
use Rattle.step_laws.proofs.Reading.{Changes, IsExact, form}
use Rattle.step_laws.proofs.Copying.{followed_copy}

-- ---- lanes

-- one of the two lanes
abbrev pub lane_at : Priority → Lane → Lane → Lane
lane_at Low low high = low
lane_at High low high = high

-- the command that waits in a lane
abbrev pub out_in : Priority → Manager → Option Waiting
out_in lane m = (lane_at lane m.low m.high).outstanding

-- the command that a lane drew last
abbrev pub last_at : Priority → (low high : ℕ) → ℕ
last_at Low low high = low
last_at High low high = high

abbrev pub last_in : Priority → Told → ℕ
last_in lane t = last_at lane t.low t.high

-- a packet's command isn't younger than the one that its lane drew last; and a packet of that one
-- is one of those of the command that waits
abbrev pub IsNewest : Priority → (last : ℕ) → Option Waiting → Sent → ℕ → Type 0
IsNewest lane last out s name =
    (lane_of s.bytes ≡ lane → name ≤ last)
    × ((w : Waiting) → out ≡ Some w → name ≡ last
    → Contains (command_packets w.tci w.command) s.bytes)

abbrev pub IsBelow : ℕ → Sent → ℕ → Type 0
IsBelow drawn s name = name < drawn

pub record IsWaiting (lane : Priority) (drawn last : ℕ) (w : Waiting) : Type 0 where
  pub lane_is : priority_of w.tci ≡ lane
  pub fits : w.tci < 2 ^ 16
  pub early : last < drawn

pub record LaneOk (lane : Priority) (l : Lane) (link : Link) (names : List ℕ)
    (drawn last : ℕ) : Type 0 where
  pub priority : l.priority ≡ lane
  pub number : l.next ≤ 32767
  pub out : (w : Waiting) → l.outstanding ≡ Some w → IsWaiting lane drawn last w
  pub newest : Coming (IsNewest lane last l.outstanding) link names

-- ---- an upload

-- the packet is that of an upload
pub record Uploads (bytes : List ℕ) : Type 0 where
  pub tci : ℕ
  pub entity : EntityId
  pub is : bytes ≡ spelling (plain (Asked tci entity request.Upload))

abbrev pub NoPacket : List ℕ → Type 0
NoPacket bytes = ⊥

-- a packet of the upload command that may come has that property, or the command was carried out in
-- this life
abbrev pub IsLeft : (List ℕ → Type 0) → (upload lives : ℕ) → List Entry → Sent → ℕ → Type 0
IsLeft P upload lives history s name = name ≡ upload → P s.bytes ⊎ WasCarried lives upload history

pub record IsPut (P : List ℕ → Type 0) (upload : ℕ) (link : Link) (lives : ℕ) (m : Manager)
    (t : Told) : Type 0 where
  pub early : upload < t.drawn
  pub packets : Coming (IsLeft P upload lives t.history) link t.names
  pub out : (lane : Priority) (w : Waiting) → out_in lane m ≡ Some w → last_in lane t ≡ upload
      → (bytes : List ℕ) → Contains (command_packets w.tci w.command) bytes → P bytes

-- ---- a job

-- whether the job is a resynchronisation
abbrev pub is_resync : Stage → Bool
is_resync (Probing high low) = true
is_resync Asking = true
is_resync (Gathering expected next copy) = true
is_resync AskingAlarms = false
is_resync (GatheringRows expected next) = false
is_resync (StartingImage order asked image) = false
is_resync (SendingImage order outgoing resent) = false
is_resync (EndingImage order image busy) = false
is_resync (DelayingEnd order image busy) = false

-- whether it is a download
abbrev pub is_image : Stage → Bool
is_image (Probing high low) = false
is_image Asking = false
is_image (Gathering expected next copy) = false
is_image AskingAlarms = false
is_image (GatheringRows expected next) = false
is_image (StartingImage order asked image) = true
is_image (SendingImage order outgoing resent) = true
is_image (EndingImage order image busy) = true
is_image (DelayingEnd order image busy) = true

-- whether the job keeps changes out of the lane: an audit does in the low one, in which it asks, a
-- download in the high one, and a resynchronisation in both
abbrev pub is_barred : Priority → Stage → Bool
is_barred Low s = not (is_image s)
is_barred High s = is_resync s || is_image s

-- whether a resynchronisation no longer waits for the lane's probe
abbrev pub is_probed : Priority → Stage → Bool
is_probed High (Probing high low) = not high
is_probed Low (Probing high low) = not low
is_probed lane Asking = true
is_probed lane (Gathering expected next copy) = true
is_probed lane AskingAlarms = false
is_probed lane (GatheringRows expected next) = false
is_probed lane (StartingImage order asked image) = false
is_probed lane (SendingImage order outgoing resent) = false
is_probed lane (EndingImage order image busy) = false
is_probed lane (DelayingEnd order image busy) = false

-- whether it has asked for a snapshot of the database
abbrev pub has_asked : Stage → Bool
has_asked (Probing high low) = false
has_asked Asking = true
has_asked (Gathering expected next copy) = true
has_asked AskingAlarms = false
has_asked (GatheringRows expected next) = false
has_asked (StartingImage order asked image) = false
has_asked (SendingImage order outgoing resent) = false
has_asked (EndingImage order image busy) = false
has_asked (DelayingEnd order image busy) = false

-- what a packet of the job's upload may be that was not carried out yet
abbrev pub left_of : Stage → List ℕ → Type 0
left_of (Probing high low) = NoPacket
left_of Asking = Uploads
left_of (Gathering expected next copy) = NoPacket
left_of AskingAlarms = NoPacket
left_of (GatheringRows expected next) = NoPacket
left_of (StartingImage order asked image) = NoPacket
left_of (SendingImage order outgoing resent) = NoPacket
left_of (EndingImage order image busy) = NoPacket
left_of (DelayingEnd order image busy) = NoPacket

pub probed_resync : (lane : Priority) (s : Stage) → is_probed lane s ≡ true → is_resync s ≡ true
probed_resync lane (Probing high low) e = refl
probed_resync lane Asking e = refl
probed_resync lane (Gathering expected next copy) e = refl
probed_resync Low AskingAlarms e = absurd (false≢true e)
probed_resync High AskingAlarms e = absurd (false≢true e)
probed_resync Low (GatheringRows expected next) e = absurd (false≢true e)
probed_resync High (GatheringRows expected next) e = absurd (false≢true e)
probed_resync Low (StartingImage order asked image) e = absurd (false≢true e)
probed_resync High (StartingImage order asked image) e = absurd (false≢true e)
probed_resync Low (SendingImage order outgoing resent) e = absurd (false≢true e)
probed_resync High (SendingImage order outgoing resent) e = absurd (false≢true e)
probed_resync Low (EndingImage order image busy) e = absurd (false≢true e)
probed_resync High (EndingImage order image busy) e = absurd (false≢true e)
probed_resync Low (DelayingEnd order image busy) e = absurd (false≢true e)
probed_resync High (DelayingEnd order image busy) e = absurd (false≢true e)

pub asked_resync : (s : Stage) → has_asked s ≡ true → is_resync s ≡ true
asked_resync (Probing high low) e = refl
asked_resync Asking e = refl
asked_resync (Gathering expected next copy) e = refl
asked_resync AskingAlarms e = absurd (false≢true e)
asked_resync (GatheringRows expected next) e = absurd (false≢true e)
asked_resync (StartingImage order asked image) e = absurd (false≢true e)
asked_resync (SendingImage order outgoing resent) e = absurd (false≢true e)
asked_resync (EndingImage order image busy) e = absurd (false≢true e)
asked_resync (DelayingEnd order image busy) e = absurd (false≢true e)

pub resync_bars : (lane : Priority) (s : Stage) → is_resync s ≡ true → is_barred lane s ≡ true
resync_bars Low (Probing high low) e = refl
resync_bars High (Probing high low) e = refl
resync_bars Low Asking e = refl
resync_bars High Asking e = refl
resync_bars Low (Gathering expected next copy) e = refl
resync_bars High (Gathering expected next copy) e = refl
resync_bars lane AskingAlarms e = absurd (false≢true e)
resync_bars lane (GatheringRows expected next) e = absurd (false≢true e)
resync_bars lane (StartingImage order asked image) e = absurd (false≢true e)
resync_bars lane (SendingImage order outgoing resent) e = absurd (false≢true e)
resync_bars lane (EndingImage order image busy) e = absurd (false≢true e)
resync_bars lane (DelayingEnd order image busy) e = absurd (false≢true e)

-- a download is no resynchronisation
pub resync_no_image : (s : Stage) → is_image s ≡ true → is_resync s ≡ false
resync_no_image (Probing high low) e = absurd (false≢true e)
resync_no_image Asking e = absurd (false≢true e)
resync_no_image (Gathering expected next copy) e = absurd (false≢true e)
resync_no_image AskingAlarms e = absurd (false≢true e)
resync_no_image (GatheringRows expected next) e = absurd (false≢true e)
resync_no_image (StartingImage order asked image) e = refl
resync_no_image (SendingImage order outgoing resent) e = refl
resync_no_image (EndingImage order image busy) e = refl
resync_no_image (DelayingEnd order image busy) e = refl

-- the packet of that lane asks for no change
abbrev pub IsCalm : Priority → Sent → ℕ → Type 0
IsCalm lane s name = lane_of s.bytes ≡ lane → Changes s.bytes → ⊥

-- no change is outstanding in a lane out of which the job keeps them
abbrev pub IsQuiet : Stage → Manager → Type 0
IsQuiet s m =
    (lane : Priority) (w : Waiting) → is_barred lane s ≡ true → out_in lane m ≡ Some w
    → is_changing w.command.request ≡ false

-- the database agrees with the one that the upload put by
pub record IsPutBy (upload : ℕ) (database : Database) (history : List Entry) : Type 0 where
  pub copy : Copy
  pub last : LastSnapshot upload copy history
  pub agrees : IsCopied database copy

-- where the upload was carried out in this life, the unit's database agrees with the one that it
-- put by
abbrev pub IsCurrent : (upload lives : ℕ) → Option Onu → List Entry → Type 0
IsCurrent upload lives unit history =
    (u : Onu) → unit ≡ Some u → WasCarried lives upload history → IsPutBy upload u.database history

pub record AtStep (link : Link) (lives : ℕ) (unit : Option Onu) (m : Manager) (t : Told)
    (s : Stage) : Type 0 where
  pub quiet : IsQuiet s m
  pub calm : (lane : Priority) → is_probed lane s ≡ true → Coming (IsCalm lane) link t.names
  pub put : has_asked s ≡ true → IsPut (left_of s) t.asking link lives m t
  pub current : has_asked s ≡ true → IsCurrent t.asking lives unit t.history

-- ---- in step

-- a change that a caller has submitted, and that leaves the manager in step
pub record IsFollowed (w : Waiting) : Type 0 where
  pub submitted : w.command.purpose ≡ purpose.Submission
  pub plainly : is_plain w.command.request ≡ true
  pub stays : leaves_copy w.command.request ≡ false
  pub exact : IsExact w.tci w.command
  pub single : w.command.earlier ≡ []

-- the job waits for the reply to this start or end of its download
abbrev pub AtCommand : Option Stage → Command → Type 0
AtCommand None c = ⊥
AtCommand (Some (Probing high low)) c = ⊥
AtCommand (Some Asking) c = ⊥
AtCommand (Some (Gathering expected next copy)) c = ⊥
AtCommand (Some AskingAlarms) c = ⊥
AtCommand (Some (GatheringRows expected next)) c = ⊥
AtCommand (Some (StartingImage order asked image)) c = c ≡ start_command order asked image
AtCommand (Some (SendingImage order outgoing resent)) c = ⊥
AtCommand (Some (EndingImage order image busy)) c = c ≡ end_image_command order image
AtCommand (Some (DelayingEnd order image busy)) c = ⊥

-- such a command, in the low lane
pub record IsImages (lane : Priority) (job : Option Stage) (w : Waiting) : Type 0 where
  pub low : lane ≡ Low
  pub at : AtCommand job w.command

-- what is known of it
pub record IsCounted (c : Command) : Type 0 where
  pub jobs : c.purpose ≡ purpose.Job
  pub single : c.earlier ≡ []
  pub some : (form c.request ≡ 1) ⊎ (form c.request ≡ 2)

pub counted_of : (job : Option Stage) (c : Command) → AtCommand job c → IsCounted c
counted_of None c h = absurd h
counted_of (Some (Probing high low)) c h = absurd h
counted_of (Some Asking) c h = absurd h
counted_of (Some (Gathering expected next copy)) c h = absurd h
counted_of (Some AskingAlarms) c h = absurd h
counted_of (Some (GatheringRows expected next)) c h = absurd h
counted_of (Some (StartingImage order asked image)) c h =
    subst IsCounted (sym h) (record { jobs = refl; single = refl; some = inl refl })
counted_of (Some (SendingImage order outgoing resent)) c h = absurd h
counted_of (Some (EndingImage order image busy)) c h =
    subst IsCounted (sym h) (record { jobs = refl; single = refl; some = inr refl })
counted_of (Some (DelayingEnd order image busy)) c h = absurd h

-- the change waits in its lane, which drew it last
pub record IsItsChange (out : Option Waiting) (last name : ℕ) : Type 0 where
  pub waiting : Waiting
  pub waits : out ≡ Some waiting
  pub changing : is_changing waiting.command.request ≡ true
  pub named : name ≡ last

-- a change that may come is the one that waits, or was carried out in this life
abbrev pub IsSettled : (lives : ℕ) → Manager → Told → Sent → ℕ → Type 0
IsSettled lives m t s name =
    Changes s.bytes
    → IsItsChange (out_in (lane_of s.bytes) m) (last_in (lane_of s.bytes) t) name
    ⊎ WasCarried lives name t.history

-- the command was carried out on a database that agreed; and the unit's database agrees with what
-- the
-- copy will be, once the reply is taken
pub record IsOnTheWay (lives : ℕ) (u : Onu) (w : Waiting) (name : ℕ) (history : List Entry)
    (copy : Copy) : Type 0 where
  pub before : Database
  pub carried : CarriedOn lives name before history
  pub agreed : IsCopied before copy
  pub later : (r : List ℕ) (f : Frame) → LastReply name r history → packet_frame r ≡ Some f
      → IsCopied u.database (followed_copy w.command.entity w.command.request (response_of f) copy)

-- no change that waits was carried out in this life
abbrev pub IsIdle : (lives : ℕ) → Manager → Told → Type 0
IsIdle lives m t =
    (lane : Priority) (w : Waiting) → out_in lane m ≡ Some w → is_changing w.command.request ≡ true
    → WasCarried lives (last_in lane t) t.history → ⊥

-- of a manager in step, with that copy and the upload command of the last resynchronisation
pub record InPhase (link : Link) (lives : ℕ) (unit : Option Onu) (m : Manager) (t : Told)
    (copy : Copy) (upload : ℕ) : Type 0 where
  pub synced : LastSynced upload t.history
  pub put : IsPut NoPacket upload link lives m t
  pub one : (w v : Waiting) → out_in Low m ≡ Some w → out_in High m ≡ Some v
      → is_changing w.command.request ≡ true → is_changing v.command.request ≡ true → ⊥
  pub made : (lane : Priority) (w : Waiting) → out_in lane m ≡ Some w
      → is_changing w.command.request ≡ true → IsFollowed w ⊎ IsImages lane m.job w
  pub settled : Coming (IsSettled lives m t) link t.names
  pub idle : (u : Onu) → unit ≡ Some u → WasCarried lives upload t.history → IsIdle lives m t
      → IsCopied u.database copy
  pub ahead : (u : Onu) (lane : Priority) (w : Waiting) → unit ≡ Some u
      → WasCarried lives upload t.history → out_in lane m ≡ Some w
      → is_changing w.command.request ≡ true → WasCarried lives (last_in lane t) t.history
      → IsOnTheWay lives u w (last_in lane t) t.history copy

-- a copy, and the upload command that it came from
pub record HasCopy (link : Link) (lives : ℕ) (unit : Option Onu) (m : Manager)
    (t : Told) : Type 0 where
  pub copy : Copy
  pub upload : ℕ
  pub has : m.copy ≡ Some copy
  pub phase : InPhase link lives unit m t copy upload

-- ---- all of it

-- of a manager that is on
pub record Steady (link : Link) (lives : ℕ) (unit : Option Onu) (m : Manager)
    (t : Told) : Type 0 where
  pub same : length link.packets ≡ length t.names
  pub below : Coming (IsBelow t.drawn) link t.names
  pub lanes : (lane : Priority)
      → LaneOk lane (lane_at lane m.low m.high) link t.names t.drawn (last_in lane t)
  pub apart : (w v : Waiting) → out_in Low m ≡ Some w → out_in High m ≡ Some v → t.low ≢ t.high
  pub known : (life command : ℕ) → WasCarried life command t.history → command < t.drawn
  pub job : (s : Stage) → m.job ≡ Some s → AtStep link lives unit m t s
  pub phase : m.phase ≡ phase.InStep → HasCopy link lives unit m t

-- of the unit and the history
pub record Kept (lives : ℕ) (unit : Option Onu) (history : List Entry) : Type 0 where
  pub has : (u : Onu) → unit ≡ Some u → has_unit_entities u.database ≡ true
  pub past : (life command : ℕ) → WasCarried life command history → life ≤ lives
  pub snapshots : (life command : ℕ) → LastSnapshotIn life command history
      → WasCarried life command history

pub record Sure (link : Link) (lives : ℕ) (unit : Option Onu) (manager : Option Manager)
    (t : Told) : Type 0 where
  pub steady : (m : Manager) → manager ≡ Some m → Steady link lives unit m t
  pub kept : Kept lives unit t.history
