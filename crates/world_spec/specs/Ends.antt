-- The two ends, each on or off, and what happens to them: at a submission, when a packet comes,
-- with each second, and when the power goes or comes back. None of this knows the link.
use Rattle.std.specs.Prelude.{ℕ, ◌+◌, Bool, true, false, List, [], ◌∷◌, ◌++◌, map, reverse, Option, Some, None}
use Rattle.std.specs.List.{flat_map}
use Rattle.omci_types.specs.declared.Priority.{Priority}
use Rattle.omci_types.specs.declared.Boot.{Boot}
use Rattle.omci_types.specs.declared.Software.{Software}
use Rattle.omci_types.specs.declared.Boot.TheVariants.{PowerUp}
use Rattle.slot_spec.specs.declared.Pick.{Pick}
use Rattle.slot_spec.specs.declared.Trap.TheVariants.{Fuse}
use Rattle.slot_spec.specs.Slots.{SlotPair}
use Rattle.slot_spec.specs.Outcome.{outcome}
use Rattle.store_spec.specs.History.{StoreEntry}
use Rattle.store_spec.specs.State.{store_started, software_of}
use Rattle.store_spec.specs.Deeds.{Deed}
use Rattle.store_spec.specs.Effects.{change_of, entries_before}
use Rattle.script_spec.specs.Script.{Header}
use Rattle.link_spec.specs.declared.Direction.{Direction}
use Rattle.link_spec.specs.declared.Direction.TheVariants.{Down, Up}
use Rattle.link_spec.specs.Link.{Sent}
use Rattle.unit_spec.specs.declared.Did.{Did}
use Rattle.unit_spec.specs.declared.Did.TheVariants as did
use Rattle.unit_spec.specs.declared.Note.{Note}
use Rattle.upload_spec.specs.Pieces.{Copy}
use Rattle.unit_spec.specs.declared.Noticed.{Noticed}
use Rattle.unit_spec.specs.declared.Noticed.TheVariants as noticed
use Rattle.unit_spec.specs.Onu.{Onu, Reception, onu_started, onu_received, onu_ticked, packet_deed}
use Rattle.unit_spec.specs.Noticing.{Noticing}
use Rattle.manager_spec.specs.declared.Refusal.{Refusal}
use Rattle.manager_spec.specs.declared.Report.{Report}
use Rattle.manager_spec.specs.declared.Report.TheVariants as report
use Rattle.manager_spec.specs.Manager.{Stage, Probing, Asking, Gathering, AskingAlarms, GatheringRows, StartingImage, SendingImage, EndingImage, DelayingEnd, Manager, Outcome, Sending, manager_started}
use Rattle.manager_spec.specs.Submitting.{Submission}
use Rattle.manager_spec.specs.Steps.{after_packet, after_tick}
use Rattle.world_spec.specs.Happenings.{Happening, OfLane, OfArrival, OfNobody, UnitStarted, ManagerStarted, PacketCame, PacketSent, UnitCarried, UnitNoted, UnitKept, UnitDropped, UnitHeld, ImageStored, PowerCut, CommandDrawn, JobAsked, ReplyTaken, NoticeTaken, CopyTold, TableTold, ImageTold, Reported, Refused, NotEnabled}

-- how many lines of the script are done, how many lives the unit has had, the room of its image
-- slots, and the ends that are on; and the image slots of a unit that is off, which are those of
-- its store while it is on
pub record Ends : Type 0 where
  pub event : ℕ
  pub lives : ℕ
  pub room : ℕ
  pub slots : SlotPair
  pub unit : Option Onu
  pub manager : Option Manager

-- the ends after a step, and what happened in it
pub record Step : Type 0 where
  pub ends : Ends
  pub happenings : List Happening

-- ---- how they begin

-- the factory's image stands in slot 0, which is committed, and none in slot 1
abbrev pub factory_slots : List ℕ → SlotPair
factory_slots image = record { first = Some image; second = None; committed = 0 }

abbrev pub factory_software : List ℕ → Software
factory_software image = software_of (store_started PowerUp (factory_slots image))

-- before the first line both ends have just started
abbrev pub first_ends : Header → Ends
first_ends h =
    record {
      event = 0;
      lives = 1;
      room = h.room;
      slots = factory_slots h.factory;
      unit = Some (onu_started PowerUp h.room (factory_slots h.factory));
      manager = Some (manager_started h.low h.high);
    }

-- ---- steps

abbrev pub still : Ends → Step
still e = record { ends = e; happenings = [] }

abbrev pub not_enabled : Ends → Step
not_enabled e = record { ends = e; happenings = NotEnabled ∷ [] }

-- these things happen first
abbrev pub preceded : List Happening → Step → Step
preceded first s = record { ends = s.ends; happenings = first ++ s.happenings }

-- one step and then another
abbrev pub then_step : Step → (Ends → Step) → Step
then_step s next =
    record { ends = (next s.ends).ends; happenings = s.happenings ++ (next s.ends).happenings }

-- ---- the manager

abbrev pub if_drawn : Bool → Priority → List Happening
if_drawn true lane = CommandDrawn lane ∷ []
if_drawn false lane = []

abbrev pub goes_down : Priority → List ℕ → Happening
goes_down lane bytes = PacketSent (OfLane lane) (record { direction = Down; bytes = bytes })

abbrev pub if_asked : Bool → Priority → List Happening
if_asked true lane = JobAsked lane ∷ []
if_asked false lane = []

-- a command is drawn, or sent again
abbrev pub sends : Sending → List Happening
sends s = if_drawn s.drawn s.lane ++ if_asked s.asks s.lane ++ map (goes_down s.lane) s.packets

abbrev pub copy_told : Option Copy → List Happening
copy_told None = []
copy_told (Some copy) = CopyTold copy ∷ []

-- the image of a download whose end was sent
abbrev pub image_told : Option Stage → (slot : ℕ) → List Happening
image_told None slot = []
image_told (Some (Probing high low)) slot = []
image_told (Some Asking) slot = []
image_told (Some (Gathering expected next copy)) slot = []
image_told (Some AskingAlarms) slot = []
image_told (Some (GatheringRows expected next)) slot = []
image_told (Some (StartingImage order asked image)) slot = []
image_told (Some (SendingImage order outgoing resent)) slot = []
image_told (Some (EndingImage order image busy)) slot = ImageTold slot image ∷ []
image_told (Some (DelayingEnd order image busy)) slot = []

-- a download has ended that the manager ran before
abbrev pub download_told : Option Stage → Report → List Happening
download_told before (report.ImageDone slot) = image_told before slot
download_told before _ = []

-- the stage of the job that a manager runs
abbrev pub stage_in : Option Manager → Option Stage
stage_in None = None
stage_in (Some m) = m.job

-- the copy is told after the report of a resynchronisation, and the table after that of an audit
abbrev pub result_told : Report → Manager → List Happening
result_told (report.Synced entities counter) m = copy_told m.copy
result_told (report.Audited rows) m = TableTold m.table.rows ∷ []
result_told _ m = []

abbrev pub report_told : Manager → Report → List Happening
report_told m r = Reported r ∷ result_told r m

-- the manager may take a reply or a notice; its reports are taken out, then its packets go onto the
-- link, and a download may have ended
abbrev pub manager_did : Outcome → Ends → Step
manager_did o e =
    record {
      ends = record e { manager = Some (record o.manager { reports = [] }) };
      happenings =
          map ReplyTaken o.taken
          ++ map NoticeTaken o.noticed
          ++ flat_map (report_told o.manager) o.manager.reports
          ++ flat_map sends o.sendings
          ++ flat_map (download_told (stage_in e.manager)) o.manager.reports;
    }

abbrev pub submission_by : Option Refusal → Outcome → Ends → Step
submission_by None o e = manager_did o e
submission_by (Some refusal) o e = record { ends = e; happenings = Refused refusal ∷ [] }

abbrev pub submission_step : Submission → Ends → Step
submission_step s e = submission_by s.refusal s.outcome e

-- a submission to a manager that is on
abbrev pub submission : (Manager → Submission) → Option Manager → Ends → Step
submission call None e = not_enabled e
submission call (Some m) e = submission_step (call m) e

abbrev pub manager_got : List Happening → List ℕ → Option Manager → Ends → Step
manager_got first bytes None e = not_enabled e
manager_got first bytes (Some m) e = preceded first (manager_did (after_packet bytes m) e)

abbrev pub manager_ticks : Option Manager → Ends → Step
manager_ticks None e = still e
manager_ticks (Some m) e = manager_did (after_tick m) e

-- ---- the unit

abbrev pub goes_up : List ℕ → Happening
goes_up bytes = PacketSent OfArrival (record { direction = Up; bytes = bytes })

abbrev pub note_told : Option Note → ℕ → Onu → List Happening
note_told None life before = []
note_told (Some note) life before = UnitNoted life note before ∷ []

-- what the unit did with what came, and its reply
abbrev pub unit_deed : Did → List ℕ → Onu → ℕ → List Happening
unit_deed did.Dropped reply before life = UnitDropped ∷ []
unit_deed did.Held reply before life = UnitHeld ∷ []
unit_deed did.Kept reply before life = UnitKept ∷ goes_up reply ∷ []
unit_deed (did.Carried note) reply before life =
    UnitCarried life reply before.database ∷ note_told note life before ++ goes_up reply ∷ []

-- what its store has for the history, oldest first
abbrev pub stored : List StoreEntry → List Happening
stored entries = map ImageStored (reverse entries)

abbrev pub unit_did : Reception → Onu → Ends → Step
unit_did r before e =
    record {
      ends = record e { unit = Some r.unit };
      happenings = unit_deed r.did r.reply before e.lives ++ stored r.stored;
    }

abbrev pub unit_got : List Happening → List ℕ → Option Onu → Ends → Step
unit_got first bytes None e = not_enabled e
unit_got first bytes (Some u) e = preceded first (unit_did (onu_received false bytes u) u e)

-- ---- the unit notices something by itself

abbrev pub notice_sent : Noticed → List ℕ → List Happening
notice_sent noticed.NotAllowed packet = NotEnabled ∷ []
notice_sent noticed.Same packet = []
notice_sent noticed.Sent packet = PacketSent OfNobody (record { direction = Up; bytes = packet })
    ∷ []

abbrev pub unit_noticed : Noticing → Ends → Step
unit_noticed n e =
    record { ends = record e { unit = Some n.unit }; happenings = notice_sent n.noticed n.packet }

-- a unit that is on notices a value or alarms
abbrev pub unit_notices : (Onu → Noticing) → Option Onu → Ends → Step
unit_notices call None e = not_enabled e
unit_notices call (Some u) e = unit_noticed (call u) e

-- ---- a packet comes to its end, or noise does

abbrev pub arrives_at : Direction → List Happening → List ℕ → Ends → Step
arrives_at Down first bytes e = unit_got first bytes e.unit e
arrives_at Up first bytes e = manager_got first bytes e.manager e

-- the link delivers that packet
unfoldable pub arrives : ℕ → Sent → Ends → Step
arrives number s e = arrives_at s.direction (PacketCame number s ∷ []) s.bytes e

-- bytes come that nobody sent
unfoldable pub noise : Direction → List ℕ → Ends → Step
noise direction bytes e = arrives_at direction [] bytes e

-- ---- the unit starts

-- the unit's next life, with these slots
abbrev pub unit_starts : Boot → SlotPair → Ends → Step
unit_starts boot slots e =
    record {
      ends = record e { lives = e.lives + 1; unit = Some (onu_started boot e.room slots) };
      happenings = UnitStarted (e.lives + 1) (software_of (store_started boot slots)) ∷ [];
    }

-- ---- a second passes

-- a unit that leaves starts again
abbrev pub restarts : Option Boot → Onu → Ends → Step
restarts None u e = still (record e { unit = Some (onu_ticked u) })
restarts (Some boot) u e = unit_starts boot u.store.slots e

abbrev pub unit_ticks : Option Onu → Ends → Step
unit_ticks None e = still e
unit_ticks (Some u) e = restarts u.leaving u e

-- for the manager, and then for the unit
unfoldable pub second : Ends → Step
second e = then_step (manager_ticks e.manager e) (λ after. unit_ticks after.unit after)

-- ---- power

abbrev pub cut_unit : Option Onu → Ends → Step
cut_unit None e = not_enabled e
cut_unit (Some u) e = still (record e { slots = u.store.slots; unit = None })

abbrev pub cut_manager : Option Manager → Ends → Step
cut_manager None e = not_enabled e
cut_manager (Some m) e = still (record e { manager = None })

-- the unit's next life
abbrev pub start_unit : Option Onu → Ends → Step
start_unit None e = unit_starts PowerUp e.slots e
start_unit (Some u) e = not_enabled e

-- The power of the unit goes at so many device calls of a packet that comes, and leaves the slots
-- of that call. Nothing is answered.
abbrev pub cut_amid : (call : ℕ) → Pick → Deed → Onu → Ends → Step
cut_amid call pick d u e =
    record {
      ends = record e {
        slots = outcome (change_of d) u.store.slots (Fuse call pick) pick;
        unit = None;
      };
      happenings = stored (entries_before d) ++ PowerCut ∷ [];
    }

abbrev pub unit_cut_amid : (call : ℕ) → Pick → List Happening → List ℕ → Option Onu → Ends → Step
unit_cut_amid call pick first bytes None e = not_enabled e
unit_cut_amid call pick first bytes (Some u) e =
    preceded first (cut_amid call pick (packet_deed bytes u) u e)

abbrev pub cut_at : (call : ℕ) → Pick → Direction → List Happening → List ℕ → Ends → Step
cut_at call pick Down first bytes e = unit_cut_amid call pick first bytes e.unit e
cut_at call pick Up first bytes e = not_enabled e

-- the link delivers that packet, and the power of the unit goes at a device call
unfoldable pub cut_in : (call : ℕ) → Pick → (number : ℕ) → Sent → Ends → Step
cut_in call pick number s e = cut_at call pick s.direction (PacketCame number s ∷ []) s.bytes e

abbrev pub start_manager : (low high : ℕ) → Option Manager → Ends → Step
start_manager low high None e =
    record {
      ends = record e { manager = Some (manager_started low high) };
      happenings = ManagerStarted ∷ [];
    }
start_manager low high (Some m) e = not_enabled e
