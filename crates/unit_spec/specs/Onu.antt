-- The unit: its database, for each priority the reply that it gave last, its alarms, what it put
-- by (the database for an upload, the alarms for an audit), its store of software images, and
-- whether it leaves.
use Rattle.std.specs.Prelude.{ℕ, ◌+◌, ◌-◌, ◌/◌, ◌==◌, ◌&&◌, is_none, nat_le, Bool, true, false, List, [], ◌∷◌, length, replicate, Option, Some, None, Result, Ok, Err}
use Rattle.omci_types.specs.declared.Code.{Code}
use Rattle.omci_types.specs.declared.Frame.{Frame}
use Rattle.omci_types.specs.declared.Boot.{Boot}
use Rattle.message_spec.specs.declared.Message.{Message}
use Rattle.message_spec.specs.declared.Message.TheVariants.{Asked, Answered, Told}
use Rattle.message_spec.specs.declared.Request.{Request}
use Rattle.message_spec.specs.declared.Request.TheVariants as request
use Rattle.message_spec.specs.declared.Response.{Response}
use Rattle.message_spec.specs.declared.Response.TheVariants as response
use Rattle.message_spec.specs.declared.ContentsFault.{ContentsFault}
use Rattle.message_spec.specs.declared.ContentsFault.TheVariants.{UnknownType, Bits}
use Rattle.message_spec.specs.Reading.{plain, message_of}
use Rattle.frame_spec.specs.Baseline.{spelling, packet_frame}
use Rattle.mib_spec.specs.Database.{Database, first, counter}
use Rattle.mib_spec.specs.Requests.{create_code, create_outcome, delete_outcome, set_outcome, get_outcome, reset_code, reset, unless_refused}
use Rattle.retry_spec.specs.Kept.{Kept, nothing_kept, kept_for, kept_with}
use Rattle.upload_spec.specs.Pieces.{without_makers, pieces, piece_at}
use Rattle.alarm_spec.specs.Alarms.{Alarms, row_at}
use Rattle.alarm_spec.specs.Log.{Log, new_log, after_snapshot}
use Rattle.slot_spec.specs.Slots.{SlotPair}
use Rattle.store_spec.specs.History.{StoreEntry}
use Rattle.store_spec.specs.State.{StoreState, store_started, software_of}
use Rattle.store_spec.specs.Deeds.{Deed, Ignore, deed}
use Rattle.store_spec.specs.Effects.{store_after, handled_by, entries_by}
use Rattle.unit_spec.specs.Images.{code_handled, granted_by, quiet_did, database_handled, leaving_handled, note_handled, reboot_code, leaving_reboot, reboot_note}
use Rattle.unit_spec.specs.declared.TheConstants.{SNAPSHOT_SECONDS}
use Rattle.unit_spec.specs.declared.Note.{Note}
use Rattle.unit_spec.specs.declared.Note.TheVariants as note
use Rattle.unit_spec.specs.declared.Did.{Did}
use Rattle.unit_spec.specs.declared.Did.TheVariants as did

-- a database that was put by, and the seconds since then or since it was last asked for a piece
pub record Snapshot : Type 0 where
  pub database : Database
  pub age : ℕ

-- alarms that were put by, and the seconds since then or since they were last asked for a row
pub record AlarmSnapshot : Type 0 where
  pub alarms : Alarms
  pub age : ℕ

pub record Onu : Type 0 where
  pub database : Database
  pub kept : Kept
  pub snapshot : Option Snapshot
  pub log : Log
  pub alarm_snapshot : Option AlarmSnapshot
  -- so much room in each image slot
  pub room : ℕ
  pub store : StoreState
  -- how it starts again with the next second, where it leaves
  pub leaving : Option Boot

-- a unit that starts so with the slots of its disk, with so much room in each: the first database,
-- nothing kept, no alarms, nothing put by, and no download
unfoldable pub onu_started : Boot → (room : ℕ) → SlotPair → Onu
onu_started boot room slots =
    record {
      database = first (software_of (store_started boot slots));
      kept = nothing_kept;
      snapshot = None;
      log = new_log;
      alarm_snapshot = None;
      room = room;
      store = store_started boot slots;
      leaving = None;
    }

-- what a packet comes to: the unit after it, what it did, its reply, which is empty where it gave
-- none, and what its store has for the history, newest first
pub record Reception : Type 0 where
  pub unit : Onu
  pub did : Did
  pub reply : List ℕ
  pub stored : List StoreEntry

abbrev pub drop_packet : Onu → Reception
drop_packet u = record { unit = u; did = did.Dropped; reply = []; stored = [] }

-- ---- a request is carried out

-- what carrying a request out comes to: the response's frame, the unit after it, what else is told
-- of it, and what its store has for the history, newest first
pub record Answer : Type 0 where
  pub reply : Frame
  pub unit : Onu
  pub note : Option Note
  pub stored : List StoreEntry

-- the response to a request, under its TCI and for its entity
abbrev pub response_frame : Frame → Response → Frame
response_frame f response = plain (Answered f.tci f.entity response)

abbrev pub respond : Frame → Response → Onu → Answer
respond f response u = record {
  reply = response_frame f response;
  unit = u;
  note = None;
  stored = [];
}

abbrev pub with_database : Database → Onu → Onu
with_database db u = record u { database = db }

-- The response to a request of a type that the unit doesn't carry out: the same type with AK in
-- place of AR, and the result 2. Nothing changes.
abbrev pub refusal_frame : Frame → Frame
refusal_frame f = record {
  tci = f.tci;
  kind = f.kind - 32;
  entity = f.entity;
  contents = 2 ∷ replicate 31 0;
}

abbrev pub not_supported : Frame → Onu → Answer
not_supported f u = record { reply = refusal_frame f; unit = u; note = None; stored = [] }

abbrev pub code : ℕ → Code
code number = record { 0 = number }

-- upload: the database is put by, and the response says how many pieces it has
abbrev pub upload : Frame → Onu → Answer
upload f u =
    record {
      reply = response_frame f (response.Upload (length (pieces (without_makers u.database))));
      unit = record u { snapshot = Some (record { database = u.database; age = 0 }) };
      note = Some (note.Snapshot (length u.database) (counter u.database));
      stored = [];
    }

-- a piece that isn't there is all zeros
abbrev pub or_zeros : Option (List ℕ) → List ℕ
or_zeros None = replicate 32 0
or_zeros (Some piece) = piece

-- upload next: the piece of that number of what was put by, whose age begins anew
abbrev pub next_piece : ℕ → Option Snapshot → List ℕ
next_piece number None = or_zeros None
next_piece number (Some s) = or_zeros (piece_at number (without_makers s.database))

abbrev pub fresh_again : Option Snapshot → Option Snapshot
fresh_again None = None
fresh_again (Some s) = Some (record s { age = 0 })

abbrev pub upload_next : Frame → ℕ → Onu → Answer
upload_next f number u =
    respond f (response.UploadNext (next_piece number u.snapshot))
    (record u { snapshot = fresh_again u.snapshot })

-- get all alarms: the alarms are put by, the next notice has the number 1, and the response says
-- how many rows there are
abbrev pub get_alarms : Frame → Onu → Answer
get_alarms f u =
    record {
      reply = response_frame f (response.Alarms (length u.log.alarms));
      unit = record u {
        log = after_snapshot u.log;
        alarm_snapshot = Some (record { alarms = u.log.alarms; age = 0 });
      };
      note = Some (note.Alarms (length u.log.alarms));
      stored = [];
    }

-- the next of them: the row of that number of what was put by, whose age begins anew
abbrev pub next_row : ℕ → Option AlarmSnapshot → List ℕ
next_row number None = or_zeros None
next_row number (Some s) = or_zeros (row_at number s.alarms)

abbrev pub alarms_fresh_again : Option AlarmSnapshot → Option AlarmSnapshot
alarms_fresh_again None = None
alarms_fresh_again (Some s) = Some (record s { age = 0 })

abbrev pub alarms_next : Frame → ℕ → Onu → Answer
alarms_next f number u =
    respond f (response.AlarmsNext (next_row number u.alarm_snapshot))
    (record u { alarm_snapshot = alarms_fresh_again u.alarm_snapshot })

-- ---- software images, and a restart

-- what a request for a software image asks of the store
abbrev pub image_deed : Frame → Request → Onu → Deed
image_deed f r u = deed u.room f.tci f.entity r u.store

-- the unit after a deed of its store for a slot
abbrev pub image_handled : (fails : Bool) → Deed → (slot : ℕ) → Onu → Onu
image_handled fails d slot u =
    record u {
      database = database_handled (handled_by fails d) (software_of (store_after fails d u.store))
          u.database;
      store = store_after fails d u.store;
      leaving = leaving_handled (handled_by fails d) slot u.leaving;
    }

-- such a request is carried out, by its deed, and answered by the deed's code
abbrev pub image_answer : (fails : Bool) → Deed → Frame → (ℕ → Response) → Onu → Answer
image_answer fails d f response u =
    record {
      reply = response_frame f (response (code_handled (handled_by fails d)));
      unit = image_handled fails d f.entity.instance u;
      note = note_handled fails d f.entity.instance;
      stored = entries_by fails d;
    }

-- the unit restarts after its reply
abbrev pub reboot : Frame → Onu → Answer
reboot f u =
    record {
      reply = response_frame f (response.Reboot (code (reboot_code f.entity)));
      unit = record u { leaving = leaving_reboot (reboot_code f.entity) u.leaving };
      note = reboot_note (reboot_code f.entity);
      stored = [];
    }

-- A request is carried out; it matters to those for a software image alone whether a device call
-- fails in it.
unfoldable pub answer : (fails : Bool) → Frame → Request → Onu → Answer
answer fails f (request.Create values) u =
    let o = create_outcome f.entity values u.database
    in respond f (response.Create (code o.0) 0) (with_database o.1 u)
answer fails f request.Delete u =
    let o = delete_outcome f.entity u.database
    in respond f (response.Delete (code o.0)) (with_database o.1 u)
answer fails f (request.Set mask values) u =
    let o = set_outcome f.entity mask values u.database in
    respond f (response.Set (code o.code) o.unsupported o.failed) (with_database o.database u)
answer fails f (request.Get mask) u =
    let o = get_outcome f.entity mask u.database in
    respond f (response.Get (code o.code) o.mask o.values o.unsupported 0) u
answer fails f request.Reset u =
    respond f (response.Reset (code (reset_code f.entity)))
    (with_database (unless_refused (reset_code f.entity) (reset u.database) u.database) u)
answer fails f (request.Alarms mode) u = get_alarms f u
answer fails f (request.AlarmsNext number) u = alarms_next f number u
answer fails f request.Upload u = upload f u
answer fails f (request.UploadNext number) u = upload_next f number u
answer fails f (request.Start window size targets target) u =
    image_answer fails (image_deed f (request.Start window size targets target) u) f
    (λ number. response.Start (code number) (granted_by number window)) u
answer fails f (request.Section number bytes last) u =
    image_answer fails (image_deed f (request.Section number bytes last) u) f
    (λ given. response.Section (code given) number) u
answer fails f (request.End crc size targets target) u =
    image_answer fails (image_deed f (request.End crc size targets target) u) f
    (λ number. response.End (code number)) u
answer fails f (request.Activate flags) u =
    image_answer fails (image_deed f (request.Activate flags) u) f
    (λ number. response.Activate (code number)) u
answer fails f request.Commit u =
    image_answer fails (image_deed f request.Commit u) f (λ number. response.Commit (code number)) u
answer fails f (request.Reboot flags) u = reboot f u

-- ---- a request comes

-- a request was carried out, and its reply is kept under its TCI
abbrev pub keep_reply : ℕ → Answer → Reception
keep_reply tci a =
    record {
      unit = record a.unit { kept = kept_with tci (spelling a.reply) a.unit.kept };
      did = did.Carried a.note;
      reply = spelling a.reply;
      stored = a.stored;
    }

-- a unit that leaves drops what no kept reply answers
abbrev pub unless_leaving : Option Boot → Reception → Onu → Reception
unless_leaving None r u = r
unless_leaving (Some boot) r u = drop_packet u

-- a request that comes again under the kept TCI of its priority is answered by the kept reply, and
-- not carried out
abbrev pub unless_kept : Option (List ℕ) → ℕ → Answer → Onu → Reception
unless_kept (Some reply) tci a u = record { unit = u; did = did.Kept; reply = reply; stored = [] }
unless_kept None tci a u = unless_leaving u.leaving (keep_reply tci a) u

unfoldable pub take_request : Frame → Answer → Onu → Reception
take_request f a u = unless_kept (kept_for f.tci u.kept) f.tci a u

-- a section that isn't its window's last asks for no reply
abbrev pub asks_nothing : Request → Bool
asks_nothing (request.Section number bytes false) = true
asks_nothing _ = false

-- it is held, or dropped, and no reply is kept
abbrev pub hold_section : (fails : Bool) → Deed → (slot : ℕ) → Onu → Reception
hold_section fails d slot u =
    record {
      unit = image_handled fails d slot u;
      did = quiet_did (handled_by fails d);
      reply = [];
      stored = entries_by fails d;
    }

-- under the kept TCI of its priority it is dropped
abbrev pub hold_unless_kept : Option (List ℕ) → (fails : Bool) → Deed → (slot : ℕ) → Onu → Reception
hold_unless_kept (Some reply) fails d slot u = drop_packet u
hold_unless_kept None fails d slot u = unless_leaving u.leaving (hold_section fails d slot u) u

unfoldable pub take_section : (fails : Bool) → Frame → Request → Onu → Reception
take_section fails f r u =
    hold_unless_kept (kept_for f.tci u.kept) fails (image_deed f r u) f.entity.instance u

abbrev pub unless_quiet : Bool → (fails : Bool) → Frame → Request → Onu → Reception
unless_quiet true fails f r u = take_section fails f r u
unless_quiet false fails f r u = take_request f (answer fails f r u) u

-- whether a type byte is that of a request: AR alone
abbrev pub has_request_bits : ℕ → Bool
has_request_bits kind = kind / 32 == 2

abbrev pub if_request : Bool → Frame → Onu → Reception
if_request true f u = take_request f (not_supported f u) u
if_request false f u = drop_packet u

-- a request is answered; an unknown type counts as one where its bits are those of a request;
-- nothing else is for the unit
abbrev pub for_message : (fails : Bool) → Result Message ContentsFault → Frame → Onu → Reception
for_message fails (Ok (Asked tci entity r)) f u = unless_quiet (asks_nothing r) fails f r u
for_message fails (Ok (Answered tci entity r)) f u = drop_packet u
for_message fails (Ok (Told tci entity notice)) f u = drop_packet u
for_message fails (Err (UnknownType number)) f u = if_request (has_request_bits f.kind) f u
for_message fails (Err (Bits kind)) f u = drop_packet u

abbrev pub for_frame : (fails : Bool) → Option Frame → Onu → Reception
for_frame fails None u = drop_packet u
for_frame fails (Some f) u = for_message fails (message_of f) f u

-- A packet that comes, and whether a device call fails in it: one that isn't exactly one frame is
-- nothing.
unfoldable pub onu_received : (fails : Bool) → List ℕ → Onu → Reception
onu_received fails bytes u = for_frame fails (packet_frame bytes) u

-- ---- what a packet asks of the store

abbrev pub deed_unless_leaving : Option Boot → Deed → Deed
deed_unless_leaving None d = d
deed_unless_leaving (Some boot) d = Ignore

abbrev pub deed_unless_kept : Option (List ℕ) → Option Boot → Deed → Deed
deed_unless_kept None leaving d = deed_unless_leaving leaving d
deed_unless_kept (Some reply) leaving d = Ignore

abbrev pub message_deed : Result Message ContentsFault → Frame → Onu → Deed
message_deed (Ok (Asked tci entity r)) f u =
    deed_unless_kept (kept_for f.tci u.kept) u.leaving (image_deed f r u)
message_deed (Ok (Answered tci entity r)) f u = Ignore
message_deed (Ok (Told tci entity notice)) f u = Ignore
message_deed (Err fault) f u = Ignore

abbrev pub frame_deed : Option Frame → Onu → Deed
frame_deed None u = Ignore
frame_deed (Some f) u = message_deed (message_of f) f u

-- the deed of the store in a packet that comes: none where it is dropped or answered by a kept
-- reply
unfoldable pub packet_deed : List ℕ → Onu → Deed
packet_deed bytes u = frame_deed (packet_frame bytes) u

-- ---- a second passes

abbrev pub unless_over : Bool → Snapshot → Option Snapshot
unless_over true s = None
unless_over false s = Some (record s { age = s.age + 1 })

-- what was put by is a second older, and is dropped where its time is over
abbrev pub second_older : Option Snapshot → Option Snapshot
second_older None = None
second_older (Some s) = unless_over (nat_le SNAPSHOT_SECONDS (s.age + 1)) s

abbrev pub alarms_unless_over : Bool → AlarmSnapshot → Option AlarmSnapshot
alarms_unless_over true s = None
alarms_unless_over false s = Some (record s { age = s.age + 1 })

-- the same of the alarms
abbrev pub alarms_second_older : Option AlarmSnapshot → Option AlarmSnapshot
alarms_second_older None = None
alarms_second_older (Some s) = alarms_unless_over (nat_le SNAPSHOT_SECONDS (s.age + 1)) s

unfoldable pub onu_ticked : Onu → Onu
onu_ticked u =
    record u {
      snapshot = second_older u.snapshot;
      alarm_snapshot = alarms_second_older u.alarm_snapshot;
    }

-- ---- memory

-- whether carrying a request out takes memory: an entity is made, or the database or the alarms are
-- put by
abbrev pub takes_room : Frame → Request → Database → Bool
takes_room f (request.Create values) db = create_code f.entity db == 0
takes_room f request.Upload db = true
takes_room f (request.Alarms mode) db = true
takes_room f _ db = false

abbrev pub message_takes : Result Message ContentsFault → Frame → Onu → Bool
message_takes (Ok (Asked tci entity r)) f u =
    is_none (kept_for f.tci u.kept) && (is_none u.leaving && takes_room f r u.database)
message_takes (Ok (Answered tci entity r)) f u = false
message_takes (Ok (Told tci entity notice)) f u = false
message_takes (Err fault) f u = false

abbrev pub frame_takes : Option Frame → Onu → Bool
frame_takes None u = false
frame_takes (Some f) u = message_takes (message_of f) f u

-- whether a packet takes memory: it asks for an entity that will be made, an upload or the alarms,
-- no kept reply answers it, and the unit doesn't leave
unfoldable pub takes_memory : List ℕ → Onu → Bool
takes_memory bytes u = frame_takes (packet_frame bytes) u
