-- The agent and its disk: what a packet, a start and a cut make of them.
use Rattle.std.proofs.Common.{◌≡◌, ℕ, ◌+◌, ◌*◌, Bool, true, false, if◌then◌else◌, nat_le, List, [], ◌∷◌, ◌++◌, length, Option, Some, None, Result, Ok, Err, ◌-◌, inl, inr, refl, sym, ◌∙◌, ap, subst, arith}
use Rattle.std.proofs.lemmas.Bool.{true≢false}
use Rattle.omci_types.specs.declared.Boot.{Boot}
use Rattle.omci_types.specs.declared.EntityId.{EntityId}
use Rattle.message_spec.specs.declared.Notice.{Notice}
use Rattle.mib_spec.specs.declared.Sensed.{Sensed}
use Rattle.mib_spec.specs.declared.Sensed.TheVariants as sensed
use Rattle.mib_spec.specs.Database.{Database}
use Rattle.mib_spec.specs.Requests.{sense_outcome}
use Rattle.alarm_spec.specs.Log.{change}
use Rattle.frame_spec.specs.Baseline.{packet_frame}
use Rattle.omci_types.specs.declared.Frame.{Frame}
use Rattle.message_spec.specs.declared.Message.{Message}
use Rattle.message_spec.specs.declared.Message.TheVariants.{Asked, Answered, Told}
use Rattle.message_spec.specs.declared.ContentsFault.{ContentsFault}
use Rattle.message_spec.specs.declared.ContentsFault.TheVariants.{UnknownType, Bits}
use Rattle.message_spec.specs.Reading.{message_of}
use Rattle.message_spec.specs.declared.Request.{Request}
use Rattle.message_spec.specs.declared.Request.TheVariants as request
use Rattle.retry_spec.specs.Kept.{kept_for}
use Rattle.slot_spec.specs.declared.Pick.{Pick}
use Rattle.slot_spec.specs.declared.Trap.{Trap}
use Rattle.slot_spec.specs.declared.Trap.TheVariants.{Fuse, Fail, Clear}
use Rattle.slot_spec.specs.Crash.{HasLength}
use Rattle.slot_spec.specs.Slots.{SlotPair}
use Rattle.slot_spec.specs.Layout.{StandsAt}
use Rattle.slot_spec.specs.Outcome.{outcome, Leaves}
use Rattle.slot_spec.specs.declared.DiskHeader.{DiskHeader}
use Rattle.slot_spec.specs.Owner.{Settled}
use Rattle.slot_spec.specs.Rig.{Rigged, Call, Read, Write, Sync, trap_after, pick_of, call_fails, after_call, after_calls}
use Rattle.slot_disk.specs.Memory.{MemState, MayLeave, Loose, rig_of, cut_of, after_restore}
use Rattle.slot_disk.specs.Memory.{leaves_seen_of}
use Rattle.image_slots.specs.Mounts.{mount_calls}
use Rattle.store_spec.specs.Deeds.{Deed}
use Rattle.store_spec.specs.Effects.{change_of}
use Rattle.image_store.specs.declared.state.State.{State as Form}
use Rattle.image_store.specs.declared.state.State.TheVariants as form
use Rattle.image_store.specs.Stands.{state_disk, StateStands}
use Rattle.image_store.specs.Carries.{Changed, deed_calls}
use Rattle.image_store.specs.Starts.{Started}
use Rattle.image_store.proofs.Carrying.{one_state}
use Rattle.unit_spec.specs.declared.Did.{Did}
use Rattle.unit_spec.specs.Onu.{Onu, Answer, Reception, onu_started, onu_received, onu_ticked, packet_deed, answer, not_supported, keep_reply, unless_kept, unless_leaving, take_request, take_section, hold_section, hold_unless_kept, image_deed, asks_nothing, unless_quiet, if_request, has_request_bits, for_message, for_frame}
use Rattle.unit_spec.specs.Noticing.{Noticing, onu_sensed, onu_alarmed, notice_unless_leaving, measured, sensed_as, alarm_if, may_alarm, told_by}
use Rattle.onu_agent.specs.State.{State as Agent, AgentStands, UnitStands}
use Rattle.onu_agent.specs.Received.{Received}
use Rattle.link_replay.specs.Seen.{AgentRuns, DiskStands, reads}

-- ---- what callers know of a disk in memory

abbrev pub clock : MemState → ℕ
clock m = 0

abbrev pub left_since : MemState → ℕ → List ℕ → Type 0
left_since m time image = MayLeave m image

abbrev pub rig : MemState → Option Rigged
rig m = Some (rig_of m)

abbrev pub faults : MemState → ℕ
faults m = m.faults

pub same_bytes : (a b : List ℕ) → ◌≡◌ {A = Option (List ℕ)} (Some b) (Some a) → a ≡ b
same_bytes a b e = cc

pub same_rig : (a b : Rigged) → ◌≡◌ {A = Option Rigged} (Some a) (Some b) → a ≡ b
same_rig a b e = cc

-- ---- traps

pick_nearer : (trap : Trap) → pick_of (trap_after trap) ≡ pick_of trap
pick_nearer (Fuse call pick) = refl
pick_nearer (Fail call) = by (nat_le call 1)
  where
    by : (last : Bool) → pick_of (if last then Clear else Fail (call - 1)) ≡ pick_of (Fail call)
    by true = refl
    by false = refl
pick_nearer Clear = refl

nearer : (call : Call) (r : Rigged) → (after_call call r).trap ≡ trap_after r.trap
nearer (Read at count) r = refl
nearer (Write at new) r = refl
nearer Sync r = refl

-- device calls keep the pick of a fuse
pick_left : (calls : List Call) (r : Rigged) → pick_of (after_calls calls r).trap ≡ pick_of r.trap
unfolding after_calls
pick_left [] r = refl
pick_left (call ∷ calls) r = by (pick_left calls (after_call call r)) (call_fails call r)
  where
    one : pick_of (after_call call r).trap ≡ pick_of r.trap
    one = ap pick_of (nearer call r) ∙ pick_nearer r.trap

    by : pick_of (after_calls calls (after_call call r)).trap ≡ pick_of (after_call call r).trap
        → (stops : Bool)
        → pick_of (if stops then after_call call r else after_calls calls (after_call call r)).trap
        ≡ pick_of r.trap
    by rest true = one
    by rest false = rest ∙ one

clear_left : (calls : List Call) (r : Rigged) → r.trap ≡ Clear → (after_calls calls r).trap ≡ Clear
unfolding after_calls
clear_left [] r clear = clear
clear_left (call ∷ calls) r clear = by (clear_left calls (after_call call r)) (call_fails call r)
  where
    one : (after_call call r).trap ≡ Clear
    one = nearer call r ∙ ap trap_after clear

    by : ((after_call call r).trap ≡ Clear → (after_calls calls (after_call call r)).trap ≡ Clear)
        → (stops : Bool)
        → (if stops then after_call call r else after_calls calls (after_call call r)).trap ≡ Clear
    by rest true = one
    by rest false = rest one

-- ---- the room and the state of the store don't change but by a failing call

pub record Kept (u v : Onu) : Type 0 where
  pub room : v.room ≡ u.room
  pub broken : v.store.broken ≡ u.store.broken

same : (u : Onu) → Kept u u
same u = record { room = refl; broken = refl }

answered : (f : Frame) (r : Request) (u : Onu) → Kept u (answer false f r u).unit
unfolding answer
answered f (request.Create values) u = record { room = refl; broken = refl }
answered f request.Delete u = record { room = refl; broken = refl }
answered f (request.Set mask values) u = record { room = refl; broken = refl }
answered f (request.Get mask) u = same u
answered f request.Reset u = record { room = refl; broken = refl }
answered f (request.Alarms mode) u = record { room = refl; broken = refl }
answered f (request.AlarmsNext number) u = record { room = refl; broken = refl }
answered f request.Upload u = record { room = refl; broken = refl }
answered f (request.UploadNext number) u = record { room = refl; broken = refl }
answered f (request.Start window size targets target) u = record { room = refl; broken = refl }
answered f (request.Section number bytes last) u = record { room = refl; broken = refl }
answered f (request.End crc size targets target) u = record { room = refl; broken = refl }
answered f (request.Activate flags) u = record { room = refl; broken = refl }
answered f request.Commit u = record { room = refl; broken = refl }
answered f (request.Reboot flags) u = record { room = refl; broken = refl }

taken : (f : Frame) (a : Answer) (u : Onu) → Kept u a.unit → Kept u (take_request f a u).unit
unfolding take_request
taken f a u k = by (kept_for f.tci u.kept) u.leaving
  where
    by_leaving : (leaving : Option Boot) → Kept u (unless_leaving leaving (keep_reply f.tci a) u).unit
    by_leaving None = record { room = k.room; broken = k.broken }
    by_leaving (Some boot) = same u

    by : (o : Option (List ℕ)) (leaving : Option Boot) → Kept u (unless_kept o f.tci a u).unit
    by (Some reply) leaving = same u
    by None leaving = by_leaving u.leaving

held : (f : Frame) (r : Request) (u : Onu) → Kept u (take_section false f r u).unit
unfolding take_section
held f r u = by (kept_for f.tci u.kept)
  where
    by_leaving : (leaving : Option Boot)
        → Kept u (unless_leaving leaving (hold_section false (image_deed f r u) f.entity.instance u) u).unit
    by_leaving None = record { room = refl; broken = refl }
    by_leaving (Some boot) = same u

    by : (o : Option (List ℕ)) → Kept u (hold_unless_kept o false (image_deed f r u) f.entity.instance u).unit
    by (Some reply) = same u
    by None = by_leaving u.leaving

of_message : (m : Result Message ContentsFault) (f : Frame) (u : Onu) → Kept u (for_message false m f u).unit
of_message (Ok (Asked tci entity r)) f u = by (asks_nothing r)
  where
    by : (quiet : Bool) → Kept u (unless_quiet quiet false f r u).unit
    by true = held f r u
    by false = taken f (answer false f r u) u (answered f r u)
of_message (Ok (Answered tci entity r)) f u = same u
of_message (Ok (Told tci entity notice)) f u = same u
of_message (Err (UnknownType number)) f u = by (has_request_bits f.kind)
  where
    by : (b : Bool) → Kept u (if_request b f u).unit
    by true = taken f (not_supported f u) u (same u)
    by false = same u
of_message (Err (Bits kind)) f u = same u

of_frame : (o : Option Frame) (u : Onu) → Kept u (for_frame false o u).unit
of_frame None u = same u
of_frame (Some f) u = of_message (message_of f) f u

pub received_keeps : (bytes : List ℕ) (u : Onu) → Kept u (onu_received false bytes u).unit
unfolding onu_received
received_keeps bytes u = of_frame (packet_frame bytes) u

-- what the unit notices by itself leaves its store alone
pub record Apart (u v : Onu) : Type 0 where
  pub room : v.room ≡ u.room
  pub store : v.store ≡ u.store

pub sensed_apart : (one : EntityId) (number : ℕ) (value : List ℕ) (u : Onu) → Apart u (onu_sensed one number value u).unit
unfolding onu_sensed
sensed_apart one number value u = by u.leaving
  where
    by_sensed : (s : Sensed) (db : Database) → Apart u (sensed_as s one number value db u).unit
    by_sensed sensed.NotAllowed db = record { room = refl; store = refl }
    by_sensed sensed.Same db = record { room = refl; store = refl }
    by_sensed sensed.Changed db = record { room = refl; store = refl }

    by : (leaving : Option Boot) → Apart u (notice_unless_leaving leaving (measured one number value u) u).unit
    by None = by_sensed (sense_outcome one number value u.database).0 (sense_outcome one number value u.database).1
    by (Some boot) = record { room = refl; store = refl }

pub alarmed_apart : (one : EntityId) (bitmap : List ℕ) (u : Onu) → Apart u (onu_alarmed one bitmap u).unit
unfolding onu_alarmed
alarmed_apart one bitmap u = by u.leaving
  where
    by_notice : (o : Option Notice) → Apart u (told_by o one (record u { log = (change one bitmap u.log).log })).unit
    by_notice None = record { room = refl; store = refl }
    by_notice (Some notice) = record { room = refl; store = refl }

    by_may : (may : Bool) → Apart u (alarm_if may one bitmap u).unit
    by_may false = record { room = refl; store = refl }
    by_may true = by_notice (change one bitmap u.log).notice

    by : (leaving : Option Boot)
        → Apart u (notice_unless_leaving leaving (alarm_if (may_alarm one u.database) one bitmap u) u).unit
    by None = by_may (may_alarm one u.database)
    by (Some boot) = record { room = refl; store = refl }

pub ticked_apart : (u : Onu) → Apart u (onu_ticked u)
unfolding onu_ticked
ticked_apart u = record { room = refl; store = refl }

-- ---- an agent that runs

-- another agent over the same disk
pub runs_on : (room size : ℕ) (a b : Agent MemState) (u v : Onu) → AgentRuns room size a u → AgentStands reads MayLeave b v
    → b.unit.images ≡ a.unit.images → Apart u v → AgentRuns room size b v
runs_on room size a b u v runs stands images apart = record {
  stands = stands;
  room_is = apart.room ∙ runs.room_is;
  whole = ap (λ m. m.broken) apart.store ∙ runs.whole;
  form = runs.form;
  form_is = ap (λ i. i.state) images ∙ runs.form_is;
  long = runs.long;
  clear = runs.clear;
}

-- an agent took a packet
pub record Took (room size : ℕ) (b : Agent MemState) (did : Did) (reply bytes : List ℕ) (u : Onu) : Type 0 where
  pub runs : AgentRuns room size b (onu_received false bytes u).unit
  pub did_is : did ≡ (onu_received false bytes u).did
  pub reply_is : reply ≡ (onu_received false bytes u).reply

pub took : (room size : ℕ) (a b : Agent MemState) (u : Onu) (did : Did) (reply bytes : List ℕ) → AgentRuns room size a u
    → b.spent ≡ false → Received reads MayLeave clock left_since rig faults a.unit b.unit did reply bytes u
    → Took room size b did reply bytes u
took room size a b u did reply bytes runs sound r = record {
  runs = record {
    stands = record { sound = sound; stands = subst (λ (f : Bool). UnitStands reads MayLeave b.unit (onu_received f bytes u).unit) calm r.stands };
    room_is = (received_keeps bytes u).room ∙ runs.room_is;
    whole = (received_keeps bytes u).broken ∙ runs.whole;
    form = r.disk.after;
    form_is = r.disk.after_is;
    long = changed.length size (subst (λ (f : Form MemState). HasLength MayLeave size (state_disk f)) was runs.long);
    clear = ap (λ (x : Rigged). x.trap) (same_rig (rig_of (state_disk r.disk.after)) quiet.1.0 quiet.1.1) ∙ quiet.1.2;
  };
  did_is = r.did_is ∙ ap (λ (f : Bool). (onu_received f bytes u).did) calm;
  reply_is = r.reply_is ∙ ap (λ (f : Bool). (onu_received f bytes u).reply) calm;
}
  where
    was : runs.form ≡ r.disk.before
    was = one_state a.unit.images.state runs.form r.disk.before runs.form_is r.disk.before_is

    quiet : (r.fails ≡ false) × ((after : Rigged) × (Some (rig_of (state_disk r.disk.after)) ≡ Some after) × (after.trap ≡ Clear))
    quiet = r.disk.clear (rig_of (state_disk r.disk.before)) refl (ap (λ (f : Form MemState). (state_disk f).trap) (sym was) ∙ runs.clear)

    calm : r.fails ≡ false
    calm = quiet.0

    changed : Changed MayLeave clock left_since rig u.room (change_of (packet_deed bytes u)) u.store.slots (state_disk r.disk.before) (state_disk r.disk.after)
    changed = r.disk.disk.0 runs.whole

-- ---- starts and stops

trap_clear : (calls : List Call) (old new : MemState) → rig new ≡ Some (after_calls calls (rig_of old)) → old.trap ≡ Clear
    → new.trap ≡ Clear
trap_clear calls old new made clear =
    ap (λ (x : Rigged). x.trap) (same_rig (rig_of new) (after_calls calls (rig_of old)) made)
    ∙ clear_left calls (rig_of old) clear

started_whole : (boot : Boot) (room : ℕ) (s : SlotPair)
    → ((onu_started boot room s).room ≡ room) × ((onu_started boot room s).store.broken ≡ false)
unfolding onu_started
started_whole boot room s = (refl, refl)

-- an agent that started on a disk
pub started_runs : (room size : ℕ) (disk : MemState) (s : SlotPair) (boot : Boot) (a : Agent MemState) → DiskStands room size disk s
    → AgentStands reads MayLeave a (onu_started boot room s)
    → ((state : Form MemState) → a.unit.images.state ≡ Some state
    → Started reads MayLeave clock left_since rig faults size disk (state_disk state) false)
    → ((state : Form MemState) → a.unit.images.state ≡ Some state → HasLength MayLeave (length disk.bytes) (state_disk state))
    → AgentRuns room size a (onu_started boot room s)
started_runs room size disk s boot a d stands started long =
    let state = stands.stands.images.state in
    let is = stands.stands.images.state_is in
    record {
      stands = stands;
      room_is = (started_whole boot room s).0;
      whole = (started_whole boot room s).1;
      form = state;
      form_is = is;
      long = subst (λ (n : ℕ). HasLength MayLeave n (state_disk state)) d.long (long state is);
      clear = trap_clear (mount_calls size) disk (state_disk state) ((started state is).made (rig_of disk) refl).0 d.clear;
    }

-- the disk of an agent that stops stands for its store's slots
pub stopped_stands : (room size : ℕ) (a : Agent MemState) (u : Onu) → (runs : AgentRuns room size a u)
    → DiskStands room size (state_disk runs.form) u.store.slots
stopped_stands room size a u runs = record {
  long = runs.long (state_disk runs.form).bytes (leaves_seen_of (state_disk runs.form) (state_disk runs.form).bytes refl);
  slots = subst (λ (f : Form MemState). StandsAt room (state_disk f).bytes u.store.slots) (sym is)
      (subst (λ (n : ℕ). StandsAt n (state_disk state).bytes u.store.slots) (s.room_is ∙ runs.room_is)
      (of_state state s.images.stands));
  clear = runs.clear;
}
  where
    s : UnitStands reads MayLeave a.unit u
    s = runs.stands.stands

    state : Form MemState
    state = s.images.state

    is : runs.form ≡ state
    is = one_state a.unit.images.state runs.form state runs.form_is s.images.state_is

    settled : (disk : MemState) (header : DiskHeader) (n : ℕ) → header.room ≡ n → Settled reads MayLeave disk header u.store.slots
        → StandsAt n disk.bytes u.store.slots
    settled disk header n same t =
        subst (λ (k : ℕ). StandsAt k disk.bytes u.store.slots) same
        (subst (λ (b : List ℕ). StandsAt header.room b u.store.slots) (same_bytes t.bytes disk.bytes t.reads) t.shows.stands)

    of_state : (f : Form MemState) → StateStands reads MayLeave a.unit.images.room a.unit.images.active a.unit.images.granted a.unit.images.window f u.store
        → StandsAt a.unit.images.room (state_disk f).bytes u.store.slots
    of_state (form.Whole slots) t = settled slots.disk slots.header a.unit.images.room t.0.room_is t.0.settled
    of_state (form.Filling download) t = settled download.disk download.header a.unit.images.room t.room_is t.filling.settled
    of_state (form.Broken broken software) t = absurd (true≢false (sym t.0.broken_is ∙ runs.whole))

-- ---- a cut amid a packet

rigged_long : (old new : MemState) (trap : Trap) (size : ℕ) → rig new ≡ Some (record (rig_of old) { trap = trap })
    → HasLength MayLeave size old → HasLength MayLeave size new
rigged_long old new trap size told long = λ image left. by image left
  where
    same : rig_of new ≡ record (rig_of old) { trap = trap }
    same = same_rig (rig_of new) (record (rig_of old) { trap = trap }) told

    by : (image : List ℕ) → MayLeave new image → length image ≡ size
    by image (inl loose) =
        loose.long ∙ ap (λ (x : Rigged). length x.bytes) same ∙ long old.bytes (leaves_seen_of old old.bytes refl)
    by image (inr cut) =
        ap length (cut.1 ∙ ap (λ (x : Rigged). x.cut cut.0) same) ∙ long (cut_of old cut.0) (inr (cut.0, refl))

-- what is left of the disk once the power is back and the fuse is taken away
pub cut_stands : (room size : ℕ) (a b c : Agent MemState) (u : Onu) (did : Did) (reply bytes : List ℕ) (call : ℕ) (pick : Pick)
    (new after : Form MemState) → AgentRuns room size a u → b.unit.images.state ≡ Some new
    → ((old new : Form MemState) (r : Rigged) → a.unit.images.state ≡ Some old → b.unit.images.state ≡ Some new
    → rig (state_disk old) ≡ Some r → rig (state_disk new) ≡ Some (record r { trap = Fuse call pick }))
    → Received reads MayLeave clock left_since rig faults b.unit c.unit did reply bytes u → c.unit.images.state ≡ Some after
    → DiskStands room size (record (after_restore (state_disk after)) { trap = Clear })
    (outcome (change_of (packet_deed bytes u)) u.store.slots (Fuse call pick) pick)
cut_stands room size a b c u did reply bytes call pick new after runs new_is trap r after_is = record {
  long = subst (λ (f : Form MemState). length (cut_of (state_disk f) (pick_of (state_disk f).trap)) ≡ size) last_is
      (changed.length size (rigged_long (state_disk runs.form) (state_disk before) (Fuse call pick) size told runs.long)
      (cut_of (state_disk last) (pick_of (state_disk last).trap)) (inr (pick_of (state_disk last).trap, refl)));
  slots = subst (λ (f : Form MemState). StandsAt room (cut_of (state_disk f) (pick_of (state_disk f).trap)) left) last_is
      (subst (λ (p : Pick). StandsAt room (cut_of (state_disk last) p) left) (sym picked)
      (subst (λ (n : ℕ). StandsAt n (cut_of (state_disk last) pick) left) runs.room_is
      (subst (λ (x : Rigged). StandsAt u.room (x.cut pick) left) (sym same_after) (leaves.2.cuts pick))));
  clear = refl;
}
  where
    before : Form MemState
    before = r.disk.before

    last : Form MemState
    last = r.disk.after

    left : SlotPair
    left = outcome (change_of (packet_deed bytes u)) u.store.slots (Fuse call pick) pick

    last_is : last ≡ after
    last_is = one_state c.unit.images.state last after r.disk.after_is after_is

    told : rig (state_disk before) ≡ Some (record (rig_of (state_disk runs.form)) { trap = Fuse call pick })
    told = trap runs.form before (rig_of (state_disk runs.form)) runs.form_is r.disk.before_is refl

    changed : Changed MayLeave clock left_since rig u.room (change_of (packet_deed bytes u)) u.store.slots (state_disk before) (state_disk last)
    changed = r.disk.disk.0 runs.whole

    leaves : Leaves (StandsAt u.room) (change_of (packet_deed bytes u)) u.store.slots (Fuse call pick) (rig (state_disk last))
    leaves = changed.outcome (record (rig_of (state_disk runs.form)) { trap = Fuse call pick }) told

    same_after : rig_of (state_disk last) ≡ leaves.0
    same_after = same_rig (rig_of (state_disk last)) leaves.0 leaves.1

    made : rig (state_disk last) ≡ Some (after_calls (deed_calls u.room (packet_deed bytes u) u.store (state_disk runs.form).bytes)
        (record (rig_of (state_disk runs.form)) { trap = Fuse call pick }))
    made = (r.disk.made (record (rig_of (state_disk runs.form)) { trap = Fuse call pick }) told).0

    picked : pick_of (state_disk last).trap ≡ pick
    picked = ap (λ (x : Rigged). pick_of x.trap) (same_rig (rig_of (state_disk last)) (after_calls (deed_calls u.room (packet_deed bytes u) u.store (state_disk runs.form).bytes) (record (rig_of (state_disk runs.form)) { trap = Fuse call pick })) made)
        ∙ pick_left (deed_calls u.room (packet_deed bytes u) u.store (state_disk runs.form).bytes) (record (rig_of (state_disk runs.form)) { trap = Fuse call pick })
