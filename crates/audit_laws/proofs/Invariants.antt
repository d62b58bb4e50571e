-- What holds of both ends and of what is told of them while an audit runs.
use Rattle.std.proofs.Common.{◌≡◌, ◌≢◌, ℕ, ◌<◌, ◌≤◌, ◌^◌, Bool, true, false, List, [], ◌∷◌, ◌++◌, map, length, take, replicate, Option, Some, None, ◌⊎◌, inl, inr, refl, sym, ap, subst, ◌∙◌, arith}
use Rattle.std.proofs.lemmas.Option.{same_Some}
use Rattle.std.specs.List.{flat_map}
use Rattle.omci_types.specs.declared.Frame.{Frame}
use Rattle.frame_spec.specs.Baseline.{spelling}
use Rattle.message_spec.specs.declared.Request.TheVariants as request
use Rattle.message_spec.specs.declared.Response.TheVariants as response
use Rattle.alarm_spec.specs.Alarms.{Alarm, Alarms, after, row_at, IsWhole}
use Rattle.alarm_spec.specs.Table.{Table}
use Rattle.lane_spec.specs.Command.{sync_entity, job_command}
use Rattle.lane_spec.specs.Lane.{Lane, Waiting}
use Rattle.store_spec.specs.History.{StoreEntry}
use Rattle.manager_spec.specs.declared.Report.{Report}
use Rattle.manager_spec.specs.declared.Report.TheVariants as report
use Rattle.manager_spec.specs.Manager.{Stage, Probing, Asking, Gathering, AskingAlarms, GatheringRows, StartingImage, SendingImage, EndingImage, DelayingEnd, Manager}
use Rattle.unit_spec.specs.Onu.{Onu, AlarmSnapshot, response_frame}
use Rattle.history_spec.specs.History.{Entry, CarriedOut, TookReply, Remarked, TookSnapshot, Synced, TookAlarms, Audited, Stored, Downloaded, WasCarried, LastReply, LastAlarms, AuditedRight}
use Rattle.world_spec.specs.Happenings.{ImageStored}
use Rattle.world_spec.specs.Ends.{image_told, download_told}
use Rattle.world_spec.specs.History.{Told, with_entry, tell_all}
use Rattle.resync_laws.proofs.Telling.{tell_append}
use Rattle.audit_laws.proofs.Known.{UnitOk}

-- ---- histories

-- a command put by these alarms the last time, and no others
pub same_alarms : (command : ℕ) (a b : Alarms) (history : List Entry)
    → LastAlarms command [] a history → LastAlarms command [] b history → a ≡ b
same_alarms command a b [] h k = absurd h
same_alarms command a b (CarriedOut life c r before ∷ older) h k = same_alarms command a b older h k
same_alarms command a b (TookReply c r ∷ older) h k = same_alarms command a b older h k
same_alarms command a b (Remarked (TookSnapshot life c database) ∷ older) h k =
    same_alarms command a b older h k
same_alarms command a b (Remarked (Synced c other) ∷ older) h k = same_alarms command a b older h k
same_alarms command a b (Remarked (TookAlarms life c alarms) ∷ older) (inl h) (inl k) = sym h.1 ∙ k.1
same_alarms command a b (Remarked (TookAlarms life c alarms) ∷ older) (inl h) (inr k) =
    absurd (k.0 h.0)
same_alarms command a b (Remarked (TookAlarms life c alarms) ∷ older) (inr h) (inl k) =
    absurd (h.0 k.0)
same_alarms command a b (Remarked (TookAlarms life c alarms) ∷ older) (inr h) (inr k) =
    same_alarms command a b older h.1 k.1
same_alarms command a b (Remarked (Audited c table notices) ∷ older) h k =
    same_alarms command a b older h k
same_alarms command a b (Remarked (Stored entry) ∷ older) h k = same_alarms command a b older h k
same_alarms command a b (Remarked (Downloaded slot image) ∷ older) h k =
    same_alarms command a b older h k

-- and notices make of them what they make of them
pub with_notices : (command : ℕ) (alarms : Alarms) (notices : List Alarm) (history : List Entry)
    → LastAlarms command [] alarms history
    → LastAlarms command notices (after alarms notices) history
with_notices command alarms notices [] h = absurd h
with_notices command alarms notices (CarriedOut life c r before ∷ older) h =
    with_notices command alarms notices older h
with_notices command alarms notices (TookReply c r ∷ older) h =
    with_notices command alarms notices older h
with_notices command alarms notices (Remarked (TookSnapshot life c database) ∷ older) h =
    with_notices command alarms notices older h
with_notices command alarms notices (Remarked (Synced c other) ∷ older) h =
    with_notices command alarms notices older h
with_notices command alarms notices (Remarked (TookAlarms life c taken) ∷ older) (inl h) =
    inl (h.0, ap (λ a. after a notices) h.1)
with_notices command alarms notices (Remarked (TookAlarms life c taken) ∷ older) (inr h) =
    inr (h.0, with_notices command alarms notices older h.1)
with_notices command alarms notices (Remarked (Audited c table waited) ∷ older) h =
    with_notices command alarms notices older h
with_notices command alarms notices (Remarked (Stored entry) ∷ older) h =
    with_notices command alarms notices older h
with_notices command alarms notices (Remarked (Downloaded slot image) ∷ older) h =
    with_notices command alarms notices older h

-- ---- an audit that runs

-- what an audit speaks of: the unit in its life, the manager's lanes and table, and what is told
pub record State : Type 0 where
  pub lives : ℕ
  pub unit : Option Onu
  pub low : Lane
  pub high : Lane
  pub table : Table
  pub tlow : ℕ
  pub thigh : ℕ
  pub asking : ℕ
  pub drawn : ℕ
  pub notices : List Alarm
  pub history : List Entry

abbrev pub state_of : ℕ → Option Onu → Manager → Told → State
state_of lives unit m t =
    record {
      lives = lives;
      unit = unit;
      low = m.low;
      high = m.high;
      table = m.table;
      tlow = t.low;
      thigh = t.high;
      asking = t.asking;
      drawn = t.drawn;
      notices = t.notices;
      history = t.history;
    }

-- this reply says how many rows the command's last snapshot has
pub record CountedRows (command : ℕ) (reply : List ℕ) (history : List Entry) : Type 0 where
  pub alarms : Alarms
  pub whole : IsWhole alarms
  pub few : length alarms < 2 ^ 16
  pub last : LastAlarms command [] alarms history
  pub frame : Frame
  pub is : reply ≡ spelling (response_frame frame (response.Alarms (length alarms)))

-- it waits for the reply to its get all alarms command
pub record AsksAlarms (a : State) : Type 0 where
  pub proved : a.low.proved ≡ true
  pub waiting : Waiting
  pub waits : a.low.outstanding ≡ Some waiting
  pub command : waiting.command ≡ job_command sync_entity (request.Alarms 0)
  pub own : a.asking ≡ a.tlow
  pub reply : (r : List ℕ) → LastReply a.tlow r a.history → CountedRows a.tlow r a.history
  pub fresh : (u : Onu) (s : AlarmSnapshot) → a.unit ≡ Some u → WasCarried a.lives a.tlow a.history
      → u.alarm_snapshot ≡ Some s → LastAlarms a.tlow [] s.alarms a.history

-- the rows so far are the first ones of the command's last snapshot, which the unit still has or has
-- let go; and the notices that wait are those that were taken since the reply
pub record GathersRows (a : State) (expected next : ℕ) : Type 0 where
  pub alarms : Alarms
  pub whole : IsWhole alarms
  pub few : length alarms < 2 ^ 16
  pub last : LastAlarms a.asking [] alarms a.history
  pub count : expected ≡ length alarms
  pub less : next < expected
  pub gathering : a.table.gathering ≡ Some (take next alarms)
  pub waiting : a.table.waiting ≡ a.notices
  pub put_by : (u : Onu) (s : AlarmSnapshot) → a.unit ≡ Some u → u.alarm_snapshot ≡ Some s
      → s.alarms ≡ alarms
  pub before : a.asking < a.drawn
  pub apart : (w : Waiting) → a.high.outstanding ≡ Some w → a.thigh ≢ a.asking

-- this reply has the row of that number, or zeros
pub record IsRow (number : ℕ) (alarms : Alarms) (reply : List ℕ) : Type 0 where
  pub row : List ℕ
  pub frame : Frame
  pub is : reply ≡ spelling (response_frame frame (response.AlarmsNext row))
  pub long : length row ≡ 32
  pub from : (row_at number alarms ≡ Some row) ⊎ (row ≡ replicate 32 0)

pub record AsksRow (a : State) (alarms : Alarms) (next : ℕ) : Type 0 where
  pub proved : a.low.proved ≡ true
  pub waiting : Waiting
  pub waits : a.low.outstanding ≡ Some waiting
  pub command : waiting.command ≡ job_command sync_entity (request.AlarmsNext next)
  pub later : a.tlow ≢ a.asking
  pub reply : (r : List ℕ) → LastReply a.tlow r a.history → IsRow next alarms r

abbrev pub AtStage : State → Stage → Type 0
AtStage a (Probing high low) = Unit {0}
AtStage a Asking = Unit {0}
AtStage a (Gathering expected next copy) = Unit {0}
AtStage a AskingAlarms = AsksAlarms a
AtStage a (GatheringRows expected next) =
    (g : GathersRows a expected next) × AsksRow a g.alarms next
AtStage a (StartingImage order asked image) = Unit {0}
AtStage a (SendingImage order outgoing resent) = Unit {0}
AtStage a (EndingImage order image busy) = Unit {0}
AtStage a (DelayingEnd order image busy) = Unit {0}

abbrev pub is_audit : Stage → Bool
is_audit (Probing high low) = false
is_audit Asking = false
is_audit (Gathering expected next copy) = false
is_audit AskingAlarms = true
is_audit (GatheringRows expected next) = true
is_audit (StartingImage order asked image) = false
is_audit (SendingImage order outgoing resent) = false
is_audit (EndingImage order image busy) = false
is_audit (DelayingEnd order image busy) = false

-- another job has nothing to keep
pub other_stage : (s : Stage) (a : State) → is_audit s ≡ false → AtStage a s
other_stage (Probing high low) a e = tt
other_stage Asking a e = tt
other_stage (Gathering expected next copy) a e = tt
other_stage AskingAlarms a e = absurd (cc)
other_stage (GatheringRows expected next) a e = absurd (cc)
other_stage (StartingImage order asked image) a e = tt
other_stage (SendingImage order outgoing resent) a e = tt
other_stage (EndingImage order image busy) a e = tt
other_stage (DelayingEnd order image busy) a e = tt

abbrev pub JobOk : ℕ → Option Onu → Manager → Told → Type 0
JobOk lives unit m t = (s : Stage) → m.job ≡ Some s → AtStage (state_of lives unit m t) s

pub job_none : (lives : ℕ) (unit : Option Onu) (m : Manager) (t : Told) → m.job ≡ None
    → JobOk lives unit m t
job_none lives unit m t e s f = absurd (cc)

pub job_other : (lives : ℕ) (unit : Option Onu) (m : Manager) (t : Told) (s : Stage)
    → m.job ≡ Some s → is_audit s ≡ false → JobOk lives unit m t
job_other lives unit m t s e o x f =
    subst (AtStage (state_of lives unit m t)) (same_Some s x (sym e ∙ f)) (other_stage s _ o)

-- ---- steps that leave an audit alone

-- an audit of the one is one of the other
pub record Keeps (a b : State) : Type 0 where
  pub tlow : b.tlow ≡ a.tlow
  pub asking : b.asking ≡ a.asking
  pub proved : a.low.proved ≡ true → b.low.proved ≡ true
  pub waits : (w : Waiting) → a.low.outstanding ≡ Some w
      → (v : Waiting) × (b.low.outstanding ≡ Some v) × (v.command ≡ w.command)
  pub drawn : a.drawn ≤ b.drawn
  pub high : (w : Waiting) → b.high.outstanding ≡ Some w
      → (b.thigh ≡ a.drawn) ⊎ ((x : Waiting) × (a.high.outstanding ≡ Some x) × (b.thigh ≡ a.thigh))
  pub gathering : (rows : Alarms) → a.table.gathering ≡ Some rows
      → b.table.gathering ≡ Some rows
  pub waiting : (rows : Alarms) → a.table.gathering ≡ Some rows
      → ((w : Waiting) → a.high.outstanding ≡ Some w → a.thigh ≢ a.asking)
      → a.table.waiting ≡ a.notices → b.table.waiting ≡ b.notices
  pub replied : (r : List ℕ) → LastReply a.tlow r b.history → LastReply a.tlow r a.history
  pub carried : WasCarried b.lives a.tlow b.history → (u : Onu) (s : AlarmSnapshot)
      → b.unit ≡ Some u → u.alarm_snapshot ≡ Some s → WasCarried a.lives a.tlow a.history
  pub put_by : (u : Onu) (s : AlarmSnapshot) → b.unit ≡ Some u → u.alarm_snapshot ≡ Some s
      → (v : Onu) × (x : AlarmSnapshot) × (a.unit ≡ Some v) × (v.alarm_snapshot ≡ Some x)
      × (x.alarms ≡ s.alarms)
  pub last : (command : ℕ) (alarms : Alarms) → LastAlarms command [] alarms a.history
      → LastAlarms command [] alarms b.history

counted_kept : (a b : State) (command : ℕ) (r : List ℕ)
    → ((command : ℕ) (alarms : Alarms) → LastAlarms command [] alarms a.history
    → LastAlarms command [] alarms b.history)
    → CountedRows command r a.history → CountedRows command r b.history
counted_kept a b command r last h = record {
  alarms = h.alarms;
  whole = h.whole;
  few = h.few;
  last = last command h.alarms h.last;
  frame = h.frame;
  is = h.is;
}

asks_kept : (a b : State) → Keeps a b → AsksAlarms a → AsksAlarms b
asks_kept a b k h =
    let v = k.waits h.waiting h.waits in
    record {
      proved = k.proved h.proved;
      waiting = v.0;
      waits = v.1;
      command = v.2 ∙ h.command;
      own = k.asking ∙ h.own ∙ sym k.tlow;
      reply = λ r last.
          subst (λ n. CountedRows n r b.history) (sym k.tlow)
          (counted_kept a b a.tlow r k.last
          (h.reply r (k.replied r (subst (λ n. LastReply n r b.history) k.tlow last))));
      fresh = λ u s on was has.
          let x = k.put_by u s on has in
          let then = k.carried (subst (λ n. WasCarried b.lives n b.history) k.tlow was) u s on has in
          subst (λ n. LastAlarms n [] s.alarms b.history) (sym k.tlow)
          (k.last a.tlow s.alarms
          (subst (λ l. LastAlarms a.tlow [] l a.history) x.4 (h.fresh x.0 x.1 x.2 then x.3)));
    }

pub gathers_kept : (a b : State) (expected next : ℕ) → Keeps a b → GathersRows a expected next
    → GathersRows b expected next
gathers_kept a b expected next k h = record {
  alarms = h.alarms;
  whole = h.whole;
  few = h.few;
  last = subst (λ n. LastAlarms n [] h.alarms b.history) (sym k.asking)
      (k.last a.asking h.alarms h.last);
  count = h.count;
  less = h.less;
  gathering = k.gathering (take next h.alarms) h.gathering;
  waiting = k.waiting (take next h.alarms) h.gathering h.apart h.waiting;
  put_by = λ u s on has. let x = k.put_by u s on has in sym x.4 ∙ h.put_by x.0 x.1 x.2 x.3;
  before = let d = k.drawn in let e = k.asking in let lt = h.before in omega (arith, d, e, lt);
  apart = λ w e. elim (k.high w e) as (λ _. b.thigh ≢ b.asking) [
    | inl new ↦ (λ same. let f = k.asking in let lt = h.before in
        absurd (omega (arith, new, same, f, lt)))
    | inr old ↦ (λ same. h.apart old.0 old.1 (sym old.2 ∙ same ∙ k.asking))
  ];
}

row_kept : (a b : State) (alarms : Alarms) (next : ℕ) → Keeps a b → AsksRow a alarms next
    → AsksRow b alarms next
row_kept a b alarms next k h =
    let v = k.waits h.waiting h.waits in
    record {
      proved = k.proved h.proved;
      waiting = v.0;
      waits = v.1;
      command = v.2 ∙ h.command;
      later = λ same. h.later (sym k.tlow ∙ same ∙ k.asking);
      reply = λ r last. h.reply r (k.replied r (subst (λ n. LastReply n r b.history) k.tlow last));
    }

pub stage_kept : (a b : State) → Keeps a b → (s : Stage) → AtStage a s → AtStage b s
unfolding gathers_kept
stage_kept a b k (Probing high low) h = tt
stage_kept a b k Asking h = tt
stage_kept a b k (Gathering expected next copy) h = tt
stage_kept a b k AskingAlarms h = asks_kept a b k h
stage_kept a b k (GatheringRows expected next) h =
    (gathers_kept a b expected next k h.0, row_kept a b h.0.alarms next k h.1)
stage_kept a b k (StartingImage order asked image) h = tt
stage_kept a b k (SendingImage order outgoing resent) h = tt
stage_kept a b k (EndingImage order image busy) h = tt
stage_kept a b k (DelayingEnd order image busy) h = tt

-- ---- all of it

pub record Good (lives : ℕ) (unit : Option Onu) (manager : Option Manager) (t : Told) : Type 0 where
  pub job : (m : Manager) → manager ≡ Some m → JobOk lives unit m t
  pub unit_ok : (u : Onu) → unit ≡ Some u → UnitOk u
  pub right : AuditedRight t.history

-- ---- an entry more

-- an entry of the history that says nothing of requests and alarms
pub record Passes (entry : Entry) : Type 0 where
  pub was : (life command : ℕ) (history : List Entry) → WasCarried life command (entry ∷ history)
      → WasCarried life command history
  pub reply : (command : ℕ) (r : List ℕ) (history : List Entry)
      → LastReply command r (entry ∷ history) → LastReply command r history
  pub last : (command : ℕ) (alarms : Alarms) (history : List Entry)
      → LastAlarms command [] alarms history → LastAlarms command [] alarms (entry ∷ history)
  pub right : (history : List Entry) → AuditedRight history → AuditedRight (entry ∷ history)

stored_passes : (entry : StoreEntry) → Passes (Remarked (Stored entry))
stored_passes entry = record {
  was = λ life command history h. h;
  reply = λ command r history h. h;
  last = λ command alarms history h. h;
  right = λ history h. h;
}

downloaded_passes : (slot : ℕ) (image : List ℕ) → Passes (Remarked (Downloaded slot image))
downloaded_passes slot image = record {
  was = λ life command history h. h;
  reply = λ command r history h. h;
  last = λ command alarms history h. h;
  right = λ history h. h;
}

entry_keeps : (entry : Entry) → Passes entry → (lives : ℕ) (unit : Option Onu) (m : Manager)
    (t : Told) → Keeps (state_of lives unit m t) (state_of lives unit m (with_entry entry t))
entry_keeps entry p lives unit m t = record {
  tlow = refl;
  asking = refl;
  proved = λ e. e;
  waits = λ w e. (w, e, refl);
  drawn = omega arith;
  high = λ w e. inr (w, e, refl);
  gathering = λ rows e. e;
  waiting = λ rows e apart f. f;
  replied = λ r last. p.reply t.low r t.history last;
  carried = λ was u s on has. p.was lives t.low t.history was;
  put_by = λ u s on has. (u, s, on, has, refl);
  last = λ command alarms h. p.last command alarms t.history h;
}

good_passes : (entry : Entry) → Passes entry → (lives : ℕ) (unit : Option Onu)
    (manager : Option Manager) (t : Told) → Good lives unit manager t
    → Good lives unit manager (with_entry entry t)
good_passes entry p lives unit manager t h = record {
  job = λ m e s g. stage_kept _ _ (entry_keeps entry p lives unit m t) s (h.job m e s g);
  unit_ok = h.unit_ok;
  right = p.right t.history h.right;
}

-- what the store has for the history
pub entries_good : (entries : List StoreEntry) (lives : ℕ) (unit : Option Onu)
    (manager : Option Manager) (t : Told) → Good lives unit manager t
    → Good lives unit manager (tell_all (map ImageStored entries) t)
entries_good [] lives unit manager t h = h
entries_good (entry ∷ rest) lives unit manager t h =
    entries_good rest lives unit manager (with_entry (Remarked (Stored entry)) t)
    (good_passes (Remarked (Stored entry)) (stored_passes entry) lives unit manager t h)

-- ---- downloads that have ended

-- the job of a manager that is on, and the history
pub record JobRight (lives : ℕ) (unit : Option Onu) (m : Manager) (t : Told) : Type 0 where
  pub job : JobOk lives unit m t
  pub right : AuditedRight t.history

told_right : (before : Option Stage) (slot : ℕ) (lives : ℕ) (unit : Option Onu) (m : Manager)
    (t : Told) → JobRight lives unit m t
    → JobRight lives unit m (tell_all (image_told before slot) t)
told_right (Some (EndingImage order image busy)) slot lives unit m t h =
    let p = downloaded_passes slot image in
    record {
      job = λ s g.
          stage_kept _ _ (entry_keeps (Remarked (Downloaded slot image)) p lives unit m t) s (h.job s g);
      right = h.right;
    }
told_right None slot lives unit m t h = h
told_right (Some _) slot lives unit m t h = h

one_right : (before : Option Stage) (r : Report) (lives : ℕ) (unit : Option Onu) (m : Manager)
    (t : Told) → JobRight lives unit m t
    → JobRight lives unit m (tell_all (download_told before r) t)
one_right before (report.ImageDone slot) lives unit m t h = told_right before slot lives unit m t h
one_right before _ lives unit m t h = h

pub downloads_right : (before : Option Stage) (reports : List Report) (lives : ℕ)
    (unit : Option Onu) (m : Manager) (t : Told) → JobRight lives unit m t
    → JobRight lives unit m (tell_all (flat_map (download_told before) reports) t)
downloads_right before [] lives unit m t h = h
downloads_right before (r ∷ rest) lives unit m t h =
    subst (λ u. JobRight lives unit m u)
    (sym (tell_append (download_told before r) (flat_map (download_told before) rest) t))
    (downloads_right before rest lives unit m (tell_all (download_told before r) t)
    (one_right before r lives unit m t h))
