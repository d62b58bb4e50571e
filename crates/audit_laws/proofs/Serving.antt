-- Packets that come to the unit.
use Rattle.std.proofs.Common.{false}
use Rattle.std.proofs.Common.{◌≡◌, ◌≢◌, ℕ, ◌<◌, ◌^◌, List, [], ◌∷◌, ◌++◌, length, replicate, reverse, slice_get, Option, Some, None, ◌⊎◌, inl, inr, refl, sym, ap, subst, ◌∙◌, arith}
use Rattle.std.proofs.lemmas.Option.{same_Some}
use Rattle.omci_types.specs.declared.Frame.{Frame}
use Rattle.omci_types.specs.declared.Priority.{Priority}
use Rattle.omci_types.specs.declared.Priority.TheVariants.{Low, High}
use Rattle.frame_spec.specs.Baseline.{spelling}
use Rattle.message_spec.specs.declared.Request.TheVariants as request
use Rattle.message_spec.specs.declared.Response.TheVariants as response
use Rattle.alarm_spec.specs.Alarms.{Alarms, row_at, IsWhole}
use Rattle.link_spec.specs.declared.Direction.TheVariants.{Down}
use Rattle.link_spec.specs.Link.{Sent, Link, lane_of}
use Rattle.lane_spec.specs.Lane.{Waiting}
use Rattle.manager_spec.specs.Manager.{Stage, Probing, Asking, Gathering, AskingAlarms, GatheringRows, StartingImage, SendingImage, EndingImage, DelayingEnd, Manager}
use Rattle.unit_spec.specs.declared.Did.{Did}
use Rattle.unit_spec.specs.declared.Did.TheVariants as did
use Rattle.unit_spec.specs.declared.Note.{Note}
use Rattle.unit_spec.specs.declared.Note.TheVariants as note
use Rattle.unit_spec.specs.Onu.{Onu, AlarmSnapshot, Reception, Answer, response_frame, get_alarms, alarms_next, or_zeros, next_row, alarms_fresh_again, onu_received}
use Rattle.history_spec.specs.History.{Entry, LastReply, WasCarried, AuditedRight}
use Rattle.world_spec.specs.Happenings.{PacketCame}
use Rattle.world_spec.specs.Ends.{unit_deed, stored}
use Rattle.world_spec.specs.History.{Told, name_at, tell_all}
use Rattle.resync_laws.proofs.Unit.{IsQuietNote, IsIdle, Leaves, Carries, Receives, receives, From}
use Rattle.resync_laws.proofs.Invariants.{sent_at, IsMade, IsSent, IsApart, not_high, Good as Kept}
use Rattle.resync_laws.proofs.Telling.{tell_append}
use Rattle.resync_laws.proofs.Serving.{history_after, quiet_history, unit_after, AreWaited, waited_bytes}
use Rattle.audit_laws.proofs.Known.{UnitOk, few_alarms, answer_ok}
use Rattle.audit_laws.proofs.Rows.{row_long}
use Rattle.audit_laws.proofs.Reading.{IsAside, carries_aside, carries_alarms, carries_row}
use Rattle.audit_laws.proofs.Invariants.{State, state_of, CountedRows, AsksAlarms, GathersRows, IsRow, AtStage, Keeps, stage_kept, Good, entries_good}

-- what is told of a request that was carried out
abbrev told_carried : Option Note → (lives number : ℕ) → Sent → List ℕ → Onu → Told → Told
told_carried n lives number s reply u t =
    record t {
      came = name_at number t.names;
      packet = s.bytes;
      names = t.names ++ name_at number t.names ∷ [];
      history = history_after n lives (name_at number t.names) reply u t.history;
    }

-- a quiet note says nothing more
quiet_carried : (n : Option Note) → IsQuietNote n → (lives number : ℕ) (s : Sent) (reply : List ℕ)
    (u : Onu) (t : Told)
    → told_carried n lives number s reply u t ≡ told_carried None lives number s reply u t
quiet_carried n q lives number s reply u t =
    ap (λ (es : List Entry). let x : Told = record t {
      came = name_at number t.names;
      packet = s.bytes;
      names = t.names ++ name_at number t.names ∷ [];
      history = es;
    } in x) (quiet_history n q lives (name_at number t.names) reply u t.history)

-- ---- an audit's own requests

module _ (lives : ℕ) (u : Onu) (m : Manager) (number : ℕ) (s : Sent) (t : Told) where
  abbrev before : State
  before = state_of lives (Some u) m t

  abbrev later : ℕ → Answer → State
  later tci a =
      state_of lives (Some (unit_after tci a)) m
      (told_carried a.note lives number s (spelling a.reply) u t)

  -- the alarms are put by
  alarms_after : (tci : ℕ) (f : Frame) → name_at number t.names ≡ t.low → UnitOk u
      → AsksAlarms before → AsksAlarms (later tci (get_alarms f u))
  alarms_after tci f own ok h = record {
    proved = h.proved;
    waiting = h.waiting;
    waits = h.waits;
    command = h.command;
    own = h.own;
    reply = λ r last. elim last as (λ _. CountedRows t.low r (later tci (get_alarms f u)).history) [
      | inl e ↦ record {
        alarms = u.log.alarms;
        whole = ok.whole;
        few = few_alarms u ok;
        last = inl (own, refl);
        frame = f;
        is = sym e.1;
      }
      | inr e ↦ absurd (e.0 own)
    ];
    fresh = λ v x on was has.
        let put : AlarmSnapshot = record { alarms = u.log.alarms; age = 0 } in
        let mine : put ≡ x = same_Some put x
        (ap (λ (y : Onu). y.alarm_snapshot) (same_Some (unit_after tci (get_alarms f u)) v on)
        ∙ has) in
        inl (own, ap (λ (y : AlarmSnapshot). y.alarms) mine);
  }

  zeros_long : length (replicate {A = ℕ} 32 0) ≡ 32
  zeros_long = refl

  row_given : (next : ℕ) (alarms : Alarms) (f : Frame) → IsWhole alarms → (o : Option (List ℕ))
      → row_at next alarms ≡ o → (r : List ℕ)
      → spelling (response_frame f (response.AlarmsNext (or_zeros o))) ≡ r → IsRow next alarms r
  row_given next alarms f whole None e r is =
      record { row = replicate 32 0; frame = f; is = sym is; long = zeros_long; from = inr refl }
  row_given next alarms f whole (Some row) e r is =
      record { row = row; frame = f; is = sym is; long = row_long alarms next row whole e; from = inl e }

  given : (next : ℕ) (alarms : Alarms) (f : Frame) → IsWhole alarms → (o : Option AlarmSnapshot)
      → ((x : AlarmSnapshot) → o ≡ Some x → x.alarms ≡ alarms) → (r : List ℕ)
      → spelling (response_frame f (response.AlarmsNext (next_row next o))) ≡ r → IsRow next alarms r
  given next alarms f whole None put r is =
      record { row = replicate 32 0; frame = f; is = sym is; long = zeros_long; from = inr refl }
  given next alarms f whole (Some x) put r is =
      row_given next alarms f whole (row_at next alarms) refl r
      (ap (λ c. spelling (response_frame f (response.AlarmsNext (or_zeros (row_at next c)))))
      (sym (put x refl)) ∙ is)

  again_from : (o : Option AlarmSnapshot) (x : AlarmSnapshot) → alarms_fresh_again o ≡ Some x
      → (y : AlarmSnapshot) × (o ≡ Some y) × (y.alarms ≡ x.alarms)
  again_from None x e = absurd (cc)
  again_from (Some y) x e =
      (y, refl, ap (λ (z : AlarmSnapshot). z.alarms) (same_Some (record y { age = 0 }) x e))

  -- a row of them is read
  row_after : (tci : ℕ) (f : Frame) (expected next : ℕ) → AtStage before (GatheringRows expected next)
      → AtStage (later tci (alarms_next f next u)) (GatheringRows expected next)
  row_after tci f expected next h =
      let g : GathersRows (later tci (alarms_next f next u)) expected next = record {
        alarms = h.0.alarms;
        whole = h.0.whole;
        few = h.0.few;
        last = h.0.last;
        count = h.0.count;
        less = h.0.less;
        gathering = h.0.gathering;
        waiting = h.0.waiting;
        put_by = λ v x on has.
            let y = again_from u.alarm_snapshot x
            (ap (λ (z : Onu). z.alarm_snapshot) (same_Some (unit_after tci (alarms_next f next u)) v on)
            ∙ has) in
            sym y.2 ∙ h.0.put_by u y.0 refl y.1;
        before = h.0.before;
        apart = h.0.apart;
      } in (
        g,
        record {
          proved = h.1.proved;
          waiting = h.1.waiting;
          waits = h.1.waits;
          command = h.1.command;
          later = h.1.later;
          reply = λ r last. elim last as (λ _. IsRow next h.0.alarms r) [
            | inl e ↦ given next h.0.alarms f h.0.whole u.alarm_snapshot
                (λ x has. h.0.put_by u x refl has) r e.1
            | inr e ↦ h.1.reply r e.1
          ];
        },
      )

  -- ---- a request that leaves alone what was put by

  aside_keeps : (after : Onu) (reply : List ℕ) → after.alarm_snapshot ≡ u.alarm_snapshot
      → name_at number t.names ≢ t.low
      → Keeps before (state_of lives (Some after) m (told_carried None lives number s reply u t))
  aside_keeps after reply same apart = record {
    tlow = refl;
    asking = refl;
    proved = λ e. e;
    waits = λ w e. (w, e, refl);
    drawn = omega arith;
    high = λ w e. inr (w, e, refl);
    gathering = λ rows e. e;
    waiting = λ rows e f g. g;
    replied = λ r last. elim last as (λ _. LastReply t.low r t.history) [
      | inl e ↦ absurd (apart e.0)
      | inr e ↦ e.1
    ];
    carried = λ was v x on has. elim was as (λ _. WasCarried lives t.low t.history) [
      | inl e ↦ absurd (apart e.1)
      | inr e ↦ e
    ];
    put_by = λ v x on has. (
      u,
      x,
      refl,
      sym same ∙ ap (λ (y : Onu). y.alarm_snapshot) (same_Some after v on) ∙ has,
      refl,
    );
    last = λ command alarms h. h;
  }

  aside_after : (tci : ℕ) (a : Answer) → IsAside u a → name_at number t.names ≢ t.low
      → (x : Stage) → AtStage before x → AtStage (later tci a) x
  aside_after tci a aside apart x h =
      subst
      (λ v. AtStage (state_of lives (Some (unit_after tci a)) m v) x)
      (sym (quiet_carried a.note aside.note lives number s (spelling a.reply) u t))
      (stage_kept _ _ (aside_keeps (unit_after tci a) (spelling a.reply) aside.alarms apart) x h)

-- ---- a packet comes

-- all is well after it
abbrev pub Served : Reception → ℕ → Sent → ℕ → Onu → Option Manager → Told → Type 0
Served r number s lives u manager t =
    Good lives (Some r.unit) manager
    (tell_all (PacketCame number s ∷ unit_deed r.did r.reply u lives) t)

-- and after the entries of its store are told
abbrev pub ServedWhole : Reception → ℕ → Sent → ℕ → Onu → Option Manager → Told → Type 0
ServedWhole r number s lives u manager t =
    Good lives (Some r.unit) manager
    (tell_all (PacketCame number s ∷ unit_deed r.did r.reply u lives ++ stored r.stored) t)

served_whole : (r : Reception) (number : ℕ) (s : Sent) (lives : ℕ) (u : Onu)
    (manager : Option Manager) (t : Told) → Served r number s lives u manager t
    → ServedWhole r number s lives u manager t
served_whole r number s lives u manager t g =
    let hs = PacketCame number s ∷ unit_deed r.did r.reply u lives in
    subst (λ v. Good lives (Some r.unit) manager v) (sym (tell_append hs (stored r.stored) t))
    (entries_good (reverse r.stored) lives (Some r.unit) manager (tell_all hs t) g)

from_ok : (f : Frame) (u : Onu) (a : Answer) → From f u a → UnitOk u → UnitOk a.unit
from_ok f u a (inl k) ok = subst (λ (x : Answer). UnitOk x.unit) (sym k.is) (answer_ok f k.request u ok)
from_ok f u a (inr k) ok = subst (λ (x : Answer). UnitOk x.unit) (sym k.is) ok

module _ (number : ℕ) (s : Sent) (link : Link) (lives : ℕ) (u : Onu) (manager : Option Manager) (t : Told) (k : Kept link.packets lives (Some u) manager t) (h : Good lives (Some u) manager t) (there : slice_get link.packets number ≡ Some s) (way : s.direction ≡ Down) (waited : AreWaited manager t number s u) where
  made : IsMade s
  made = (sent_at (IsSent t.drawn) link.packets t.names number s k.sent there way).1

  -- nothing is carried out
  leaves_good : (r : Reception) → Leaves u r → Served r number s lives u manager t
  leaves_good r l = subst
      (λ x. Good lives (Some x) manager
      (tell_all (PacketCame number s ∷ unit_deed r.did r.reply u lives) t)) (sym l.unit)
      (go r.did l.did)
    where
      held : Onu
      held = record u { store = l.store }

      still : (m : Manager) (v : Told) → Keeps (state_of lives (Some u) m v) (state_of lives (Some held) m v)
      still m v = record {
        tlow = refl;
        asking = refl;
        proved = λ e. e;
        waits = λ w e. (w, e, refl);
        drawn = omega arith;
        high = λ w e. inr (w, e, refl);
        gathering = λ rows e. e;
        waiting = λ rows e f g. g;
        replied = λ r last. last;
        carried = λ was w x on has. was;
        put_by = λ w x on has. (
          u,
          x,
          refl,
          ap (λ (y : Onu). y.alarm_snapshot) (same_Some held w on) ∙ has,
          refl,
        );
        last = λ command alarms h. h;
      }

      held_ok : UnitOk held
      held_ok = let k = h.unit_ok u refl in
          record { whole = k.whole; known_alarms = k.known_alarms; fixed = k.fixed }

      go : (d : Did) → IsIdle d → Good lives (Some held) manager
          (tell_all (PacketCame number s ∷ unit_deed d r.reply u lives) t)
      go did.Dropped i = record {
        job = λ m e x g. stage_kept _ _ (still m t) x (h.job m e x g);
        unit_ok = λ w e. subst UnitOk (same_Some held w e) held_ok;
        right = h.right;
      }
      go did.Held i = record {
        job = λ m e x g. stage_kept _ _ (still m t) x (h.job m e x g);
        unit_ok = λ w e. subst UnitOk (same_Some held w e) held_ok;
        right = h.right;
      }
      go did.Kept i = record {
        job = λ m e x g. stage_kept _ _ (still m t) x (h.job m e x g);
        unit_ok = λ w e. subst UnitOk (same_Some held w e) held_ok;
        right = h.right;
      }
      go (did.Carried n) i = absurd i

  module _ (c : Carries s.bytes u (onu_received false s.bytes u)) where
    abbrev answered : Answer
    answered = c.answer

    low_stage : (m : Manager) → manager ≡ Some m → lane_of s.bytes ≡ Low → (x : Stage)
        → AtStage (state_of lives (Some u) m t) x → AtStage (later lives u m number s t c.frame.tci answered) x
    low_stage m e lane (Probing high low) at = tt
    low_stage m e lane Asking at = tt
    low_stage m e lane (Gathering expected next copy) at = tt
    low_stage m e lane (StartingImage order asked image) at = tt
    low_stage m e lane (SendingImage order outgoing resent) at = tt
    low_stage m e lane (EndingImage order image busy) at = tt
    low_stage m e lane (DelayingEnd order image busy) at = tt
    low_stage m e lane AskingAlarms at =
        let w = waited m answered.note e at.proved lane (ap (λ (r : Reception). r.did) c.is) in
        let same : w.waiting ≡ at.waiting = same_Some w.waiting at.waiting (sym w.waits ∙ at.waits) in
        let command = ap (λ (v : Waiting). v.command) same ∙ at.command in
        let is = carries_alarms w.waiting.tci _ 0 s.bytes u (onu_received false s.bytes u)
        (waited_bytes w.waiting (request.Alarms 0) s.bytes w.among command) c in
        subst (λ a. AsksAlarms (later lives u m number s t c.frame.tci a)) (sym is)
        (alarms_after lives u m number s t c.frame.tci c.frame w.name (h.unit_ok u refl) at)
    low_stage m e lane (GatheringRows expected next) at =
        let w = waited m answered.note e at.1.proved lane (ap (λ (r : Reception). r.did) c.is) in
        let same : w.waiting ≡ at.1.waiting = same_Some w.waiting at.1.waiting (sym w.waits ∙ at.1.waits) in
        let command = ap (λ (v : Waiting). v.command) same ∙ at.1.command in
        let small : next < 2 ^ 16 = (let a = at.0.less in let b = at.0.count in let d = at.0.few in omega (arith, a, b, d)) in
        let is = carries_row w.waiting.tci _ next s.bytes u (onu_received false s.bytes u)
        (waited_bytes w.waiting (request.AlarmsNext next) s.bytes w.among command) small c in
        subst (λ a. AtStage (later lives u m number s t c.frame.tci a) (GatheringRows expected next)) (sym is)
        (row_after lives u m number s t c.frame.tci c.frame expected next at)

    high_aside : lane_of s.bytes ≡ High → IsAside u answered
    high_aside lane = elim made.lane as (λ _. IsAside u answered) [
      | inl low ↦ not_high s.bytes low lane
      | inr plainly ↦ carries_aside made.tci made.entity made.request s.bytes u (onu_received false s.bytes u) made.bytes plainly c
    ]

    name_apart : (m : Manager) (w : Waiting) → manager ≡ Some m → m.low.outstanding ≡ Some w
        → lane_of s.bytes ≡ High → name_at number t.names ≢ t.low
    name_apart m w e waits lane =
        sent_at (IsApart t.low) link.packets t.names number s (k.apart m w e waits) there way lane

    high_stage : (m : Manager) → manager ≡ Some m → lane_of s.bytes ≡ High → (x : Stage)
        → AtStage (state_of lives (Some u) m t) x → AtStage (later lives u m number s t c.frame.tci answered) x
    high_stage m e lane (Probing high low) at = tt
    high_stage m e lane Asking at = tt
    high_stage m e lane (Gathering expected next copy) at = tt
    high_stage m e lane (StartingImage order asked image) at = tt
    high_stage m e lane (SendingImage order outgoing resent) at = tt
    high_stage m e lane (EndingImage order image busy) at = tt
    high_stage m e lane (DelayingEnd order image busy) at = tt
    high_stage m e lane AskingAlarms at =
        aside_after lives u m number s t c.frame.tci answered (high_aside lane)
        (name_apart m at.waiting e at.waits lane) AskingAlarms at
    high_stage m e lane (GatheringRows expected next) at =
        aside_after lives u m number s t c.frame.tci answered (high_aside lane)
        (name_apart m at.1.waiting e at.1.waits lane) (GatheringRows expected next) at

    stage_by : (l : Priority) → lane_of s.bytes ≡ l → (m : Manager) → manager ≡ Some m → (x : Stage)
        → AtStage (state_of lives (Some u) m t) x → AtStage (later lives u m number s t c.frame.tci answered) x
    stage_by Low lane m e x at = low_stage m e lane x at
    stage_by High lane m e x at = high_stage m e lane x at

    right_by : (n : Option Note) → AuditedRight (history_after n lives (name_at number t.names) (spelling answered.reply) u t.history)
    right_by None = h.right
    right_by (Some (note.Snapshot entities counter)) = h.right
    right_by (Some (note.Alarms rows)) = h.right
    right_by (Some (note.Sealed slot size check)) = h.right
    right_by (Some (note.Committed slot)) = h.right
    right_by (Some (note.Leaving boot)) = h.right

    after_ok : UnitOk (unit_after c.frame.tci answered)
    after_ok = let a = from_ok c.frame u answered c.from (h.unit_ok u refl) in
        record { whole = a.whole; known_alarms = a.known_alarms; fixed = a.fixed }

    carried_good : (n : Option Note) → answered.note ≡ n
        → Good lives (Some (unit_after c.frame.tci answered)) manager
        (told_carried n lives number s (spelling answered.reply) u t)
    carried_good n is = record {
      job = λ m e x g.
          subst
          (λ o. AtStage (state_of lives (Some (unit_after c.frame.tci answered)) m
          (told_carried o lives number s (spelling answered.reply) u t)) x) is
          (stage_by (lane_of s.bytes) refl m e x (h.job m e x g));
      unit_ok = λ v e. subst UnitOk (same_Some (unit_after c.frame.tci answered) v e) after_ok;
      right = right_by n;
    }

    abbrev CarriedWith : Option Note → Type 0
    CarriedWith n =
        Good lives (Some (unit_after c.frame.tci answered)) manager
        (tell_all (PacketCame number s ∷ unit_deed (did.Carried n) (spelling answered.reply) u lives) t)

    carried_with : (n : Option Note) → answered.note ≡ n → CarriedWith n
    carried_with None is = carried_good None is
    carried_with (Some (note.Snapshot entities counter)) is = carried_good (Some (note.Snapshot entities counter)) is
    carried_with (Some (note.Alarms rows)) is = carried_good (Some (note.Alarms rows)) is
    carried_with (Some (note.Sealed slot size check)) is = carried_good (Some (note.Sealed slot size check)) is
    carried_with (Some (note.Committed slot)) is = carried_good (Some (note.Committed slot)) is
    carried_with (Some (note.Leaving boot)) is = carried_good (Some (note.Leaving boot)) is

    carries_good : Served (onu_received false s.bytes u) number s lives u manager t
    carries_good = subst (λ r. Served r number s lives u manager t) (sym c.is) (carried_with answered.note refl)

  received_good : Receives s.bytes u (onu_received false s.bytes u) → Served (onu_received false s.bytes u) number s lives u manager t
  received_good (inl l) = leaves_good (onu_received false s.bytes u) l
  received_good (inr c) = carries_good c

  pub unit_good : ServedWhole (onu_received false s.bytes u) number s lives u manager t
  unit_good =
      served_whole (onu_received false s.bytes u) number s lives u manager t
      (received_good (receives s.bytes u))
