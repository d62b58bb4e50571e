-- Packets that come to the unit.
use Rattle.std.proofs.Common.{◌≡◌, ◌≢◌, ℕ, zero, suc, ◌<◌, ◌^◌, true, false, List, [], ◌∷◌, ◌++◌, length, replicate, reverse, slice_get, Option, Some, None, ◌⊎◌, inl, inr, refl, sym, ap, subst, ◌∙◌, arith}
use Rattle.std.specs.Prelude.{slice_index_or}
use Rattle.std.specs.List.{Contains}
use Rattle.std.proofs.lemmas.Option.{same_Some}
use Rattle.omci_types.specs.declared.Frame.{Frame}
use Rattle.omci_types.specs.declared.Priority.{Priority}
use Rattle.omci_types.specs.declared.Priority.TheVariants.{Low, High}
use Rattle.frame_spec.specs.Baseline.{spelling}
use Rattle.message_spec.specs.declared.Message.TheVariants.{Asked}
use Rattle.message_spec.specs.declared.Request.{Request}
use Rattle.message_spec.specs.declared.Request.TheVariants as request
use Rattle.message_spec.specs.declared.Response.TheVariants as response
use Rattle.message_spec.specs.Reading.{plain}
use Rattle.mib_spec.specs.Database.{Database}
use Rattle.upload_spec.specs.Pieces.{Copy, piece_at, without_makers}
use Rattle.upload_laws.specs.Shaped.{IsWhole}
use Rattle.retry_spec.specs.Kept.{kept_with}
use Rattle.link_spec.specs.declared.Direction.TheVariants.{Down, Up}
use Rattle.link_spec.specs.Link.{Sent, Link, lane_of}
use Rattle.lane_spec.specs.Command.{Command, sync_entity, job_command, command_frame, command_packets}
use Rattle.lane_spec.specs.Lane.{Lane, Waiting, waiting_packets}
use Rattle.manager_spec.specs.Manager.{Stage, Probing, Asking, Gathering, AskingAlarms, GatheringRows, StartingImage, SendingImage, EndingImage, DelayingEnd, Manager}
use Rattle.unit_spec.specs.declared.Did.{Did}
use Rattle.unit_spec.specs.declared.Did.TheVariants as did
use Rattle.unit_spec.specs.declared.Note.{Note}
use Rattle.unit_spec.specs.declared.Note.TheVariants as note
use Rattle.unit_spec.specs.Onu.{Onu, Snapshot, Reception, Answer, response_frame, upload, upload_next, or_zeros, next_piece, fresh_again, onu_received}
use Rattle.history_spec.specs.History.{Entry, CarriedOut, Remark, Remarked, WasCarried, LastSnapshot, SyncedRight}
use Rattle.world_spec.specs.Happenings.{PacketCame, link_read}
use Rattle.world_spec.specs.Ends.{unit_deed, stored}
use Rattle.world_spec.specs.History.{Told, name_at, remark_of, tell_all}
use Rattle.resync_laws.specs.Databases.{IsWholeDatabase}
use Rattle.resync_laws.proofs.Pieces.{pieces_counted, piece_whole}
use Rattle.resync_laws.proofs.Passing.{entries_good, good_older}
use Rattle.resync_laws.proofs.Telling.{tell_append, link_append}
use Rattle.resync_laws.proofs.Unit.{IsQuietNote, IsIdle, IsAside, Leaves, Carries, Receives, receives, carries_whole, carries_aside, carries_upload, carries_next}
use Rattle.resync_laws.proofs.Invariants.{sent_more, sent_at, IsMade, IsSent, IsApart, not_high, Counted, Asks, Gathers, IsPiece, AtStage, Good}

-- ---- the history after a request was carried out

abbrev pub remarked : Option Remark → List Entry → List Entry
remarked None history = history
remarked (Some remark) history = Remarked remark ∷ history

abbrev pub history_after : Option Note → (lives came : ℕ) → List ℕ → Onu → List Entry → List Entry
history_after None lives came reply before history =
    CarriedOut lives came reply before.database ∷ history
history_after (Some n) lives came reply before history =
    remarked (remark_of lives came n before)
    (CarriedOut lives came reply before.database ∷ history)

-- a quiet note says nothing more
pub quiet_history : (n : Option Note) → IsQuietNote n → (lives came : ℕ) (reply : List ℕ)
    (before : Onu) (history : List Entry)
    → history_after n lives came reply before history
    ≡ CarriedOut lives came reply before.database ∷ history
quiet_history None q lives came reply before history = refl
quiet_history (Some (note.Snapshot entities counter)) q lives came reply before history = absurd q
quiet_history (Some (note.Alarms rows)) q lives came reply before history = absurd q
quiet_history (Some (note.Sealed slot size check)) q lives came reply before history = refl
quiet_history (Some (note.Committed slot)) q lives came reply before history = refl
quiet_history (Some (note.Leaving boot)) q lives came reply before history = refl

-- the unit once the reply is kept
abbrev pub unit_after : ℕ → Answer → Onu
unit_after tci a = record a.unit { kept = kept_with tci (spelling a.reply) a.unit.kept }

-- the stage after that answer
abbrev StageAfter : (lives : ℕ) → Lane → (tlow asking came tci : ℕ) → Onu → List Entry → Stage
    → Answer → Type 0
StageAfter lives low tlow asking came tci before history s a =
    AtStage lives (Some (unit_after tci a)) low tlow asking
    (history_after a.note lives came (spelling a.reply) before history) s

module _ (lives : ℕ) (u : Onu) (low : Lane) (tlow asking came : ℕ) (history : List Entry) where
  -- ---- a request that leaves alone what was put by

  aside_counted : (reply r : List ℕ) (before : Database) → Counted tlow r history
      → Counted tlow r (CarriedOut lives came reply before ∷ history)
  aside_counted reply r before c = record {
    database = c.database;
    whole = c.whole;
    few = c.few;
    last = c.last;
    frame = c.frame;
    is = c.is;
  }

  aside_stage : (reply : List ℕ) (before : Database) (after : Onu) → after.snapshot ≡ u.snapshot
      → came ≢ tlow → (s : Stage) → AtStage lives (Some u) low tlow asking history s
      → AtStage lives (Some after) low tlow asking (CarriedOut lives came reply before ∷ history) s
  aside_stage reply before after same apart (Probing high' low') h = tt
  aside_stage reply before after same apart Asking h = record {
    proved = h.proved;
    waiting = h.waiting;
    waits = h.waits;
    command = h.command;
    own = h.own;
    reply = λ r last. elim last as (λ _. Counted tlow r (CarriedOut lives came reply before ∷ history)) [
      | inl e ↦ absurd (apart e.0)
      | inr e ↦ aside_counted reply r before (h.reply r e.1)
    ];
    fresh = λ v s on was has.
        let mine : u.snapshot ≡ Some s = sym same ∙ ap (λ (x : Onu). x.snapshot) (same_Some after v on) ∙ has in
        elim was as (λ _. LastSnapshot tlow (without_makers s.database) history) [
          | inl e ↦ absurd (apart e.1)
          | inr e ↦ h.fresh u s refl e mine
        ];
  }
  aside_stage reply before after same apart AskingAlarms h = tt
  aside_stage reply before after same apart (GatheringRows expected next) h = tt
  aside_stage reply before after same apart (StartingImage order asked image) h = tt
  aside_stage reply before after same apart (SendingImage order outgoing resent) h = tt
  aside_stage reply before after same apart (EndingImage order image busy) h = tt
  aside_stage reply before after same apart (DelayingEnd order image busy) h = tt
  aside_stage reply before after same apart (Gathering expected next copy) h =
      let g : Gathers (Some after) asking (CarriedOut lives came reply before ∷ history) expected next copy = record {
        database = h.0.database;
        whole = h.0.whole;
        few = h.0.few;
        last = h.0.last;
        count = h.0.count;
        less = h.0.less;
        front = h.0.front;
        put_by = λ v s on has. h.0.put_by u s refl (sym same ∙ ap (λ (x : Onu). x.snapshot) (same_Some after v on) ∙ has);
      } in (
        g,
        record {
          proved = h.1.proved;
          waiting = h.1.waiting;
          waits = h.1.waits;
          command = h.1.command;
          reply = λ r last. elim last as (λ _. IsPiece next h.0.database r) [
            | inl e ↦ absurd (apart e.0)
            | inr e ↦ h.1.reply r e.1
          ];
        },
      )

  -- the same, whatever its answer
  aside_after : (tci : ℕ) (before : Onu) (a : Answer) → IsAside u a → came ≢ tlow → (s : Stage)
      → AtStage lives (Some u) low tlow asking history s
      → StageAfter lives low tlow asking came tci before history s a
  aside_after tci before a aside apart s h =
      subst (λ (es : List Entry). AtStage lives (Some (unit_after tci a)) low tlow asking es s)
      (sym (quiet_history a.note aside.note lives came (spelling a.reply) before history)) (aside_stage (spelling a.reply) before.database (unit_after tci a) aside.snapshot apart s h)

  -- ---- the job's upload

  upload_after : (tci : ℕ) (f : Frame) → came ≡ tlow → IsWholeDatabase u.database
      → Asks lives (Some u) low tlow asking history
      → StageAfter lives low tlow asking came tci u history Asking (upload f u)
  upload_after tci f own whole h = record {
    proved = h.proved;
    waiting = h.waiting;
    waits = h.waits;
    command = h.command;
    own = h.own;
    reply = λ r last. elim last as (λ _. Counted tlow r (history_after (upload f u).note lives came (spelling (upload f u).reply) u history)) [
      | inl e ↦ record {
        database = without_makers u.database;
        whole = whole.whole;
        few = pieces_counted u.database whole;
        last = inl (own, refl);
        frame = f;
        is = sym e.1;
      }
      | inr e ↦ absurd (e.0 own)
    ];
    fresh = λ v s on was has.
        let put : Snapshot = record { database = u.database; age = 0 } in
        let mine : put ≡ s = same_Some put s (ap (λ (x : Onu). x.snapshot) (same_Some (unit_after tci (upload f u)) v on) ∙ has) in
        inl (own, ap (λ (x : Snapshot). without_makers x.database) mine);
  }

  -- ---- the job's request for a piece

  zeros_long : length (replicate {A = ℕ} 32 0) ≡ 32
  zeros_long = refl

  piece_given : (next : ℕ) (database : Copy) (f : Frame) → IsWhole database → (o : Option (List ℕ))
      → piece_at next database ≡ o → (r : List ℕ)
      → spelling (response_frame f (response.UploadNext (or_zeros o))) ≡ r → IsPiece next database r
  piece_given next database f whole None e r is =
      record { piece = replicate 32 0; frame = f; is = sym is; long = zeros_long; from = inr refl }
  piece_given next database f whole (Some piece) e r is =
      record { piece = piece; frame = f; is = sym is; long = piece_whole database next piece whole e; from = inl e }

  given : (next : ℕ) (database : Copy) (f : Frame) → IsWhole database → (o : Option Snapshot)
      → ((s : Snapshot) → o ≡ Some s → without_makers s.database ≡ database) → (r : List ℕ)
      → spelling (response_frame f (response.UploadNext (next_piece next o))) ≡ r → IsPiece next database r
  given next database f whole None put r is =
      record { piece = replicate 32 0; frame = f; is = sym is; long = zeros_long; from = inr refl }
  given next database f whole (Some s) put r is =
      piece_given next database f whole (piece_at next database) refl r
      (ap (λ c. spelling (response_frame f (response.UploadNext (or_zeros (piece_at next c))))) (sym (put s refl)) ∙ is)

  again_from : (o : Option Snapshot) (s : Snapshot) → fresh_again o ≡ Some s
      → (x : Snapshot) × (o ≡ Some x) × (x.database ≡ s.database)
  again_from None s e = absurd (cc)
  again_from (Some x) s e = (x, refl, ap (λ (y : Snapshot). y.database) (same_Some (record x { age = 0 }) s e))

  next_after : (tci : ℕ) (f : Frame) (before : Onu) (expected next : ℕ) (copy : Copy)
      → AtStage lives (Some u) low tlow asking history (Gathering expected next copy)
      → StageAfter lives low tlow asking came tci before history (Gathering expected next copy) (upload_next f next u)
  next_after tci f before expected next copy h =
      let a : Answer = upload_next f next u in
      let g : Gathers (Some (unit_after tci a)) asking (CarriedOut lives came (spelling a.reply) before.database ∷ history) expected next copy = record {
        database = h.0.database;
        whole = h.0.whole;
        few = h.0.few;
        last = h.0.last;
        count = h.0.count;
        less = h.0.less;
        front = h.0.front;
        put_by = λ v s on has.
            let x = again_from u.snapshot s (ap (λ (y : Onu). y.snapshot) (same_Some (unit_after tci a) v on) ∙ has) in
            ap without_makers (sym x.2) ∙ h.0.put_by u x.0 refl x.1;
      } in (
        g,
        record {
          proved = h.1.proved;
          waiting = h.1.waiting;
          waits = h.1.waits;
          command = h.1.command;
          reply = λ r last. elim last as (λ _. IsPiece next h.0.database r) [
            | inl e ↦ given next h.0.database f h.0.whole u.snapshot (λ s has. h.0.put_by u s refl has) r e.1
            | inr e ↦ h.1.reply r e.1
          ];
        },
      )

-- ---- a packet is carried out

-- what is known of a packet of the low lane that will be carried out, where the lane is proved: it is
-- the outstanding command's
pub record IsWaited (low : Lane) (t : Told) (number : ℕ) (bytes : List ℕ) : Type 0 where
  pub waiting : Waiting
  pub waits : low.outstanding ≡ Some waiting
  pub name : name_at number t.names ≡ t.low
  pub among : Contains (waiting_packets (Some waiting)) bytes

abbrev pub AreWaited : Option Manager → Told → ℕ → Sent → Onu → Type 0
AreWaited manager t number s u =
    (m : Manager) (n : Option Note) → manager ≡ Some m → m.low.proved ≡ true
    → lane_of s.bytes ≡ Low → (onu_received false s.bytes u).did ≡ did.Carried n
    → IsWaited m.low t number s.bytes

first_at : (x y : List ℕ) (k : ℕ) → k < 1 → slice_index_or (x ∷ []) k y ≡ y → y ≡ x
first_at x y zero lt e = sym e
first_at x y (suc k) lt e = absurd (omega (arith, lt))

only_one : (x y : List ℕ) → Contains (x ∷ []) y → y ≡ x
only_one x y h = first_at x y h.0 h.1 h.2

asked_packet : (tci : ℕ) (c : Command) → spelling (command_frame tci c)
    ≡ spelling (plain (Asked tci c.entity c.request))
unfolding command_frame
asked_packet tci c = refl

-- a command of the job that is no window has one packet
pub waited_bytes : (w : Waiting) (r : Request) (bytes : List ℕ)
    → Contains (waiting_packets (Some w)) bytes → w.command ≡ job_command sync_entity r
    → bytes ≡ spelling (plain (Asked w.tci sync_entity r))
waited_bytes w r bytes h same =
    let c = job_command sync_entity r in
    only_one (spelling (command_frame w.tci c)) bytes
    (subst (λ (x : Command). Contains (command_packets w.tci x) bytes) same h)
    ∙ asked_packet w.tci c

-- all is well after a packet came to the unit
abbrev pub Served : Reception → ℕ → Sent → Link → ℕ → Onu → Option Manager → Told → Type 0
Served r number s link lives u manager t =
    Good (link_read (PacketCame number s ∷ unit_deed r.did r.reply u lives) link).packets lives
    (Some r.unit) manager (tell_all (PacketCame number s ∷ unit_deed r.did r.reply u lives) t)

-- the entries of its store are told after that
abbrev pub ServedWhole : Reception → ℕ → Sent → Link → ℕ → Onu → Option Manager → Told → Type 0
ServedWhole r number s link lives u manager t =
    let hs = PacketCame number s ∷ unit_deed r.did r.reply u lives ++ stored r.stored in
    Good (link_read hs link).packets lives (Some r.unit) manager (tell_all hs t)

pub served_whole : (r : Reception) (number : ℕ) (s : Sent) (link : Link) (lives : ℕ) (u : Onu)
    (manager : Option Manager) (t : Told) → Served r number s link lives u manager t
    → ServedWhole r number s link lives u manager t
served_whole r number s link lives u manager t g =
    let hs = PacketCame number s ∷ unit_deed r.did r.reply u lives in
    let ks = stored r.stored in
    subst (λ l. Good l.packets lives (Some r.unit) manager (tell_all (hs ++ ks) t))
    (sym (link_append hs ks link))
    (subst (λ v. Good (link_read ks (link_read hs link)).packets lives (Some r.unit) manager v)
    (sym (tell_append hs ks t))
    (entries_good (reverse r.stored) (link_read hs link) lives (Some r.unit) manager (tell_all hs t) g))

module _ (number : ℕ) (s : Sent) (link : Link) (lives : ℕ) (u : Onu) (manager : Option Manager) (t : Told) (h : Good link.packets lives (Some u) manager t) (there : slice_get link.packets number ≡ Some s) (way : s.direction ≡ Down) (waited : AreWaited manager t number s u) where
  came : ℕ
  came = name_at number t.names

  sent_is : IsSent t.drawn s came
  unfolding came
  sent_is = sent_at (IsSent t.drawn) link.packets t.names number s h.sent there

  made : IsMade s
  made = (sent_is way).1

  -- nothing is carried out
  dropped_good : Good link.packets lives (Some u) manager (record t { came = name_at number t.names; packet = s.bytes })
  dropped_good = record {
    sent = h.sent;
    apart = h.apart;
    lanes = h.lanes;
    job = h.job;
    reports = h.reports;
    carried = h.carried;
    whole = h.whole;
    right = h.right;
  }

  kept_good : (reply : List ℕ) → Good (link.packets ++ record { direction = Up; bytes = reply } ∷ []) lives (Some u) manager
      (record t { came = name_at number t.names; packet = s.bytes; names = t.names ++ name_at number t.names ∷ [] })
  unfolding came
  kept_good reply = record {
    sent = sent_more (IsSent t.drawn) link.packets t.names _ _ h.sent (λ d. absurd (cc));
    apart = λ m w e f. sent_more (IsApart t.low) link.packets t.names _ _ (h.apart m w e f) (λ d. absurd (cc));
    lanes = h.lanes;
    job = h.job;
    reports = h.reports;
    carried = h.carried;
    whole = h.whole;
    right = h.right;
  }

  leaves_good : (r : Reception) → Leaves u r → Served r number s link lives u manager t
  leaves_good r k = go r.did k.did
    where
      after : (packets : List Sent) (v : Told) → Good packets lives (Some u) manager v → Good packets lives (Some r.unit) manager v
      after packets v g =
          good_older packets lives (Some u) (Some r.unit) manager v
          (record {
            from = λ w x on has. (
              u,
              x,
              refl,
              ap (λ (y : Onu). y.snapshot) (sym k.unit ∙ same_Some r.unit w on) ∙ has,
              refl,
            );
          })
          (λ w e. subst (λ (y : Onu). IsWholeDatabase y.database) (sym k.unit ∙ same_Some r.unit w e) (h.whole u refl)) g

      go : (d : Did) → IsIdle d → Good (link_read (PacketCame number s ∷ unit_deed d r.reply u lives) link).packets lives (Some r.unit) manager (tell_all (PacketCame number s ∷ unit_deed d r.reply u lives) t)
      go did.Dropped i = after link.packets _ dropped_good
      go did.Held i = after link.packets _ dropped_good
      go did.Kept i = after (link.packets ++ record { direction = Up; bytes = r.reply } ∷ []) _ (kept_good r.reply)
      go (did.Carried n) i = absurd i

  module _ (c : Carries s.bytes u (onu_received false s.bytes u)) where
    abbrev answered : Answer
    answered = c.answer

    -- the job after it
    low_stage : (m : Manager) → manager ≡ Some m → lane_of s.bytes ≡ Low → (x : Stage) → AtStage lives (Some u) m.low t.low t.asking t.history x
        → StageAfter lives m.low t.low t.asking (name_at number t.names) c.frame.tci u t.history x answered
    low_stage m e lane (Probing high' low') at = tt
    low_stage m e lane AskingAlarms at = tt
    low_stage m e lane (GatheringRows expected next) at = tt
    low_stage m e lane (StartingImage order asked image) at = tt
    low_stage m e lane (SendingImage order outgoing resent) at = tt
    low_stage m e lane (EndingImage order image busy) at = tt
    low_stage m e lane (DelayingEnd order image busy) at = tt
    low_stage m e lane Asking at =
        let k = waited m answered.note e at.proved lane (ap (λ (r : Reception). r.did) c.is) in
        let same : k.waiting ≡ at.waiting = same_Some k.waiting at.waiting (sym k.waits ∙ at.waits) in
        let command = ap (λ (w : Waiting). w.command) same ∙ at.command in
        let is = carries_upload k.waiting.tci sync_entity s.bytes u (onu_received false s.bytes u) (waited_bytes k.waiting request.Upload s.bytes k.among command) c in
        subst (StageAfter lives m.low t.low t.asking (name_at number t.names) c.frame.tci u t.history Asking) (sym is)
        (upload_after lives u m.low t.low t.asking (name_at number t.names) t.history c.frame.tci c.frame k.name (h.whole u refl) at)
    low_stage m e lane (Gathering expected next copy) at =
        let k = waited m answered.note e at.1.proved lane (ap (λ (r : Reception). r.did) c.is) in
        let same : k.waiting ≡ at.1.waiting = same_Some k.waiting at.1.waiting (sym k.waits ∙ at.1.waits) in
        let command = ap (λ (w : Waiting). w.command) same ∙ at.1.command in
        let small : next < 2 ^ 16 = (let a = at.0.less in let b = at.0.count in let d = at.0.few in omega (arith, a, b, d)) in
        let is = carries_next k.waiting.tci sync_entity next s.bytes u (onu_received false s.bytes u) (waited_bytes k.waiting (request.UploadNext next) s.bytes k.among command) small c in
        subst (StageAfter lives m.low t.low t.asking (name_at number t.names) c.frame.tci u t.history (Gathering expected next copy)) (sym is)
        (next_after lives u m.low t.low t.asking (name_at number t.names) t.history c.frame.tci c.frame u expected next copy at)

    high_aside : lane_of s.bytes ≡ High → IsAside u answered
    high_aside lane = elim made.lane as (λ _. IsAside u answered) [
      | inl low ↦ not_high s.bytes low lane
      | inr plainly ↦ carries_aside made.tci made.entity made.request s.bytes u (onu_received false s.bytes u) made.bytes plainly c
    ]

    name_apart : (m : Manager) (w : Waiting) → manager ≡ Some m → m.low.outstanding ≡ Some w → lane_of s.bytes ≡ High → name_at number t.names ≢ t.low
    name_apart m w e waits lane = sent_at (IsApart t.low) link.packets t.names number s (h.apart m w e waits) there way lane

    high_stage : (m : Manager) → manager ≡ Some m → lane_of s.bytes ≡ High → (x : Stage) → AtStage lives (Some u) m.low t.low t.asking t.history x
        → StageAfter lives m.low t.low t.asking (name_at number t.names) c.frame.tci u t.history x answered
    high_stage m e lane (Probing high' low') at = tt
    high_stage m e lane AskingAlarms at = tt
    high_stage m e lane (GatheringRows expected next) at = tt
    high_stage m e lane (StartingImage order asked image) at = tt
    high_stage m e lane (SendingImage order outgoing resent) at = tt
    high_stage m e lane (EndingImage order image busy) at = tt
    high_stage m e lane (DelayingEnd order image busy) at = tt
    high_stage m e lane Asking at =
        aside_after lives u m.low t.low t.asking (name_at number t.names) t.history c.frame.tci u answered (high_aside lane)
        (name_apart m at.waiting e at.waits lane) Asking at
    high_stage m e lane (Gathering expected next copy) at =
        aside_after lives u m.low t.low t.asking (name_at number t.names) t.history c.frame.tci u answered (high_aside lane)
        (name_apart m at.1.waiting e at.1.waits lane) (Gathering expected next copy) at

    stage_by : (l : Priority) → lane_of s.bytes ≡ l → (m : Manager) → manager ≡ Some m → (x : Stage) → AtStage lives (Some u) m.low t.low t.asking t.history x
        → StageAfter lives m.low t.low t.asking (name_at number t.names) c.frame.tci u t.history x answered
    stage_by Low lane m e x at = low_stage m e lane x at
    stage_by High lane m e x at = high_stage m e lane x at

    whole_after : IsWholeDatabase answered.unit.database
    whole_after =
        subst (λ (r : Reception). IsWholeDatabase r.unit.database) c.is
        (carries_whole made.tci made.entity made.request s.bytes u (onu_received false s.bytes u) made.bytes c (h.whole u refl))

    abbrev after : Onu
    after = unit_after c.frame.tci answered

    -- what is told of it
    abbrev told : Option Note → Told
    told n = record t {
      came = name_at number t.names;
      packet = s.bytes;
      names = t.names ++ name_at number t.names ∷ [];
      history = history_after n lives (name_at number t.names) (spelling answered.reply) u t.history;
    }

    remarked_by : (o : Option Remark) → (life command : ℕ) → WasCarried life command (remarked o (CarriedOut lives (name_at number t.names) (spelling answered.reply) u.database ∷ t.history)) → command < t.drawn
    unfolding came
    remarked_by None life command (inl e) = subst (λ x. x < t.drawn) e.1 (sent_is way).0
    remarked_by None life command (inr e) = h.carried life command e
    remarked_by (Some remark) life command (inl e) = subst (λ x. x < t.drawn) e.1 (sent_is way).0
    remarked_by (Some remark) life command (inr e) = h.carried life command e

    carried_by : (n : Option Note) → (life command : ℕ) → WasCarried life command (history_after n lives (name_at number t.names) (spelling answered.reply) u t.history) → command < t.drawn
    unfolding came
    carried_by None life command (inl e) = subst (λ x. x < t.drawn) e.1 (sent_is way).0
    carried_by None life command (inr e) = h.carried life command e
    carried_by (Some n) life command e = remarked_by (remark_of lives (name_at number t.names) n u) life command e

    right_by : (n : Option Note) → SyncedRight (history_after n lives (name_at number t.names) (spelling answered.reply) u t.history)
    right_by None = h.right
    right_by (Some (note.Snapshot entities counter)) = h.right
    right_by (Some (note.Alarms rows)) = h.right
    right_by (Some (note.Sealed slot size check)) = h.right
    right_by (Some (note.Committed slot)) = h.right
    right_by (Some (note.Leaving boot)) = h.right

    carried_good : (n : Option Note) → answered.note ≡ n
        → Good (link.packets ++ record { direction = Up; bytes = spelling answered.reply } ∷ []) lives (Some after) manager (told n)
    unfolding came
    carried_good n is = record {
      sent = sent_more (IsSent t.drawn) link.packets t.names _ _ h.sent (λ d. absurd (cc));
      apart = λ m w e f. sent_more (IsApart t.low) link.packets t.names _ _ (h.apart m w e f) (λ d. absurd (cc));
      lanes = h.lanes;
      job = λ m e x g.
          subst (λ k. AtStage lives (Some after) m.low t.low t.asking (history_after k lives (name_at number t.names) (spelling answered.reply) u t.history) x) is
          (stage_by (lane_of s.bytes) refl m e x (h.job m e x g));
      reports = h.reports;
      carried = carried_by n;
      whole = λ v e. subst (λ (x : Onu). IsWholeDatabase x.database) (same_Some after v e) whole_after;
      right = right_by n;
    }

    abbrev CarriedWith : Option Note → Type 0
    CarriedWith n =
        Good (link_read (PacketCame number s ∷ unit_deed (did.Carried n) (spelling answered.reply) u lives) link).packets lives
        (Some after) manager (tell_all (PacketCame number s ∷ unit_deed (did.Carried n) (spelling answered.reply) u lives) t)

    carried_with : (n : Option Note) → answered.note ≡ n → CarriedWith n
    carried_with None is = carried_good None is
    carried_with (Some (note.Snapshot entities counter)) is = carried_good (Some (note.Snapshot entities counter)) is
    carried_with (Some (note.Alarms rows)) is = carried_good (Some (note.Alarms rows)) is
    carried_with (Some (note.Sealed slot size check)) is = carried_good (Some (note.Sealed slot size check)) is
    carried_with (Some (note.Committed slot)) is = carried_good (Some (note.Committed slot)) is
    carried_with (Some (note.Leaving boot)) is = carried_good (Some (note.Leaving boot)) is

    carries_good : Served (onu_received false s.bytes u) number s link lives u manager t
    carries_good = subst (λ r. Served r number s link lives u manager t) (sym c.is) (carried_with answered.note refl)

  received_good : Receives s.bytes u (onu_received false s.bytes u) → Served (onu_received false s.bytes u) number s link lives u manager t
  received_good (inl k) = leaves_good (onu_received false s.bytes u) k
  received_good (inr c) = carries_good c

  pub unit_good : ServedWhole (onu_received false s.bytes u) number s link lives u manager t
  unit_good =
      served_whole (onu_received false s.bytes u) number s link lives u manager t
      (received_good (receives s.bytes u))
