-- What holds of both ends, the link and what is told of them, whatever happens: of each packet, of
-- the manager's lanes, and of a resynchronisation that runs.
use Rattle.std.proofs.Common.{◌≡◌, ◌≢◌, ℕ, zero, suc, ◌<◌, ◌≤◌, ◌^◌, Bool, true, false, cond, List, [], ◌∷◌, ◌++◌, length, replicate, slice_get, Option, Some, ◌⊎◌, inl, inr, refl, sym, ap, subst, ◌∙◌, arith, nat_lt}
use Rattle.std.proofs.lemmas.Option.{same_Some}
use Rattle.std.proofs.lemmas.Bool.Decides.{nat_tests}
use Rattle.std.proofs.lemmas.Nat.{from_be_bytes-to_be_bytes_2}
use Rattle.omci_types.specs.declared.Frame.{Frame}
use Rattle.omci_types.specs.declared.Priority.TheVariants.{Low, High}
use Rattle.tci_spec.specs.Tci.{priority_of, packet_tci}
use Rattle.frame_spec.specs.Baseline.{checked_bytes, spelling}
use Rattle.omci_types.specs.declared.EntityId.{EntityId}
use Rattle.message_spec.specs.declared.Message.TheVariants.{Asked}
use Rattle.message_spec.specs.declared.Request.{Request}
use Rattle.message_spec.specs.declared.Request.TheVariants as request
use Rattle.message_spec.specs.declared.Response.TheVariants as response
use Rattle.message_spec.specs.Reading.{plain}
use Rattle.upload_spec.specs.Pieces.{Copy, pieces, piece_at, without_makers}
use Rattle.upload_laws.specs.Shaped.{IsWhole}
use Rattle.link_spec.specs.declared.Direction.TheVariants.{Down}
use Rattle.link_spec.specs.Link.{Sent, lane_of}
use Rattle.lane_spec.specs.declared.Purpose.{Purpose}
use Rattle.lane_spec.specs.declared.Purpose.TheVariants as purpose
use Rattle.lane_spec.specs.Command.{sync_entity, job_command}
use Rattle.lane_spec.specs.Lane.{Lane, Waiting}
use Rattle.manager_spec.specs.Manager.{Stage, Probing, Asking, Gathering, AskingAlarms, GatheringRows, StartingImage, SendingImage, EndingImage, DelayingEnd, Manager}
use Rattle.unit_spec.specs.Onu.{Onu, Snapshot, response_frame}
use Rattle.history_spec.specs.History.{Entry, CarriedOut, TookReply, Remarked, TookSnapshot, Synced, TookAlarms, Audited, Stored, Downloaded, WasCarried, LastReply, LastSnapshot, SyncedRight}
use Rattle.world_spec.specs.History.{Told, name_at}
use Rattle.resync_laws.specs.Databases.{IsWholeDatabase}
use Rattle.resync_laws.proofs.Reading.{is_plain}
use Rattle.resync_laws.proofs.Gathering.{front_of}

-- ---- histories

pub reply_carried : (command : ℕ) (reply : List ℕ) (history : List Entry)
    → LastReply command reply history → (life : ℕ) × WasCarried life command history
reply_carried command reply [] h = absurd h
reply_carried command reply (CarriedOut life c r before ∷ older) (inl h) =
    (life, inl (refl, h.0))
reply_carried command reply (CarriedOut life c r before ∷ older) (inr h) =
    let k = reply_carried command reply older h.1 in (k.0, inr k.1)
reply_carried command reply (TookReply c r ∷ older) h = reply_carried command reply older h
reply_carried command reply (Remarked remark ∷ older) h = reply_carried command reply older h

-- a command put by one database the last time
pub one_snapshot : (command : ℕ) (a b : Copy) (history : List Entry)
    → LastSnapshot command a history → LastSnapshot command b history → a ≡ b
one_snapshot command a b [] h k = absurd h
one_snapshot command a b (CarriedOut life c r before ∷ older) h k = one_snapshot command a b older h k
one_snapshot command a b (TookReply c r ∷ older) h k = one_snapshot command a b older h k
one_snapshot command a b (Remarked (TookSnapshot life c database) ∷ older) (inl h) (inl k) = sym h.1 ∙ k.1
one_snapshot command a b (Remarked (TookSnapshot life c database) ∷ older) (inl h) (inr k) = absurd (k.0 h.0)
one_snapshot command a b (Remarked (TookSnapshot life c database) ∷ older) (inr h) (inl k) = absurd (h.0 k.0)
one_snapshot command a b (Remarked (TookSnapshot life c database) ∷ older) (inr h) (inr k) = one_snapshot command a b older h.1 k.1
one_snapshot command a b (Remarked (Synced c other) ∷ older) h k = one_snapshot command a b older h k
one_snapshot command a b (Remarked (TookAlarms life c alarms) ∷ older) h k = one_snapshot command a b older h k
one_snapshot command a b (Remarked (Audited c table notices) ∷ older) h k = one_snapshot command a b older h k
one_snapshot command a b (Remarked (Stored entry) ∷ older) h k = one_snapshot command a b older h k
one_snapshot command a b (Remarked (Downloaded slot image) ∷ older) h k = one_snapshot command a b older h k

-- ---- packets, each with its command's name

abbrev pub AllSent : (Sent → ℕ → Type 0) → List Sent → List ℕ → Type 0
AllSent P [] [] = Unit {0}
AllSent P [] (name ∷ names) = ⊥
AllSent P (s ∷ packets) [] = ⊥
AllSent P (s ∷ packets) (name ∷ names) = P s name × AllSent P packets names

pub sent_more : (P : Sent → ℕ → Type 0) (packets : List Sent) (names : List ℕ) (s : Sent) (name : ℕ)
    → AllSent P packets names → P s name → AllSent P (packets ++ s ∷ []) (names ++ name ∷ [])
sent_more P [] [] s name h p = (p, tt)
sent_more P [] (n ∷ names) s name h p = absurd h
sent_more P (x ∷ packets) [] s name h p = absurd h
sent_more P (x ∷ packets) (n ∷ names) s name h p = (h.0, sent_more P packets names s name h.1 p)

pub sent_map : (P Q : Sent → ℕ → Type 0) (packets : List Sent) (names : List ℕ)
    → ((s : Sent) (name : ℕ) → P s name → Q s name) → AllSent P packets names
    → AllSent Q packets names
sent_map P Q [] [] f h = tt
sent_map P Q [] (n ∷ names) f h = absurd h
sent_map P Q (x ∷ packets) [] f h = absurd h
sent_map P Q (x ∷ packets) (n ∷ names) f h = (f x n h.0, sent_map P Q packets names f h.1)

pub sent_at : (P : Sent → ℕ → Type 0) (packets : List Sent) (names : List ℕ) (i : ℕ) (s : Sent)
    → AllSent P packets names → slice_get packets i ≡ Some s → P s (name_at i names)
sent_at P [] [] i s h e = absurd (cc)
sent_at P [] (n ∷ names) i s h e = absurd h
sent_at P (x ∷ packets) [] i s h e = absurd h
sent_at P (x ∷ packets) (n ∷ names) zero s h e = subst (λ y. P y n) (same_Some x s e) h.0
sent_at P (x ∷ packets) (n ∷ names) (suc i) s h e = sent_at P packets names i s h.1 e

-- a command's packet, which asks for nothing to be put by or goes in the low lane
pub record IsMade (s : Sent) : Type 0 where
  pub tci : ℕ
  pub entity : EntityId
  pub request : Request
  pub bytes : s.bytes ≡ spelling (plain (Asked tci entity request))
  pub lane : (lane_of s.bytes ≡ Low) ⊎ (is_plain request ≡ true)

abbrev pub IsSent : ℕ → Sent → ℕ → Type 0
IsSent drawn s name = s.direction ≡ Down → (name < drawn) × IsMade s

-- no packet of the high lane is of that command
abbrev pub IsApart : ℕ → Sent → ℕ → Type 0
IsApart low s name = s.direction ≡ Down → lane_of s.bytes ≡ High → name ≢ low

-- ---- the manager's lanes

abbrev pub is_job : Purpose → Bool
is_job purpose.Probe = false
is_job purpose.Submission = false
is_job purpose.Check = false
is_job purpose.Job = true

pub record HighOut (low : Option Waiting) (drawn tlow thigh : ℕ) (w : Waiting) : Type 0 where
  pub drawn_before : thigh < drawn
  pub plainly : is_plain w.command.request ≡ true
  pub callers : is_job w.command.purpose ≡ false
  pub single : w.command.earlier ≡ []
  pub apart : (v : Waiting) → low ≡ Some v → thigh ≢ tlow

pub record Lanes (low high : Lane) (drawn tlow thigh : ℕ) : Type 0 where
  pub priority : low.priority ≡ Low
  pub number : low.next ≤ 32767
  pub low_out : (w : Waiting) → low.outstanding ≡ Some w → (w.tci ≤ 32767) × (tlow < drawn)
  pub high_out : (w : Waiting) → high.outstanding ≡ Some w
      → HighOut low.outstanding drawn tlow thigh w

-- ---- the job

-- this reply says how many pieces the last snapshot of the command has
pub record Counted (command : ℕ) (reply : List ℕ) (history : List Entry) : Type 0 where
  pub database : Copy
  pub whole : IsWhole database
  pub few : length (pieces database) < 2 ^ 16
  pub last : LastSnapshot command database history
  pub frame : Frame
  pub is : reply ≡ spelling (response_frame frame (response.Upload (length (pieces database))))

pub record Asks (lives : ℕ) (unit : Option Onu) (low : Lane) (tlow asking : ℕ)
    (history : List Entry) : Type 0 where
  pub proved : low.proved ≡ true
  pub waiting : Waiting
  pub waits : low.outstanding ≡ Some waiting
  pub command : waiting.command ≡ job_command sync_entity request.Upload
  pub own : asking ≡ tlow
  pub reply : (r : List ℕ) → LastReply tlow r history → Counted tlow r history
  pub fresh : (u : Onu) (s : Snapshot) → unit ≡ Some u → WasCarried lives tlow history
      → u.snapshot ≡ Some s → LastSnapshot tlow (without_makers s.database) history

-- the copy so far is that of the first pieces of the command's last snapshot
pub record Gathers (unit : Option Onu) (asking : ℕ) (history : List Entry) (expected next : ℕ)
    (copy : Copy) : Type 0 where
  pub database : Copy
  pub whole : IsWhole database
  pub few : length (pieces database) < 2 ^ 16
  pub last : LastSnapshot asking database history
  pub count : expected ≡ length (pieces database)
  pub less : next < expected
  pub front : copy ≡ front_of next database
  pub put_by : (u : Onu) (s : Snapshot) → unit ≡ Some u → u.snapshot ≡ Some s
      → without_makers s.database ≡ database

-- this reply has the piece of that number, or zeros
pub record IsPiece (number : ℕ) (database : Copy) (reply : List ℕ) : Type 0 where
  pub piece : List ℕ
  pub frame : Frame
  pub is : reply ≡ spelling (response_frame frame (response.UploadNext piece))
  pub long : length piece ≡ 32
  pub from : (piece_at number database ≡ Some piece) ⊎ (piece ≡ replicate 32 0)

pub record AsksNext (low : Lane) (tlow : ℕ) (history : List Entry) (database : Copy)
    (next : ℕ) : Type 0 where
  pub proved : low.proved ≡ true
  pub waiting : Waiting
  pub waits : low.outstanding ≡ Some waiting
  pub command : waiting.command ≡ job_command sync_entity (request.UploadNext next)
  pub reply : (r : List ℕ) → LastReply tlow r history → IsPiece next database r

abbrev pub AtStage : ℕ → Option Onu → Lane → (tlow asking : ℕ) → List Entry → Stage → Type 0
AtStage lives unit low tlow asking history (Probing high' low') = Unit {0}
AtStage lives unit low tlow asking history Asking = Asks lives unit low tlow asking history
AtStage lives unit low tlow asking history (Gathering expected next copy) =
    (g : Gathers unit asking history expected next copy)
    × AsksNext low tlow history g.database next
AtStage lives unit low tlow asking history AskingAlarms = Unit {0}
AtStage lives unit low tlow asking history (GatheringRows expected next) = Unit {0}
AtStage lives unit low tlow asking history (StartingImage order asked image) = Unit {0}
AtStage lives unit low tlow asking history (SendingImage order outgoing resent) = Unit {0}
AtStage lives unit low tlow asking history (EndingImage order image busy) = Unit {0}
AtStage lives unit low tlow asking history (DelayingEnd order image busy) = Unit {0}

abbrev pub JobOk : ℕ → Option Onu → Lane → Option Stage → (tlow asking : ℕ) → List Entry → Type 0
JobOk lives unit low job tlow asking history =
    (s : Stage) → job ≡ Some s → AtStage lives unit low tlow asking history s

-- ---- all of it

-- of a manager that is on, the job aside
pub record Held (packets : List Sent) (unit : Option Onu) (low high : Lane) (t : Told) : Type 0 where
  pub sent : AllSent (IsSent t.drawn) packets t.names
  pub apart : (w : Waiting) → low.outstanding ≡ Some w
      → AllSent (IsApart t.low) packets t.names
  pub lanes : Lanes low high t.drawn t.low t.high
  pub carried : (life command : ℕ) → WasCarried life command t.history → command < t.drawn
  pub whole : (u : Onu) → unit ≡ Some u → IsWholeDatabase u.database
  pub right : SyncedRight t.history

pub record Good (packets : List Sent) (lives : ℕ) (unit : Option Onu) (manager : Option Manager)
    (t : Told) : Type 0 where
  pub sent : AllSent (IsSent t.drawn) packets t.names
  pub apart : (m : Manager) (w : Waiting) → manager ≡ Some m → m.low.outstanding ≡ Some w
      → AllSent (IsApart t.low) packets t.names
  pub lanes : (m : Manager) → manager ≡ Some m → Lanes m.low m.high t.drawn t.low t.high
  pub job : (m : Manager) → manager ≡ Some m
      → JobOk lives unit m.low m.job t.low t.asking t.history
  pub reports : (m : Manager) → manager ≡ Some m → m.reports ≡ []
  pub carried : (life command : ℕ) → WasCarried life command t.history → command < t.drawn
  pub whole : (u : Onu) → unit ≡ Some u → IsWholeDatabase u.database
  pub right : SyncedRight t.history

pub held_of : (packets : List Sent) (lives : ℕ) (unit : Option Onu) (m : Manager) (t : Told)
    → Good packets lives unit (Some m) t → Held packets unit m.low m.high t
held_of packets lives unit m t g = record {
  sent = g.sent;
  apart = λ w e. g.apart m w refl e;
  lanes = g.lanes m refl;
  carried = g.carried;
  whole = g.whole;
  right = g.right;
}

pub good_of : (packets : List Sent) (lives : ℕ) (unit : Option Onu) (m : Manager) (t : Told)
    → Held packets unit m.low m.high t → JobOk lives unit m.low m.job t.low t.asking t.history
    → m.reports ≡ [] → Good packets lives unit (Some m) t
good_of packets lives unit m t h j r = record {
  sent = h.sent;
  apart = λ x w e. subst (λ (y : Manager). y.low.outstanding ≡ Some w → AllSent (IsApart t.low) packets t.names) (same_Some m x e) (λ f. h.apart w f);
  lanes = λ x e. subst (λ (y : Manager). Lanes y.low y.high t.drawn t.low t.high) (same_Some m x e) h.lanes;
  job = λ x e. subst (λ (y : Manager). JobOk lives unit y.low y.job t.low t.asking t.history) (same_Some m x e) j;
  reports = λ x e. subst (λ (y : Manager). y.reports ≡ []) (same_Some m x e) r;
  carried = h.carried;
  whole = h.whole;
  right = h.right;
}

-- ---- the lane of a packet

spelled_tci : (tci : ℕ) (entity : EntityId) (r : Request) → tci < 2 ^ 16
    → packet_tci (spelling (plain (Asked tci entity r))) ≡ tci
unfolding spelling checked_bytes plain
spelled_tci tci entity r fits = from_be_bytes-to_be_bytes_2 tci fits

pub goes_low : (tci : ℕ) (entity : EntityId) (r : Request) → tci ≤ 32767
    → lane_of (spelling (plain (Asked tci entity r))) ≡ Low
goes_low tci entity r fits =
    let test : nat_lt tci 32768 ≡ true = grind (arith, nat_tests) in
    ap priority_of (spelled_tci tci entity r (omega (arith, fits))) ∙ ap (λ b. cond b Low High) test

pub not_high : {A : Type 0} (bytes : List ℕ) → lane_of bytes ≡ Low → lane_of bytes ≡ High → A
not_high bytes a b = absurd (cc)
