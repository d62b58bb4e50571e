-- A resynchronisation goes on: the low lane, where it is free, sends what the job wants next.
use Rattle.std.proofs.Common.{◌≡◌, ℕ, ◌<◌, Bool, true, false, ◌&&◌, List, [], ◌++◌, map, Option, Some, None, ◌⊎◌, inl, inr, is_none, refl, sym, ap, subst, ◌∙◌, arith, append-nil}
use Rattle.std.proofs.lemmas.Option.{same_Some}
use Rattle.std.proofs.lemmas.Bool.{and_parts, false≢true}
use Rattle.std.specs.List.{flat_map}
use Rattle.message_spec.specs.declared.Request.TheVariants as request
use Rattle.link_spec.specs.Link.{Link}
use Rattle.lane_spec.specs.Command.{Command, sync_entity, job_command}
use Rattle.lane_spec.specs.Lane.{Lane, Waiting, with_command}
use Rattle.manager_spec.specs.Manager.{Stage, Probing, Asking, Gathering, AskingAlarms, GatheringRows, StartingImage, SendingImage, EndingImage, DelayingEnd, Order, Manager, Outcome, Sending, and_then}
use Rattle.manager_spec.specs.Resync.{with_job}
use Rattle.manager_spec.specs.Upgrade.{image_window, end_image_command}
use Rattle.manager_spec.specs.Jobs.{is_free, wish_in, wish_of, send_wish, job_goes_on, Wish}
use Rattle.upload_spec.specs.Pieces.{Copy}
use Rattle.unit_spec.specs.Onu.{Onu}
use Rattle.history_spec.specs.History.{Entry, WasCarried, LastReply}
use Rattle.world_spec.specs.Happenings.{ReplyTaken, NoticeTaken, link_read}
use Rattle.world_spec.specs.Ends.{sends}
use Rattle.world_spec.specs.History.{Told, tell_all}
use Rattle.resync_laws.proofs.Invariants.{reply_carried, Asks, Gathers, AtStage, JobOk, Held}
use Rattle.resync_laws.proofs.Telling.{NoneSynced, Did, Goes, did_quiet, goes_nothing, goes_low}

-- where the low lane may send the next request for a piece
pub record IsFree (low : Lane) : Type 0 where
  pub proved : low.proved ≡ true
  pub none : low.outstanding ≡ None

abbrev pub Ready : ℕ → Option Onu → Lane → (tlow asking : ℕ) → List Entry → Stage → Type 0
Ready lives unit low tlow asking history (Probing high' low') = Unit {0}
Ready lives unit low tlow asking history Asking = Asks lives unit low tlow asking history
Ready lives unit low tlow asking history (Gathering expected next copy) =
    AtStage lives unit low tlow asking history (Gathering expected next copy)
    ⊎ (IsFree low × Gathers unit asking history expected next copy)
Ready lives unit low tlow asking history AskingAlarms = Unit {0}
Ready lives unit low tlow asking history (GatheringRows expected next) = Unit {0}
Ready lives unit low tlow asking history (StartingImage order asked image) = Unit {0}
Ready lives unit low tlow asking history (SendingImage order outgoing resent) = Unit {0}
Ready lives unit low tlow asking history (EndingImage order image busy) = Unit {0}
Ready lives unit low tlow asking history (DelayingEnd order image busy) = Unit {0}

abbrev pub JobReady : ℕ → Option Onu → Lane → Option Stage → (tlow asking : ℕ) → List Entry → Type 0
JobReady lives unit low job tlow asking history =
    (s : Stage) → job ≡ Some s → Ready lives unit low tlow asking history s

pub ready_of : (lives : ℕ) (unit : Option Onu) (low : Lane) (tlow asking : ℕ) (history : List Entry)
    (s : Stage) → AtStage lives unit low tlow asking history s
    → Ready lives unit low tlow asking history s
ready_of lives unit low tlow asking history (Probing high' low') h = tt
ready_of lives unit low tlow asking history Asking h = h
ready_of lives unit low tlow asking history (Gathering expected next copy) h = inl h
ready_of lives unit low tlow asking history AskingAlarms h = tt
ready_of lives unit low tlow asking history (GatheringRows expected next) h = tt
ready_of lives unit low tlow asking history (StartingImage order asked image) h = tt
ready_of lives unit low tlow asking history (SendingImage order outgoing resent) h = tt
ready_of lives unit low tlow asking history (EndingImage order image busy) h = tt
ready_of lives unit low tlow asking history (DelayingEnd order image busy) h = tt

pub job_at : (lives : ℕ) (unit : Option Onu) (low : Lane) (job : Option Stage) (tlow asking : ℕ)
    (history : List Entry) (s : Stage) → job ≡ Some s
    → AtStage lives unit low tlow asking history s
    → JobOk lives unit low job tlow asking history
job_at lives unit low job tlow asking history s e h x f =
    subst (AtStage lives unit low tlow asking history) (same_Some s x (sym e ∙ f)) h

pub job_none : (lives : ℕ) (unit : Option Onu) (low : Lane) (job : Option Stage) (tlow asking : ℕ)
    (history : List Entry) → job ≡ None → JobOk lives unit low job tlow asking history
job_none lives unit low job tlow asking history e x f = absurd (cc)

-- ---- the step

pub busy_lane : (low : Lane) (w : Waiting) → low.outstanding ≡ Some w → is_free low ≡ false
busy_lane low w e = ap (λ o. low.proved && is_none o) e ∙ and_false low.proved
  where
    and_false : (b : Bool) → (b && false) ≡ false
    and_false true = refl
    and_false false = refl

pub free_lane : (low : Lane) → IsFree low → is_free low ≡ true
free_lane low h = ap (λ b. b && is_none low.outstanding) h.proved ∙ ap is_none h.none

none_if : (o : Option Waiting) → is_none o ≡ true → o ≡ None
none_if None e = refl
none_if (Some w) e = absurd (false≢true e)

pub is_free_lane : (low : Lane) → is_free low ≡ true → IsFree low
is_free_lane low e =
    let p = and_parts low.proved (is_none low.outstanding) e in
    record { proved = p.0; none = none_if low.outstanding p.1 }

-- what has never been drawn was never carried out
pub never : {A : Type 0} (t : Told) → ((life command : ℕ) → WasCarried life command t.history → command < t.drawn)
    → (life : ℕ) → WasCarried life t.drawn t.history → A
never t known life was = let lt = known life t.drawn was in absurd (omega (arith, lt))

pub never_replied : {A : Type 0} (t : Told) → ((life command : ℕ) → WasCarried life command t.history → command < t.drawn)
    → (r : List ℕ) → LastReply t.drawn r t.history → A
never_replied t known r last =
    let was = reply_carried t.drawn r t.history last in never t known was.0 was.1

module _ (m : Manager) (link : Link) (lives : ℕ) (unit : Option Onu) (t : Told) (h : Held link.packets unit m.low m.high t) where
  asks_now : (b : Bool) → is_free m.low ≡ b → m.job ≡ Some (Probing false false)
      → Goes (send_wish b (wish_of (Probing false false)) m) link lives unit t
  asks_now false e j = goes_nothing m link lives unit t h (job_at lives unit m.low m.job t.low t.asking t.history (Probing false false) j tt)
  asks_now true e j =
      let free = is_free_lane m.low e in
      goes_low true (job_command sync_entity request.Upload) (with_job (Some Asking) m) link lives unit t h free.none
      (job_at lives unit (with_command (job_command sync_entity request.Upload) m.low) (Some Asking) t.drawn t.drawn t.history Asking refl (record {
        proved = free.proved;
        waiting = _;
        waits = refl;
        command = refl;
        own = refl;
        reply = λ r last. never_replied t h.carried r last;
        fresh = λ u s on was has. never t h.carried lives was;
      }))

  asks_next : (expected next : ℕ) (copy : Copy) → m.job ≡ Some (Gathering expected next copy)
      → Ready lives unit m.low t.low t.asking t.history (Gathering expected next copy)
      → Goes (send_wish (is_free m.low) (wish_of (Gathering expected next copy)) m) link lives unit t
  asks_next expected next copy j (inl at) =
      subst (λ b. Goes (send_wish b (wish_of (Gathering expected next copy)) m) link lives unit t)
      (sym (busy_lane m.low at.1.waiting at.1.waits))
      (goes_nothing m link lives unit t h (job_at lives unit m.low m.job t.low t.asking t.history (Gathering expected next copy) j at))
  asks_next expected next copy j (inr k) =
      let c = job_command sync_entity (request.UploadNext next) in
      subst (λ b. Goes (send_wish b (wish_of (Gathering expected next copy)) m) link lives unit t)
      (sym (free_lane m.low k.0))
      (goes_low false c (with_job (Some (Gathering expected next copy)) m) link lives unit t h k.0.none
      (job_at lives unit (with_command c m.low) (Some (Gathering expected next copy)) t.drawn t.asking t.history (Gathering expected next copy) refl (
        k.1,
        record {
          proved = k.0.proved;
          waiting = _;
          waits = refl;
          command = refl;
          reply = λ r last. never_replied t h.carried r last;
        },
      )))

  -- an audit asks for its next row, and a download sends its next window or its end
  freely_next : (s : Stage) (c : Command)
      → ((low : Lane) (tlow : ℕ) → AtStage lives unit low tlow t.asking t.history s)
      → (b : Bool) → is_free m.low ≡ b → m.job ≡ Some s
      → Goes (send_wish b (Some (record { command = c; asks = false; stage = s })) m) link lives unit t
  freely_next s c at false e j =
      goes_nothing m link lives unit t h
      (job_at lives unit m.low m.job t.low t.asking t.history s j (at m.low t.low))
  freely_next s c at true e j =
      let free = is_free_lane m.low e in
      goes_low false c (with_job (Some s) m) link lives unit t h free.none
      (job_at lives unit (with_command c m.low) (Some s) t.drawn t.asking t.history s refl
      (at (with_command c m.low) t.drawn))

  goes_by : (job : Option Stage) → m.job ≡ job
      → JobReady lives unit m.low job t.low t.asking t.history
      → Goes (send_wish (is_free m.low) (wish_in job) m) link lives unit t
  goes_by None e r = goes_nothing m link lives unit t h (job_none lives unit m.low m.job t.low t.asking t.history e)
  goes_by (Some (Probing true low')) e r = goes_nothing m link lives unit t h (job_at lives unit m.low m.job t.low t.asking t.history (Probing true low') e tt)
  goes_by (Some (Probing false true)) e r = goes_nothing m link lives unit t h (job_at lives unit m.low m.job t.low t.asking t.history (Probing false true) e tt)
  goes_by (Some (Probing false false)) e r = asks_now (is_free m.low) refl e
  goes_by (Some Asking) e r = goes_nothing m link lives unit t h (job_at lives unit m.low m.job t.low t.asking t.history Asking e (r Asking refl))
  goes_by (Some (Gathering expected next copy)) e r = asks_next expected next copy e (r (Gathering expected next copy) refl)
  goes_by (Some AskingAlarms) e r = goes_nothing m link lives unit t h (job_at lives unit m.low m.job t.low t.asking t.history AskingAlarms e tt)
  goes_by (Some (GatheringRows expected next)) e r =
      freely_next (GatheringRows expected next) (job_command sync_entity (request.AlarmsNext next))
      (λ low tlow. tt) (is_free m.low) refl e
  goes_by (Some (StartingImage order asked image)) e r = goes_nothing m link lives unit t h (job_at lives unit m.low m.job t.low t.asking t.history (StartingImage order asked image) e tt)
  goes_by (Some (SendingImage order outgoing resent)) e r =
      freely_next (SendingImage order outgoing resent) (image_window order outgoing)
      (λ low tlow. tt) (is_free m.low) refl e
  goes_by (Some (EndingImage order image busy)) e r =
      freely_next (EndingImage order image busy) (end_image_command order image)
      (λ low tlow. tt) (is_free m.low) refl e
  goes_by (Some (DelayingEnd order image busy)) e r = goes_nothing m link lives unit t h (job_at lives unit m.low m.job t.low t.asking t.history (DelayingEnd order image busy) e tt)

  pub goes_on : JobReady lives unit m.low m.job t.low t.asking t.history → Goes (job_goes_on m) link lives unit t
  unfolding job_goes_on
  goes_on r = goes_by m.job refl r

-- ---- it takes nothing and reports nothing

pub record IsSilent (m : Manager) (o : Outcome) : Type 0 where
  pub taken : o.taken ≡ []
  pub noticed : o.noticed ≡ []
  pub reports : o.manager.reports ≡ m.reports
  pub copy : o.manager.copy ≡ m.copy

silent_wish : (b : Bool) (w : Option Wish) (m : Manager) → IsSilent m (send_wish b w m)
silent_wish true None m = record { taken = refl; noticed = refl; reports = refl; copy = refl }
silent_wish false None m = record { taken = refl; noticed = refl; reports = refl; copy = refl }
silent_wish false (Some w) m = record { taken = refl; noticed = refl; reports = refl; copy = refl }
silent_wish true (Some w) m = record { taken = refl; noticed = refl; reports = refl; copy = refl }

pub silent : (m : Manager) → IsSilent m (job_goes_on m)
unfolding job_goes_on
silent m = silent_wish (is_free m.low) (wish_in m.job) m

-- ---- after a reply was taken

-- a step that sends nothing, and then the job
pub did_then : (a : Outcome) (link : Link) (lives : ℕ) (unit : Option Onu) (t u : Told)
    → tell_all (map ReplyTaken a.taken) t ≡ u → a.noticed ≡ [] → NoneSynced a.manager.reports
    → a.sendings ≡ []
    → Held link.packets unit a.manager.low a.manager.high u
    → JobReady lives unit a.manager.low a.manager.job u.low u.asking u.history
    → Did (and_then a job_goes_on) link lives unit t
did_then a link lives unit t u e unnoticed none nothing h r =
    let q = silent a.manager in
    let on = goes_on a.manager link lives unit u h r in
    did_quiet (and_then a job_goes_on) link lives unit t u
    (ap (λ l. tell_all (map ReplyTaken (a.taken ++ l) ++ map NoticeTaken (a.noticed ++ (job_goes_on a.manager).noticed)) t) q.taken
    ∙ ap (λ l. tell_all (map ReplyTaken l ++ map NoticeTaken (a.noticed ++ (job_goes_on a.manager).noticed)) t) (append-nil a.taken)
    ∙ ap (λ l. tell_all (map ReplyTaken a.taken ++ map NoticeTaken (l ++ (job_goes_on a.manager).noticed)) t) unnoticed
    ∙ ap (λ l. tell_all (map ReplyTaken a.taken ++ map NoticeTaken l) t) q.noticed
    ∙ ap (λ l. tell_all l t) (append-nil (map ReplyTaken a.taken)) ∙ e)
    (subst NoneSynced (sym q.reports) none)
    (record {
      held = subst (λ (l : List Sending). Held (link_read (flat_map sends (l ++ (job_goes_on a.manager).sendings)) link).packets unit (job_goes_on a.manager).manager.low (job_goes_on a.manager).manager.high (tell_all (flat_map sends (l ++ (job_goes_on a.manager).sendings)) u)) (sym nothing) on.held;
      job = subst (λ (l : List Sending). JobOk lives unit (job_goes_on a.manager).manager.low (job_goes_on a.manager).manager.job (tell_all (flat_map sends (l ++ (job_goes_on a.manager).sendings)) u).low (tell_all (flat_map sends (l ++ (job_goes_on a.manager).sendings)) u).asking (tell_all (flat_map sends (l ++ (job_goes_on a.manager).sendings)) u).history) (sym nothing) on.job;
    })
