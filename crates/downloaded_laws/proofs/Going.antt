-- A download goes on: the low lane, where it is free, sends the next window or the end.
use Rattle.std.proofs.Common.{◌≡◌, ℕ, Bool, true, false, List, [], ◌++◌, Option, Some, None, ◌⊎◌, inl, inr, refl, sym, subst, ◌∙◌}
use Rattle.std.proofs.lemmas.Option.{same_Some}
use Rattle.std.specs.List.{flat_map}
use Rattle.message_spec.specs.declared.Request.TheVariants as request
use Rattle.window_spec.specs.Outgoing.{Outgoing}
use Rattle.lane_spec.specs.Command.{Command, sync_entity, job_command}
use Rattle.lane_spec.specs.Lane.{with_command}
use Rattle.manager_spec.specs.Manager.{Order, Stage, Probing, Asking, Gathering, AskingAlarms, GatheringRows, StartingImage, SendingImage, EndingImage, DelayingEnd, Manager, Outcome, Sending, and_then}
use Rattle.manager_spec.specs.Resync.{with_job}
use Rattle.manager_spec.specs.Upgrade.{image_window, end_image_command}
use Rattle.manager_spec.specs.Jobs.{is_free, wish_in, wish_of, send_wish, job_goes_on}
use Rattle.unit_spec.specs.Onu.{Onu}
use Rattle.history_spec.specs.History.{DownloadedRight}
use Rattle.world_spec.specs.Ends.{sends}
use Rattle.world_spec.specs.History.{Told, tell_all}
use Rattle.resync_laws.proofs.Sending.{drawn_low}
use Rattle.resync_laws.proofs.Going.{IsFree, busy_lane, free_lane, never_replied, silent}
use Rattle.downloaded_laws.proofs.Reading.{IsOrder}
use Rattle.downloaded_laws.proofs.Invariants.{State, state_of, Has, HasFront, HasImage, IsSending, Sends, Ends, AtStage, is_image, other_stage, JobOk, NoImage, job_at}
use Rattle.downloaded_laws.proofs.Telling.{Steady, Known, known_steady, TellsNone, Did, Goes, did_quiet, goes_low}

-- where the low lane may send the next window, or the end
pub record MaySend (a : State) (order : Order) (o : Outgoing) : Type 0 where
  pub free : IsFree a.low
  pub sending : IsSending order o
  pub has : Has a.unit (HasFront order o)

pub record MayEnd (a : State) (order : Order) (image : List ℕ) : Type 0 where
  pub free : IsFree a.low
  pub ordered : IsOrder order image
  pub has : Has a.unit (HasImage order image)

abbrev pub Ready : State → Stage → Type 0
Ready a (Probing high low) = Unit {0}
Ready a Asking = Unit {0}
Ready a (Gathering expected next copy) = Unit {0}
Ready a AskingAlarms = Unit {0}
Ready a (GatheringRows expected next) = Unit {0}
Ready a (StartingImage order asked image) = AtStage a (StartingImage order asked image)
Ready a (SendingImage order outgoing resent) =
    AtStage a (SendingImage order outgoing resent) ⊎ MaySend a order outgoing
Ready a (EndingImage order image busy) =
    AtStage a (EndingImage order image busy) ⊎ MayEnd a order image
Ready a (DelayingEnd order image busy) = AtStage a (DelayingEnd order image busy)

abbrev pub JobReady : ℕ → Option Onu → Manager → Told → Type 0
JobReady lives unit m t = (s : Stage) → m.job ≡ Some s → Ready (state_of lives unit m t) s

pub ready_of : (a : State) (s : Stage) → AtStage a s → Ready a s
ready_of a (Probing high low) h = tt
ready_of a Asking h = tt
ready_of a (Gathering expected next copy) h = tt
ready_of a AskingAlarms h = tt
ready_of a (GatheringRows expected next) h = tt
ready_of a (StartingImage order asked image) h = h
ready_of a (SendingImage order outgoing resent) h = inl h
ready_of a (EndingImage order image busy) h = inl h
ready_of a (DelayingEnd order image busy) h = h

pub other_ready : (s : Stage) (a : State) → is_image s ≡ false → Ready a s
other_ready (Probing high low) a e = tt
other_ready Asking a e = tt
other_ready (Gathering expected next copy) a e = tt
other_ready AskingAlarms a e = tt
other_ready (GatheringRows expected next) a e = tt
other_ready (StartingImage order asked image) a e = absurd (cc)
other_ready (SendingImage order outgoing resent) a e = absurd (cc)
other_ready (EndingImage order image busy) a e = absurd (cc)
other_ready (DelayingEnd order image busy) a e = absurd (cc)

-- ---- another job goes on, which stays no download

one_stage : (m : Manager) (x : Stage) → m.job ≡ Some x → is_image x ≡ false → NoImage m
one_stage m x e o s f = subst (λ y. is_image y ≡ false) (same_Some x s (sym e ∙ f)) o

no_stage : (m : Manager) → m.job ≡ None → NoImage m
no_stage m e s f = absurd (cc)

wish_other : (b : Bool) (m : Manager) (x y : Stage) (c : Command) (asks : Bool)
    → m.job ≡ Some x → is_image x ≡ false → is_image y ≡ false
    → NoImage (send_wish b (Some (record { command = c; asks = asks; stage = y })) m).manager
wish_other false m x y c asks e o p = one_stage m x e o
wish_other true m x y c asks e o p = λ s f. subst (λ z. is_image z ≡ false) (same_Some y s f) p

pub other_goes : (b : Bool) (m : Manager) (s : Stage) → m.job ≡ Some s → is_image s ≡ false
    → NoImage (send_wish b (wish_of s) m).manager
other_goes true m (Probing true low) e o = one_stage m (Probing true low) e refl
other_goes false m (Probing true low) e o = one_stage m (Probing true low) e refl
other_goes true m (Probing false true) e o = one_stage m (Probing false true) e refl
other_goes false m (Probing false true) e o = one_stage m (Probing false true) e refl
other_goes b m (Probing false false) e o =
    wish_other b m (Probing false false) Asking (job_command sync_entity request.Upload) true e refl
    refl
other_goes true m Asking e o = one_stage m Asking e refl
other_goes false m Asking e o = one_stage m Asking e refl
other_goes b m (Gathering expected next copy) e o =
    wish_other b m (Gathering expected next copy) (Gathering expected next copy)
    (job_command sync_entity (request.UploadNext next)) false e refl refl
other_goes true m AskingAlarms e o = one_stage m AskingAlarms e refl
other_goes false m AskingAlarms e o = one_stage m AskingAlarms e refl
other_goes b m (GatheringRows expected next) e o =
    wish_other b m (GatheringRows expected next) (GatheringRows expected next)
    (job_command sync_entity (request.AlarmsNext next)) false e refl refl
other_goes b m (StartingImage order asked image) e o = absurd (cc)
other_goes b m (SendingImage order outgoing resent) e o = absurd (cc)
other_goes b m (EndingImage order image busy) e o = absurd (cc)
other_goes b m (DelayingEnd order image busy) e o = absurd (cc)

-- ---- the step

stays : (b : Bool) (m : Manager) (lives : ℕ) (unit : Option Onu) (t : Told) (s : Stage)
    → m.job ≡ Some s → AtStage (state_of lives unit m t) s → Goes (send_wish b None m) lives unit t
stays true m lives unit t s e h = job_at lives unit m t s e h
stays false m lives unit t s e h = job_at lives unit m t s e h

nothing : (b : Bool) (m : Manager) → NoImage m → NoImage (send_wish b None m).manager
nothing true m h = h
nothing false m h = h

module _ (m : Manager) (lives : ℕ) (unit : Option Onu) (t : Told) (known : Known t) where
  abbrev now : State
  now = state_of lives unit m t

  sends_window : (order : Order) (o : Outgoing) (resent : ℕ)
      → m.job ≡ Some (SendingImage order o resent) → Ready now (SendingImage order o resent)
      → Goes (send_wish (is_free m.low) (wish_of (SendingImage order o resent)) m) lives unit t
  sends_window order o resent e (inl at) =
      subst (λ b. Goes (send_wish b (wish_of (SendingImage order o resent)) m) lives unit t)
      (sym (busy_lane m.low at.waiting at.waits))
      (job_at lives unit m t (SendingImage order o resent) e at)
  sends_window order o resent e (inr k) =
      let s = SendingImage order o resent in
      let c = image_window order o in
      let n : Manager = record m { job = Some s; low = with_command c m.low } in
      let drawn : Sends (state_of lives unit n (drawn_low false t)) order o = record {
        sending = k.sending;
        proved = k.free.proved;
        waiting = _;
        waits = refl;
        command = refl;
        before = λ fresh. k.has;
        reply = λ r last. never_replied t known r last;
      } in
      subst (λ b. Goes (send_wish b (wish_of (SendingImage order o resent)) m) lives unit t)
      (sym (free_lane m.low k.free))
      (goes_low false c (with_job (Some s) m) lives unit t
      (job_at lives unit n (drawn_low false t) s refl drawn))

  pub sends_end : (order : Order) (image : List ℕ) (busy : ℕ)
      → m.job ≡ Some (EndingImage order image busy) → Ready now (EndingImage order image busy)
      → Goes (send_wish (is_free m.low) (wish_of (EndingImage order image busy)) m) lives unit t
  sends_end order image busy e (inl at) =
      subst (λ b. Goes (send_wish b (wish_of (EndingImage order image busy)) m) lives unit t)
      (sym (busy_lane m.low at.waiting at.waits))
      (job_at lives unit m t (EndingImage order image busy) e at)
  sends_end order image busy e (inr k) =
      let s = EndingImage order image busy in
      let c = end_image_command order image in
      let n : Manager = record m { job = Some s; low = with_command c m.low } in
      let drawn : Ends (state_of lives unit n (drawn_low false t)) order image = record {
        ordered = k.ordered;
        proved = k.free.proved;
        waiting = _;
        waits = refl;
        command = refl;
        has = k.has;
        reply = λ r last. never_replied t known r last;
      } in
      subst (λ b. Goes (send_wish b (wish_of (EndingImage order image busy)) m) lives unit t)
      (sym (free_lane m.low k.free))
      (goes_low false c (with_job (Some s) m) lives unit t
      (job_at lives unit n (drawn_low false t) s refl drawn))

  other_on : (s : Stage) → m.job ≡ Some s → is_image s ≡ false
      → Goes (send_wish (is_free m.low) (wish_of s) m) lives unit t
  other_on s e o x k = other_stage x _ (other_goes (is_free m.low) m s e o x k)

  goes_by : (job : Option Stage) → m.job ≡ job → ((s : Stage) → job ≡ Some s → Ready now s)
      → Goes (send_wish (is_free m.low) (wish_in job) m) lives unit t
  goes_by None e r = λ x k. other_stage x _ (nothing (is_free m.low) m (no_stage m e) x k)
  goes_by (Some (Probing high low)) e r = other_on (Probing high low) e refl
  goes_by (Some Asking) e r = other_on Asking e refl
  goes_by (Some (Gathering expected next copy)) e r = other_on (Gathering expected next copy) e refl
  goes_by (Some AskingAlarms) e r = other_on AskingAlarms e refl
  goes_by (Some (GatheringRows expected next)) e r =
      other_on (GatheringRows expected next) e refl
  goes_by (Some (StartingImage order asked image)) e r =
      stays (is_free m.low) m lives unit t (StartingImage order asked image) e
      (r (StartingImage order asked image) refl)
  goes_by (Some (SendingImage order outgoing resent)) e r =
      sends_window order outgoing resent e (r (SendingImage order outgoing resent) refl)
  goes_by (Some (EndingImage order image busy)) e r =
      sends_end order image busy e (r (EndingImage order image busy) refl)
  goes_by (Some (DelayingEnd order image busy)) e r =
      stays (is_free m.low) m lives unit t (DelayingEnd order image busy) e
      (r (DelayingEnd order image busy) refl)

  pub goes_on : JobReady lives unit m t → Goes (job_goes_on m) lives unit t
  unfolding job_goes_on
  goes_on r = goes_by m.job refl r

-- a step that sends nothing, and then the job
pub did_then : (before : Option Stage) (a : Outcome) (lives : ℕ) (unit : Option Onu) (t : Told)
    → TellsNone before a.manager.reports → a.sendings ≡ [] → DownloadedRight t.history → Known t
    → ((u : Told) → Steady t u → JobReady lives unit a.manager u)
    → Did before (and_then a job_goes_on) lives unit t
did_then before a lives unit t none empty right known ready =
    did_quiet before (and_then a job_goes_on) lives unit t
    (subst (TellsNone before) (sym (silent a.manager).reports) none) right
    (λ u s. subst
    (λ (l : List Sending). JobOk lives unit (job_goes_on a.manager).manager
    (tell_all (flat_map sends (l ++ (job_goes_on a.manager).sendings)) u)) (sym empty)
    (goes_on a.manager lives unit u (known_steady t u s known) (ready u s)))
