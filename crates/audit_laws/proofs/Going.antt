-- An audit goes on: the low lane, where it is free, asks for the next row.
use Rattle.std.proofs.Common.{◌≡◌, ℕ, ◌<◌, Bool, true, false, List, [], ◌++◌, map, Option, Some, None, ◌⊎◌, inl, inr, refl, sym, ap, subst, ◌∙◌, arith, append-nil}
use Rattle.std.proofs.lemmas.Option.{same_Some}
use Rattle.std.specs.List.{flat_map}
use Rattle.message_spec.specs.declared.Request.TheVariants as request
use Rattle.lane_spec.specs.Command.{Command, sync_entity, job_command}
use Rattle.lane_spec.specs.Lane.{with_command}
use Rattle.manager_spec.specs.Manager.{Stage, Probing, Asking, Gathering, AskingAlarms, GatheringRows, StartingImage, SendingImage, EndingImage, DelayingEnd, Manager, Outcome, Sending, and_then}
use Rattle.manager_spec.specs.Resync.{with_job}
use Rattle.manager_spec.specs.Upgrade.{image_window, end_image_command}
use Rattle.manager_spec.specs.Jobs.{is_free, wish_in, wish_of, send_wish, job_goes_on}
use Rattle.unit_spec.specs.Onu.{Onu}
use Rattle.history_spec.specs.History.{WasCarried, AuditedRight}
use Rattle.world_spec.specs.Happenings.{ReplyTaken, NoticeTaken}
use Rattle.world_spec.specs.Ends.{sends}
use Rattle.world_spec.specs.History.{Told, tell_all}
use Rattle.resync_laws.proofs.Sending.{drawn_low}
use Rattle.resync_laws.proofs.Telling.{NoneSynced}
use Rattle.resync_laws.proofs.Going.{IsFree, busy_lane, free_lane, never_replied, silent}
use Rattle.audit_laws.proofs.Invariants.{State, state_of, GathersRows, AsksRow, AtStage, is_audit, JobOk, job_none, job_other}
use Rattle.audit_laws.proofs.Telling.{Did, Goes, did_quiet, goes_nothing, goes_low}

-- where the low lane may ask for the next row
abbrev pub Ready : State → Stage → Type 0
Ready a (Probing high low) = Unit {0}
Ready a Asking = Unit {0}
Ready a (Gathering expected next copy) = Unit {0}
Ready a AskingAlarms = AtStage a AskingAlarms
Ready a (GatheringRows expected next) =
    AtStage a (GatheringRows expected next) ⊎ (IsFree a.low × GathersRows a expected next)
Ready a (StartingImage order asked image) = Unit {0}
Ready a (SendingImage order outgoing resent) = Unit {0}
Ready a (EndingImage order image busy) = Unit {0}
Ready a (DelayingEnd order image busy) = Unit {0}

abbrev pub JobReady : ℕ → Option Onu → Manager → Told → Type 0
JobReady lives unit m t = (s : Stage) → m.job ≡ Some s → Ready (state_of lives unit m t) s

pub ready_of : (a : State) (s : Stage) → AtStage a s → Ready a s
ready_of a (Probing high low) h = tt
ready_of a Asking h = tt
ready_of a (Gathering expected next copy) h = tt
ready_of a AskingAlarms h = h
ready_of a (GatheringRows expected next) h = inl h
ready_of a (StartingImage order asked image) h = tt
ready_of a (SendingImage order outgoing resent) h = tt
ready_of a (EndingImage order image busy) h = tt
ready_of a (DelayingEnd order image busy) h = tt

pub other_ready : (s : Stage) (a : State) → is_audit s ≡ false → Ready a s
other_ready (Probing high low) a e = tt
other_ready Asking a e = tt
other_ready (Gathering expected next copy) a e = tt
other_ready AskingAlarms a e = absurd (cc)
other_ready (GatheringRows expected next) a e = absurd (cc)
other_ready (StartingImage order asked image) a e = tt
other_ready (SendingImage order outgoing resent) a e = tt
other_ready (EndingImage order image busy) a e = tt
other_ready (DelayingEnd order image busy) a e = tt

-- ---- the step

-- another job sends what it wants
pub asks_other : (m : Manager) (lives : ℕ) (unit : Option Onu) (t : Told) → AuditedRight t.history
    → (b : Bool) (s : Stage) (c : Command) → is_audit s ≡ false → m.job ≡ Some s
    → Goes (send_wish b (Some (record { command = c; asks = false; stage = s })) m) lives unit t
asks_other m lives unit t right false s c o j =
    goes_nothing m lives unit t (job_other lives unit m t s j o) right
asks_other m lives unit t right true s c o j =
    let n : Manager = with_job (Some s) m in
    goes_low false c n lives unit t
    (job_other lives unit (record n { low = with_command c n.low }) (drawn_low false t) s refl o)
    right

module _ (m : Manager) (lives : ℕ) (unit : Option Onu) (t : Told) (known : (life command : ℕ) → WasCarried life command t.history → command < t.drawn) (right : AuditedRight t.history) where
  -- another job asks for what it wants
  asks_upload : (b : Bool) → is_free m.low ≡ b → m.job ≡ Some (Probing false false)
      → Goes (send_wish b (wish_of (Probing false false)) m) lives unit t
  asks_upload false e j =
      goes_nothing m lives unit t (job_other lives unit m t (Probing false false) j refl) right
  asks_upload true e j =
      let c = job_command sync_entity request.Upload in
      let n : Manager = with_job (Some Asking) m in
      goes_low true c n lives unit t
      (job_other lives unit (record n { low = with_command c n.low }) (drawn_low true t) Asking refl
      refl) right

  job_at : (s : Stage) → m.job ≡ Some s → AtStage (state_of lives unit m t) s → JobOk lives unit m t
  job_at s e h x f = subst (AtStage (state_of lives unit m t)) (same_Some s x (sym e ∙ f)) h

  asks_row : (expected next : ℕ) → m.job ≡ Some (GatheringRows expected next)
      → Ready (state_of lives unit m t) (GatheringRows expected next)
      → Goes (send_wish (is_free m.low) (wish_of (GatheringRows expected next)) m) lives unit t
  asks_row expected next j (inl at) =
      subst (λ b. Goes (send_wish b (wish_of (GatheringRows expected next)) m) lives unit t)
      (sym (busy_lane m.low at.1.waiting at.1.waits))
      (goes_nothing m lives unit t (job_at (GatheringRows expected next) j at) right)
  asks_row expected next j (inr k) =
      subst (λ b. Goes (send_wish b (wish_of (GatheringRows expected next)) m) lives unit t)
      (sym (free_lane m.low k.0))
      (goes_low false (job_command sync_entity (request.AlarmsNext next))
      (with_job (Some (GatheringRows expected next)) m) lives unit t drawn right)
    where
      n : Manager
      n = record m {
        job = Some (GatheringRows expected next);
        low = with_command (job_command sync_entity (request.AlarmsNext next)) m.low;
      }

      u : Told
      u = drawn_low false t

      asks : AsksRow (state_of lives unit n u) k.1.alarms next
      asks = record {
        proved = k.0.proved;
        waiting = _;
        waits = refl;
        command = refl;
        later = λ same. let lt = k.1.before in absurd (omega (arith, lt, same));
        reply = λ r last. never_replied t known r last;
      }

      drawn : JobOk lives unit n u
      drawn s e =
          let gathers : GathersRows (state_of lives unit n u) expected next = record {
            alarms = k.1.alarms;
            whole = k.1.whole;
            few = k.1.few;
            last = k.1.last;
            count = k.1.count;
            less = k.1.less;
            gathering = k.1.gathering;
            waiting = k.1.waiting;
            put_by = k.1.put_by;
            before = let lt = k.1.before in omega (arith, lt);
            apart = k.1.apart;
          } in
          subst (AtStage (state_of lives unit n u)) (same_Some (GatheringRows expected next) s e)
          (gathers, asks)

  goes_by : (job : Option Stage) → m.job ≡ job
      → ((s : Stage) → job ≡ Some s → Ready (state_of lives unit m t) s)
      → Goes (send_wish (is_free m.low) (wish_in job) m) lives unit t
  goes_by None e r = goes_nothing m lives unit t (job_none lives unit m t e) right
  goes_by (Some (Probing true low)) e r =
      goes_nothing m lives unit t (job_other lives unit m t (Probing true low) e refl) right
  goes_by (Some (Probing false true)) e r =
      goes_nothing m lives unit t (job_other lives unit m t (Probing false true) e refl) right
  goes_by (Some (Probing false false)) e r = asks_upload (is_free m.low) refl e
  goes_by (Some Asking) e r =
      goes_nothing m lives unit t (job_other lives unit m t Asking e refl) right
  goes_by (Some (Gathering expected next copy)) e r =
      asks_other m lives unit t right (is_free m.low) (Gathering expected next copy)
      (job_command sync_entity (request.UploadNext next)) refl e
  goes_by (Some AskingAlarms) e r =
      goes_nothing m lives unit t (job_at AskingAlarms e (r AskingAlarms refl)) right
  goes_by (Some (GatheringRows expected next)) e r =
      asks_row expected next e (r (GatheringRows expected next) refl)
  goes_by (Some (StartingImage order asked image)) e r =
      goes_nothing m lives unit t (job_other lives unit m t (StartingImage order asked image) e refl)
      right
  goes_by (Some (SendingImage order outgoing resent)) e r =
      asks_other m lives unit t right (is_free m.low) (SendingImage order outgoing resent) (image_window order outgoing)
      refl e
  goes_by (Some (EndingImage order image busy)) e r =
      asks_other m lives unit t right (is_free m.low) (EndingImage order image busy) (end_image_command order image) refl e
  goes_by (Some (DelayingEnd order image busy)) e r =
      goes_nothing m lives unit t (job_other lives unit m t (DelayingEnd order image busy) e refl)
      right

  pub goes_on : JobReady lives unit m t → Goes (job_goes_on m) lives unit t
  unfolding job_goes_on
  goes_on r = goes_by m.job refl r

-- a step that sends nothing, and then the job
pub did_then : (a : Outcome) (lives : ℕ) (unit : Option Onu) (t u : Told)
    → tell_all (map ReplyTaken a.taken) t ≡ u → a.noticed ≡ [] → NoneSynced a.manager.reports
    → a.sendings ≡ []
    → ((life command : ℕ) → WasCarried life command u.history → command < u.drawn)
    → AuditedRight u.history → JobReady lives unit a.manager u
    → Did (and_then a job_goes_on) lives unit t
did_then a lives unit t u e unnoticed none nothing known right r =
    let q = silent a.manager in
    let on = goes_on a.manager lives unit u known right r in
    did_quiet (and_then a job_goes_on) lives unit t u
    (ap (λ l. tell_all (map ReplyTaken (a.taken ++ l)
    ++ map NoticeTaken (a.noticed ++ (job_goes_on a.manager).noticed)) t) q.taken
    ∙ ap (λ l. tell_all (map ReplyTaken l
    ++ map NoticeTaken (a.noticed ++ (job_goes_on a.manager).noticed)) t) (append-nil a.taken)
    ∙ ap (λ l. tell_all (map ReplyTaken a.taken
    ++ map NoticeTaken (l ++ (job_goes_on a.manager).noticed)) t) unnoticed
    ∙ ap (λ l. tell_all (map ReplyTaken a.taken ++ map NoticeTaken l) t) q.noticed
    ∙ ap (λ l. tell_all l t) (append-nil (map ReplyTaken a.taken)) ∙ e)
    (subst NoneSynced (sym q.reports) none)
    (record {
      job =
          subst
          (λ (l : List Sending). JobOk lives unit (job_goes_on a.manager).manager
          (tell_all (flat_map sends (l ++ (job_goes_on a.manager).sendings)) u)) (sym nothing)
          on.job;
      right =
          subst
          (λ (l : List Sending). AuditedRight
          (tell_all (flat_map sends (l ++ (job_goes_on a.manager).sendings)) u).history)
          (sym nothing) on.right;
    })
