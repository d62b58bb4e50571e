-- What is asked of the manager, and a second.
use Rattle.std.proofs.Common.{◌≡◌, ℕ, ◌+◌, ◌≤◌, Bool, true, false, cond, List, [], ◌∷◌, Option, Some, None, inr, refl, sym, ap, subst, ◌∙◌, nat_le, nat_lt}
use Rattle.std.proofs.lemmas.Option.{same_Some}
use Rattle.std.proofs.lemmas.Bool.{false≢true}
use Rattle.omci_types.specs.declared.EntityId.{EntityId}
use Rattle.omci_types.specs.declared.Priority.{Priority}
use Rattle.omci_types.specs.declared.Priority.TheVariants.{Low, High}
use Rattle.message_spec.specs.declared.Request.{Request}
use Rattle.lane_spec.specs.declared.LaneTick.{LaneTick}
use Rattle.lane_spec.specs.declared.LaneTick.TheVariants.{Quiet, Repeat, GaveUp}
use Rattle.lane_spec.specs.declared.TheConstants.{MOST_REPEATS}
use Rattle.lane_spec.specs.Command.{probe_command, check_command, ask, command_packets}
use Rattle.lane_spec.specs.Lane.{Lane, Waiting, with_command, is_changed_by, timeout_of, tick_by, tick_waiting, lane_tick}
use Rattle.manager_spec.specs.declared.Job.{Job}
use Rattle.manager_spec.specs.declared.Job.TheVariants as jobs
use Rattle.manager_spec.specs.declared.Refusal.{Refusal}
use Rattle.manager_spec.specs.declared.Refusal.TheVariants.{Unproven}
use Rattle.manager_spec.specs.declared.ResyncReason.TheVariants as reason
use Rattle.manager_spec.specs.declared.AuditReason.TheVariants as audit
use Rattle.manager_spec.specs.declared.ImageReason.TheVariants as image_reason
use Rattle.manager_spec.specs.declared.Report.TheVariants as report
use Rattle.manager_spec.specs.Manager.{Order, Stage, Probing, Asking, Gathering, AskingAlarms, GatheringRows, StartingImage, SendingImage, EndingImage, DelayingEnd, Manager, Outcome, lane_in, with_lane, with_report, leave_step, sends_nothing, and_then, command_sent}
use Rattle.manager_spec.specs.Submitting.{unproven, occupied, job_running, out_of_step, job_in_the_way, other_change, second_change, first_refusal, probe_refusal, needs_copy, submit_refusal, leaves_copy, leave_if, check_refusal, resync_begun, audit_asked, image_refusal, image_asked}
use Rattle.manager_spec.specs.Resync.{with_job}
use Rattle.manager_spec.specs.Upgrade.{start_command, image_failed}
use Rattle.manager_spec.specs.Jobs.{job_of, lost_by, job_lost, waits_for, job_goes_on, resumed_by, job_resumes}
use Rattle.manager_spec.specs.Steps.{loss_seen, lane_ticked, tick_lane, after_tick}
use Rattle.unit_spec.specs.Onu.{Onu}
use Rattle.history_spec.specs.History.{DownloadedRight}
use Rattle.world_spec.specs.History.{Told}
use Rattle.resync_laws.proofs.Sending.{drawn_low, drawn_high}
use Rattle.resync_laws.proofs.Going.{never_replied}
use Rattle.resync_laws.proofs.Mild.{Mild, mild_same, mild_leave}
use Rattle.resync_laws.proofs.Turns.{two_none, five_none, not_running, lost_fails, resume_silent}
use Rattle.downloaded_laws.proofs.Reading.{IsOrder}
use Rattle.downloaded_laws.proofs.Invariants.{state_of, Starts, other_stage, JobOk, NoImage, job_other, job_at, stage_kept, passes_same, LaneKept, lane_same, same_unit, keeps_of}
use Rattle.downloaded_laws.proofs.Telling.{Steady, Known, known_steady, known_sent, NoneDone, done_more, Did, Goes, did_quiet, goes_sent, goes_low, goes_high, goes_both}
use Rattle.downloaded_laws.proofs.Going.{sends_end}
use Rattle.downloaded_laws.proofs.Aside.{stage_no, none_no, same_no, leave_done}

-- ---- the job of a manager that differs elsewhere

job_steady : (lives : ℕ) (unit : Option Onu) (m b : Manager) (t u : Told) → Steady t u
    → b.low ≡ m.low → b.job ≡ m.job → JobOk lives unit m t → JobOk lives unit b u
job_steady lives unit m b t u s low same j x e =
    stage_kept _ _
    (keeps_of lives unit unit m b t u s.low s.passes (lane_same m.low b.low low) (same_unit unit)) x
    (j x (sym same ∙ e))

job_mild : (lives : ℕ) (unit : Option Onu) (m b : Manager) (t : Told)
    → b.low ≡ m.low → b.job ≡ m.job → JobOk lives unit m t → JobOk lives unit b t
job_mild lives unit m b t low same j x e =
    stage_kept _ _
    (keeps_of lives unit unit m b t t refl (passes_same t.history) (lane_same m.low b.low low)
    (same_unit unit)) x (j x (sym same ∙ e))

-- ---- what is asked

-- the first of four
four_first : (a b c d : Option Refusal) → first_refusal (a ∷ b ∷ c ∷ d ∷ []) ≡ None → a ≡ None
four_first None b c d e = refl
four_first (Some a) b c d e = absurd (cc)

is_proved : (b : Bool) (lane : Priority) → cond b None (Some (Unproven lane)) ≡ None → b ≡ true
is_proved true lane e = refl
is_proved false lane e = absurd (cc)

module _ (m : Manager) (lives : ℕ) (unit : Option Onu) (t : Told) (known : Known t) (j : JobOk lives unit m t) (right : DownloadedRight t.history) (quiet : m.reports ≡ []) where
  none_done : NoneDone m.reports
  none_done = subst NoneDone (sym quiet) tt

  -- where no download runs after it
  other_good : (o : Outcome) → o.manager.reports ≡ m.reports → NoImage o.manager
      → Did m.job o lives unit t
  other_good o same none =
      did_quiet m.job o lives unit t (inr (subst NoneDone (sym same) none_done)) right
      (λ u s x e. other_stage x _ (none x e))

  probe_by : (lane : Priority) → m.job ≡ None
      → Did m.job (command_sent false lane probe_command m) lives unit t
  probe_by Low none =
      other_good (command_sent false Low probe_command m) refl
      (none_no (record m { low = with_command probe_command m.low }) none)
  probe_by High none =
      other_good (command_sent false High probe_command m) refl
      (none_no (record m { high = with_command probe_command m.high }) none)

  pub probe_good : (lane : Priority) → probe_refusal lane m ≡ None
      → Did m.job (command_sent false lane probe_command m) lives unit t
  probe_good lane e =
      let k = two_none (occupied lane m) (job_running m) e in
      probe_by lane (not_running m.job k.1)

  pub check_good : check_refusal m ≡ None
      → Did m.job (command_sent false Low check_command m) lives unit t
  check_good e =
      let k = five_none (unproven Low m) (occupied Low m) (out_of_step true m) (job_running m)
      (other_change Low m) e in
      other_good (command_sent false Low check_command m) refl
      (none_no (record m { low = with_command check_command m.low }) (not_running m.job k.1))

  pub resync_good : Did m.job (resync_begun m) lives unit t
  resync_good =
      other_good (resync_begun m) refl
      (stage_no (resync_begun m).manager (Probing true true) refl refl)

  pub audit_good : Did m.job (audit_asked m) lives unit t
  audit_good =
      other_good (audit_asked m) refl (stage_no (audit_asked m).manager AskingAlarms refl refl)

  -- a download is asked for
  pub image_good : (order : Order) (asked : ℕ) (image : List ℕ) → IsOrder order image → 1 ≤ asked
      → asked ≤ 256 → image_refusal m ≡ None → Did m.job (image_asked order asked image m) lives unit t
  image_good order asked image ordered some most e =
      let s = StartingImage order asked image in
      let c = start_command order asked image in
      let n : Manager = record m { job = Some s; low = with_command c m.low } in
      let first = four_first (unproven Low m) (occupied Low m) (job_running m) (other_change Low m) e in
      did_quiet m.job (image_asked order asked image m) lives unit t (inr none_done) right
      (λ u v. goes_low false c (with_job (Some s) m) lives unit u
      (job_at lives unit n (drawn_low false u) s refl
      (starts order asked image ordered some most (is_proved m.low.proved Low first) u
      (known_steady t u v known))))
    where
      starts : (order : Order) (asked : ℕ) (image : List ℕ) → IsOrder order image → 1 ≤ asked
          → asked ≤ 256 → m.low.proved ≡ true → (u : Told) → Known u
          → Starts (state_of lives unit (record m {
            job = Some (StartingImage order asked image);
            low = with_command (start_command order asked image) m.low;
          }) (drawn_low false u)) order asked image
      starts order asked image ordered some most proved u known = record {
        ordered = ordered;
        some = some;
        most = most;
        proved = proved;
        waiting = _;
        waits = refl;
        command = refl;
        reply = λ r last. never_replied u known r last;
      }

  -- ---- a request for an entity

  mild_if : (b : Bool) → Mild m (leave_if b m)
  mild_if true = mild_leave m
  mild_if false = mild_same m

  if_done : (b : Bool) → NoneDone (leave_if b m).reports
  if_done true = leave_done m none_done
  if_done false = none_done

  submit_by : (b : Manager) → Mild m b → NoneDone b.reports → (lane : Priority)
      (entity : EntityId) (r : Request) → job_in_the_way lane r m ≡ None
      → Did m.job (command_sent false lane (ask entity r) b) lives unit t
  submit_by b k done Low entity r way =
      let c = ask entity r in
      did_quiet m.job (command_sent false Low c b) lives unit t (inr done) right
      (λ u s x e. other_stage x _
      (none_no (record b { low = with_command c b.low }) (k.job ∙ not_running m.job way) x e))
  submit_by b k done High entity r way =
      let c = ask entity r in
      did_quiet m.job (command_sent false High c b) lives unit t (inr done) right
      (λ u s. goes_high c b lives unit u
      (job_mild lives unit b (record b { high = with_command c b.high }) (drawn_high u) refl refl
      (job_drawn u (job_steady lives unit m b t u s k.low k.job j))))
    where
      job_drawn : (u : Told) → JobOk lives unit b u → JobOk lives unit b (drawn_high u)
      job_drawn u h x e = h x e

  pub submit_good : (lane : Priority) (entity : EntityId) (r : Request)
      → submit_refusal lane r m ≡ None
      → Did m.job (command_sent false lane (ask entity r) (leave_if (leaves_copy r) m)) lives unit t
  submit_good lane entity r e =
      let k = five_none (unproven lane m) (occupied lane m) (out_of_step (needs_copy r) m)
      (job_in_the_way lane r m) (second_change r lane m) e in
      submit_by (leave_if (leaves_copy r) m) (mild_if (leaves_copy r)) (if_done (leaves_copy r)) lane
      entity r k.1

-- ---- a second in a lane

-- its command waits on
lane_later : (l : Lane) (w v : Waiting) → l.outstanding ≡ Some w → v.command ≡ w.command
    → LaneKept l (record l { outstanding = Some v })
lane_later l w v e same = record {
  proved = λ p. p;
  waits = λ x f. (v, refl, same ∙ ap (λ (y : Waiting). y.command) (same_Some w x (sym e ∙ f)));
  none = λ f. absurd (cc);
}

lost_by_done : (job : Job) (tci : ℕ) (m : Manager) → NoneDone m.reports
    → NoneDone (lost_by job tci m).reports
lost_by_done jobs.Resync tci m n =
    leave_done (with_report (report.ResyncFailed (reason.GaveUp tci)) (with_job None m))
    (done_more m.reports (report.ResyncFailed (reason.GaveUp tci)) n refl)
lost_by_done jobs.Audit tci m n =
    done_more m.reports (report.AuditFailed (audit.GaveUp tci)) n refl
lost_by_done jobs.Image tci m n =
    leave_done (image_failed (image_reason.GaveUp tci) m)
    (done_more m.reports (report.ImageFailed (image_reason.GaveUp tci)) n refl)

lost_done : (job : Option Stage) (tci : ℕ) (m : Manager) → NoneDone m.reports
    → NoneDone (job_lost job tci m).reports
lost_done None tci m n = n
lost_done (Some s) tci m n = lost_by_done (job_of s) tci m n

loss_done : (waits changes : Bool) (tci : ℕ) (m : Manager) → NoneDone m.reports
    → NoneDone (loss_seen waits changes tci m).reports
loss_done true changes tci m n = lost_done m.job tci m n
loss_done false true tci m n = leave_done m n
loss_done false false tci m n = n

same_reports : (lane : Priority) (l : Lane) (m : Manager) → (with_lane lane l m).reports ≡ m.reports
same_reports Low l m = refl
same_reports High l m = refl

ticked_done : (tick : LaneTick) (lane : Priority) (o : Option Waiting) (l : Lane) (m : Manager)
    → NoneDone m.reports → NoneDone (lane_ticked tick lane o l m).manager.reports
ticked_done Quiet lane o l m n = subst NoneDone (sym (same_reports lane l m)) n
ticked_done Repeat lane o l m n = subst NoneDone (sym (same_reports lane l m)) n
ticked_done (GaveUp tci) lane o l m n =
    loss_done (waits_for lane m.job) (is_changed_by o) tci
    (with_report (report.GaveUp tci) (with_lane lane l m))
    (done_more (with_lane lane l m).reports (report.GaveUp tci)
    (subst NoneDone (sym (same_reports lane l m)) n) refl)

lane_done : (lane : Priority) (m : Manager) → NoneDone m.reports
    → NoneDone (tick_lane lane m).manager.reports
lane_done lane m n =
    ticked_done (lane_tick (lane_in lane m)).tick lane (lane_in lane m).outstanding
    (lane_tick (lane_in lane m)).lane m n

module _ (m : Manager) (lives : ℕ) (unit : Option Onu) (t : Told) (j : JobOk lives unit m t) where
  loss_goes : (waits changes : Bool) (tci : ℕ) (x : Manager)
      → (waits ≡ false → JobOk lives unit x t)
      → Goes (sends_nothing (loss_seen waits changes tci x)) lives unit t
  loss_goes true changes tci x ok =
      job_other lives unit (job_lost x.job tci x) t
      (none_no (job_lost x.job tci x) (lost_fails x.job tci x (λ e. e)).job)
  loss_goes false true tci x ok =
      let k = mild_leave x in job_mild lives unit x (leave_step x) t k.low k.job (ok refl)
  loss_goes false false tci x ok = ok refl

  -- a job that doesn't wait for the low lane is no download
  not_waiting : (job : Option Stage) → m.job ≡ job → waits_for Low job ≡ false → NoImage m
  not_waiting None e w = none_no m e
  not_waiting (Some (Probing high low)) e w = stage_no m (Probing high low) e refl
  not_waiting (Some Asking) e w = absurd (false≢true (sym w))
  not_waiting (Some (Gathering expected next copy)) e w = absurd (false≢true (sym w))
  not_waiting (Some AskingAlarms) e w = absurd (false≢true (sym w))
  not_waiting (Some (GatheringRows expected next)) e w = absurd (false≢true (sym w))
  not_waiting (Some (StartingImage order asked image)) e w = absurd (false≢true (sym w))
  not_waiting (Some (SendingImage order outgoing resent)) e w = absurd (false≢true (sym w))
  not_waiting (Some (EndingImage order image busy)) e w = absurd (false≢true (sym w))
  not_waiting (Some (DelayingEnd order image busy)) e w = absurd (false≢true (sym w))

  later_job : (w v : Waiting) → m.low.outstanding ≡ Some w → v.command ≡ w.command
      → JobOk lives unit (record m { low = record m.low { outstanding = Some v } }) t
  later_job w v e same x f =
      stage_kept (state_of lives unit m t) _
      (keeps_of lives unit unit m (record m { low = record m.low { outstanding = Some v } }) t t refl
      (passes_same t.history) (lane_later m.low w v e same) (same_unit unit)) x (j x f)

  low_by : (w : Waiting) → m.low.outstanding ≡ Some w → (over may : Bool)
      → Goes (lane_ticked (tick_by over may w m.low).tick Low (Some w) (tick_by over may w m.low).lane m)
      lives unit t
  low_by w e false may = later_job w (record w { ticks = w.ticks + 1 }) e refl
  low_by w e true true =
      let v : Waiting = record w { ticks = 0; repeats = w.repeats + 1 } in
      goes_sent (lane_ticked Repeat Low (Some w) (record m.low { outstanding = Some v }) m) Low false
      false (command_packets w.tci w.command) lives unit t t refl refl (later_job w v e refl)
  low_by w e true false =
      let l : Lane = record m.low { proved = false; outstanding = None } in
      let n : Manager = with_report (report.GaveUp w.tci) (record m { low = l }) in
      loss_goes (waits_for Low m.job) (is_changed_by (Some w)) w.tci n
      (λ f. job_other lives unit n t (same_no m n refl (not_waiting m.job refl f)))

  high_by : (w : Waiting) → m.high.outstanding ≡ Some w → (over may : Bool)
      → Goes (lane_ticked (tick_by over may w m.high).tick High (Some w) (tick_by over may w m.high).lane m)
      lives unit t
  high_by w e false may = λ x f. j x f
  high_by w e true true =
      let v : Waiting = record w { ticks = 0; repeats = w.repeats + 1 } in
      goes_sent (lane_ticked Repeat High (Some w) (record m.high { outstanding = Some v }) m) High false
      false (command_packets w.tci w.command) lives unit t t refl refl (λ x f. j x f)
  high_by w e true false =
      let l : Lane = record m.high { proved = false; outstanding = None } in
      loss_goes (waits_for High m.job) (is_changed_by (Some w)) w.tci
      (with_report (report.GaveUp w.tci) (record m { high = l })) (λ f x g. j x g)

  tick_by_waiting : (lane : Priority) (o : Option Waiting) → (lane_in lane m).outstanding ≡ o
      → Goes (lane_ticked (tick_waiting o (lane_in lane m)).tick lane o (tick_waiting o (lane_in lane m)).lane m)
      lives unit t
  tick_by_waiting Low None e = λ x f. j x f
  tick_by_waiting High None e = λ x f. j x f
  tick_by_waiting Low (Some w) e =
      low_by w e (nat_le (timeout_of m.low.priority) (w.ticks + 1)) (nat_lt w.repeats MOST_REPEATS)
  tick_by_waiting High (Some w) e =
      high_by w e (nat_le (timeout_of m.high.priority) (w.ticks + 1)) (nat_lt w.repeats MOST_REPEATS)

  lane_goes : (lane : Priority) → Goes (tick_lane lane m) lives unit t
  unfolding lane_tick
  lane_goes lane = tick_by_waiting lane (lane_in lane m).outstanding refl

-- ---- the job after a second

resume_goes : (job : Option Stage) (m : Manager) (lives : ℕ) (unit : Option Onu) (t : Told)
    → m.job ≡ job → Known t → JobOk lives unit m t → Goes (resumed_by job m) lives unit t
unfolding job_goes_on
resume_goes (Some (DelayingEnd order image busy)) m lives unit t e known j =
    let at = j (DelayingEnd order image busy) e in
    let n = with_job (Some (EndingImage order image busy)) m in
    sends_end n lives unit t known order image busy refl
    (inr (record {
      free = record { proved = at.proved; none = at.none };
      ordered = at.ordered;
      has = at.has;
    }))
resume_goes _ m lives unit t e known j = j

pub tick_good : (m : Manager) (lives : ℕ) (unit : Option Onu) (t : Told) → Known t
    → JobOk lives unit m t → DownloadedRight t.history → m.reports ≡ []
    → Did m.job (after_tick m) lives unit t
unfolding after_tick
tick_good m lives unit t known j right quiet =
    let a : Outcome = tick_lane High m in
    let b : Outcome = and_then a (tick_lane Low) in
    let q = resume_silent b.manager.job b.manager in
    did_quiet m.job (and_then b job_resumes) lives unit t
    (inr (subst NoneDone (sym q.reports)
    (lane_done Low a.manager (lane_done High m (subst NoneDone (sym quiet) tt))))) right
    (λ u s. goes_both b job_resumes lives unit u
    (goes_both a (tick_lane Low) lives unit u
    (lane_goes m lives unit u (job_steady lives unit m m t u s refl refl j) High)
    (λ v k i. lane_goes a.manager lives unit v i Low))
    (λ v k i. resume_goes b.manager.job b.manager lives unit v refl
    (known_sent u v k (known_steady t u s known)) i))
