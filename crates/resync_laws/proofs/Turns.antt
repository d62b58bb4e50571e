-- What is asked of the manager, and a second.
use Rattle.std.proofs.Common.{◌≡◌, ℕ, ◌+◌, Bool, true, false, List, [], ◌∷◌, ◌++◌, map, Option, Some, None, refl, sym, ap, subst, ◌∙◌, nat_le, nat_lt}
use Rattle.std.proofs.lemmas.Option.{same_Some}
use Rattle.std.proofs.lemmas.Bool.{false≢true}
use Rattle.omci_types.specs.declared.EntityId.{EntityId}
use Rattle.omci_types.specs.declared.Priority.{Priority}
use Rattle.omci_types.specs.declared.Priority.TheVariants.{Low, High}
use Rattle.message_spec.specs.declared.Request.{Request}
use Rattle.link_spec.specs.Link.{Sent, Link}
use Rattle.lane_spec.specs.declared.LaneTick.{LaneTick}
use Rattle.lane_spec.specs.declared.LaneTick.TheVariants.{Quiet, Repeat, GaveUp}
use Rattle.lane_spec.specs.declared.TheConstants.{MOST_REPEATS}
use Rattle.message_spec.specs.declared.Request.TheVariants as request
use Rattle.lane_spec.specs.Command.{Command, probe_command, check_command, ask, job_command, sync_entity, command_packets}
use Rattle.lane_spec.specs.Lane.{Lane, Waiting, with_command, is_changed_by, timeout_of, tick_by, tick_waiting, lane_tick}
use Rattle.manager_spec.specs.declared.ResyncReason.TheVariants as reason
use Rattle.manager_spec.specs.declared.Refusal.{Refusal}
use Rattle.manager_spec.specs.declared.Report.TheVariants as report
use Rattle.manager_spec.specs.Manager.{Stage, Probing, Asking, Gathering, AskingAlarms, GatheringRows, StartingImage, SendingImage, EndingImage, DelayingEnd, Order, Manager, Outcome, lane_in, with_lane, with_report, leave_step, sends_nothing, and_then, command_sent}
use Rattle.manager_spec.specs.Submitting.{unproven, occupied_by, occupied, running, job_running, out_of_step, job_in_the_way, other_change, second_change, first_refusal, probe_refusal, needs_copy, submit_refusal, leaves_copy, leave_if, check_refusal, resync_refusal, resync_begun, audit_refusal, audit_asked, image_refusal, image_asked}
use Rattle.manager_spec.specs.declared.AuditReason.TheVariants as audit
use Rattle.manager_spec.specs.declared.Job.{Job}
use Rattle.manager_spec.specs.declared.Job.TheVariants as jobs
use Rattle.manager_spec.specs.Resync.{with_job}
use Rattle.manager_spec.specs.declared.ImageReason.TheVariants as image_reason
use Rattle.manager_spec.specs.Upgrade.{start_command, image_failed}
use Rattle.manager_spec.specs.Jobs.{job_of, lost_by, job_lost, waits_for, resumed_by, job_resumes}
use Rattle.manager_spec.specs.Steps.{loss_seen, lane_ticked, tick_lane, after_tick}
use Rattle.unit_spec.specs.Onu.{Onu}
use Rattle.alarm_spec.specs.Alarms.{Alarm}
use Rattle.history_spec.specs.History.{Entry}
use Rattle.world_spec.specs.Happenings.{ReplyTaken, NoticeTaken}
use Rattle.world_spec.specs.History.{Told, tell_all}
use Rattle.resync_laws.proofs.Reading.{is_plain}
use Rattle.resync_laws.proofs.Invariants.{AtStage, JobOk, Held}
use Rattle.resync_laws.proofs.Sending.{sent_names, low_later, high_later, low_again, high_again, low_ended, high_ended}
use Rattle.resync_laws.proofs.Telling.{NoneSynced, none_more, Did, Goes, did_quiet, goes_nothing, goes_sent, goes_low, goes_high, goes_both}
use Rattle.resync_laws.proofs.Going.{Ready, job_at, job_none, goes_on, IsSilent, silent}
use Rattle.resync_laws.proofs.Mild.{Mild, mild_same, mild_leave, Fails, fails, fails_audit, fails_image}

-- ---- refusals

pub two_none : (a b : Option Refusal) → first_refusal (a ∷ b ∷ []) ≡ None → (a ≡ None) × (b ≡ None)
two_none None None e = (refl, refl)
two_none None (Some b) e = absurd (cc)
two_none (Some a) b e = absurd (cc)

pub three_none : (a b c : Option Refusal) → first_refusal (a ∷ b ∷ c ∷ []) ≡ None
    → (a ≡ None) × (b ≡ None) × (c ≡ None)
three_none None None None e = (refl, refl, refl)
three_none None None (Some c) e = absurd (cc)
three_none None (Some b) c e = absurd (cc)
three_none (Some a) b c e = absurd (cc)

-- the second
pub four_none : (a b c d : Option Refusal) → first_refusal (a ∷ b ∷ c ∷ d ∷ []) ≡ None → b ≡ None
four_none None None None None e = refl
four_none None None None (Some d) e = absurd (cc)
four_none None None (Some c) d e = absurd (cc)
four_none None (Some b) c d e = absurd (cc)
four_none (Some a) b c d e = absurd (cc)

-- the second and the fourth
pub five_none : (a b c d e : Option Refusal) → first_refusal (a ∷ b ∷ c ∷ d ∷ e ∷ []) ≡ None
    → (b ≡ None) × (d ≡ None)
five_none None None None None e f = (refl, refl)
five_none None None None (Some d) e f = absurd (cc)
five_none None None (Some c) d e f = absurd (cc)
five_none None (Some b) c d e f = absurd (cc)
five_none (Some a) b c d e f = absurd (cc)

pub not_occupied : (o : Option Waiting) → occupied_by o ≡ None → o ≡ None
not_occupied None e = refl
not_occupied (Some w) e = absurd (cc)

pub not_running : (job : Option Stage) → running job ≡ None → job ≡ None
not_running None e = refl
not_running (Some s) e = absurd (cc)

module _ (m : Manager) (link : Link) (lives : ℕ) (unit : Option Onu) (t : Told) (h : Held link.packets unit m.low m.high t) (j : JobOk lives unit m.low m.job t.low t.asking t.history) (quiet : m.reports ≡ []) where
  none_told : NoneSynced m.reports
  none_told = subst NoneSynced (sym quiet) tt

  -- ---- a probe

  probe_by : (lane : Priority) → (lane_in lane m).outstanding ≡ None → m.job ≡ None
      → Goes (command_sent false lane probe_command m) link lives unit t
  probe_by Low free none = goes_low false probe_command m link lives unit t h free (job_none lives unit _ m.job _ _ _ none)
  probe_by High free none = goes_high probe_command m link lives unit t h free refl refl refl j

  sent_quiet : (lane : Priority) (c : Command) → Goes (command_sent false lane c m) link lives unit t
      → Did (command_sent false lane c m) link lives unit t
  sent_quiet Low c g = did_quiet (command_sent false Low c m) link lives unit t t refl none_told g
  sent_quiet High c g = did_quiet (command_sent false High c m) link lives unit t t refl none_told g

  pub probe_good : (lane : Priority) → probe_refusal lane m ≡ None
      → Did (command_sent false lane probe_command m) link lives unit t
  probe_good lane e =
      let k = two_none (occupied lane m) (job_running m) e in
      sent_quiet lane probe_command (probe_by lane (not_occupied (lane_in lane m).outstanding k.0) (not_running m.job k.1))

  pub check_good : check_refusal m ≡ None → Did (command_sent false Low check_command m) link lives unit t
  check_good e =
      let k = five_none (unproven Low m) (occupied Low m) (out_of_step true m) (job_running m) (other_change Low m) e in
      sent_quiet Low check_command (goes_low false check_command m link lives unit t h (not_occupied m.low.outstanding k.0) (job_none lives unit _ m.job _ _ _ (not_running m.job k.1)))

  pub resync_good : resync_refusal m ≡ None → Did (resync_begun m) link lives unit t
  resync_good e =
      let k = three_none (occupied High m) (occupied Low m) (job_running m) e in
      let begun : Manager = with_job (Some (Probing true true)) m in
      let probing : Option Stage = Some (Probing true true) in
      did_quiet (resync_begun m) link lives unit t t refl none_told
      (goes_both (command_sent false High probe_command begun) (command_sent false Low probe_command) link lives unit t
      (goes_high probe_command begun link lives unit t h (not_occupied m.high.outstanding k.0) refl refl refl (job_at lives unit m.low probing t.low t.asking t.history (Probing true true) refl tt))
      (λ l u g. goes_low false probe_command (command_sent false High probe_command begun).manager l lives unit u g.held (not_occupied m.low.outstanding k.1) (job_at lives unit _ probing u.drawn u.asking u.history (Probing true true) refl tt)))

  pub audit_good : audit_refusal m ≡ None → Did (audit_asked m) link lives unit t
  audit_good e =
      let k = three_none (unproven Low m) (occupied Low m) (job_running m) e in
      let c = job_command sync_entity (request.Alarms 0) in
      did_quiet (audit_asked m) link lives unit t t refl none_told
      (goes_low true c (with_job (Some AskingAlarms) m) link lives unit t h (not_occupied m.low.outstanding k.1)
      (job_at lives unit (with_command c m.low) (Some AskingAlarms) t.drawn t.drawn t.history AskingAlarms refl tt))

  pub image_good : (order : Order) (asked : ℕ) (image : List ℕ) → image_refusal m ≡ None
      → Did (image_asked order asked image m) link lives unit t
  image_good order asked image e =
      let k = four_none (unproven Low m) (occupied Low m) (job_running m) (other_change Low m) e in
      let c = start_command order asked image in
      let s : Stage = StartingImage order asked image in
      did_quiet (image_asked order asked image m) link lives unit t t refl none_told
      (goes_low false c (with_job (Some s) m) link lives unit t h (not_occupied m.low.outstanding k)
      (job_at lives unit (with_command c m.low) (Some s) t.drawn t.asking t.history s refl tt))

  -- ---- a request for an entity

  mild_if : (b : Bool) → Mild m (leave_if b m)
  mild_if true = mild_leave m
  mild_if false = mild_same m

  module _ (b : Manager) (k : Mild m b) where
    mild_held : Held link.packets unit b.low b.high t
    mild_held =
        subst (λ l. Held link.packets unit l b.high t) (sym k.low)
        (subst (λ l. Held link.packets unit m.low l t) (sym k.high) h)

    mild_job : JobOk lives unit b.low b.job t.low t.asking t.history
    mild_job =
        subst (λ l. JobOk lives unit l b.job t.low t.asking t.history) (sym k.low)
        (subst (λ o. JobOk lives unit m.low o t.low t.asking t.history) (sym k.job) j)

    submit_by : (lane : Priority) (entity : EntityId) (r : Request) → is_plain r ≡ true → (lane_in lane m).outstanding ≡ None → job_in_the_way lane r m ≡ None
        → Did (command_sent false lane (ask entity r) b) link lives unit t
    submit_by Low entity r plainly free way =
        did_quiet (command_sent false Low (ask entity r) b) link lives unit t t refl (k.reports none_told)
        (goes_low false (ask entity r) b link lives unit t mild_held (ap (λ (l : Lane). l.outstanding) k.low ∙ free) (job_none lives unit _ b.job _ _ _ (k.job ∙ not_running m.job way)))
    submit_by High entity r plainly free way =
        did_quiet (command_sent false High (ask entity r) b) link lives unit t t refl (k.reports none_told)
        (goes_high (ask entity r) b link lives unit t mild_held (ap (λ (l : Lane). l.outstanding) k.high ∙ free) plainly refl refl mild_job)

  pub submit_good : (lane : Priority) (entity : EntityId) (r : Request) → is_plain r ≡ true → submit_refusal lane r m ≡ None
      → Did (command_sent false lane (ask entity r) (leave_if (leaves_copy r) m)) link lives unit t
  submit_good lane entity r plainly e =
      let k = five_none (unproven lane m) (occupied lane m) (out_of_step (needs_copy r) m) (job_in_the_way lane r m) (second_change r lane m) e in
      submit_by (leave_if (leaves_copy r) m) (mild_if (leaves_copy r)) lane entity r plainly (not_occupied (lane_in lane m).outstanding k.0) k.1

-- ---- a second in a lane

stage_later : (lives : ℕ) (unit : Option Onu) (low : Lane) (w v : Waiting) (tlow asking : ℕ) (history : List Entry) (s : Stage)
    → low.outstanding ≡ Some w → v.command ≡ w.command → AtStage lives unit low tlow asking history s
    → AtStage lives unit (record low { outstanding = Some v }) tlow asking history s
stage_later lives unit low w v tlow asking history (Probing high' low') e same h = tt
stage_later lives unit low w v tlow asking history AskingAlarms e same h = tt
stage_later lives unit low w v tlow asking history (GatheringRows expected next) e same h = tt
stage_later lives unit low w v tlow asking history (StartingImage order asked image) e same h = tt
stage_later lives unit low w v tlow asking history (SendingImage order outgoing resent) e same h = tt
stage_later lives unit low w v tlow asking history (EndingImage order image busy) e same h = tt
stage_later lives unit low w v tlow asking history (DelayingEnd order image busy) e same h = tt
stage_later lives unit low w v tlow asking history Asking e same h = record {
  proved = h.proved;
  waiting = v;
  waits = refl;
  command = same ∙ ap (λ (x : Waiting). x.command) (same_Some w h.waiting (sym e ∙ h.waits)) ∙ h.command;
  own = h.own;
  reply = h.reply;
  fresh = h.fresh;
}
stage_later lives unit low w v tlow asking history (Gathering expected next copy) e same h = (
  h.0,
  record {
    proved = h.1.proved;
    waiting = v;
    waits = refl;
    command = same ∙ ap (λ (x : Waiting). x.command) (same_Some w h.1.waiting (sym e ∙ h.1.waits)) ∙ h.1.command;
    reply = h.1.reply;
  },
)

-- the job, where there is one, has failed
lost_by_fails : (job : Job) (tci : ℕ) (m : Manager) → Fails m (lost_by job tci m)
lost_by_fails jobs.Resync tci m = fails (reason.GaveUp tci) m
lost_by_fails jobs.Audit tci m = fails_audit (audit.GaveUp tci) m
lost_by_fails jobs.Image tci m =
    let x = image_failed (image_reason.GaveUp tci) m in
    let f = fails_image (image_reason.GaveUp tci) m in
    let k = mild_leave x in
    record {
      low = k.low ∙ f.low;
      high = k.high ∙ f.high;
      job = k.job ∙ f.job;
      reports = λ n. k.reports (f.reports n);
    }

pub lost_fails : (job : Option Stage) (tci : ℕ) (m : Manager) → (job ≡ None → m.job ≡ None)
    → Fails m (job_lost job tci m)
lost_fails None tci m e = record { low = refl; high = refl; job = e refl; reports = λ n. n }
lost_fails (Some stage) tci m e = lost_by_fails (job_of stage) tci m

quiet_loss : (waits changes : Bool) (tci : ℕ) (m : Manager) → NoneSynced m.reports → NoneSynced (loss_seen waits changes tci m).reports
quiet_loss true changes tci m n = (lost_fails m.job tci m (λ e. e)).reports n
quiet_loss false true tci m n = (mild_leave m).reports n
quiet_loss false false tci m n = n

same_reports : (lane : Priority) (l : Lane) (m : Manager) → (with_lane lane l m).reports ≡ m.reports
same_reports Low l m = refl
same_reports High l m = refl

quiet_ticked : (tick : LaneTick) (lane : Priority) (o : Option Waiting) (l : Lane) (m : Manager) → NoneSynced m.reports → NoneSynced (lane_ticked tick lane o l m).manager.reports
quiet_ticked Quiet lane o l m n = subst NoneSynced (sym (same_reports lane l m)) n
quiet_ticked Repeat lane o l m n = subst NoneSynced (sym (same_reports lane l m)) n
quiet_ticked (GaveUp tci) lane o l m n =
    quiet_loss (waits_for lane m.job) (is_changed_by o) tci (with_report (report.GaveUp tci) (with_lane lane l m))
    (none_more (with_lane lane l m).reports (report.GaveUp tci) (subst NoneSynced (sym (same_reports lane l m)) n) refl)

module _ (m : Manager) (link : Link) (lives : ℕ) (unit : Option Onu) (t : Told) (h : Held link.packets unit m.low m.high t) (j : JobOk lives unit m.low m.job t.low t.asking t.history) where
  -- a job that waited for the lane has failed
  failed_goes : (tci : ℕ) (x : Manager) → Held link.packets unit x.low x.high t → Goes (sends_nothing (job_lost x.job tci x)) link lives unit t
  failed_goes tci x k =
      let f = lost_fails x.job tci x (λ e. e) in
      let y : Manager = job_lost x.job tci x in
      goes_nothing y link lives unit t
      (subst (λ l. Held link.packets unit l y.high t) (sym f.low) (subst (λ l. Held link.packets unit x.low l t) (sym f.high) k))
      (job_none lives unit y.low y.job t.low t.asking t.history f.job)

  loss_goes : (waits changes : Bool) (tci : ℕ) (x : Manager) → Held link.packets unit x.low x.high t
      → (waits ≡ false → JobOk lives unit x.low x.job t.low t.asking t.history) → Goes (sends_nothing (loss_seen waits changes tci x)) link lives unit t
  loss_goes true changes tci x k ok = failed_goes tci x k
  loss_goes false true tci x k ok =
      let q = mild_leave x in
      let y : Manager = leave_step x in
      goes_nothing y link lives unit t
      (subst (λ l. Held link.packets unit l y.high t) (sym q.low) (subst (λ l. Held link.packets unit x.low l t) (sym q.high) k))
      (subst (λ l. JobOk lives unit l y.job t.low t.asking t.history) (sym q.low) (subst (λ o. JobOk lives unit x.low o t.low t.asking t.history) (sym q.job) (ok refl)))
  loss_goes false false tci x k ok = goes_nothing x link lives unit t k (ok refl)

  -- a job that doesn't wait for the low lane has yet to ask for the snapshot
  unasked : (job : Option Stage) → m.job ≡ job → waits_for Low job ≡ false → (low : Lane) → JobOk lives unit low m.job t.low t.asking t.history
  unasked None e w low = job_none lives unit low m.job t.low t.asking t.history e
  unasked (Some (Probing high' low')) e w low = job_at lives unit low m.job t.low t.asking t.history (Probing high' low') e tt
  unasked (Some AskingAlarms) e w low = absurd (false≢true (sym w))
  unasked (Some (GatheringRows expected next)) e w low = absurd (false≢true (sym w))
  unasked (Some (StartingImage order asked image)) e w low = absurd (false≢true (sym w))
  unasked (Some (SendingImage order outgoing resent)) e w low = absurd (false≢true (sym w))
  unasked (Some (EndingImage order image busy)) e w low = absurd (false≢true (sym w))
  unasked (Some (DelayingEnd order image busy)) e w low = absurd (false≢true (sym w))
  unasked (Some Asking) e w low = absurd (false≢true (sym w))
  unasked (Some (Gathering expected next copy)) e w low = absurd (false≢true (sym w))

  low_by : (w : Waiting) → m.low.outstanding ≡ Some w → (over may : Bool)
      → Goes (lane_ticked (tick_by over may w m.low).tick Low (Some w) (tick_by over may w m.low).lane m) link lives unit t
  low_by w e false may =
      let v : Waiting = record w { ticks = w.ticks + 1 } in
      goes_nothing (record m { low = record m.low { outstanding = Some v } }) link lives unit t
      (low_later w v link.packets unit m.low m.high t h e refl)
      (λ s g. stage_later lives unit m.low w v t.low t.asking t.history s e refl (j s g))
  low_by w e true true =
      let v : Waiting = record w { ticks = 0; repeats = w.repeats + 1 } in
      let l : Lane = record m.low { outstanding = Some v } in
      let ps = command_packets w.tci w.command in
      goes_sent (lane_ticked Repeat Low (Some w) l m)
      (record { lane = Low; drawn = false; asks = false; packets = ps }) link lives unit t refl
      (low_again v link unit l m.high t (low_later w v link.packets unit m.low m.high t h e refl) refl)
      (subst (λ u. JobOk lives unit l m.job u.low u.asking u.history) (sym (sent_names Low ps t))
      (λ s g. stage_later lives unit m.low w v t.low t.asking t.history s e refl (j s g)))
  low_by w e true false =
      let l : Lane = record m.low { proved = false; outstanding = None } in
      loss_goes (waits_for Low m.job) (is_changed_by (Some w)) w.tci (with_report (report.GaveUp w.tci) (record m { low = l }))
      (low_ended false link.packets unit m.low m.high t h)
      (λ f. unasked m.job refl f l)

  high_by : (w : Waiting) → m.high.outstanding ≡ Some w → (over may : Bool)
      → Goes (lane_ticked (tick_by over may w m.high).tick High (Some w) (tick_by over may w m.high).lane m) link lives unit t
  high_by w e false may =
      let v : Waiting = record w { ticks = w.ticks + 1 } in
      goes_nothing (record m { high = record m.high { outstanding = Some v } }) link lives unit t
      (high_later w v link.packets unit m.low m.high t h e refl) j
  high_by w e true true =
      let v : Waiting = record w { ticks = 0; repeats = w.repeats + 1 } in
      let l : Lane = record m.high { outstanding = Some v } in
      let ps = command_packets w.tci w.command in
      goes_sent (lane_ticked Repeat High (Some w) l m)
      (record { lane = High; drawn = false; asks = false; packets = ps }) link lives unit t refl
      (high_again v link unit m.low l t (high_later w v link.packets unit m.low m.high t h e refl) refl)
      (subst (λ u. JobOk lives unit m.low m.job u.low u.asking u.history) (sym (sent_names High ps t)) j)
  high_by w e true false =
      let l : Lane = record m.high { proved = false; outstanding = None } in
      loss_goes (waits_for High m.job) (is_changed_by (Some w)) w.tci (with_report (report.GaveUp w.tci) (record m { high = l }))
      (high_ended false link.packets unit m.low m.high t h) (λ f. j)

  tick_by_waiting : (lane : Priority) (o : Option Waiting) → (lane_in lane m).outstanding ≡ o
      → Goes (lane_ticked (tick_waiting o (lane_in lane m)).tick lane o (tick_waiting o (lane_in lane m)).lane m) link lives unit t
  tick_by_waiting Low None e = goes_nothing m link lives unit t h j
  tick_by_waiting High None e = goes_nothing m link lives unit t h j
  tick_by_waiting Low (Some w) e = low_by w e (nat_le (timeout_of m.low.priority) (w.ticks + 1)) (nat_lt w.repeats MOST_REPEATS)
  tick_by_waiting High (Some w) e = high_by w e (nat_le (timeout_of m.high.priority) (w.ticks + 1)) (nat_lt w.repeats MOST_REPEATS)

  lane_goes : (lane : Priority) → Goes (tick_lane lane m) link lives unit t
  unfolding lane_tick
  lane_goes lane = tick_by_waiting lane (lane_in lane m).outstanding refl

pub lane_quiet : (lane : Priority) (m : Manager) → NoneSynced m.reports → NoneSynced (tick_lane lane m).manager.reports
lane_quiet lane m n = quiet_ticked (lane_tick (lane_in lane m)).tick lane (lane_in lane m).outstanding (lane_tick (lane_in lane m)).lane m n

taken_none : (tick : LaneTick) (lane : Priority) (o : Option Waiting) (l : Lane) (m : Manager) → (lane_ticked tick lane o l m).taken ≡ []
taken_none Quiet lane o l m = refl
taken_none Repeat lane o l m = refl
taken_none (GaveUp tci) lane o l m = refl

noticed_none : (tick : LaneTick) (lane : Priority) (o : Option Waiting) (l : Lane) (m : Manager) → (lane_ticked tick lane o l m).noticed ≡ []
noticed_none Quiet lane o l m = refl
noticed_none Repeat lane o l m = refl
noticed_none (GaveUp tci) lane o l m = refl

pub lane_noticed : (lane : Priority) (m : Manager) → (tick_lane lane m).noticed ≡ []
lane_noticed lane m = noticed_none (lane_tick (lane_in lane m)).tick lane (lane_in lane m).outstanding (lane_tick (lane_in lane m)).lane m

pub lane_taken : (lane : Priority) (m : Manager) → (tick_lane lane m).taken ≡ []
lane_taken lane m = taken_none (lane_tick (lane_in lane m)).tick lane (lane_in lane m).outstanding (lane_tick (lane_in lane m)).lane m

-- ---- the job after a second

resume_goes : (job : Option Stage) (m : Manager) (link : Link) (lives : ℕ) (unit : Option Onu)
    (t : Told) → m.job ≡ job → Held link.packets unit m.low m.high t
    → JobOk lives unit m.low m.job t.low t.asking t.history
    → Goes (resumed_by job m) link lives unit t
resume_goes (Some (DelayingEnd order image busy)) m link lives unit t e h j =
    let s : Stage = EndingImage order image busy in
    goes_on (with_job (Some s) m) link lives unit t h
    (λ x g. subst (Ready lives unit m.low t.low t.asking t.history) (same_Some s x g) tt)
resume_goes _ m link lives unit t e h j = goes_nothing m link lives unit t h j

pub resume_silent : (job : Option Stage) (m : Manager) → IsSilent m (resumed_by job m)
resume_silent (Some (DelayingEnd order image busy)) m =
    let k = silent (with_job (Some (EndingImage order image busy)) m) in
    record { taken = k.taken; noticed = k.noticed; reports = k.reports; copy = k.copy }
resume_silent _ m = record { taken = refl; noticed = refl; reports = refl; copy = refl }

pub tick_good : (m : Manager) (link : Link) (lives : ℕ) (unit : Option Onu) (t : Told)
    → Held link.packets unit m.low m.high t
    → JobOk lives unit m.low m.job t.low t.asking t.history → m.reports ≡ []
    → Did (after_tick m) link lives unit t
unfolding after_tick
tick_good m link lives unit t h j quiet =
    let a : Outcome = tick_lane High m in
    let b : Outcome = and_then a (tick_lane Low) in
    let q = resume_silent b.manager.job b.manager in
    let r : Outcome = job_resumes b.manager in
    did_quiet (and_then b job_resumes) link lives unit t t
    (ap (λ (l : List Priority). tell_all (map ReplyTaken ((l ++ (tick_lane Low a.manager).taken) ++ r.taken) ++ map NoticeTaken (b.noticed ++ r.noticed)) t) (lane_taken High m)
    ∙ ap (λ (l : List Priority). tell_all (map ReplyTaken (l ++ r.taken) ++ map NoticeTaken (b.noticed ++ r.noticed)) t) (lane_taken Low a.manager)
    ∙ ap (λ (l : List Priority). tell_all (map ReplyTaken l ++ map NoticeTaken (b.noticed ++ r.noticed)) t) q.taken
    ∙ ap (λ (l : List Alarm). tell_all (map NoticeTaken ((l ++ (tick_lane Low a.manager).noticed) ++ r.noticed)) t) (lane_noticed High m)
    ∙ ap (λ (l : List Alarm). tell_all (map NoticeTaken (l ++ r.noticed)) t) (lane_noticed Low a.manager)
    ∙ ap (λ (l : List Alarm). tell_all (map NoticeTaken l) t) q.noticed)
    (subst NoneSynced (sym q.reports)
    (lane_quiet Low a.manager (lane_quiet High m (subst NoneSynced (sym quiet) tt))))
    (goes_both b job_resumes link lives unit t
    (goes_both a (tick_lane Low) link lives unit t (lane_goes m link lives unit t h j High)
    (λ l u g. lane_goes a.manager l lives unit u g.held g.job Low))
    (λ l u g. resume_goes b.manager.job b.manager l lives unit u refl g.held g.job))
