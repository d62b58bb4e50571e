-- What is asked of the manager, and a second.
use Rattle.std.proofs.Common.{◌≡◌, ℕ, ◌+◌, Bool, true, false, cond, List, [], ◌++◌, map, Option, Some, None, inl, inr, refl, sym, ap, subst, ◌∙◌, arith, nat_le, nat_lt}
use Rattle.std.proofs.lemmas.Option.{same_Some}
use Rattle.std.proofs.lemmas.Bool.{false≢true}
use Rattle.omci_types.specs.declared.EntityId.{EntityId}
use Rattle.omci_types.specs.declared.Priority.{Priority}
use Rattle.omci_types.specs.declared.Priority.TheVariants.{Low, High}
use Rattle.message_spec.specs.declared.Request.{Request}
use Rattle.message_spec.specs.declared.Request.TheVariants as request
use Rattle.alarm_spec.specs.Alarms.{Alarm}
use Rattle.alarm_spec.specs.Table.{Table}
use Rattle.lane_spec.specs.declared.LaneTick.TheVariants.{Repeat}
use Rattle.lane_spec.specs.declared.TheConstants.{MOST_REPEATS}
use Rattle.lane_spec.specs.Command.{Command, probe_command, check_command, ask, job_command, sync_entity, command_packets}
use Rattle.lane_spec.specs.Lane.{Lane, Waiting, with_command, is_changed_by, timeout_of, tick_by, tick_waiting, lane_tick}
use Rattle.manager_spec.specs.declared.Phase.{Phase}
use Rattle.manager_spec.specs.declared.Phase.TheVariants as phase
use Rattle.manager_spec.specs.declared.Refusal.TheVariants.{Unproven}
use Rattle.manager_spec.specs.declared.Report.TheVariants as report
use Rattle.manager_spec.specs.Manager.{Stage, Probing, Asking, Gathering, AskingAlarms, GatheringRows, StartingImage, SendingImage, EndingImage, DelayingEnd, Order, Manager, Outcome, lane_in, with_report, phase_left, leave_step, sends_nothing, and_then, command_sent}
use Rattle.manager_spec.specs.Submitting.{unproven, occupied, job_running, out_of_step, job_in_the_way, other_change, second_change, probe_refusal, needs_copy, submit_refusal, leaves_copy, leave_if, check_refusal, resync_refusal, resync_begun, audit_refusal, audit_asked, image_refusal, image_asked}
use Rattle.manager_spec.specs.Resync.{with_job}
use Rattle.manager_spec.specs.Upgrade.{start_command, end_image_command}
use Rattle.manager_spec.specs.Jobs.{waits_for, job_lost, is_free, job_goes_on, resumed_by, job_resumes}
use Rattle.manager_spec.specs.Steps.{loss_seen, lane_ticked, tick_lane, after_tick}
use Rattle.unit_spec.specs.Onu.{Onu}
use Rattle.history_spec.specs.History.{AuditedRight}
use Rattle.world_spec.specs.Happenings.{ReplyTaken, NoticeTaken}
use Rattle.world_spec.specs.History.{Told, tell_all}
use Rattle.resync_laws.proofs.Sending.{drawn_low, drawn_high}
use Rattle.resync_laws.proofs.Telling.{NoneSynced}
use Rattle.resync_laws.proofs.Going.{never, never_replied}
use Rattle.resync_laws.proofs.Mild.{Mild, mild_same, mild_leave}
use Rattle.resync_laws.proofs.Turns.{two_none, three_none, five_none, not_running, lost_fails, lane_quiet, lane_taken, lane_noticed, resume_silent}
use Rattle.audit_laws.proofs.Invariants.{state_of, AsksAlarms, AtStage, JobOk, job_none, job_other, Keeps, stage_kept}
use Rattle.audit_laws.proofs.Telling.{Did, Goes, did_quiet, goes_nothing, goes_sent, goes_low, goes_high, goes_both}
use Rattle.audit_laws.proofs.Going.{asks_other}
use Rattle.audit_laws.proofs.Taking.{Known}

-- a lane that isn't unproven
is_proved : (proved : Bool) (l : Priority) → cond proved None (Some (Unproven l)) ≡ None
    → proved ≡ true
is_proved true l e = refl
is_proved false l e = absurd (cc)

-- a manager that leaves the step
left_ok : (p : Phase) (lives : ℕ) (unit : Option Onu) (m : Manager) (t : Told)
    → JobOk lives unit m t → JobOk lives unit (phase_left p m) t
left_ok phase.InStep lives unit m t j = j
left_ok phase.New lives unit m t j = j
left_ok phase.Out lives unit m t j = j

pub left_table : (b : Bool) (m : Manager) → (leave_if b m).table ≡ m.table
left_table true m = go m.phase
  where
    go : (p : Phase) → (phase_left p m).table ≡ m.table
    go phase.InStep = refl
    go phase.New = refl
    go phase.Out = refl
left_table false m = refl

module _ (m : Manager) (lives : ℕ) (unit : Option Onu) (t : Told) (known : Known t) (j : JobOk lives unit m t) (right : AuditedRight t.history) (quiet : m.reports ≡ []) where
  none_told : NoneSynced m.reports
  none_told = subst NoneSynced (sym quiet) tt

  -- ---- a command is drawn beside the job, in the high lane

  high_keeps : (c : Command) (b : Manager) → b.low ≡ m.low → b.table ≡ m.table
      → Keeps (state_of lives unit m t)
      (state_of lives unit (record b { high = with_command c b.high }) (drawn_high t))
  high_keeps c b low table = record {
    tlow = refl;
    asking = refl;
    proved = λ e. ap (λ l. l.proved) low ∙ e;
    waits = λ w e. (w, ap (λ l. l.outstanding) low ∙ e, refl);
    drawn = omega arith;
    high = λ w e. inl refl;
    gathering = λ rows e. ap (λ (x : Table). x.gathering) table ∙ e;
    waiting = λ rows e apart f. ap (λ (x : Table). x.waiting) table ∙ f;
    replied = λ r e. e;
    carried = λ was u s on has. was;
    put_by = λ u s on has. (u, s, on, has, refl);
    last = λ command alarms h. h;
  }

  high_goes : (c : Command) (b : Manager) → b.low ≡ m.low → b.table ≡ m.table → b.job ≡ m.job
      → Goes (command_sent false High c b) lives unit t
  high_goes c b low table job =
      goes_high c b lives unit t
      (λ s e. stage_kept _ _ (high_keeps c b low table) s (j s (sym job ∙ e))) right

  -- and in the low lane, where none runs
  low_goes : (c : Command) (b : Manager) → b.job ≡ None → Goes (command_sent false Low c b) lives unit t
  low_goes c b none =
      let n : Manager = record b { low = with_command c b.low } in
      goes_low false c b lives unit t (job_none lives unit n (drawn_low false t) none) right

  probe_by : (lane : Priority) → m.job ≡ None → Goes (command_sent false lane probe_command m) lives unit t
  probe_by Low none = low_goes probe_command m none
  probe_by High none = high_goes probe_command m refl refl refl

  sent_quiet : (lane : Priority) (c : Command) (b : Manager) → NoneSynced b.reports
      → Goes (command_sent false lane c b) lives unit t → Did (command_sent false lane c b) lives unit t
  sent_quiet Low c b none g = did_quiet (command_sent false Low c b) lives unit t t refl none g
  sent_quiet High c b none g = did_quiet (command_sent false High c b) lives unit t t refl none g

  pub probe_good : (lane : Priority) → probe_refusal lane m ≡ None
      → Did (command_sent false lane probe_command m) lives unit t
  probe_good lane e =
      let k = two_none (occupied lane m) (job_running m) e in
      sent_quiet lane probe_command m none_told (probe_by lane (not_running m.job k.1))

  pub check_good : check_refusal m ≡ None → Did (command_sent false Low check_command m) lives unit t
  check_good e =
      let k = five_none (unproven Low m) (occupied Low m) (out_of_step true m) (job_running m)
      (other_change Low m) e in
      sent_quiet Low check_command m none_told (low_goes check_command m (not_running m.job k.1))

  pub resync_good : resync_refusal m ≡ None → Did (resync_begun m) lives unit t
  resync_good e =
      let begun : Manager = with_job (Some (Probing true true)) m in
      let a : Outcome = command_sent false High probe_command begun in
      let n : Manager = record begun { high = with_command probe_command begun.high } in
      let o : Manager = record n { low = with_command probe_command n.low } in
      did_quiet (resync_begun m) lives unit t t refl none_told
      (goes_both a (command_sent false Low probe_command) lives unit t
      (goes_high probe_command begun lives unit t
      (job_other lives unit n (drawn_high t) (Probing true true) refl refl) right)
      (λ u k r. goes_low false probe_command n lives unit u
      (job_other lives unit o (drawn_low false u) (Probing true true) refl refl) r))

  -- all alarms are asked for
  pub audit_good : audit_refusal m ≡ None → Did (audit_asked m) lives unit t
  audit_good e =
      did_quiet (audit_asked m) lives unit t t refl none_told
      (goes_low true c (with_job (Some AskingAlarms) m) lives unit t
      (λ s f. subst (AtStage (state_of lives unit n (drawn_low true t)))
      (same_Some AskingAlarms s f) asks) right)
    where
      c : Command
      c = job_command sync_entity (request.Alarms 0)

      n : Manager
      n = record m { job = Some AskingAlarms; low = with_command c m.low }

      k : (unproven Low m ≡ None) × (occupied Low m ≡ None) × (job_running m ≡ None)
      k = three_none (unproven Low m) (occupied Low m) (job_running m) e

      asks : AsksAlarms (state_of lives unit n (drawn_low true t))
      asks = record {
        proved = is_proved m.low.proved Low k.0;
        waiting = _;
        waits = refl;
        command = refl;
        own = refl;
        reply = λ r last. never_replied t known r last;
        fresh = λ u s on was has. never t known lives was;
      }

  -- a download is asked for
  pub image_good : (order : Order) (asked : ℕ) (image : List ℕ) → image_refusal m ≡ None
      → Did (image_asked order asked image m) lives unit t
  image_good order asked image e =
      let s : Stage = StartingImage order asked image in
      let c = start_command order asked image in
      let n : Manager = record m { job = Some s; low = with_command c m.low } in
      did_quiet (image_asked order asked image m) lives unit t t refl none_told
      (goes_low false c (with_job (Some s) m) lives unit t
      (job_other lives unit n (drawn_low false t) s refl refl) right)

  -- ---- a request for an entity

  mild_if : (b : Bool) → Mild m (leave_if b m)
  mild_if true = mild_leave m
  mild_if false = mild_same m

  submit_by : (b : Manager) → Mild m b → b.table ≡ m.table → (lane : Priority) (entity : EntityId)
      (r : Request) → job_in_the_way lane r m ≡ None
      → Did (command_sent false lane (ask entity r) b) lives unit t
  submit_by b k table Low entity r way =
      sent_quiet Low (ask entity r) b (k.reports none_told)
      (low_goes (ask entity r) b (k.job ∙ not_running m.job way))
  submit_by b k table High entity r way =
      sent_quiet High (ask entity r) b (k.reports none_told)
      (high_goes (ask entity r) b k.low table k.job)

  pub submit_good : (lane : Priority) (entity : EntityId) (r : Request)
      → submit_refusal lane r m ≡ None
      → Did (command_sent false lane (ask entity r) (leave_if (leaves_copy r) m)) lives unit t
  submit_good lane entity r e =
      let k = five_none (unproven lane m) (occupied lane m) (out_of_step (needs_copy r) m)
      (job_in_the_way lane r m) (second_change r lane m) e in
      submit_by (leave_if (leaves_copy r) m) (mild_if (leaves_copy r))
      (left_table (leaves_copy r) m) lane entity r k.1

-- ---- a second in a lane

-- its command waits on
later_keeps : (w v : Waiting) (lives : ℕ) (unit : Option Onu) (m : Manager) (t u : Told)
    → m.low.outstanding ≡ Some w → v.command ≡ w.command → u ≡ record t { names = u.names }
    → Keeps (state_of lives unit m t)
    (state_of lives unit (record m { low = record m.low { outstanding = Some v } }) u)
later_keeps w v lives unit m t u e same told =
    subst (λ (x : Told). Keeps (state_of lives unit m t)
    (state_of lives unit (record m { low = record m.low { outstanding = Some v } }) x)) (sym told)
    (record {
      tlow = refl;
      asking = refl;
      proved = λ f. f;
      waits = λ x f. (v, refl, same ∙ ap (λ (y : Waiting). y.command) (same_Some w x (sym e ∙ f)));
      drawn = omega arith;
      high = λ x f. inr (x, f, refl);
      gathering = λ rows f. f;
      waiting = λ rows f apart g. g;
      replied = λ r f. f;
      carried = λ was x s on has. was;
      put_by = λ x s on has. (x, s, on, has, refl);
      last = λ command alarms h. h;
    })

high_later_keeps : (o : Option Waiting) (proved : Bool) (lives : ℕ) (unit : Option Onu) (m : Manager)
    (t u : Told) → ((w : Waiting) → o ≡ Some w → (x : Waiting) × (m.high.outstanding ≡ Some x))
    → u ≡ record t { names = u.names }
    → Keeps (state_of lives unit m t)
    (state_of lives unit (record m { high = record m.high { proved = proved; outstanding = o } }) u)
high_later_keeps o proved lives unit m t u was told =
    subst (λ (x : Told). Keeps (state_of lives unit m t)
    (state_of lives unit (record m { high = record m.high { proved = proved; outstanding = o } }) x))
    (sym told)
    (record {
      tlow = refl;
      asking = refl;
      proved = λ f. f;
      waits = λ x f. (x, f, refl);
      drawn = omega arith;
      high = λ x f. let y = was x f in inr (y.0, y.1, refl);
      gathering = λ rows f. f;
      waiting = λ rows f apart g. g;
      replied = λ r f. f;
      carried = λ was x s on has. was;
      put_by = λ x s on has. (x, s, on, has, refl);
      last = λ command alarms h. h;
    })

module _ (m : Manager) (lives : ℕ) (unit : Option Onu) (t : Told) (j : JobOk lives unit m t) (right : AuditedRight t.history) where
  loss_goes : (waits changes : Bool) (tci : ℕ) (x : Manager)
      → (waits ≡ false → JobOk lives unit x t) → Goes (sends_nothing (loss_seen waits changes tci x)) lives unit t
  loss_goes true changes tci x ok =
      let y : Manager = job_lost x.job tci x in
      goes_nothing y lives unit t (job_none lives unit y t (lost_fails x.job tci x (λ e. e)).job) right
  loss_goes false true tci x ok =
      let y : Manager = leave_step x in
      goes_nothing y lives unit t (left_ok x.phase lives unit x t (ok refl)) right
  loss_goes false false tci x ok = goes_nothing x lives unit t (ok refl) right

  -- a job that doesn't wait for the low lane is no audit
  no_audit : (job : Option Stage) → m.job ≡ job → waits_for Low job ≡ false → (x : Manager) → x.job ≡ m.job
      → JobOk lives unit x t
  no_audit None e w x same = job_none lives unit x t (same ∙ e)
  no_audit (Some (Probing high low)) e w x same = job_other lives unit x t (Probing high low) (same ∙ e) refl
  no_audit (Some Asking) e w x same = absurd (false≢true (sym w))
  no_audit (Some (Gathering expected next copy)) e w x same = absurd (false≢true (sym w))
  no_audit (Some AskingAlarms) e w x same = absurd (false≢true (sym w))
  no_audit (Some (GatheringRows expected next)) e w x same = absurd (false≢true (sym w))
  no_audit (Some (StartingImage order asked image)) e w x same = absurd (false≢true (sym w))
  no_audit (Some (SendingImage order outgoing resent)) e w x same = absurd (false≢true (sym w))
  no_audit (Some (EndingImage order image busy)) e w x same = absurd (false≢true (sym w))
  no_audit (Some (DelayingEnd order image busy)) e w x same = absurd (false≢true (sym w))

  low_by : (w : Waiting) → m.low.outstanding ≡ Some w → (over may : Bool)
      → Goes (lane_ticked (tick_by over may w m.low).tick Low (Some w) (tick_by over may w m.low).lane m)
      lives unit t
  low_by w e false may =
      let v : Waiting = record w { ticks = w.ticks + 1 } in
      let n : Manager = record m { low = record m.low { outstanding = Some v } } in
      goes_nothing n lives unit t
      (λ s g. stage_kept _ _ (later_keeps w v lives unit m t t e refl refl) s (j s g)) right
  low_by w e true true =
      let v : Waiting = record w { ticks = 0; repeats = w.repeats + 1 } in
      goes_sent (lane_ticked Repeat Low (Some w) (record m.low { outstanding = Some v }) m) Low false
      false (command_packets w.tci w.command) lives unit t t refl refl
      (λ s g. stage_kept _ _ (later_keeps w v lives unit m t t e refl refl) s (j s g)) right
  low_by w e true false =
      let l : Lane = record m.low { proved = false; outstanding = None } in
      let n : Manager = with_report (report.GaveUp w.tci) (record m { low = l }) in
      loss_goes (waits_for Low m.job) (is_changed_by (Some w)) w.tci n
      (λ f. no_audit m.job refl f n refl)

  high_by : (w : Waiting) → m.high.outstanding ≡ Some w → (over may : Bool)
      → Goes (lane_ticked (tick_by over may w m.high).tick High (Some w) (tick_by over may w m.high).lane m)
      lives unit t
  high_by w e false may =
      let v : Waiting = record w { ticks = w.ticks + 1 } in
      let n : Manager = record m { high = record m.high { outstanding = Some v } } in
      goes_nothing n lives unit t
      (λ s g. stage_kept _ _ (high_later_keeps (Some v) m.high.proved lives unit m t t (λ x f. (w, e)) refl) s (j s g)) right
  high_by w e true true =
      let v : Waiting = record w { ticks = 0; repeats = w.repeats + 1 } in
      goes_sent (lane_ticked Repeat High (Some w) (record m.high { outstanding = Some v }) m) High false
      false (command_packets w.tci w.command) lives unit t t refl refl
      (λ s g. stage_kept _ _ (high_later_keeps (Some v) m.high.proved lives unit m t t (λ x f. (w, e)) refl) s (j s g)) right
  high_by w e true false =
      let l : Lane = record m.high { proved = false; outstanding = None } in
      loss_goes (waits_for High m.job) (is_changed_by (Some w)) w.tci
      (with_report (report.GaveUp w.tci) (record m { high = l }))
      (λ f s g. stage_kept _ _ (high_later_keeps None false lives unit m t t (λ x h. absurd (cc)) refl) s (j s g))

  tick_by_waiting : (lane : Priority) (o : Option Waiting) → (lane_in lane m).outstanding ≡ o
      → Goes (lane_ticked (tick_waiting o (lane_in lane m)).tick lane o (tick_waiting o (lane_in lane m)).lane m)
      lives unit t
  tick_by_waiting Low None e = goes_nothing m lives unit t j right
  tick_by_waiting High None e = goes_nothing m lives unit t j right
  tick_by_waiting Low (Some w) e =
      low_by w e (nat_le (timeout_of m.low.priority) (w.ticks + 1)) (nat_lt w.repeats MOST_REPEATS)
  tick_by_waiting High (Some w) e =
      high_by w e (nat_le (timeout_of m.high.priority) (w.ticks + 1)) (nat_lt w.repeats MOST_REPEATS)

  lane_goes : (lane : Priority) → Goes (tick_lane lane m) lives unit t
  unfolding lane_tick
  lane_goes lane = tick_by_waiting lane (lane_in lane m).outstanding refl

-- ---- the job after a second

resume_goes : (job : Option Stage) (m : Manager) (lives : ℕ) (unit : Option Onu) (t : Told)
    → m.job ≡ job → JobOk lives unit m t → AuditedRight t.history
    → Goes (resumed_by job m) lives unit t
unfolding job_goes_on
resume_goes (Some (DelayingEnd order image busy)) m lives unit t e j right =
    let s : Stage = EndingImage order image busy in
    asks_other (with_job (Some s) m) lives unit t right (is_free m.low) s
    (end_image_command order image) refl refl
resume_goes _ m lives unit t e j right = goes_nothing m lives unit t j right

pub tick_good : (m : Manager) (lives : ℕ) (unit : Option Onu) (t : Told) → JobOk lives unit m t
    → AuditedRight t.history → m.reports ≡ [] → Did (after_tick m) lives unit t
unfolding after_tick
tick_good m lives unit t j right quiet =
    let a : Outcome = tick_lane High m in
    let b : Outcome = and_then a (tick_lane Low) in
    let q = resume_silent b.manager.job b.manager in
    let r : Outcome = job_resumes b.manager in
    did_quiet (and_then b job_resumes) lives unit t t
    (ap (λ (l : List Priority). tell_all (map ReplyTaken ((l ++ (tick_lane Low a.manager).taken) ++ r.taken) ++ map NoticeTaken (b.noticed ++ r.noticed)) t) (lane_taken High m)
    ∙ ap (λ (l : List Priority). tell_all (map ReplyTaken (l ++ r.taken) ++ map NoticeTaken (b.noticed ++ r.noticed)) t) (lane_taken Low a.manager)
    ∙ ap (λ (l : List Priority). tell_all (map ReplyTaken l ++ map NoticeTaken (b.noticed ++ r.noticed)) t) q.taken
    ∙ ap (λ (l : List Alarm). tell_all (map NoticeTaken ((l ++ (tick_lane Low a.manager).noticed) ++ r.noticed)) t) (lane_noticed High m)
    ∙ ap (λ (l : List Alarm). tell_all (map NoticeTaken (l ++ r.noticed)) t) (lane_noticed Low a.manager)
    ∙ ap (λ (l : List Alarm). tell_all (map NoticeTaken l) t) q.noticed)
    (subst NoneSynced (sym q.reports)
    (lane_quiet Low a.manager (lane_quiet High m (subst NoneSynced (sym quiet) tt))))
    (goes_both b job_resumes lives unit t
    (goes_both a (tick_lane Low) lives unit t (lane_goes m lives unit t j right High)
    (λ u k r. lane_goes a.manager lives unit u k r Low))
    (λ u k r. resume_goes b.manager.job b.manager lives unit u refl k r))
