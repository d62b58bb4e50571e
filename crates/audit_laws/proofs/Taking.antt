-- Packets that come to the manager.
use Rattle.std.proofs.Common.{◌≡◌, ◌≢◌, ℕ, ◌+◌, ◌<◌, ◌≤◌, ◌^◌, Bool, true, false, ◌||◌, ◌==◌, List, [], ◌∷◌, ◌++◌, length, take, take_all, replicate, Option, Some, None, Result, Ok, Err, ◌⊎◌, inl, inr, is_some, nat_le, refl, sym, ap, subst, ◌∙◌, arith}
use Rattle.std.proofs.lemmas.Option.{same_Some}
use Rattle.std.proofs.lemmas.Bool.{false≢true}
use Rattle.std.proofs.lemmas.Bool.Decides.{nat_tests}
use Rattle.std.specs.Prelude.{unwrap_or}
use Rattle.omci_types.specs.declared.EntityId.{EntityId}
use Rattle.omci_types.specs.declared.Frame.{Frame}
use Rattle.omci_types.specs.declared.Priority.{Priority}
use Rattle.omci_types.specs.declared.Priority.TheVariants.{Low, High}
use Rattle.frame_spec.specs.Baseline.{packet_frame}
use Rattle.tci_spec.specs.Tci.{priority_of}
use Rattle.message_spec.specs.declared.ContentsFault.{ContentsFault}
use Rattle.message_spec.specs.declared.Message.{Message}
use Rattle.message_spec.specs.declared.Message.TheVariants.{Asked, Answered, Told as ToldOf}
use Rattle.message_spec.specs.declared.Notice.{Notice}
use Rattle.message_spec.specs.declared.Notice.TheVariants as notices
use Rattle.message_spec.specs.declared.Response.{Response}
use Rattle.message_spec.specs.declared.Response.TheVariants as response
use Rattle.message_spec.specs.Reading.{message_of}
use Rattle.upload_spec.specs.declared.PieceFault.{PieceFault}
use Rattle.upload_spec.specs.declared.PieceFault.TheVariants as fault
use Rattle.upload_spec.specs.Pieces.{Copy}
use Rattle.upload_spec.specs.Copies.{with_piece, piece_fault, copied_counter, copy_counter}
use Rattle.alarm_spec.specs.declared.TakenAlarm.{TakenAlarm}
use Rattle.alarm_spec.specs.declared.TakenAlarm.TheVariants as taken
use Rattle.alarm_spec.specs.Alarms.{Alarm, Alarms, after, row_at, IsWhole}
use Rattle.alarm_spec.specs.Table.{Table, take_answer, after_take, taken_as as table_as, noticed, with_last, begun, gathered, row_fault, finished}
use Rattle.alarm_laws.proofs.Answers.{right_is, wrong_is}
use Rattle.lane_spec.specs.declared.Purpose.{Purpose}
use Rattle.lane_spec.specs.declared.Purpose.TheVariants as purpose
use Rattle.lane_spec.specs.Command.{Command, is_probe}
use Rattle.lane_spec.specs.Lane.{Waiting, end_command}
use Rattle.manager_spec.specs.declared.AuditReason.{AuditReason}
use Rattle.manager_spec.specs.declared.AuditReason.TheVariants as audit
use Rattle.omci_types.specs.declared.TheConstants.Code.{SUCCESS}
use Rattle.manager_spec.specs.declared.Phase.{Phase}
use Rattle.manager_spec.specs.declared.Phase.TheVariants as phase
use Rattle.manager_spec.specs.Copying.{followed_if, followed}
use Rattle.manager_spec.specs.declared.ResyncReason.TheVariants as reason
use Rattle.manager_spec.specs.declared.Report.{Report}
use Rattle.manager_spec.specs.declared.Report.TheVariants as report
use Rattle.manager_spec.specs.Manager.{Stage, Probing, Asking, Gathering, AskingAlarms, GatheringRows, StartingImage, SendingImage, EndingImage, DelayingEnd, Order, Manager, Outcome, lane_in, with_report, phase_left, sends_nothing, and_then}
use Rattle.manager_spec.specs.Resync.{with_job, resync_failed, resync_done, done_if_counted, gather_unless_all, gather_on, piece_by}
use Rattle.manager_spec.specs.Audit.{with_table, audit_failed, audit_done, rows_unless_all, rows_on, row_by, row_came, audit_lost, notice_taken, alarm_as, alarm_came, notice_came}
use Rattle.manager_spec.specs.Jobs.{job_goes_on}
use Rattle.manager_spec.specs.Steps.{response_of, with_taken, job_probed, probe_taken, code_of, first_value, expected_counter, compared, checked_if, followed_by, checked_by, freed, upload_by, piece_by_reply, alarms_by, row_by_reply, start_by_reply, window_by_reply, end_by_reply, job_by, taken_as, packet_dropped, not_taken, after_packet}
use Rattle.unit_spec.specs.Onu.{Onu, AlarmSnapshot, response_frame}
use Rattle.history_spec.specs.History.{WasCarried, LastAlarms, AuditedRight}
use Rattle.world_spec.specs.History.{Told, notices_if}
use Rattle.world_laws.proofs.Manager.{taken_by, untaken, IsTaken, hearing_is}
use Rattle.resync_laws.proofs.Invariants.{is_job, Lanes}
use Rattle.resync_laws.proofs.Telling.{is_synced, NoneSynced, none_more}
use Rattle.resync_laws.proofs.Going.{IsFree}
use Rattle.window_spec.specs.Outgoing.{Outgoing}
use Rattle.resync_laws.proofs.Mild.{IsImageStage, Downloads, start_downloads, window_downloads, end_downloads, Mild, mild_then, mild_report, Fails, fails, fails_audit}
use Rattle.resync_laws.proofs.Taking.{mild_followed, mild_checked, took_told, or_true, not_job, IsOwn, IsHeard}
use Rattle.audit_laws.proofs.Rows.{Fits, row_fits, zeros_empty}
use Rattle.audit_laws.proofs.Reading.{alarms_read, row_read}
use Rattle.audit_laws.proofs.Invariants.{same_alarms, with_notices, State, state_of, AsksAlarms, GathersRows, AtStage, is_audit, JobOk, job_none, job_other, Keeps, stage_kept}
use Rattle.audit_laws.proofs.Telling.{Did, did_quiet, did_sync, did_audit, goes_nothing}
use Rattle.audit_laws.proofs.Going.{Ready, ready_of, other_ready, did_then}

-- what was carried out was drawn
abbrev pub Known : Told → Type 0
Known t = (life command : ℕ) → WasCarried life command t.history → command < t.drawn

-- ---- the low lane's reply to a request of a job

module _ (m : Manager) (lives : ℕ) (unit : Option Onu) (t : Told) (known : Known t) (right : AuditedRight t.history) (quiet : m.reports ≡ []) where
  unsynced : NoneSynced m.reports
  unsynced = subst NoneSynced (sym quiet) tt

  -- a job that fails has nothing to keep
  fails_on : (b : Manager) → Fails m b → Did (and_then (with_taken Low b) job_goes_on) lives unit t
  fails_on b k =
      did_then (with_taken Low b) lives unit t (took_told Low t) refl refl (k.reports unsynced) refl
      known right (λ s e. absurd (let j = k.job in cc))

  -- nor has another job
  other_on : (b : Manager) (s : Stage) → b.job ≡ Some s → is_audit s ≡ false
      → NoneSynced b.reports → Did (and_then (with_taken Low b) job_goes_on) lives unit t
  other_on b s e other none =
      did_then (with_taken Low b) lives unit t (took_told Low t) refl refl none refl known right
      (λ x f. subst (Ready (state_of lives unit b (took_told Low t))) (same_Some s x (sym e ∙ f))
      (other_ready s _ other))

  -- ---- a resynchronisation

  ends_on : (counted : Bool) (copy : Copy)
      → Did (and_then (with_taken Low (done_if_counted counted copy m)) job_goes_on) lives unit t
  unfolding job_goes_on
  ends_on false copy = fails_on (resync_failed reason.Missing m) (fails reason.Missing m)
  ends_on true copy =
      did_sync (and_then (with_taken Low (resync_done copy m)) job_goes_on) copy (length copy)
      (copy_counter copy) lives unit t (took_told Low t) refl refl
      (ap (λ (rs : List Report). (rs ++ report.Synced (length copy) (copy_counter copy) ∷ [])
      ++ report.PhaseIn ∷ []) quiet)
      (record { job = λ s e. absurd (cc); right = right })

  gathers_by : (all : Bool) (expected next : ℕ) (copy : Copy)
      → Did (and_then (with_taken Low (gather_unless_all all expected next copy m)) job_goes_on)
      lives unit t
  gathers_by true expected next copy = ends_on (is_some (copied_counter copy)) copy
  gathers_by false expected next copy =
      other_on (with_job (Some (Gathering expected next copy)) m) (Gathering expected next copy)
      refl refl unsynced

  gathers_on : (expected next : ℕ) (copy : Copy)
      → Did (and_then (with_taken Low (gather_on expected next copy m)) job_goes_on) lives unit t
  unfolding gather_on
  gathers_on expected next copy = gathers_by (nat_le expected next) expected next copy

  piece_on : (o : Option PieceFault) (expected next : ℕ) (piece : List ℕ) (copy : Copy)
      → Did (and_then (with_taken Low (piece_by o expected next piece copy m)) job_goes_on) lives
      unit t
  piece_on None expected next piece copy = gathers_on expected (next + 1) (with_piece piece copy)
  piece_on (Some fault.Empty) expected next piece copy = fails_on _ (fails reason.Empty m)
  piece_on (Some (fault.ClassUnknown class)) expected next piece copy =
      gathers_on expected (next + 1) copy
  piece_on (Some (fault.Truncated one)) expected next piece copy =
      fails_on _ (fails (reason.Truncated one) m)
  piece_on (Some (fault.Repeated one attribute)) expected next piece copy =
      fails_on _ (fails (reason.Repeated one attribute) m)

  -- ---- an audit: all rows have come, or the next one is asked for

  module _ (free : IsFree m.low) (alarms : Alarms) (whole : IsWhole alarms) (few : length alarms < 2 ^ 16) (last : LastAlarms t.asking [] alarms t.history) (put_by : (u : Onu) (s : AlarmSnapshot) → unit ≡ Some u → u.alarm_snapshot ≡ Some s → s.alarms ≡ alarms) (before : t.asking < t.drawn) (apart : (w : Waiting) → m.high.outstanding ≡ Some w → t.high ≢ t.asking) (waiting : m.table.waiting ≡ (took_told Low t).notices) where
    table_is : (next : ℕ) → m.table.gathering ≡ Some (take next alarms) → length alarms ≤ next
        → (finished m.table).rows ≡ after alarms (took_told Low t).notices
    unfolding finished
    table_is next g enough =
        ap (λ (o : Option Alarms). after (unwrap_or o []) m.table.waiting) g
        ∙ ap (λ (l : Alarms). after l m.table.waiting) (take_all next alarms enough)
        ∙ ap (after alarms) waiting

    audit_ends : (next : ℕ) → m.table.gathering ≡ Some (take next alarms) → length alarms ≤ next
        → Did (and_then (with_taken Low (audit_done m)) job_goes_on) lives unit t
    unfolding job_goes_on
    audit_ends next g enough =
        did_audit (and_then (with_taken Low (audit_done m)) job_goes_on)
        (length (finished m.table).rows) lives unit t (took_told Low t) refl
        (ap (λ (rs : List Report). rs ++ report.Audited (length (finished m.table).rows) ∷ [])
        quiet)
        (record {
          job = λ s e. absurd (cc);
          right = (
            subst (λ rows. LastAlarms t.asking (took_told Low t).notices rows t.history)
                (sym (table_is next g enough))
                (with_notices t.asking alarms (took_told Low t).notices t.history last),
            right,
          );
        })

    rows_by : (all : Bool) (expected next : ℕ) → nat_le expected next ≡ all
        → expected ≡ length alarms → m.table.gathering ≡ Some (take next alarms)
        → Did (and_then (with_taken Low (rows_unless_all all expected next m)) job_goes_on) lives
        unit t
    rows_by true expected next e count g = audit_ends next g (grind (arith, nat_tests))
    rows_by false expected next e count g =
        did_then (with_taken Low (with_job (Some (GatheringRows expected next)) m)) lives unit t
        (took_told Low t) refl refl unsynced refl known right
        (λ s f. subst
        (Ready (state_of lives unit (with_job (Some (GatheringRows expected next)) m)
        (took_told Low t))) (same_Some (GatheringRows expected next) s f) (inr (
          free,
          record {
            alarms = alarms;
            whole = whole;
            few = few;
            last = last;
            count = count;
            less = (grind (arith, nat_tests));
            gathering = g;
            waiting = waiting;
            put_by = put_by;
            before = before;
            apart = apart;
          },
        )))

    rows_all : (expected next : ℕ) → expected ≡ length alarms
        → m.table.gathering ≡ Some (take next alarms)
        → Did (and_then (with_taken Low (rows_on expected next m)) job_goes_on) lives unit t
    unfolding rows_on
    rows_all expected next count g =
        rows_by (nat_le expected next) expected next refl count g

-- the next row, or zeros
module _ (m : Manager) (lives : ℕ) (unit : Option Onu) (t : Told) (known : Known t) (right : AuditedRight t.history) (quiet : m.reports ≡ []) (free : IsFree m.low) (expected next : ℕ) (g : GathersRows (state_of lives unit m t) expected next) (same : (took_told Low t).notices ≡ t.notices) where
  fit_on : (row : List ℕ) → Fits g.alarms next row m.table
      → Did (and_then (with_taken Low (row_came expected next row m)) job_goes_on) lives unit t
  fit_on row k =
      subst (λ o. Did (and_then (with_taken Low (row_by o expected next row m)) job_goes_on) lives
      unit t) (sym k.good)
      (subst (λ x. Did (and_then (with_taken Low (rows_on expected (next + 1) (with_table x m)))
      job_goes_on) lives unit t) (sym k.more)
      (rows_all (with_table (record m.table { gathering = Some (take (next + 1) g.alarms) }) m)
      lives unit t known right quiet free g.alarms g.whole g.few g.last g.put_by g.before g.apart
      (g.waiting ∙ sym same) expected (next + 1) g.count refl))

  row_on : (row : List ℕ) → (row_at next g.alarms ≡ Some row) ⊎ (row ≡ replicate 32 0)
      → Did (and_then (with_taken Low (row_came expected next row m)) job_goes_on) lives unit t
  row_on row (inl is) = fit_on row (row_fits g.alarms next row m.table g.whole is g.gathering)
  row_on row (inr zeros) =
      subst (λ o. Did (and_then (with_taken Low (row_by o expected next row m)) job_goes_on) lives
      unit t) (sym (ap (λ r. row_fault r (gathered m.table)) zeros ∙ zeros_empty (gathered m.table)))
      (fails_on m lives unit t known right quiet (audit_failed audit.Empty m)
      (fails_audit audit.Empty m))

-- ---- what answers nothing: a notice, or it is dropped

module _ (m : Manager) (lives : ℕ) (unit : Option Onu) (t : Told) (j : JobOk lives unit m t) (right : AuditedRight t.history) (quiet : m.reports ≡ []) where
  none_told : NoneSynced m.reports
  none_told = subst NoneSynced (sym quiet) tt

  -- a report more
  reports_on : (r : Report) → is_synced r ≡ false → Did (sends_nothing (with_report r m)) lives unit t
  reports_on r e =
      did_quiet (sends_nothing (with_report r m)) lives unit t t refl (none_more m.reports r none_told e)
      (goes_nothing (with_report r m) lives unit t j right)

  quiet_on : (b : Manager) → NoneSynced b.reports → JobOk lives unit b t
      → Did (sends_nothing b) lives unit t
  quiet_on b none k =
      did_quiet (sends_nothing b) lives unit t t refl none (goes_nothing b lives unit t k right)

  fails_now : (why : AuditReason) (b : Manager) → NoneSynced b.reports
      → Did (sends_nothing (audit_failed why b)) lives unit t
  fails_now why b none =
      let c : Manager = audit_failed why b in
      quiet_on c (none_more b.reports (report.AuditFailed why) none refl)
      (job_none lives unit c t refl)

  -- a notice was lost: an audit that runs fails
  lost_on : (job : Option Stage) → m.job ≡ job → (why : AuditReason) (table : Table) (r : Report)
      → is_synced r ≡ false
      → Did (sends_nothing (audit_lost job why (with_report r (with_table table m)))) lives unit t
  lost_on None e why table r s =
      let b : Manager = with_report r (with_table table m) in
      quiet_on b (none_more m.reports r none_told s) (job_none lives unit b t e)
  lost_on (Some (Probing high low)) e why table r s =
      let b : Manager = with_report r (with_table table m) in
      quiet_on b (none_more m.reports r none_told s)
      (job_other lives unit b t (Probing high low) e refl)
  lost_on (Some Asking) e why table r s =
      let b : Manager = with_report r (with_table table m) in
      quiet_on b (none_more m.reports r none_told s) (job_other lives unit b t Asking e refl)
  lost_on (Some (Gathering expected next copy)) e why table r s =
      let b : Manager = with_report r (with_table table m) in
      quiet_on b (none_more m.reports r none_told s)
      (job_other lives unit b t (Gathering expected next copy) e refl)
  lost_on (Some (StartingImage order asked image)) e why table r s =
      let b : Manager = with_report r (with_table table m) in
      quiet_on b (none_more m.reports r none_told s) (job_other lives unit b t (StartingImage order asked image) e refl)
  lost_on (Some (SendingImage order outgoing resent)) e why table r s =
      let b : Manager = with_report r (with_table table m) in
      quiet_on b (none_more m.reports r none_told s) (job_other lives unit b t (SendingImage order outgoing resent) e refl)
  lost_on (Some (EndingImage order image busy)) e why table r s =
      let b : Manager = with_report r (with_table table m) in
      quiet_on b (none_more m.reports r none_told s) (job_other lives unit b t (EndingImage order image busy) e refl)
  lost_on (Some (DelayingEnd order image busy)) e why table r s =
      let b : Manager = with_report r (with_table table m) in
      quiet_on b (none_more m.reports r none_told s) (job_other lives unit b t (DelayingEnd order image busy) e refl)
  lost_on (Some AskingAlarms) e why table r s =
      fails_now why (with_report r (with_table table m)) (none_more m.reports r none_told s)
  lost_on (Some (GatheringRows expected next)) e why table r s =
      fails_now why (with_report r (with_table table m)) (none_more m.reports r none_told s)

  -- a notice is taken: it waits where rows are gathered
  noticed_keeps : (one : EntityId) (bitmap : List ℕ) (number : ℕ) (r : Report)
      → Keeps (state_of lives unit m t)
      (state_of lives unit
      (with_report r (with_table (with_last number (noticed m.table.gathering (one, bitmap) m.table)) m))
      (record t { notices = t.notices ++ (one, bitmap) ∷ [] }))
  noticed_keeps one bitmap number r = record {
    tlow = refl;
    asking = refl;
    proved = λ e. e;
    waits = λ w e. (w, e, refl);
    drawn = omega arith;
    high = λ w e. inr (w, e, refl);
    gathering = λ rows e.
        ap (λ (o : Option Alarms). (noticed o (one, bitmap) m.table).gathering) e ∙ e;
    waiting = λ rows e apart w.
        ap (λ (o : Option Alarms). (noticed o (one, bitmap) m.table).waiting) e
        ∙ ap (λ (l : List Alarm). l ++ (one, bitmap) ∷ []) w;
    replied = λ r e. e;
    carried = λ was u s on has. was;
    put_by = λ u s on has. (u, s, on, has, refl);
    last = λ command alarms h. h;
  }

  taken_on : (one : EntityId) (bitmap : List ℕ) (number : ℕ) (r : Report) → is_synced r ≡ false
      → Did (notice_taken one bitmap
      (with_report r (with_table (with_last number (noticed m.table.gathering (one, bitmap) m.table)) m)))
      lives unit t
  taken_on one bitmap number r e =
      did_quiet (notice_taken one bitmap
      (with_report r (with_table (with_last number (noticed m.table.gathering (one, bitmap) m.table)) m)))
      lives unit t (record t { notices = t.notices ++ (one, bitmap) ∷ [] }) refl
      (none_more m.reports r none_told e)
      (record {
        job = λ s f. stage_kept _ _ (noticed_keeps one bitmap number r) s (j s f);
        right = right;
      })

  alarm_on : (a : TakenAlarm) (one : EntityId) (bitmap : List ℕ) (number : ℕ)
      → Did (alarm_as a one bitmap number
      (with_table (table_as a (one, bitmap) number m.table) m)) lives unit t
  alarm_on taken.Unaudited one bitmap number = reports_on (report.AlarmUnaudited number) refl
  alarm_on taken.Repeat one bitmap number = reports_on (report.AlarmRepeat number) refl
  alarm_on (taken.Gap want have) one bitmap number =
      lost_on m.job refl (audit.Gap want have) _ (report.AlarmGap want have) refl
  alarm_on taken.Overflow one bitmap number =
      lost_on m.job refl audit.Overflow _ (report.AlarmOverflow number) refl
  alarm_on taken.Taken one bitmap number =
      taken_on one bitmap number (report.AlarmTaken number) refl

  alarm_came_on : (one : EntityId) (bitmap : List ℕ) (number : ℕ)
      → Did (alarm_came one bitmap number m) lives unit t
  unfolding alarm_came after_take
  alarm_came_on one bitmap number = alarm_on (take_answer number m.table) one bitmap number

  notice_on : (one : EntityId) (notice : Notice) (f : Frame) → Did (notice_came one notice f m) lives unit t
  notice_on one (notices.Alarm bitmap number) f = alarm_came_on one bitmap number
  notice_on one (notices.Change mask values) f = reports_on (report.Change f) refl

  pub drops_on : Did (packet_dropped m) lives unit t
  drops_on = reports_on report.Dropped refl

  not_taken_on : (r : Result Message ContentsFault) (f : Frame) → Did (not_taken r f m) lives unit t
  not_taken_on (Ok (ToldOf tci entity notice)) f = notice_on entity notice f
  not_taken_on (Ok (Asked tci entity r)) f = drops_on
  not_taken_on (Ok (Answered tci entity r)) f = drops_on
  not_taken_on (Err fault) f = drops_on

  untaken_on : (o : Option Frame) → Did (untaken o m) lives unit t
  untaken_on None = drops_on
  untaken_on (Some f) = not_taken_on (message_of f) f

-- ---- the table stays

left_table : (p : Phase) (m : Manager) → (phase_left p m).table ≡ m.table
left_table phase.InStep m = refl
left_table phase.New m = refl
left_table phase.Out m = refl

followed_if_table : (b : Bool) (c : Command) (m : Manager)
    → (followed_if b c.entity c.request m).table ≡ m.table
followed_if_table true c m = refl
followed_if_table false c m = refl

followed_table : (c : Command) (r : Option Response) (m : Manager)
    → (followed_by c r m).table ≡ m.table
unfolding followed
followed_table c None m = refl
followed_table c (Some r) m = followed_if_table (code_of r == SUCCESS.0) c m

compared_table : (b : Bool) (m : Manager) → (compared b m).table ≡ m.table
compared_table true m = refl
compared_table false m = left_table m.phase m

checked_if_table : (b : Bool) (r : Response) (f : Frame) (m : Manager)
    → (checked_if b r f m).table ≡ m.table
checked_if_table true r f m = compared_table (first_value r == expected_counter m) _
checked_if_table false r f m = left_table m.phase (with_report (report.Took f) m)

checked_table : (r : Option Response) (f : Frame) (m : Manager) → (checked_by r f m).table ≡ m.table
checked_table None f m = left_table m.phase (with_report (report.Took f) m)
checked_table (Some r) f m = checked_if_table (code_of r == SUCCESS.0) r f m

-- ---- a reply

module _ (bytes : List ℕ) (f : Frame) (read : packet_frame bytes ≡ Some f) (m : Manager) (lives : ℕ) (unit : Option Onu) (t : Told) (known : Known t) (lanes : Lanes m.low m.high t.drawn t.low t.high) (j : JobOk lives unit m t) (right : AuditedRight t.history) (quiet : m.reports ≡ []) where
  module _ (w : Waiting) (waits : m.low.outstanding ≡ Some w) where
    abbrev low_free : Manager
    low_free = record m { low = end_command w m.low }

    -- an audit waits for its own command
    audit_purpose : (s : Stage) → m.job ≡ Some s → is_audit s ≡ true → w.command.purpose ≡ purpose.Job
    audit_purpose (Probing high low) e a = absurd (false≢true a)
    audit_purpose Asking e a = absurd (false≢true a)
    audit_purpose (Gathering expected next copy) e a = absurd (false≢true a)
    audit_purpose (StartingImage order asked image) e a = absurd (false≢true a)
    audit_purpose (SendingImage order outgoing resent) e a = absurd (false≢true a)
    audit_purpose (EndingImage order image busy) e a = absurd (false≢true a)
    audit_purpose (DelayingEnd order image busy) e a = absurd (false≢true a)
    audit_purpose AskingAlarms e a =
        let at = j AskingAlarms e in
        ap (λ (v : Waiting). v.command.purpose) (same_Some w at.waiting (sym waits ∙ at.waits))
        ∙ ap (λ (c : Command). c.purpose) at.command
    audit_purpose (GatheringRows expected next) e a =
        let at = j (GatheringRows expected next) e in
        ap (λ (v : Waiting). v.command.purpose) (same_Some w at.1.waiting (sym waits ∙ at.1.waits))
        ∙ ap (λ (c : Command). c.purpose) at.1.command

    -- so a caller's command is waited for beside another job, or none
    callers_ready : is_job w.command.purpose ≡ false → (s : Stage) → m.job ≡ Some s → (a : State) → Ready a s
    callers_ready callers (Probing high low) e a = tt
    callers_ready callers Asking e a = tt
    callers_ready callers (Gathering expected next copy) e a = tt
    callers_ready callers (StartingImage order asked image) e a = tt
    callers_ready callers (SendingImage order outgoing resent) e a = tt
    callers_ready callers (EndingImage order image busy) e a = tt
    callers_ready callers (DelayingEnd order image busy) e a = tt
    callers_ready callers AskingAlarms e a =
        not_job w.command.purpose (audit_purpose AskingAlarms e refl) callers
    callers_ready callers (GatheringRows expected next) e a =
        not_job w.command.purpose (audit_purpose (GatheringRows expected next) e refl) callers

    probed_ready : is_job w.command.purpose ≡ false → (job : Option Stage) → m.job ≡ job → (s : Stage)
        → job_probed Low job ≡ Some s → (a : State) → Ready a s
    probed_ready callers None e s g a = absurd (cc)
    probed_ready callers (Some (Probing high low)) e s g a =
        subst (Ready a) (same_Some (Probing high false) s g) tt
    probed_ready callers (Some Asking) e s g a = subst (Ready a) (same_Some Asking s g) tt
    probed_ready callers (Some (Gathering expected next copy)) e s g a =
        subst (Ready a) (same_Some (Gathering expected next copy) s g) tt
    probed_ready callers (Some (StartingImage order asked image)) e s g a = subst (Ready a) (same_Some (StartingImage order asked image) s g) tt
    probed_ready callers (Some (SendingImage order outgoing resent)) e s g a = subst (Ready a) (same_Some (SendingImage order outgoing resent) s g) tt
    probed_ready callers (Some (EndingImage order image busy)) e s g a = subst (Ready a) (same_Some (EndingImage order image busy) s g) tt
    probed_ready callers (Some (DelayingEnd order image busy)) e s g a = subst (Ready a) (same_Some (DelayingEnd order image busy) s g) tt
    probed_ready callers (Some AskingAlarms) e s g a =
        not_job w.command.purpose (audit_purpose AskingAlarms e refl) callers
    probed_ready callers (Some (GatheringRows expected next)) e s g a =
        not_job w.command.purpose (audit_purpose (GatheringRows expected next) e refl) callers

    mild_low : (b : Manager) → Mild low_free b → is_job w.command.purpose ≡ false
        → Did (and_then (with_taken Low b) job_goes_on) lives unit t
    mild_low b k callers =
        did_then (with_taken Low b) lives unit t (took_told Low t) refl refl
        (k.reports (subst NoneSynced (sym quiet) tt)) refl known right
        (λ s e. callers_ready callers s (sym k.job ∙ e) _)

    -- a reply that is none of the job's
    freed_on : (s : Option Stage) → m.job ≡ s
        → ((x : Stage) → s ≡ Some x → is_audit x ≡ false)
        → Did (and_then (with_taken Low (freed f low_free)) job_goes_on) lives unit t
    freed_on s e other =
        did_then (with_taken Low (freed f low_free)) lives unit t (took_told Low t) refl refl
        (none_more m.reports (report.Freed f.tci) (subst NoneSynced (sym quiet) tt) refl) refl known
        right (λ x g. other_ready x _ (other x (sym e ∙ g)))

    one_stage : (s x : Stage) → is_audit s ≡ false → Some s ≡ Some x → is_audit x ≡ false
    one_stage s x e g = ap is_audit (sym (same_Some s x g)) ∙ e

    low_is_free : m.low.proved ≡ true → IsFree low_free.low
    low_is_free proved = record {
      proved = ap (λ b. is_probe w.command.purpose || b) proved ∙ or_true (is_probe w.command.purpose);
      none = refl;
    }

    upload_on : (r : Option Response) → m.job ≡ Some Asking
        → Did (and_then (with_taken Low (upload_by r f low_free)) job_goes_on) lives unit t
    upload_on (Some (response.Upload count)) e = gathers_on low_free lives unit t known right quiet count 0 []
    upload_on _ e = freed_on (Some Asking) e (λ x g. one_stage Asking x refl g)

    piece_reply_on : (r : Option Response) (expected next : ℕ) (copy : Copy)
        → m.job ≡ Some (Gathering expected next copy)
        → Did (and_then (with_taken Low (piece_by_reply r expected next copy f low_free)) job_goes_on)
        lives unit t
    piece_reply_on (Some (response.UploadNext piece)) expected next copy e =
        piece_on low_free lives unit t known right quiet (piece_fault piece copy) expected next piece copy
    piece_reply_on _ expected next copy e =
        freed_on (Some (Gathering expected next copy)) e
        (λ x g. one_stage (Gathering expected next copy) x refl g)

    -- a download goes on, or ends
    image_ready : (s : Stage) → IsImageStage s → (a : State) → Ready a s
    image_ready (Probing high low) h a = absurd h
    image_ready Asking h a = absurd h
    image_ready (Gathering expected next copy) h a = absurd h
    image_ready AskingAlarms h a = absurd h
    image_ready (GatheringRows expected next) h a = absurd h
    image_ready (StartingImage order asked image) h a = tt
    image_ready (SendingImage order outgoing resent) h a = tt
    image_ready (EndingImage order image busy) h a = tt
    image_ready (DelayingEnd order image busy) h a = tt

    download_on : (b : Manager) → Downloads low_free b
        → Did (and_then (with_taken Low b) job_goes_on) lives unit t
    download_on b k =
        did_then (with_taken Low b) lives unit t (took_told Low t) refl refl
        (k.reports (subst NoneSynced (sym quiet) tt)) refl known right
        (λ s e. image_ready s (k.job s e) _)

    start_reply_on : (r : Option Response) (order : Order) (asked : ℕ) (image : List ℕ)
        → m.job ≡ Some (StartingImage order asked image)
        → Did (and_then (with_taken Low (start_by_reply r order asked image f low_free)) job_goes_on)
        lives unit t
    start_reply_on (Some (response.Start code window)) order asked image e =
        download_on _ (start_downloads code.0 window order asked image low_free)
    start_reply_on _ order asked image e =
        freed_on (Some (StartingImage order asked image)) e
        (λ x g. one_stage (StartingImage order asked image) x refl g)

    window_reply_on : (r : Option Response) (order : Order) (outgoing : Outgoing) (resent : ℕ)
        → m.job ≡ Some (SendingImage order outgoing resent)
        → Did (and_then (with_taken Low (window_by_reply r order outgoing resent f low_free))
        job_goes_on) lives unit t
    window_reply_on (Some (response.Section code number)) order outgoing resent e =
        download_on _ (window_downloads code.0 order outgoing resent low_free)
    window_reply_on _ order outgoing resent e =
        freed_on (Some (SendingImage order outgoing resent)) e
        (λ x g. one_stage (SendingImage order outgoing resent) x refl g)

    end_reply_on : (r : Option Response) (order : Order) (image : List ℕ) (busy : ℕ)
        → m.job ≡ Some (EndingImage order image busy)
        → Did (and_then (with_taken Low (end_by_reply r order image busy f low_free)) job_goes_on)
        lives unit t
    end_reply_on (Some (response.End code)) order image busy e =
        download_on _ (end_downloads code.0 order image busy low_free)
    end_reply_on _ order image busy e =
        freed_on (Some (EndingImage order image busy)) e
        (λ x g. one_stage (EndingImage order image busy) x refl g)

    -- the audit's own replies
    alarms_on : IsOwn lives t bytes → AsksAlarms (state_of lives unit m t)
        → Did (and_then (with_taken Low (alarms_by (response_of f) f low_free)) job_goes_on) lives unit t
    unfolding begun
    alarms_on own at =
        let c = at.reply bytes own.last in
        let says =
        alarms_read (response_frame c.frame (response.Alarms (length c.alarms))) c.frame.tci
        c.frame.entity (length c.alarms) f refl c.few (ap packet_frame (sym c.is) ∙ read) in
        let same : (t.low == t.asking) ≡ true = right_is t.low t.asking (sym at.own) in
        let out = lanes.low_out w waits in
        subst (λ r. Did (and_then (with_taken Low (alarms_by r f low_free)) job_goes_on) lives unit t)
        (sym says)
        (rows_all (with_table (begun m.table) low_free) lives unit t known right quiet
        (low_is_free at.proved) c.alarms c.whole c.few
        (subst (λ n. LastAlarms n [] c.alarms t.history) (sym at.own) c.last)
        (λ u s on has. same_alarms t.low s.alarms c.alarms t.history
        (at.fresh u s on own.carried has) c.last)
        (subst (λ n. n < t.drawn) (sym at.own) out.1)
        (λ v e. subst (λ n. t.high ≢ n) (sym at.own) ((lanes.high_out v e).apart w waits))
        (sym (ap (λ b. notices_if b t.notices) same)) (length c.alarms) 0 refl refl)

    row_reply_on : (expected next : ℕ) → IsOwn lives t bytes
        → AtStage (state_of lives unit m t) (GatheringRows expected next)
        → Did (and_then (with_taken Low (row_by_reply (response_of f) expected next f low_free))
        job_goes_on) lives unit t
    row_reply_on expected next own at =
        let p = at.1.reply bytes own.last in
        let says =
        row_read (response_frame p.frame (response.AlarmsNext p.row)) p.frame.tci p.frame.entity
        p.row f refl p.long (ap packet_frame (sym p.is) ∙ read) in
        let same : (t.low == t.asking) ≡ false = wrong_is t.low t.asking at.1.later in
        let g : GathersRows (state_of lives unit low_free t) expected next = record {
          alarms = at.0.alarms;
          whole = at.0.whole;
          few = at.0.few;
          last = at.0.last;
          count = at.0.count;
          less = at.0.less;
          gathering = at.0.gathering;
          waiting = at.0.waiting;
          put_by = at.0.put_by;
          before = at.0.before;
          apart = at.0.apart;
        } in
        subst (λ r. Did (and_then (with_taken Low (row_by_reply r expected next f low_free))
        job_goes_on) lives unit t) (sym says)
        (row_on low_free lives unit t known right quiet (low_is_free at.1.proved) expected next g
        (ap (λ b. notices_if b t.notices) same) p.row p.from)

    job_on : IsOwn lives t bytes → (job : Option Stage) → m.job ≡ job
        → Did (and_then (with_taken Low (job_by job (response_of f) f low_free)) job_goes_on) lives unit t
    job_on own None e = freed_on None e (λ x g. absurd (cc))
    job_on own (Some (Probing high low)) e =
        freed_on (Some (Probing high low)) e (λ x g. one_stage (Probing high low) x refl g)
    job_on own (Some Asking) e = upload_on (response_of f) e
    job_on own (Some (Gathering expected next copy)) e =
        piece_reply_on (response_of f) expected next copy e
    job_on own (Some (StartingImage order asked image)) e =
        start_reply_on (response_of f) order asked image e
    job_on own (Some (SendingImage order outgoing resent)) e =
        window_reply_on (response_of f) order outgoing resent e
    job_on own (Some (EndingImage order image busy)) e =
        end_reply_on (response_of f) order image busy e
    job_on own (Some (DelayingEnd order image busy)) e =
        freed_on (Some (DelayingEnd order image busy)) e
        (λ x g. one_stage (DelayingEnd order image busy) x refl g)
    job_on own (Some AskingAlarms) e = alarms_on own (j AskingAlarms e)
    job_on own (Some (GatheringRows expected next)) e =
        row_reply_on expected next own (j (GatheringRows expected next) e)

    taken_low : (is_probe w.command.purpose ≡ false → IsOwn lives t bytes) → (p : Purpose)
        → w.command.purpose ≡ p → Did (and_then (taken_as p Low w.command f low_free) job_goes_on) lives unit t
    taken_low own purpose.Probe e =
        did_then (probe_taken Low low_free) lives unit t t refl refl
        (none_more m.reports (report.Proved Low) (subst NoneSynced (sym quiet) tt) refl) refl known
        right (λ s g. probed_ready (ap is_job e) m.job refl s g _)
    taken_low own purpose.Submission e =
        mild_low (followed_by w.command (response_of f) (with_report (report.Took f) low_free))
        (mild_then low_free (with_report (report.Took f) low_free) _
        (mild_report (report.Took f) low_free refl)
        (mild_followed w.command (response_of f) (with_report (report.Took f) low_free)))
        (ap is_job e)
    taken_low own purpose.Check e =
        mild_low (checked_by (response_of f) f low_free) (mild_checked (response_of f) f low_free)
        (ap is_job e)
    taken_low own purpose.Job e = job_on (own (ap is_probe e)) m.job refl

  -- ---- a reply of the high lane

  module _ (w : Waiting) (waits : m.high.outstanding ≡ Some w) where
    abbrev high_free : Manager
    high_free = record m { high = end_command w m.high }

    -- the audit goes on beside it
    high_keeps : (b : Manager) → Mild high_free b → b.table ≡ m.table
        → Keeps (state_of lives unit m t) (state_of lives unit b (took_told High t))
    high_keeps b k same = record {
      tlow = refl;
      asking = refl;
      proved = λ e. ap (λ l. l.proved) k.low ∙ e;
      waits = λ v e. (v, ap (λ l. l.outstanding) k.low ∙ e, refl);
      drawn = omega arith;
      high = λ v e. absurd (let n = ap (λ l. l.outstanding) k.high in cc);
      gathering = λ rows e. ap (λ (x : Table). x.gathering) same ∙ e;
      waiting = λ rows e apart f.
          ap (λ (x : Table). x.waiting) same ∙ f
          ∙ sym (ap (λ c. notices_if c t.notices) (wrong_is t.high t.asking (apart w waits)));
      replied = λ r e. e;
      carried = λ was u s on has. was;
      put_by = λ u s on has. (u, s, on, has, refl);
      last = λ command alarms h. h;
    }

    mild_high : (b : Manager) → Mild high_free b → b.table ≡ m.table
        → Did (and_then (with_taken High b) job_goes_on) lives unit t
    mild_high b k same =
        did_then (with_taken High b) lives unit t (took_told High t) refl refl
        (k.reports (subst NoneSynced (sym quiet) tt)) refl known right
        (λ s e. ready_of _ s (stage_kept _ _ (high_keeps b k same) s (j s (sym k.job ∙ e))))

    -- its probe is answered
    probe_keeps : (b : Manager) → b.low ≡ m.low → b.high ≡ end_command w m.high → b.table ≡ m.table
        → Keeps (state_of lives unit m t) (state_of lives unit b t)
    probe_keeps b low high same = record {
      tlow = refl;
      asking = refl;
      proved = λ e. ap (λ l. l.proved) low ∙ e;
      waits = λ v e. (v, ap (λ l. l.outstanding) low ∙ e, refl);
      drawn = omega arith;
      high = λ v e. absurd (let n = ap (λ l. l.outstanding) high in cc);
      gathering = λ rows e. ap (λ (x : Table). x.gathering) same ∙ e;
      waiting = λ rows e apart f. ap (λ (x : Table). x.waiting) same ∙ f;
      replied = λ r e. e;
      carried = λ was u s on has. was;
      put_by = λ u s on has. (u, s, on, has, refl);
      last = λ command alarms h. h;
    }

    probed_high : (b : State) → Keeps (state_of lives unit m t) b → (job : Option Stage) → m.job ≡ job
        → (s : Stage) → job_probed High job ≡ Some s → Ready b s
    probed_high b k None e s g = absurd (cc)
    probed_high b k (Some (Probing high low)) e s g =
        subst (Ready b) (same_Some (Probing false low) s g) tt
    probed_high b k (Some Asking) e s g = subst (Ready b) (same_Some Asking s g) tt
    probed_high b k (Some (Gathering expected next copy)) e s g =
        subst (Ready b) (same_Some (Gathering expected next copy) s g) tt
    probed_high b k (Some (StartingImage order asked image)) e s g = subst (Ready b) (same_Some (StartingImage order asked image) s g) tt
    probed_high b k (Some (SendingImage order outgoing resent)) e s g = subst (Ready b) (same_Some (SendingImage order outgoing resent) s g) tt
    probed_high b k (Some (EndingImage order image busy)) e s g = subst (Ready b) (same_Some (EndingImage order image busy) s g) tt
    probed_high b k (Some (DelayingEnd order image busy)) e s g = subst (Ready b) (same_Some (DelayingEnd order image busy) s g) tt
    probed_high b k (Some AskingAlarms) e s g =
        subst (Ready b) (same_Some AskingAlarms s g)
        (stage_kept _ b k AskingAlarms (j AskingAlarms e))
    probed_high b k (Some (GatheringRows expected next)) e s g =
        subst (Ready b) (same_Some (GatheringRows expected next) s g)
        (inl (stage_kept _ b k (GatheringRows expected next) (j (GatheringRows expected next) e)))

    taken_high : (p : Purpose) → w.command.purpose ≡ p
        → Did (and_then (taken_as p High w.command f high_free) job_goes_on) lives unit t
    taken_high purpose.Probe e =
        did_then (probe_taken High high_free) lives unit t t refl refl
        (none_more m.reports (report.Proved High) (subst NoneSynced (sym quiet) tt) refl) refl known
        right
        (λ s g. probed_high _
        (probe_keeps (probe_taken High high_free).manager refl refl refl) m.job refl s g)
    taken_high purpose.Submission e =
        mild_high (followed_by w.command (response_of f) (with_report (report.Took f) high_free))
        (mild_then high_free (with_report (report.Took f) high_free) _
        (mild_report (report.Took f) high_free refl)
        (mild_followed w.command (response_of f) (with_report (report.Took f) high_free)))
        (followed_table w.command (response_of f) (with_report (report.Took f) high_free))
    taken_high purpose.Check e =
        mild_high (checked_by (response_of f) f high_free) (mild_checked (response_of f) f high_free)
        (checked_table (response_of f) f high_free)
    taken_high purpose.Job e = not_job w.command.purpose e (lanes.high_out w waits).callers

  taken_in : (lane : Priority) (w : Waiting) → (lane_in lane m).outstanding ≡ Some w
      → (lane ≡ Low → is_probe w.command.purpose ≡ false → IsOwn lives t bytes)
      → Did (taken_by lane f w m) lives unit t
  taken_in Low w e own = taken_low w e (own refl) w.command.purpose refl
  taken_in High w e own = taken_high w e w.command.purpose refl

-- ---- a packet

heard_by : (bytes : List ℕ) (o : Outcome) (m : Manager) (lives : ℕ) (unit : Option Onu) (t : Told)
    → Known t → Lanes m.low m.high t.drawn t.low t.high → JobOk lives unit m t
    → AuditedRight t.history → m.reports ≡ [] → IsHeard m.low lives t bytes
    → (o ≡ untaken (packet_frame bytes) m) ⊎ IsTaken bytes m o → Did o lives unit t
heard_by bytes o m lives unit t known lanes j right quiet heard (inl not) =
    subst (λ x. Did x lives unit t) (sym not)
    (untaken_on m lives unit t j right quiet (packet_frame bytes))
heard_by bytes o m lives unit t known lanes j right quiet heard (inr k) =
    subst (λ x. Did x lives unit t) (sym k.is)
    (taken_in bytes k.frame k.read m lives unit t known lanes j right quiet
    (priority_of k.frame.tci) k.waiting k.waits
    (λ low probe. heard k.waiting
    (subst (λ l. (lane_in l m).outstanding ≡ Some k.waiting) low k.waits)
    (sym k.tci_is ∙ k.same) (ap priority_of (sym k.tci_is) ∙ low) probe))

pub packet_good : (bytes : List ℕ) (m : Manager) (lives : ℕ) (unit : Option Onu) (t : Told)
    → Known t → Lanes m.low m.high t.drawn t.low t.high → JobOk lives unit m t
    → AuditedRight t.history → m.reports ≡ [] → IsHeard m.low lives t bytes
    → Did (after_packet bytes m) lives unit t
packet_good bytes m lives unit t known lanes j right quiet heard =
    heard_by bytes (after_packet bytes m) m lives unit t known lanes j right quiet heard
    (hearing_is bytes m)
