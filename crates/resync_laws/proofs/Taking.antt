-- Packets that come to the manager.
use Rattle.std.proofs.Common.{◌≡◌, ℕ, ◌+◌, ◌<◌, ◌≤◌, ◌^◌, Bool, true, false, eqb, ◌||◌, List, [], ◌∷◌, ◌++◌, length, replicate, Option, Some, None, Result, Ok, Err, ◌⊎◌, inl, inr, is_some, refl, sym, ap, subst, ◌∙◌, arith, nat_le, ◌==◌}
use Rattle.std.proofs.lemmas.Option.{same_Some}
use Rattle.std.proofs.lemmas.Bool.{and_parts, false≢true, eqb-true}
use Rattle.std.proofs.lemmas.Bool.Decides.{nat_tests}
use Rattle.omci_types.specs.declared.EntityId.{EntityId}
use Rattle.omci_types.specs.declared.Frame.{Frame}
use Rattle.omci_types.specs.declared.Priority.{Priority}
use Rattle.omci_types.specs.declared.Priority.TheVariants.{Low, High}
use Rattle.omci_types.specs.declared.TheConstants.Code.{SUCCESS}
use Rattle.frame_spec.specs.Baseline.{packet_frame}
use Rattle.message_spec.specs.declared.ContentsFault.{ContentsFault}
use Rattle.message_spec.specs.declared.Message.{Message}
use Rattle.message_spec.specs.declared.Message.TheVariants.{Asked, Answered, Told as ToldOf}
use Rattle.message_spec.specs.declared.Notice.{Notice}
use Rattle.message_spec.specs.declared.Notice.TheVariants as notices
use Rattle.message_spec.specs.Reading.{message_of}
use Rattle.message_spec.specs.declared.Response.{Response}
use Rattle.message_spec.specs.declared.Response.TheVariants as response
use Rattle.alarm_spec.specs.Alarms.{Alarm}
use Rattle.alarm_spec.specs.declared.BadRow.{BadRow}
use Rattle.alarm_spec.specs.declared.BadRow.TheVariants as bad
use Rattle.alarm_spec.specs.declared.TakenAlarm.{TakenAlarm}
use Rattle.alarm_spec.specs.declared.TakenAlarm.TheVariants as taken
use Rattle.alarm_spec.specs.Table.{take_answer, after_take, begun, gathered, row_fault, after_row, finished}
use Rattle.upload_spec.specs.declared.PieceFault.{PieceFault}
use Rattle.upload_spec.specs.declared.PieceFault.TheVariants as fault
use Rattle.upload_spec.specs.Pieces.{Copy, pieces, piece_at, without_makers}
use Rattle.upload_spec.specs.Copies.{with_piece, piece_fault, copied_counter, copy_counter}
use Rattle.tci_spec.specs.Tci.{priority_of, packet_tci}
use Rattle.link_spec.specs.Link.{Link}
use Rattle.lane_spec.specs.declared.Purpose.{Purpose}
use Rattle.lane_spec.specs.declared.Purpose.TheVariants as purpose
use Rattle.lane_spec.specs.Command.{Command, is_probe, answers}
use Rattle.lane_spec.specs.Lane.{Lane, Waiting, Replied, end_command, reply_by, reply_to, lane_reply}
use Rattle.manager_spec.specs.declared.ResyncReason.{ResyncReason}
use Rattle.manager_spec.specs.declared.ResyncReason.TheVariants as reason
use Rattle.window_spec.specs.Outgoing.{Outgoing}
use Rattle.manager_spec.specs.declared.AuditReason.{AuditReason}
use Rattle.manager_spec.specs.declared.AuditReason.TheVariants as audit
use Rattle.manager_spec.specs.declared.Report.{Report}
use Rattle.manager_spec.specs.declared.Report.TheVariants as report
use Rattle.manager_spec.specs.Manager.{Stage, Probing, Asking, Gathering, AskingAlarms, GatheringRows, StartingImage, SendingImage, EndingImage, DelayingEnd, Order, Manager, sends_nothing, lane_in, with_lane, with_report, leave_step, and_then}
use Rattle.manager_spec.specs.Copying.{followed_if, followed}
use Rattle.manager_spec.specs.Resync.{with_job, resync_failed, resync_done, done_if_counted, gather_unless_all, gather_on, piece_by, piece_came}
use Rattle.manager_spec.specs.Audit.{with_table, audit_failed, audit_done, rows_unless_all, rows_on, row_by, audit_lost, notice_taken, alarm_as, alarm_came, notice_came}
use Rattle.manager_spec.specs.Jobs.{job_goes_on}
use Rattle.manager_spec.specs.Steps.{response_of, code_of, first_value, with_taken, job_probed, probe_taken, followed_by, expected_counter, compared, counters_compared, checked_if, checked_by, freed, upload_by, piece_by_reply, alarms_by, row_by_reply, start_by_reply, window_by_reply, end_by_reply, job_by, taken_as, packet_dropped, not_taken, take_if, frame_came, for_frame, after_packet}
use Rattle.unit_spec.specs.Onu.{Onu, Snapshot, response_frame}
use Rattle.history_spec.specs.History.{Entry, TookReply, WasCarried, LastReply, LastSnapshot}
use Rattle.world_spec.specs.History.{Told, drawn_in, answers_in}
use Rattle.upload_laws.specs.Shaped.{IsWhole}
use Rattle.resync_laws.proofs.Reading.{tci_read, upload_read, next_read}
use Rattle.resync_laws.proofs.Gathering.{front_of, front_more, front_none, front_all, zeros_empty, unknown_same}
use Rattle.resync_laws.proofs.Invariants.{one_snapshot, is_job, Counted, Asks, Gathers, AsksNext, AtStage, JobOk, Held}
use Rattle.resync_laws.proofs.Sending.{low_ended, high_ended}
use Rattle.resync_laws.proofs.Telling.{is_synced, NoneSynced, none_more, Did, did_quiet, did_sync, did_audit, synced_told, audited_told, goes_nothing}
use Rattle.resync_laws.proofs.Going.{IsFree, Ready, ready_of, did_then}
use Rattle.resync_laws.proofs.Mild.{Mild, mild_then, mild_same, mild_report, mild_leave, fails, IsImageStage, Downloads, start_downloads, window_downloads, end_downloads}

-- ---- the copy follows, the counters are compared

mild_followed_if : (b : Bool) (c : Command) (m : Manager) → Mild m (followed_if b c.entity c.request m)
mild_followed_if true c m = record { low = refl; high = refl; job = refl; reports = λ n. n }
mild_followed_if false c m = mild_same m

pub mild_followed : (c : Command) (r : Option Response) (m : Manager) → Mild m (followed_by c r m)
unfolding followed
mild_followed c None m = mild_same m
mild_followed c (Some r) m = mild_followed_if (code_of r == SUCCESS.0) c m

mild_compared : (b : Bool) (m : Manager) → Mild m (compared b m)
mild_compared true m = mild_same m
mild_compared false m = mild_leave m

mild_counters : (given : ℕ) (m : Manager) → Mild m (counters_compared given m)
mild_counters given m =
    mild_then m (with_report (report.Checked given (expected_counter m)) m) (counters_compared given m)
    (mild_report (report.Checked given (expected_counter m)) m refl)
    (mild_compared (given == expected_counter m) (with_report (report.Checked given (expected_counter m)) m))

mild_took : (f : Frame) (m : Manager) → Mild m (leave_step (with_report (report.Took f) m))
mild_took f m =
    mild_then m (with_report (report.Took f) m) (leave_step (with_report (report.Took f) m))
    (mild_report (report.Took f) m refl) (mild_leave (with_report (report.Took f) m))

mild_checked_if : (b : Bool) (r : Response) (f : Frame) (m : Manager) → Mild m (checked_if b r f m)
mild_checked_if true r f m = mild_counters (first_value r) m
mild_checked_if false r f m = mild_took f m

pub mild_checked : (r : Option Response) (f : Frame) (m : Manager) → Mild m (checked_by r f m)
mild_checked None f m = mild_took f m
mild_checked (Some r) f m = mild_checked_if (code_of r == SUCCESS.0) r f m

-- ---- a reply more in the history

abbrev pub took_told : Priority → Told → Told
took_told lane t =
    record (answers_in lane t) { history = TookReply (drawn_in lane t) t.packet ∷ t.history }

counted_took : (command name : ℕ) (bytes r : List ℕ) (history : List Entry) → Counted command r history
    → Counted command r (TookReply name bytes ∷ history)
counted_took command name bytes r history h = record {
  database = h.database;
  whole = h.whole;
  few = h.few;
  last = h.last;
  frame = h.frame;
  is = h.is;
}

gathers_took : (unit : Option Onu) (asking name : ℕ) (bytes : List ℕ) (history : List Entry)
    (expected next : ℕ) (copy : Copy) → Gathers unit asking history expected next copy
    → Gathers unit asking (TookReply name bytes ∷ history) expected next copy
gathers_took unit asking name bytes history expected next copy h = record {
  database = h.database;
  whole = h.whole;
  few = h.few;
  last = h.last;
  count = h.count;
  less = h.less;
  front = h.front;
  put_by = h.put_by;
}

stage_took : (lives : ℕ) (unit : Option Onu) (low : Lane) (tlow asking name : ℕ) (bytes : List ℕ)
    (history : List Entry) (s : Stage) → AtStage lives unit low tlow asking history s
    → AtStage lives unit low tlow asking (TookReply name bytes ∷ history) s
unfolding gathers_took
stage_took lives unit low tlow asking name bytes history (Probing high' low') h = tt
stage_took lives unit low tlow asking name bytes history AskingAlarms h = tt
stage_took lives unit low tlow asking name bytes history (GatheringRows expected next) h = tt
stage_took lives unit low tlow asking name bytes history (StartingImage order asked image) h = tt
stage_took lives unit low tlow asking name bytes history (SendingImage order outgoing resent) h = tt
stage_took lives unit low tlow asking name bytes history (EndingImage order image busy) h = tt
stage_took lives unit low tlow asking name bytes history (DelayingEnd order image busy) h = tt
stage_took lives unit low tlow asking name bytes history Asking h = record {
  proved = h.proved;
  waiting = h.waiting;
  waits = h.waits;
  command = h.command;
  own = h.own;
  reply = λ r last. counted_took tlow name bytes r history (h.reply r last);
  fresh = h.fresh;
}
stage_took lives unit low tlow asking name bytes history (Gathering expected next copy) h = (
  gathers_took unit asking name bytes history expected next copy h.0,
  record {
    proved = h.1.proved;
    waiting = h.1.waiting;
    waits = h.1.waits;
    command = h.1.command;
    reply = h.1.reply;
  },
)

pub held_took : (lane : Priority) (link : Link) (unit : Option Onu) (low high : Lane) (t : Told)
    → Held link.packets unit low high t → Held link.packets unit low high (took_told lane t)
held_took lane link unit low high t h = record {
  sent = h.sent;
  apart = h.apart;
  lanes = h.lanes;
  carried = h.carried;
  whole = h.whole;
  right = h.right;
}

held_synced : (copy : Copy) (link : Link) (unit : Option Onu) (low high : Lane) (u : Told)
    → Held link.packets unit low high u → LastSnapshot u.asking copy u.history
    → Held link.packets unit low high (synced_told copy u)
held_synced copy link unit low high u h last = record {
  sent = h.sent;
  apart = h.apart;
  lanes = h.lanes;
  carried = h.carried;
  whole = h.whole;
  right = (last, h.right);
}

held_audited : (m : Manager) (link : Link) (unit : Option Onu) (low high : Lane) (u : Told)
    → Held link.packets unit low high u → Held link.packets unit low high (audited_told m u)
held_audited m link unit low high u h = record {
  sent = h.sent;
  apart = h.apart;
  lanes = h.lanes;
  carried = h.carried;
  whole = h.whole;
  right = h.right;
}

-- ---- the low lane's reply to a request of the audit

module _ (m : Manager) (link : Link) (lives : ℕ) (unit : Option Onu) (t : Told) (h : Held link.packets unit m.low m.high (took_told Low t)) (quiet : m.reports ≡ []) where
  audit_fails_on : (why : AuditReason) → Did (and_then (with_taken Low (audit_failed why m)) job_goes_on) link lives unit t
  audit_fails_on why =
      did_then (with_taken Low (audit_failed why m)) link lives unit t (took_told Low t) refl refl
      (none_more m.reports (report.AuditFailed why) (subst NoneSynced (sym quiet) tt) refl) refl h
      (λ s e. absurd (cc))

  rows_by : (all : Bool) (expected next : ℕ) → Did (and_then (with_taken Low (rows_unless_all all expected next m)) job_goes_on) link lives unit t
  unfolding job_goes_on
  rows_by true expected next =
      did_audit (and_then (with_taken Low (audit_done m)) job_goes_on) (length (finished m.table).rows) link lives unit t (took_told Low t) refl
      (ap (λ (rs : List Report). rs ++ report.Audited (length (finished m.table).rows) ∷ []) quiet)
      (record { held = held_audited (audit_done m) link unit m.low m.high (took_told Low t) h; job = λ s e. absurd (cc) })
  rows_by false expected next =
      did_then (with_taken Low (with_job (Some (GatheringRows expected next)) m)) link lives unit t (took_told Low t) refl refl
      (subst NoneSynced (sym quiet) tt) refl h
      (λ s f. subst (Ready lives unit m.low t.low t.asking (took_told Low t).history) (same_Some (GatheringRows expected next) s f) tt)

  rows_all : (expected next : ℕ) → Did (and_then (with_taken Low (rows_on expected next m)) job_goes_on) link lives unit t
  unfolding rows_on
  rows_all expected next = rows_by (nat_le expected next) expected next

module _ (m : Manager) (link : Link) (lives : ℕ) (unit : Option Onu) (t : Told) (h : Held link.packets unit m.low m.high (took_told Low t)) (quiet : m.reports ≡ []) where
  row_on : (o : Option BadRow) (expected next : ℕ) (row : List ℕ) → Did (and_then (with_taken Low (row_by o expected next row m)) job_goes_on) link lives unit t
  row_on None expected next row = rows_all (with_table (after_row row m.table) m) link lives unit t h quiet expected (next + 1)
  row_on (Some bad.Empty) expected next row = audit_fails_on m link lives unit t h quiet audit.Empty
  row_on (Some (bad.Repeated one)) expected next row = audit_fails_on m link lives unit t h quiet (audit.Repeated one)

-- ---- the low lane's reply to a request of the job

module _ (m : Manager) (link : Link) (lives : ℕ) (unit : Option Onu) (t : Told) (h : Held link.packets unit m.low m.high (took_told Low t)) (free : IsFree m.low) (quiet : m.reports ≡ []) where
  none_yet : NoneSynced m.reports
  none_yet = subst NoneSynced (sym quiet) tt

  fails_on : (why : ResyncReason) → Did (and_then (with_taken Low (resync_failed why m)) job_goes_on) link lives unit t
  fails_on why =
      let k = fails why m in
      did_then (with_taken Low (resync_failed why m)) link lives unit t (took_told Low t) refl refl
      (k.reports none_yet) refl
      (subst (λ l. Held link.packets unit l (resync_failed why m).high (took_told Low t)) (sym k.low)
      (subst (λ l. Held link.packets unit m.low l (took_told Low t)) (sym k.high) h))
      (λ s e. absurd (let j = k.job in cc))

  module _ (database : Copy) (whole : IsWhole database) (few : length (pieces database) < 2 ^ 16) (last : LastSnapshot t.asking database t.history) (put_by : (u : Onu) (s : Snapshot) → unit ≡ Some u → u.snapshot ≡ Some s → without_makers s.database ≡ database) where
    ends_on : (copy : Copy) → copy ≡ database → (b : Bool) → Did (and_then (with_taken Low (done_if_counted b copy m)) job_goes_on) link lives unit t
    unfolding job_goes_on
    ends_on copy same false = fails_on reason.Missing
    ends_on copy same true =
        let done : Manager = resync_done copy m in
        did_sync (and_then (with_taken Low done) job_goes_on) copy (length copy) (copy_counter copy) link lives unit t (took_told Low t)
        refl refl
        (ap (λ (rs : List Report). (rs ++ report.Synced (length copy) (copy_counter copy) ∷ []) ++ report.PhaseIn ∷ []) quiet)
        (record {
          held = held_synced copy link unit m.low m.high (took_told Low t) h (subst (λ c. LastSnapshot t.asking c t.history) (sym same) last);
          job = λ s e. absurd (cc);
        })

    gathers_by : (expected next : ℕ) (copy : Copy) → expected ≡ length (pieces database) → copy ≡ front_of next database
        → (b : Bool) → nat_le expected next ≡ b
        → Did (and_then (with_taken Low (gather_unless_all b expected next copy m)) job_goes_on) link lives unit t
    gathers_by expected next copy count front true e =
        let enough : length (pieces database) ≤ next = grind (arith, nat_tests) in
        ends_on copy (front ∙ front_all next database whole enough) (is_some (copied_counter copy))
    gathers_by expected next copy count front false e =
        did_then (with_taken Low (with_job (Some (Gathering expected next copy)) m)) link lives unit t (took_told Low t) refl refl none_yet refl h
        (λ s f. subst (Ready lives unit m.low t.low t.asking (took_told Low t).history) (same_Some (Gathering expected next copy) s f) (inr (
          free,
          record {
            database = database;
            whole = whole;
            few = few;
            last = last;
            count = count;
            less = (grind (arith, nat_tests));
            front = front;
            put_by = put_by;
          },
        )))

    gathers_on : (expected next : ℕ) (copy : Copy) → expected ≡ length (pieces database) → copy ≡ front_of next database
        → Did (and_then (with_taken Low (gather_on expected next copy m)) job_goes_on) link lives unit t
    unfolding gather_on
    gathers_on expected next copy count front = gathers_by expected next copy count front (nat_le expected next) refl

    -- a piece of the snapshot
    piece_on : (expected next : ℕ) (copy : Copy) (piece : List ℕ) → expected ≡ length (pieces database) → copy ≡ front_of next database → piece_at next database ≡ Some piece
        → (o : Option PieceFault) → piece_fault piece copy ≡ o
        → Did (and_then (with_taken Low (piece_by o expected next piece copy m)) job_goes_on) link lives unit t
    piece_on expected next copy piece count front is None e = gathers_on expected (next + 1) (with_piece piece copy) count (ap (with_piece piece) front ∙ front_more next piece database is)
    piece_on expected next copy piece count front is (Some fault.Empty) e = fails_on reason.Empty
    piece_on expected next copy piece count front is (Some (fault.ClassUnknown class)) e = gathers_on expected (next + 1) copy count (sym (unknown_same piece copy class e) ∙ ap (with_piece piece) front ∙ front_more next piece database is)
    piece_on expected next copy piece count front is (Some (fault.Truncated one)) e = fails_on (reason.Truncated one)
    piece_on expected next copy piece count front is (Some (fault.Repeated one attribute)) e = fails_on (reason.Repeated one attribute)

    -- that piece, or zeros
    came_on : (expected next : ℕ) (copy : Copy) (piece : List ℕ) → expected ≡ length (pieces database) → copy ≡ front_of next database
        → (piece_at next database ≡ Some piece) ⊎ (piece ≡ replicate 32 0)
        → Did (and_then (with_taken Low (piece_came expected next piece copy m)) job_goes_on) link lives unit t
    came_on expected next copy piece count front (inl is) = piece_on expected next copy piece count front is (piece_fault piece copy) refl
    came_on expected next copy piece count front (inr zeros) =
        subst (λ o. Did (and_then (with_taken Low (piece_by o expected next piece copy m)) job_goes_on) link lives unit t)
        (sym (ap (λ p. piece_fault p copy) zeros ∙ zeros_empty copy)) (fails_on reason.Empty)

-- ---- what is known of a reply that the low lane may take

-- its command was carried out in this life, and this is the reply of the last time
pub record IsOwn (lives : ℕ) (t : Told) (bytes : List ℕ) : Type 0 where
  pub carried : WasCarried lives t.low t.history
  pub last : LastReply t.low bytes t.history

abbrev pub IsHeard : Lane → ℕ → Told → List ℕ → Type 0
IsHeard low lives t bytes =
    (w : Waiting) → low.outstanding ≡ Some w → packet_tci bytes ≡ w.tci
    → priority_of (packet_tci bytes) ≡ Low → is_probe w.command.purpose ≡ false
    → IsOwn lives t bytes

pub or_true : (b : Bool) → (b || true) ≡ true
or_true true = refl
or_true false = refl

pub not_job : {A : Type 0} (p : Purpose) → p ≡ purpose.Job → is_job p ≡ false → A
not_job p e f = absurd (false≢true (sym f ∙ ap is_job e))

-- ---- what answers nothing: a notice, or it is dropped

held_noticed : (notices : List Alarm) (link : Link) (unit : Option Onu) (low high : Lane)
    (t : Told) → Held link.packets unit low high t
    → Held link.packets unit low high (record t { notices = notices })
held_noticed notices link unit low high t h = record {
  sent = h.sent;
  apart = h.apart;
  lanes = h.lanes;
  carried = h.carried;
  whole = h.whole;
  right = h.right;
}

module _ (m : Manager) (link : Link) (lives : ℕ) (unit : Option Onu) (t : Told) (h : Held link.packets unit m.low m.high t) (j : JobOk lives unit m.low m.job t.low t.asking t.history) (quiet : m.reports ≡ []) where
  unsynced : NoneSynced m.reports
  unsynced = subst NoneSynced (sym quiet) tt

  mild_held : (b : Manager) → Mild m b → Held link.packets unit b.low b.high t
  mild_held b k =
      subst (λ l. Held link.packets unit l b.high t) (sym k.low)
      (subst (λ l. Held link.packets unit m.low l t) (sym k.high) h)

  mild_job : (b : Manager) → Mild m b → JobOk lives unit b.low b.job t.low t.asking t.history
  mild_job b k =
      subst (λ l. JobOk lives unit l b.job t.low t.asking t.history) (sym k.low)
      (subst (λ o. JobOk lives unit m.low o t.low t.asking t.history) (sym k.job) j)

  mild_on : (b : Manager) → Mild m b → Did (sends_nothing b) link lives unit t
  mild_on b k =
      did_quiet (sends_nothing b) link lives unit t t refl (k.reports unsynced)
      (goes_nothing b link lives unit t (mild_held b k) (mild_job b k))

  -- an audit that runs fails, and no other job
  failed_on : (why : AuditReason) (b : Manager) → Mild m b → Did (sends_nothing (audit_failed why b)) link lives unit t
  failed_on why b k =
      did_quiet (sends_nothing (audit_failed why b)) link lives unit t t refl
      (none_more b.reports (report.AuditFailed why) (k.reports unsynced) refl)
      (goes_nothing (audit_failed why b) link lives unit t (mild_held b k) (λ s e. absurd (cc)))

  audit_lost_on : (job : Option Stage) (why : AuditReason) (b : Manager) → Mild m b → Did (sends_nothing (audit_lost job why b)) link lives unit t
  audit_lost_on None why b k = mild_on b k
  audit_lost_on (Some (Probing high' low')) why b k = mild_on b k
  audit_lost_on (Some Asking) why b k = mild_on b k
  audit_lost_on (Some (Gathering expected next copy)) why b k = mild_on b k
  audit_lost_on (Some AskingAlarms) why b k = failed_on why b k
  audit_lost_on (Some (GatheringRows expected next)) why b k = failed_on why b k
  audit_lost_on (Some (StartingImage order asked image)) why b k = mild_on b k
  audit_lost_on (Some (SendingImage order outgoing resent)) why b k = mild_on b k
  audit_lost_on (Some (EndingImage order image busy)) why b k = mild_on b k
  audit_lost_on (Some (DelayingEnd order image busy)) why b k = mild_on b k

  taken_on : (one : EntityId) (bitmap : List ℕ) (b : Manager) → Mild m b → Did (notice_taken one bitmap b) link lives unit t
  taken_on one bitmap b k =
      let u : Told = record t { notices = t.notices ++ (one, bitmap) ∷ [] } in
      did_quiet (notice_taken one bitmap b) link lives unit t u refl (k.reports unsynced)
      (record { held = held_noticed u.notices link unit b.low b.high t (mild_held b k); job = mild_job b k })

  more_mild : (r : Report) (b : Manager) → Mild m b → is_synced r ≡ false → Mild m (with_report r b)
  more_mild r b k e = mild_then m b (with_report r b) k (mild_report r b e)

  alarm_on : (a : TakenAlarm) (one : EntityId) (bitmap : List ℕ) (number : ℕ) (b : Manager) → Mild m b → Did (alarm_as a one bitmap number b) link lives unit t
  alarm_on taken.Unaudited one bitmap number b k = mild_on _ (more_mild (report.AlarmUnaudited number) b k refl)
  alarm_on taken.Repeat one bitmap number b k = mild_on _ (more_mild (report.AlarmRepeat number) b k refl)
  alarm_on (taken.Gap want have) one bitmap number b k = audit_lost_on b.job _ _ (more_mild (report.AlarmGap want have) b k refl)
  alarm_on taken.Overflow one bitmap number b k = audit_lost_on b.job _ _ (more_mild (report.AlarmOverflow number) b k refl)
  alarm_on taken.Taken one bitmap number b k = taken_on one bitmap _ (more_mild (report.AlarmTaken number) b k refl)

  alarm_came_on : (one : EntityId) (bitmap : List ℕ) (number : ℕ) → Did (alarm_came one bitmap number m) link lives unit t
  unfolding alarm_came
  alarm_came_on one bitmap number =
      alarm_on (take_answer number m.table) one bitmap number (with_table (after_take one bitmap number m.table) m)
      (record { low = refl; high = refl; job = refl; reports = λ n. n })

  notice_on : (one : EntityId) (notice : Notice) (f : Frame) → Did (notice_came one notice f m) link lives unit t
  notice_on one (notices.Alarm bitmap number) f = alarm_came_on one bitmap number
  notice_on one (notices.Change mask values) f = mild_on _ (mild_report (report.Change f) m refl)

  drops_on : Did (packet_dropped m) link lives unit t
  drops_on = mild_on _ (mild_report report.Dropped m refl)

  not_taken_on : (r : Result Message ContentsFault) (f : Frame) → Did (not_taken r f m) link lives unit t
  not_taken_on (Ok (ToldOf tci entity notice)) f = notice_on entity notice f
  not_taken_on (Ok (Asked tci entity r)) f = drops_on
  not_taken_on (Ok (Answered tci entity r)) f = drops_on
  not_taken_on (Err fault) f = drops_on

-- ---- a reply of the low lane

module _ (bytes : List ℕ) (f : Frame) (read : packet_frame bytes ≡ Some f) (m : Manager) (link : Link) (lives : ℕ) (unit : Option Onu) (t : Told) (h : Held link.packets unit m.low m.high t) (j : JobOk lives unit m.low m.job t.low t.asking t.history) (quiet : m.reports ≡ []) where
  module _ (w : Waiting) (waits : m.low.outstanding ≡ Some w) where
    abbrev low_free : Manager
    low_free = record m { low = end_command w m.low }

    low_held : Held link.packets unit low_free.low low_free.high t
    low_held = low_ended (is_probe w.command.purpose || m.low.proved) link.packets unit m.low m.high t h

    asking_purpose : Asks lives unit m.low t.low t.asking t.history → w.command.purpose ≡ purpose.Job
    asking_purpose at = ap (λ (v : Waiting). v.command.purpose) (same_Some w at.waiting (sym waits ∙ at.waits)) ∙ ap (λ (c : Command). c.purpose) at.command

    next_purpose : (database : Copy) (next : ℕ) → AsksNext m.low t.low t.history database next → w.command.purpose ≡ purpose.Job
    next_purpose database next at = ap (λ (v : Waiting). v.command.purpose) (same_Some w at.waiting (sym waits ∙ at.waits)) ∙ ap (λ (c : Command). c.purpose) at.command

    -- a caller's command leaves a job that doesn't wait for the lane
    others_ready : is_job w.command.purpose ≡ false → (s : Stage) → m.job ≡ Some s → (history : List Entry) → Ready lives unit low_free.low t.low t.asking history s
    others_ready callers (Probing high' low') e history = tt
    others_ready callers AskingAlarms e history = tt
    others_ready callers (GatheringRows expected next) e history = tt
    others_ready callers (StartingImage order asked image) e history = tt
    others_ready callers (SendingImage order outgoing resent) e history = tt
    others_ready callers (EndingImage order image busy) e history = tt
    others_ready callers (DelayingEnd order image busy) e history = tt
    others_ready callers Asking e history = not_job w.command.purpose (asking_purpose (j Asking e)) callers
    others_ready callers (Gathering expected next copy) e history = let at = j (Gathering expected next copy) e in not_job w.command.purpose (next_purpose at.0.database next at.1) callers

    probed_low : is_job w.command.purpose ≡ false → (job : Option Stage) → m.job ≡ job → (s : Stage) → job_probed Low job ≡ Some s → Ready lives unit low_free.low t.low t.asking t.history s
    probed_low callers None e s g = absurd (cc)
    probed_low callers (Some (Probing high' low')) e s g = subst (Ready lives unit low_free.low t.low t.asking t.history) (same_Some (Probing high' false) s g) tt
    probed_low callers (Some AskingAlarms) e s g = subst (Ready lives unit low_free.low t.low t.asking t.history) (same_Some AskingAlarms s g) tt
    probed_low callers (Some (GatheringRows expected next)) e s g = subst (Ready lives unit low_free.low t.low t.asking t.history) (same_Some (GatheringRows expected next) s g) tt
    probed_low callers (Some (StartingImage order asked image)) e s g = subst (Ready lives unit low_free.low t.low t.asking t.history) (same_Some (StartingImage order asked image) s g) tt
    probed_low callers (Some (SendingImage order outgoing resent)) e s g = subst (Ready lives unit low_free.low t.low t.asking t.history) (same_Some (SendingImage order outgoing resent) s g) tt
    probed_low callers (Some (EndingImage order image busy)) e s g = subst (Ready lives unit low_free.low t.low t.asking t.history) (same_Some (EndingImage order image busy) s g) tt
    probed_low callers (Some (DelayingEnd order image busy)) e s g = subst (Ready lives unit low_free.low t.low t.asking t.history) (same_Some (DelayingEnd order image busy) s g) tt
    probed_low callers (Some Asking) e s g = not_job w.command.purpose (asking_purpose (j Asking e)) callers
    probed_low callers (Some (Gathering expected next copy)) e s g = let at = j (Gathering expected next copy) e in not_job w.command.purpose (next_purpose at.0.database next at.1) callers

    mild_low : (b : Manager) → Mild low_free b → is_job w.command.purpose ≡ false → Did (and_then (with_taken Low b) job_goes_on) link lives unit t
    mild_low b k callers =
        did_then (with_taken Low b) link lives unit t (took_told Low t) refl refl
        (k.reports (subst NoneSynced (sym quiet) tt)) refl
        (subst (λ l. Held link.packets unit l b.high (took_told Low t)) (sym k.low)
        (subst (λ l. Held link.packets unit low_free.low l (took_told Low t)) (sym k.high)
        (held_took Low link unit low_free.low low_free.high t low_held)))
        (λ s e. subst (λ l. Ready lives unit l t.low t.asking (took_told Low t).history s) (sym k.low)
        (others_ready callers s (sym k.job ∙ e) (took_told Low t).history))

    freed_on : (s : Option Stage) → m.job ≡ s → ((x : Stage) → s ≡ Some x → Ready lives unit low_free.low t.low t.asking (took_told Low t).history x) → Did (and_then (with_taken Low (freed f low_free)) job_goes_on) link lives unit t
    freed_on s e ready =
        did_then (with_taken Low (freed f low_free)) link lives unit t (took_told Low t) refl refl
        (none_more m.reports (report.Freed f.tci) (subst NoneSynced (sym quiet) tt) refl) refl
        (held_took Low link unit low_free.low low_free.high t low_held)
        (λ x g. ready x (sym e ∙ g))

    low_is_free : m.low.proved ≡ true → IsFree low_free.low
    low_is_free proved = record { proved = ap (λ b. is_probe w.command.purpose || b) proved ∙ or_true (is_probe w.command.purpose); none = refl }

    alarms_on : (r : Option Response) → m.job ≡ Some AskingAlarms → Did (and_then (with_taken Low (alarms_by r f low_free)) job_goes_on) link lives unit t
    alarms_on (Some (response.Alarms count)) e = rows_all (with_table (begun m.table) low_free) link lives unit t (held_took Low link unit low_free.low low_free.high t low_held) quiet count 0
    alarms_on _ e = freed_on (Some AskingAlarms) e (λ x g. subst (Ready lives unit low_free.low t.low t.asking (took_told Low t).history) (same_Some AskingAlarms x g) tt)

    row_reply_on : (r : Option Response) (expected next : ℕ) → m.job ≡ Some (GatheringRows expected next) → Did (and_then (with_taken Low (row_by_reply r expected next f low_free)) job_goes_on) link lives unit t
    row_reply_on (Some (response.AlarmsNext row)) expected next e = row_on low_free link lives unit t (held_took Low link unit low_free.low low_free.high t low_held) quiet (row_fault row (gathered m.table)) expected next row
    row_reply_on _ expected next e = freed_on (Some (GatheringRows expected next)) e (λ x g. subst (Ready lives unit low_free.low t.low t.asking (took_told Low t).history) (same_Some (GatheringRows expected next) x g) tt)

    -- a download goes on, or ends
    image_ready : (s : Stage) → IsImageStage s → (low : Lane) → Ready lives unit low t.low t.asking (took_told Low t).history s
    image_ready (Probing high' low') h low = absurd h
    image_ready Asking h low = absurd h
    image_ready (Gathering expected next copy) h low = absurd h
    image_ready AskingAlarms h low = absurd h
    image_ready (GatheringRows expected next) h low = absurd h
    image_ready (StartingImage order asked image) h low = tt
    image_ready (SendingImage order outgoing resent) h low = tt
    image_ready (EndingImage order image busy) h low = tt
    image_ready (DelayingEnd order image busy) h low = tt

    download_on : (b : Manager) → Downloads low_free b → Did (and_then (with_taken Low b) job_goes_on) link lives unit t
    download_on b k =
        did_then (with_taken Low b) link lives unit t (took_told Low t) refl refl
        (k.reports (subst NoneSynced (sym quiet) tt)) refl
        (subst (λ l. Held link.packets unit l b.high (took_told Low t)) (sym k.low)
        (subst (λ l. Held link.packets unit low_free.low l (took_told Low t)) (sym k.high)
        (held_took Low link unit low_free.low low_free.high t low_held)))
        (λ s e. image_ready s (k.job s e) b.low)

    start_reply_on : (r : Option Response) (order : Order) (asked : ℕ) (image : List ℕ) → m.job ≡ Some (StartingImage order asked image) → Did (and_then (with_taken Low (start_by_reply r order asked image f low_free)) job_goes_on) link lives unit t
    start_reply_on (Some (response.Start code window)) order asked image e = download_on _ (start_downloads code.0 window order asked image low_free)
    start_reply_on _ order asked image e = freed_on (Some (StartingImage order asked image)) e (λ x g. subst (Ready lives unit low_free.low t.low t.asking (took_told Low t).history) (same_Some (StartingImage order asked image) x g) tt)

    window_reply_on : (r : Option Response) (order : Order) (outgoing : Outgoing) (resent : ℕ) → m.job ≡ Some (SendingImage order outgoing resent) → Did (and_then (with_taken Low (window_by_reply r order outgoing resent f low_free)) job_goes_on) link lives unit t
    window_reply_on (Some (response.Section code number)) order outgoing resent e = download_on _ (window_downloads code.0 order outgoing resent low_free)
    window_reply_on _ order outgoing resent e = freed_on (Some (SendingImage order outgoing resent)) e (λ x g. subst (Ready lives unit low_free.low t.low t.asking (took_told Low t).history) (same_Some (SendingImage order outgoing resent) x g) tt)

    end_reply_on : (r : Option Response) (order : Order) (image : List ℕ) (busy : ℕ) → m.job ≡ Some (EndingImage order image busy) → Did (and_then (with_taken Low (end_by_reply r order image busy f low_free)) job_goes_on) link lives unit t
    end_reply_on (Some (response.End code)) order image busy e = download_on _ (end_downloads code.0 order image busy low_free)
    end_reply_on _ order image busy e = freed_on (Some (EndingImage order image busy)) e (λ x g. subst (Ready lives unit low_free.low t.low t.asking (took_told Low t).history) (same_Some (EndingImage order image busy) x g) tt)

    job_on : IsOwn lives t bytes → (job : Option Stage) → m.job ≡ job → Did (and_then (with_taken Low (job_by job (response_of f) f low_free)) job_goes_on) link lives unit t
    job_on own None e = freed_on None e (λ x g. absurd (cc))
    job_on own (Some (Probing high' low')) e = freed_on (Some (Probing high' low')) e (λ x g. subst (Ready lives unit low_free.low t.low t.asking (took_told Low t).history) (same_Some (Probing high' low') x g) tt)
    job_on own (Some Asking) e =
        let at = j Asking e in
        let c = at.reply bytes own.last in
        let says = upload_read (response_frame c.frame (response.Upload (length (pieces c.database)))) c.frame.tci c.frame.entity (length (pieces c.database)) f refl c.few (ap packet_frame (sym c.is) ∙ read) in
        subst (λ r. Did (and_then (with_taken Low (upload_by r f low_free)) job_goes_on) link lives unit t) (sym says)
        (gathers_on low_free link lives unit t (held_took Low link unit low_free.low low_free.high t low_held) (low_is_free at.proved) quiet
        c.database c.whole c.few (subst (λ x. LastSnapshot x c.database t.history) (sym at.own) c.last)
        (λ u s on has. one_snapshot t.low (without_makers s.database) c.database t.history (at.fresh u s on own.carried has) c.last)
        (length (pieces c.database)) 0 [] refl (sym (front_none c.database)))
    job_on own (Some (Gathering expected next copy)) e =
        let at = j (Gathering expected next copy) e in
        let g = at.0 in
        let p = at.1.reply bytes own.last in
        let says = next_read (response_frame p.frame (response.UploadNext p.piece)) p.frame.tci p.frame.entity p.piece f refl p.long (ap packet_frame (sym p.is) ∙ read) in
        subst (λ r. Did (and_then (with_taken Low (piece_by_reply r expected next copy f low_free)) job_goes_on) link lives unit t) (sym says)
        (came_on low_free link lives unit t (held_took Low link unit low_free.low low_free.high t low_held) (low_is_free at.1.proved) quiet
        g.database g.whole g.few g.last g.put_by expected next copy p.piece g.count g.front p.from)
    job_on own (Some AskingAlarms) e = alarms_on (response_of f) e
    job_on own (Some (GatheringRows expected next)) e = row_reply_on (response_of f) expected next e
    job_on own (Some (StartingImage order asked image)) e = start_reply_on (response_of f) order asked image e
    job_on own (Some (SendingImage order outgoing resent)) e = window_reply_on (response_of f) order outgoing resent e
    job_on own (Some (EndingImage order image busy)) e = end_reply_on (response_of f) order image busy e
    job_on own (Some (DelayingEnd order image busy)) e = freed_on (Some (DelayingEnd order image busy)) e (λ x g. subst (Ready lives unit low_free.low t.low t.asking (took_told Low t).history) (same_Some (DelayingEnd order image busy) x g) tt)

    taken_low : (is_probe w.command.purpose ≡ false → IsOwn lives t bytes) → (p : Purpose) → w.command.purpose ≡ p → Did (and_then (taken_as p Low w.command f low_free) job_goes_on) link lives unit t
    taken_low own purpose.Probe e =
        did_then (probe_taken Low low_free) link lives unit t t refl refl
        (none_more m.reports (report.Proved Low) (subst NoneSynced (sym quiet) tt) refl) refl low_held
        (λ s g. probed_low (ap is_job e) m.job refl s g)
    taken_low own purpose.Submission e =
        mild_low (followed_by w.command (response_of f) (with_report (report.Took f) low_free))
        (mild_then low_free (with_report (report.Took f) low_free) _ (mild_report (report.Took f) low_free refl) (mild_followed w.command (response_of f) (with_report (report.Took f) low_free))) (ap is_job e)
    taken_low own purpose.Check e = mild_low (checked_by (response_of f) f low_free) (mild_checked (response_of f) f low_free) (ap is_job e)
    taken_low own purpose.Job e = job_on (own (ap is_probe e)) m.job refl

  -- ---- a reply of the high lane

  module _ (w : Waiting) (waits : m.high.outstanding ≡ Some w) where
    abbrev high_free : Manager
    high_free = record m { high = end_command w m.high }

    high_held : Held link.packets unit high_free.low high_free.high t
    high_held = high_ended (is_probe w.command.purpose || m.high.proved) link.packets unit m.low m.high t h

    probed_high : (job : Option Stage) → m.job ≡ job → (s : Stage) → job_probed High job ≡ Some s → Ready lives unit m.low t.low t.asking t.history s
    probed_high None e s g = absurd (cc)
    probed_high (Some (Probing high' low')) e s g = subst (Ready lives unit m.low t.low t.asking t.history) (same_Some (Probing false low') s g) tt
    probed_high (Some AskingAlarms) e s g = subst (Ready lives unit m.low t.low t.asking t.history) (same_Some AskingAlarms s g) tt
    probed_high (Some (GatheringRows expected next)) e s g = subst (Ready lives unit m.low t.low t.asking t.history) (same_Some (GatheringRows expected next) s g) tt
    probed_high (Some (StartingImage order asked image)) e s g = subst (Ready lives unit m.low t.low t.asking t.history) (same_Some (StartingImage order asked image) s g) tt
    probed_high (Some (SendingImage order outgoing resent)) e s g = subst (Ready lives unit m.low t.low t.asking t.history) (same_Some (SendingImage order outgoing resent) s g) tt
    probed_high (Some (EndingImage order image busy)) e s g = subst (Ready lives unit m.low t.low t.asking t.history) (same_Some (EndingImage order image busy) s g) tt
    probed_high (Some (DelayingEnd order image busy)) e s g = subst (Ready lives unit m.low t.low t.asking t.history) (same_Some (DelayingEnd order image busy) s g) tt
    probed_high (Some Asking) e s g = subst (Ready lives unit m.low t.low t.asking t.history) (same_Some Asking s g) (j Asking e)
    probed_high (Some (Gathering expected next copy)) e s g = subst (Ready lives unit m.low t.low t.asking t.history) (same_Some (Gathering expected next copy) s g) (inl (j (Gathering expected next copy) e))

    mild_high : (b : Manager) → Mild high_free b → Did (and_then (with_taken High b) job_goes_on) link lives unit t
    mild_high b k =
        did_then (with_taken High b) link lives unit t (took_told High t) refl refl
        (k.reports (subst NoneSynced (sym quiet) tt)) refl
        (subst (λ l. Held link.packets unit l b.high (took_told High t)) (sym k.low)
        (subst (λ l. Held link.packets unit high_free.low l (took_told High t)) (sym k.high)
        (held_took High link unit high_free.low high_free.high t high_held)))
        (λ s e. subst (λ l. Ready lives unit l t.low t.asking (took_told High t).history s) (sym k.low)
        (ready_of lives unit m.low t.low t.asking (took_told High t).history s
        (stage_took lives unit m.low t.low t.asking t.high t.packet t.history s (j s (sym k.job ∙ e)))))

    taken_high : (p : Purpose) → w.command.purpose ≡ p → Did (and_then (taken_as p High w.command f high_free) job_goes_on) link lives unit t
    taken_high purpose.Probe e =
        did_then (probe_taken High high_free) link lives unit t t refl refl
        (none_more m.reports (report.Proved High) (subst NoneSynced (sym quiet) tt) refl) refl high_held
        (λ s g. probed_high m.job refl s g)
    taken_high purpose.Submission e =
        mild_high (followed_by w.command (response_of f) (with_report (report.Took f) high_free))
        (mild_then high_free (with_report (report.Took f) high_free) _ (mild_report (report.Took f) high_free refl) (mild_followed w.command (response_of f) (with_report (report.Took f) high_free)))
    taken_high purpose.Check e = mild_high (checked_by (response_of f) f high_free) (mild_checked (response_of f) f high_free)
    taken_high purpose.Job e = not_job w.command.purpose e (h.lanes.high_out w waits).callers

  -- ---- or nothing is taken

  dropped_on : Did (not_taken (message_of f) f m) link lives unit t
  dropped_on = not_taken_on m link lives unit t h j quiet (message_of f) f

  taken_in : (lane : Priority) (w : Waiting) → (lane_in lane m).outstanding ≡ Some w → (lane ≡ Low → is_probe w.command.purpose ≡ false → IsOwn lives t bytes)
      → Did (and_then (taken_as w.command.purpose lane w.command f (with_lane lane (end_command w (lane_in lane m)) m)) job_goes_on) link lives unit t
  taken_in Low w e own = taken_low w e (own refl) w.command.purpose refl
  taken_in High w e own = taken_high w e w.command.purpose refl

  replied_is : (lane : Priority) (w : Waiting) (b : Bool) → (lane_in lane m).outstanding ≡ Some w → answers w.tci w.command f ≡ b → lane_reply f (lane_in lane m) ≡ reply_by b w (lane_in lane m)
  unfolding lane_reply
  replied_is lane w b e a = ap (λ o. reply_to o f (lane_in lane m)) e ∙ ap (λ x. reply_by x w (lane_in lane m)) a

  by_answer : (lane : Priority) (w : Waiting) (b : Bool) → (lane_in lane m).outstanding ≡ Some w → answers w.tci w.command f ≡ b
      → (lane ≡ Low → f.tci ≡ w.tci → is_probe w.command.purpose ≡ false → IsOwn lives t bytes) → Did (frame_came lane f m) link lives unit t
  by_answer lane w false e a own =
      subst (λ o. Did o link lives unit t) (sym (ap (λ (r : Replied). take_if r.taken (lane_in lane m).outstanding lane f m) (replied_is lane w false e a))) dropped_on
  by_answer lane w true e a own =
      let is = replied_is lane w true e a in
      let tci = eqb-true f.tci w.tci (and_parts (eqb f.tci w.tci) _ a).0 in
      subst (λ o. Did o link lives unit t)
      (sym (ap (λ (r : Replied). take_if r.taken (lane_in lane m).outstanding lane f m) is
      ∙ ap (λ o. take_if true o lane f m) e
      ∙ ap (λ (r : Replied). and_then (taken_as w.command.purpose lane w.command f (with_lane lane r.lane m)) job_goes_on) is))
      (taken_in lane w e (λ low probe. own low tci probe))

  by_waiting : (lane : Priority) (o : Option Waiting) → (lane_in lane m).outstanding ≡ o
      → ((w : Waiting) → (lane_in lane m).outstanding ≡ Some w → lane ≡ Low → f.tci ≡ w.tci → is_probe w.command.purpose ≡ false → IsOwn lives t bytes) → Did (frame_came lane f m) link lives unit t
  by_waiting lane None e own = subst (λ o. Did o link lives unit t) (sym (ap (λ o. take_if (lane_reply f (lane_in lane m)).taken o lane f m) e)) (none_waits (lane_reply f (lane_in lane m)).taken)
    where
      none_waits : (b : Bool) → Did (take_if b None lane f m) link lives unit t
      none_waits true = dropped_on
      none_waits false = dropped_on
  by_waiting lane (Some w) e own = by_answer lane w (answers w.tci w.command f) e refl (own w e)

  frame_on : IsHeard m.low lives t bytes → Did (frame_came (priority_of f.tci) f m) link lives unit t
  frame_on heard =
      let tci : f.tci ≡ packet_tci bytes = tci_read bytes f read in
      by_waiting (priority_of f.tci) (lane_in (priority_of f.tci) m).outstanding refl
      (λ w e low same probe. heard w (subst (λ l. (lane_in l m).outstanding ≡ Some w) low e) (sym tci ∙ same) (ap priority_of (sym tci) ∙ low) probe)

-- ---- a packet

by_frame : (o : Option Frame) (bytes : List ℕ) (m : Manager) (link : Link) (lives : ℕ)
    (unit : Option Onu) (t : Told) → packet_frame bytes ≡ o → Held link.packets unit m.low m.high t
    → JobOk lives unit m.low m.job t.low t.asking t.history → m.reports ≡ []
    → IsHeard m.low lives t bytes → Did (for_frame o m) link lives unit t
by_frame None bytes m link lives unit t read h j quiet heard = drops_on m link lives unit t h j quiet
by_frame (Some f) bytes m link lives unit t read h j quiet heard =
    frame_on bytes f read m link lives unit t h j quiet heard

pub packet_good : (bytes : List ℕ) (m : Manager) (link : Link) (lives : ℕ) (unit : Option Onu)
    (t : Told) → Held link.packets unit m.low m.high t
    → JobOk lives unit m.low m.job t.low t.asking t.history → m.reports ≡ []
    → IsHeard m.low lives t bytes → Did (after_packet bytes m) link lives unit t
unfolding after_packet
packet_good bytes m link lives unit t h j quiet heard =
    by_frame (packet_frame bytes) bytes m link lives unit t refl h j quiet heard
