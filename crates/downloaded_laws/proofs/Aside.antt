-- What the manager does beside a download: another job stays no download, and nothing that is
-- reported says that a download has ended.
use Rattle.std.proofs.Common.{◌≡◌, ℕ, ◌+◌, Bool, true, false, ◌==◌, List, [], is_some, nat_le, Option, Some, None, ◌⊎◌, inl, inr, refl, sym, ap, subst, ◌∙◌}
use Rattle.std.proofs.lemmas.Option.{same_Some}
use Rattle.std.proofs.lemmas.Bool.{false≢true}
use Rattle.omci_types.specs.declared.Frame.{Frame}
use Rattle.omci_types.specs.declared.Priority.{Priority}
use Rattle.omci_types.specs.declared.Priority.TheVariants.{Low, High}
use Rattle.omci_types.specs.declared.TheConstants.Code.{SUCCESS}
use Rattle.message_spec.specs.declared.Response.{Response}
use Rattle.message_spec.specs.declared.Response.TheVariants as response
use Rattle.upload_spec.specs.declared.PieceFault.{PieceFault}
use Rattle.upload_spec.specs.declared.PieceFault.TheVariants as fault
use Rattle.upload_spec.specs.Pieces.{Copy}
use Rattle.upload_spec.specs.Copies.{with_piece, piece_fault, copied_counter}
use Rattle.alarm_spec.specs.declared.BadRow.{BadRow}
use Rattle.alarm_spec.specs.declared.BadRow.TheVariants as bad
use Rattle.alarm_spec.specs.Table.{begun, gathered, row_fault, after_row}
use Rattle.lane_spec.specs.Command.{Command}
use Rattle.manager_spec.specs.declared.Phase.{Phase}
use Rattle.manager_spec.specs.declared.Phase.TheVariants as phase
use Rattle.manager_spec.specs.declared.ResyncReason.TheVariants as reason
use Rattle.manager_spec.specs.declared.AuditReason.{AuditReason}
use Rattle.manager_spec.specs.declared.AuditReason.TheVariants as audit
use Rattle.manager_spec.specs.declared.Report.TheVariants as report
use Rattle.manager_spec.specs.Manager.{Stage, Probing, Asking, Gathering, AskingAlarms, GatheringRows, StartingImage, SendingImage, EndingImage, DelayingEnd, Manager, with_report, phase_left, leave_step}
use Rattle.manager_spec.specs.Copying.{followed_if, followed}
use Rattle.manager_spec.specs.Resync.{with_job, resync_failed, done_if_counted, gather_unless_all, gather_on, piece_by}
use Rattle.manager_spec.specs.Audit.{with_table, audit_failed, rows_unless_all, rows_on, row_by, audit_lost}
use Rattle.manager_spec.specs.Steps.{code_of, first_value, job_probed, expected_counter, compared, checked_if, checked_by, followed_by, upload_by, piece_by_reply, alarms_by, row_by_reply, job_by}
use Rattle.resync_laws.proofs.Mild.{fails}
use Rattle.downloaded_laws.proofs.Invariants.{is_image, NoImage}
use Rattle.downloaded_laws.proofs.Telling.{is_ending, NoneDone, done_more}

-- ---- no download

pub stage_no : (m : Manager) (x : Stage) → m.job ≡ Some x → is_image x ≡ false → NoImage m
stage_no m x e o s f = subst (λ y. is_image y ≡ false) (same_Some x s (sym e ∙ f)) o

pub none_no : (m : Manager) → m.job ≡ None → NoImage m
none_no m e s f = absurd (cc)

pub same_no : (a b : Manager) → b.job ≡ a.job → NoImage a → NoImage b
same_no a b e h s f = h s (sym e ∙ f)

-- where it is none, no end was sent
pub no_ending : (job : Option Stage) → ((s : Stage) → job ≡ Some s → is_image s ≡ false)
    → is_ending job ≡ false
no_ending None h = refl
no_ending (Some (Probing high low)) h = refl
no_ending (Some Asking) h = refl
no_ending (Some (Gathering expected next copy)) h = refl
no_ending (Some AskingAlarms) h = refl
no_ending (Some (GatheringRows expected next)) h = refl
no_ending (Some (StartingImage order asked image)) h = refl
no_ending (Some (SendingImage order outgoing resent)) h = refl
no_ending (Some (EndingImage order image busy)) h =
    absurd (false≢true (sym (h (EndingImage order image busy) refl)))
no_ending (Some (DelayingEnd order image busy)) h = refl

done_no : (b : Bool) (copy : Copy) (m : Manager) → NoImage (done_if_counted b copy m)
done_no true copy m = none_no (done_if_counted true copy m) refl
done_no false copy m = none_no (done_if_counted false copy m) (fails reason.Missing m).job

gather_no : (b : Bool) (expected next : ℕ) (copy : Copy) (m : Manager)
    → NoImage (gather_unless_all b expected next copy m)
gather_no true expected next copy m = done_no (is_some (copied_counter copy)) copy m
gather_no false expected next copy m =
    stage_no (with_job (Some (Gathering expected next copy)) m) (Gathering expected next copy) refl
    refl

gathers_no : (expected next : ℕ) (copy : Copy) (m : Manager)
    → NoImage (gather_on expected next copy m)
unfolding gather_on
gathers_no expected next copy m = gather_no (nat_le expected next) expected next copy m

piece_no : (o : Option PieceFault) (expected next : ℕ) (piece : List ℕ) (copy : Copy)
    (m : Manager) → NoImage (piece_by o expected next piece copy m)
piece_no None expected next piece copy m =
    gathers_no expected (next + 1) (with_piece piece copy) m
piece_no (Some fault.Empty) expected next piece copy m =
    none_no (resync_failed reason.Empty m) (fails reason.Empty m).job
piece_no (Some (fault.ClassUnknown class)) expected next piece copy m =
    gathers_no expected (next + 1) copy m
piece_no (Some (fault.Truncated one)) expected next piece copy m =
    none_no (resync_failed (reason.Truncated one) m) (fails (reason.Truncated one) m).job
piece_no (Some (fault.Repeated one attribute)) expected next piece copy m =
    none_no (resync_failed (reason.Repeated one attribute) m)
    (fails (reason.Repeated one attribute) m).job

rows_by_no : (b : Bool) (expected next : ℕ) (m : Manager)
    → NoImage (rows_unless_all b expected next m)
rows_by_no true expected next m = none_no (rows_unless_all true expected next m) refl
rows_by_no false expected next m =
    stage_no (with_job (Some (GatheringRows expected next)) m) (GatheringRows expected next) refl refl

rows_no : (expected next : ℕ) (m : Manager) → NoImage (rows_on expected next m)
unfolding rows_on
rows_no expected next m = rows_by_no (nat_le expected next) expected next m

row_no : (o : Option BadRow) (expected next : ℕ) (row : List ℕ) (m : Manager)
    → NoImage (row_by o expected next row m)
row_no None expected next row m =
    rows_no expected (next + 1) (with_table (after_row row m.table) m)
row_no (Some bad.Empty) expected next row m = none_no (audit_failed audit.Empty m) refl
row_no (Some (bad.Repeated one)) expected next row m =
    none_no (audit_failed (audit.Repeated one) m) refl

upload_no : (r : Option Response) (f : Frame) (m : Manager) → NoImage m → NoImage (upload_by r f m)
upload_no (Some (response.Upload count)) f m h = gathers_no count 0 [] m
upload_no _ f m h = h

piece_reply_no : (r : Option Response) (expected next : ℕ) (copy : Copy) (f : Frame) (m : Manager)
    → NoImage m → NoImage (piece_by_reply r expected next copy f m)
piece_reply_no (Some (response.UploadNext piece)) expected next copy f m h =
    piece_no (piece_fault piece copy) expected next piece copy m
piece_reply_no _ expected next copy f m h = h

alarms_no : (r : Option Response) (f : Frame) (m : Manager) → NoImage m → NoImage (alarms_by r f m)
alarms_no (Some (response.Alarms count)) f m h = rows_no count 0 (with_table (begun m.table) m)
alarms_no _ f m h = h

row_reply_no : (r : Option Response) (expected next : ℕ) (f : Frame) (m : Manager)
    → NoImage m → NoImage (row_by_reply r expected next f m)
row_reply_no (Some (response.AlarmsNext row)) expected next f m h =
    row_no (row_fault row (gathered m.table)) expected next row m
row_reply_no _ expected next f m h = h

-- the reply to a request of another job
pub job_no : (job : Option Stage) → ((s : Stage) → job ≡ Some s → is_image s ≡ false)
    → (r : Option Response) (f : Frame) (m : Manager) → NoImage m → NoImage (job_by job r f m)
job_no None o r f m h = h
job_no (Some (Probing high low)) o r f m h = h
job_no (Some Asking) o r f m h = upload_no r f m h
job_no (Some (Gathering expected next copy)) o r f m h =
    piece_reply_no r expected next copy f m h
job_no (Some AskingAlarms) o r f m h = alarms_no r f m h
job_no (Some (GatheringRows expected next)) o r f m h = row_reply_no r expected next f m h
job_no (Some (StartingImage order asked image)) o r f m h =
    absurd (false≢true (sym (o (StartingImage order asked image) refl)))
job_no (Some (SendingImage order outgoing resent)) o r f m h =
    absurd (false≢true (sym (o (SendingImage order outgoing resent) refl)))
job_no (Some (EndingImage order image busy)) o r f m h =
    absurd (false≢true (sym (o (EndingImage order image busy) refl)))
job_no (Some (DelayingEnd order image busy)) o r f m h =
    absurd (false≢true (sym (o (DelayingEnd order image busy) refl)))

-- a probe's answer leaves the job what it is
abbrev pub SameImage : Stage → Stage → Type 0
SameImage x y = ((is_image x ≡ false) × (is_image y ≡ false)) ⊎ (x ≡ y)

pub probed_is : (lane : Priority) (job : Option Stage) (y : Stage) → job_probed lane job ≡ Some y
    → (x : Stage) × (job ≡ Some x) × SameImage x y
probed_is lane None y e = absurd (cc)
probed_is Low (Some (Probing high low)) y e =
    (Probing high low, refl, inl (refl, ap is_image (sym (same_Some (Probing high false) y e))))
probed_is High (Some (Probing high low)) y e =
    (Probing high low, refl, inl (refl, ap is_image (sym (same_Some (Probing false low) y e))))
probed_is Low (Some Asking) y e = (Asking, refl, inr (same_Some Asking y e))
probed_is High (Some Asking) y e = (Asking, refl, inr (same_Some Asking y e))
probed_is Low (Some (Gathering expected next copy)) y e =
    (Gathering expected next copy, refl, inr (same_Some (Gathering expected next copy) y e))
probed_is High (Some (Gathering expected next copy)) y e =
    (Gathering expected next copy, refl, inr (same_Some (Gathering expected next copy) y e))
probed_is Low (Some AskingAlarms) y e = (AskingAlarms, refl, inr (same_Some AskingAlarms y e))
probed_is High (Some AskingAlarms) y e = (AskingAlarms, refl, inr (same_Some AskingAlarms y e))
probed_is Low (Some (GatheringRows expected next)) y e =
    (GatheringRows expected next, refl, inr (same_Some (GatheringRows expected next) y e))
probed_is High (Some (GatheringRows expected next)) y e =
    (GatheringRows expected next, refl, inr (same_Some (GatheringRows expected next) y e))
probed_is Low (Some (StartingImage order asked image)) y e =
    (StartingImage order asked image, refl, inr (same_Some (StartingImage order asked image) y e))
probed_is High (Some (StartingImage order asked image)) y e =
    (StartingImage order asked image, refl, inr (same_Some (StartingImage order asked image) y e))
probed_is Low (Some (SendingImage order outgoing resent)) y e = (
  SendingImage order outgoing resent,
  refl,
  inr (same_Some (SendingImage order outgoing resent) y e),
)
probed_is High (Some (SendingImage order outgoing resent)) y e = (
  SendingImage order outgoing resent,
  refl,
  inr (same_Some (SendingImage order outgoing resent) y e),
)
probed_is Low (Some (EndingImage order image busy)) y e =
    (EndingImage order image busy, refl, inr (same_Some (EndingImage order image busy) y e))
probed_is High (Some (EndingImage order image busy)) y e =
    (EndingImage order image busy, refl, inr (same_Some (EndingImage order image busy) y e))
probed_is Low (Some (DelayingEnd order image busy)) y e =
    (DelayingEnd order image busy, refl, inr (same_Some (DelayingEnd order image busy) y e))
probed_is High (Some (DelayingEnd order image busy)) y e =
    (DelayingEnd order image busy, refl, inr (same_Some (DelayingEnd order image busy) y e))

-- ---- no report of a download's end

left_done : (p : Phase) (m : Manager) → NoneDone m.reports → NoneDone (phase_left p m).reports
left_done phase.InStep m n = done_more m.reports report.PhaseOut n refl
left_done phase.New m n = n
left_done phase.Out m n = n

pub leave_done : (m : Manager) → NoneDone m.reports → NoneDone (leave_step m).reports
leave_done m n = left_done m.phase m n

followed_if_done : (b : Bool) (c : Command) (m : Manager) → NoneDone m.reports
    → NoneDone (followed_if b c.entity c.request m).reports
followed_if_done true c m n = n
followed_if_done false c m n = n

pub followed_done : (c : Command) (r : Option Response) (m : Manager) → NoneDone m.reports
    → NoneDone (followed_by c r m).reports
unfolding followed
followed_done c None m n = n
followed_done c (Some r) m n = followed_if_done (code_of r == SUCCESS.0) c m n

compared_done : (b : Bool) (m : Manager) → NoneDone m.reports → NoneDone (compared b m).reports
compared_done true m n = n
compared_done false m n = leave_done m n

took_done : (f : Frame) (m : Manager) → NoneDone m.reports
    → NoneDone (leave_step (with_report (report.Took f) m)).reports
took_done f m n =
    leave_done (with_report (report.Took f) m) (done_more m.reports (report.Took f) n refl)

checked_if_done : (b : Bool) (r : Response) (f : Frame) (m : Manager) → NoneDone m.reports
    → NoneDone (checked_if b r f m).reports
checked_if_done true r f m n =
    let given = first_value r in
    let x = with_report (report.Checked given (expected_counter m)) m in
    compared_done (given == expected_counter m) x
    (done_more m.reports (report.Checked given (expected_counter m)) n refl)
checked_if_done false r f m n = took_done f m n

pub checked_done : (r : Option Response) (f : Frame) (m : Manager) → NoneDone m.reports
    → NoneDone (checked_by r f m).reports
checked_done None f m n = took_done f m n
checked_done (Some r) f m n = checked_if_done (code_of r == SUCCESS.0) r f m n

-- a notice that was lost ends an audit alone
pub record Loses (a b : Manager) : Type 0 where
  pub low : b.low ≡ a.low
  pub job : (b.job ≡ a.job) ⊎ NoImage b
  pub done : NoneDone a.reports → NoneDone b.reports

loses_same : (m : Manager) → Loses m m
loses_same m = record { low = refl; job = inl refl; done = λ n. n }

loses_audit : (why : AuditReason) (m : Manager) → Loses m (audit_failed why m)
loses_audit why m = record {
  low = refl;
  job = inr (none_no (audit_failed why m) refl);
  done = λ n. done_more m.reports (report.AuditFailed why) n refl;
}

pub loses : (job : Option Stage) (why : AuditReason) (m : Manager) → Loses m (audit_lost job why m)
loses None why m = loses_same m
loses (Some (Probing high low)) why m = loses_same m
loses (Some Asking) why m = loses_same m
loses (Some (Gathering expected next copy)) why m = loses_same m
loses (Some AskingAlarms) why m = loses_audit why m
loses (Some (GatheringRows expected next)) why m = loses_audit why m
loses (Some (StartingImage order asked image)) why m = loses_same m
loses (Some (SendingImage order outgoing resent)) why m = loses_same m
loses (Some (EndingImage order image busy)) why m = loses_same m
loses (Some (DelayingEnd order image busy)) why m = loses_same m
