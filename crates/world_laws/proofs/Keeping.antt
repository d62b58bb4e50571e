-- What in the manager's steps leaves its lanes alone, and which reports it adds.
use Rattle.std.proofs.Common.{◌≡◌, ℕ, ◌==◌, Bool, true, false, List, [], ◌∷◌, ◌++◌, Option, Some, None, Result, Ok, Err, is_some, nat_le, nat_lt, ◌+◌, ◌⊎◌, inl, inr, refl, sym, ap, subst, ◌∙◌, append_assoc}
use Rattle.std.proofs.lemmas.List.{append-nil}
use Rattle.omci_types.specs.declared.EntityId.{EntityId}
use Rattle.omci_types.specs.declared.Frame.{Frame}
use Rattle.omci_types.specs.declared.Priority.{Priority}
use Rattle.omci_types.specs.declared.TheConstants.Code.{SUCCESS, BUSY}
use Rattle.message_spec.specs.declared.ContentsFault.{ContentsFault}
use Rattle.message_spec.specs.declared.Message.{Message}
use Rattle.message_spec.specs.declared.Message.TheVariants.{Asked, Answered, Told}
use Rattle.message_spec.specs.declared.Notice.{Notice}
use Rattle.message_spec.specs.declared.Notice.TheVariants as notices
use Rattle.message_spec.specs.declared.Request.{Request}
use Rattle.message_spec.specs.declared.Response.{Response}
use Rattle.message_spec.specs.declared.Response.TheVariants as response
use Rattle.message_spec.specs.Reading.{message_of}
use Rattle.alarm_spec.specs.declared.BadRow.{BadRow}
use Rattle.alarm_spec.specs.declared.BadRow.TheVariants as bad
use Rattle.alarm_spec.specs.declared.TakenAlarm.{TakenAlarm}
use Rattle.alarm_spec.specs.declared.TakenAlarm.TheVariants as taken
use Rattle.alarm_spec.specs.Table.{Table, take_answer, after_take, gathered, row_fault, after_row, begun}
use Rattle.upload_spec.specs.declared.PieceFault.{PieceFault}
use Rattle.upload_spec.specs.declared.PieceFault.TheVariants as fault
use Rattle.upload_spec.specs.Pieces.{Copy}
use Rattle.upload_spec.specs.Copies.{with_piece, piece_fault, copied_counter}
use Rattle.lane_spec.specs.declared.Purpose.{Purpose}
use Rattle.lane_spec.specs.declared.Purpose.TheVariants as purpose
use Rattle.lane_spec.specs.Command.{Command, is_probe}
use Rattle.manager_spec.specs.declared.Phase.{Phase}
use Rattle.manager_spec.specs.declared.Phase.TheVariants as phase
use Rattle.manager_spec.specs.declared.ResyncReason.{ResyncReason}
use Rattle.manager_spec.specs.declared.ResyncReason.TheVariants as reason
use Rattle.manager_spec.specs.declared.AuditReason.{AuditReason}
use Rattle.manager_spec.specs.declared.AuditReason.TheVariants as audit
use Rattle.manager_spec.specs.declared.Job.{Job}
use Rattle.manager_spec.specs.declared.Job.TheVariants as jobs
use Rattle.manager_spec.specs.declared.Report.{Report}
use Rattle.manager_spec.specs.declared.Report.TheVariants as report
use Rattle.manager_spec.specs.Manager.{Stage, Probing, Asking, Gathering, AskingAlarms, GatheringRows, StartingImage, SendingImage, EndingImage, DelayingEnd, Order, Manager, Outcome, sends_nothing, and_then, with_report, phase_left, leave_step, step_lost}
use Rattle.manager_spec.specs.declared.ImageReason.TheVariants as images
use Rattle.manager_spec.specs.declared.TheConstants.{MOST_RESENT, MOST_BUSY}
use Rattle.window_spec.specs.Outgoing.{Outgoing, is_last}
use Rattle.manager_spec.specs.Upgrade.{image_failed, refused_by, started_if, image_started, window_taken, window_refused, window_by, window_answered, busy_if, end_by, end_answered}
use Rattle.manager_spec.specs.Copying.{followed_if, followed, counted_in_step}
use Rattle.manager_spec.specs.Resync.{with_job, resync_failed, done_if_counted, gather_unless_all, gather_on, piece_by}
use Rattle.manager_spec.specs.Audit.{with_table, audit_failed, rows_unless_all, rows_on, row_by, audit_lost, alarm_as, alarm_came, notice_came}
use Rattle.manager_spec.specs.Jobs.{job_of, lost_by, job_lost, send_wish, is_free, wish_in, Wish, job_goes_on, resumed_by, job_resumes}
use Rattle.manager_spec.specs.Submitting.{leave_if}
use Rattle.manager_spec.specs.Steps.{code_of, response_of, followed_by, expected_counter, compared, counters_compared, first_value, checked_if, checked_by, upload_by, piece_by_reply, alarms_by, row_by_reply, start_by_reply, window_by_reply, end_by_reply, job_by, taken_as, packet_dropped, not_taken, loss_seen}
use Rattle.world_laws.proofs.Likeness.{SameLanes}
use Rattle.world_laws.proofs.Manager.{untaken}

-- ---- reports that hand no reply on

abbrev pub IsQuiet : Report → Type 0
IsQuiet (report.Took reply) = ⊥
IsQuiet _ = Unit {0}

abbrev pub AreQuiet : List Report → Type 0
AreQuiet [] = Unit {0}
AreQuiet (r ∷ rest) = IsQuiet r × AreQuiet rest

pub both_quiet : (xs ys : List Report) → AreQuiet xs → AreQuiet ys → AreQuiet (xs ++ ys)
both_quiet [] ys h k = k
both_quiet (x ∷ xs) ys h k = (h.0, both_quiet xs ys h.1 k)

-- the lanes are the same, and reports have come that hand no reply on
pub record KeepsLanes (m n : Manager) : Type 0 where
  pub same : SameLanes m n
  pub added : List Report
  pub quiet : AreQuiet added
  pub reports : n.reports ≡ m.reports ++ added

pub keeps_itself : (m : Manager) → KeepsLanes m m
keeps_itself m = record {
  same = record { low = refl; high = refl };
  added = [];
  quiet = tt;
  reports = sym (append-nil m.reports);
}

keeps_both : (a b c : Manager) → KeepsLanes a b → KeepsLanes b c → KeepsLanes a c
keeps_both a b c k j = record {
  same = record { low = j.same.low ∙ k.same.low; high = j.same.high ∙ k.same.high };
  added = k.added ++ j.added;
  quiet = both_quiet k.added j.added k.quiet j.quiet;
  reports = j.reports ∙ ap (λ rs. rs ++ j.added) k.reports
      ∙ append_assoc a.reports k.added j.added;
}

keeps_reported : (r : Report) (m : Manager) → IsQuiet r → KeepsLanes m (with_report r m)
keeps_reported r m q = record {
  same = record { low = refl; high = refl };
  added = r ∷ [];
  quiet = (q, tt);
  reports = refl;
}

-- ---- the phase

left_keeps : (p : Phase) (m : Manager) → KeepsLanes m (phase_left p m)
left_keeps phase.InStep m = record {
  same = record { low = refl; high = refl };
  added = report.PhaseOut ∷ [];
  quiet = (tt, tt);
  reports = refl;
}
left_keeps _ m = keeps_itself m

pub leave_keeps : (m : Manager) → KeepsLanes m (leave_step m)
leave_keeps m = left_keeps m.phase m

pub leave_if_keeps : (b : Bool) (m : Manager) → KeepsLanes m (leave_if b m)
leave_if_keeps true m = leave_keeps m
leave_if_keeps false m = keeps_itself m

lost_keeps : (m : Manager) → KeepsLanes m (step_lost m)
lost_keeps m =
    let k = leave_keeps m in
    record {
      same = record { low = k.same.low; high = k.same.high };
      added = k.added;
      quiet = k.quiet;
      reports = k.reports;
    }

-- ---- the job

failed_keeps : (why : ResyncReason) (m : Manager) → KeepsLanes m (resync_failed why m)
failed_keeps why m = keeps_both m n (step_lost n) (record {
  same = record { low = refl; high = refl };
  added = report.ResyncFailed why ∷ [];
  quiet = (tt, tt);
  reports = refl;
}) (lost_keeps n)
  where
    n : Manager
    n = with_report (report.ResyncFailed why) (with_job None m)

done_keeps : (counted : Bool) (copy : Copy) (m : Manager)
    → KeepsLanes m (done_if_counted counted copy m)
done_keeps true copy m = record {
  same = record { low = refl; high = refl };
  added = _;
  quiet = (tt, (tt, tt));
  reports = append_assoc m.reports (_ ∷ []) (report.PhaseIn ∷ []);
}
done_keeps false copy m = failed_keeps reason.Missing m

gather_unless_keeps : (all : Bool) (expected next : ℕ) (copy : Copy) (m : Manager)
    → KeepsLanes m (gather_unless_all all expected next copy m)
gather_unless_keeps true expected next copy m = done_keeps (is_some (copied_counter copy)) copy m
gather_unless_keeps false expected next copy m = record {
  same = record { low = refl; high = refl };
  added = [];
  quiet = tt;
  reports = sym (append-nil m.reports);
}

gather_keeps : (expected next : ℕ) (copy : Copy) (m : Manager)
    → KeepsLanes m (gather_on expected next copy m)
unfolding gather_on
gather_keeps expected next copy m =
    gather_unless_keeps (nat_le expected next) expected next copy m

piece_keeps : (o : Option PieceFault) (expected next : ℕ) (piece : List ℕ) (copy : Copy)
    (m : Manager) → KeepsLanes m (piece_by o expected next piece copy m)
piece_keeps None expected next piece copy m = gather_keeps expected _ (with_piece piece copy) m
piece_keeps (Some fault.Empty) expected next piece copy m = failed_keeps reason.Empty m
piece_keeps (Some (fault.ClassUnknown class)) expected next piece copy m =
    gather_keeps expected _ copy m
piece_keeps (Some (fault.Truncated one)) expected next piece copy m =
    failed_keeps (reason.Truncated one) m
piece_keeps (Some (fault.Repeated one attribute)) expected next piece copy m =
    failed_keeps (reason.Repeated one attribute) m

upload_keeps : (r : Option Response) (f : Frame) (m : Manager) → KeepsLanes m (upload_by r f m)
upload_keeps (Some (response.Upload count)) f m = gather_keeps count 0 [] m
upload_keeps _ f m = keeps_reported (report.Freed f.tci) m tt

reply_keeps : (r : Option Response) (expected next : ℕ) (copy : Copy) (f : Frame) (m : Manager)
    → KeepsLanes m (piece_by_reply r expected next copy f m)
reply_keeps (Some (response.UploadNext piece)) expected next copy f m =
    piece_keeps (piece_fault piece copy) expected next piece copy m
reply_keeps _ expected next copy f m = keeps_reported (report.Freed f.tci) m tt

-- what isn't a lane or a report may change
pub keeps_others : (m n : Manager) → SameLanes m n → n.reports ≡ m.reports → KeepsLanes m n
keeps_others m n s e = record {
  same = s;
  added = [];
  quiet = tt;
  reports = e ∙ sym (append-nil m.reports);
}

audit_fails : (why : AuditReason) (m : Manager) → KeepsLanes m (audit_failed why m)
audit_fails why m = record {
  same = record { low = refl; high = refl };
  added = report.AuditFailed why ∷ [];
  quiet = (tt, tt);
  reports = refl;
}

rows_unless_keep : (all : Bool) (expected next : ℕ) (m : Manager)
    → KeepsLanes m (rows_unless_all all expected next m)
rows_unless_keep true expected next m = record {
  same = record { low = refl; high = refl };
  added = _;
  quiet = (tt, tt);
  reports = refl;
}
rows_unless_keep false expected next m =
    keeps_others m _ (record { low = refl; high = refl }) refl

rows_keep : (expected next : ℕ) (t : Table) (m : Manager)
    → KeepsLanes m (rows_on expected next (with_table t m))
unfolding rows_on
rows_keep expected next t m =
    keeps_both m (with_table t m) _
    (keeps_others m (with_table t m) (record { low = refl; high = refl }) refl)
    (rows_unless_keep (nat_le expected next) expected next (with_table t m))

row_keeps : (o : Option BadRow) (expected next : ℕ) (row : List ℕ) (m : Manager)
    → KeepsLanes m (row_by o expected next row m)
row_keeps None expected next row m = rows_keep expected _ (after_row row m.table) m
row_keeps (Some bad.Empty) expected next row m = audit_fails audit.Empty m
row_keeps (Some (bad.Repeated one)) expected next row m = audit_fails (audit.Repeated one) m

alarms_keep : (r : Option Response) (f : Frame) (m : Manager) → KeepsLanes m (alarms_by r f m)
alarms_keep (Some (response.Alarms count)) f m = rows_keep count 0 (begun m.table) m
alarms_keep _ f m = keeps_reported (report.Freed f.tci) m tt

row_reply_keeps : (r : Option Response) (expected next : ℕ) (f : Frame) (m : Manager)
    → KeepsLanes m (row_by_reply r expected next f m)
row_reply_keeps (Some (response.AlarmsNext row)) expected next f m =
    row_keeps (row_fault row (gathered m.table)) expected next row m
row_reply_keeps _ expected next f m = keeps_reported (report.Freed f.tci) m tt

refused_keeps : (number : ℕ) (m : Manager) → KeepsLanes m (refused_by number m)
refused_keeps number m = record {
  same = record { low = refl; high = refl };
  added = report.ImageFailed (images.Code (record { 0 = number })) ∷ [];
  quiet = (tt, tt);
  reports = refl;
}

started_keeps : (b : Bool) (number granted : ℕ) (order : Order) (asked : ℕ) (image : List ℕ)
    (m : Manager) → KeepsLanes m (started_if b number granted order asked image m)
unfolding counted_in_step
started_keeps true number granted order asked image m =
    keeps_others m _ (record { low = refl; high = refl }) refl
started_keeps false number granted order asked image m = refused_keeps number m

start_keeps : (r : Option Response) (order : Order) (asked : ℕ) (image : List ℕ) (f : Frame)
    (m : Manager) → KeepsLanes m (start_by_reply r order asked image f m)
unfolding image_started
start_keeps (Some (response.Start code window)) order asked image f m =
    started_keeps (code.0 == SUCCESS.0) code.0 window order asked image m
start_keeps _ order asked image f m = keeps_reported (report.Freed f.tci) m tt

window_taken_keeps : (b : Bool) (order : Order) (o : Outgoing) (m : Manager)
    → KeepsLanes m (window_taken b order o m)
window_taken_keeps true order o m = keeps_others m _ (record { low = refl; high = refl }) refl
window_taken_keeps false order o m = keeps_others m _ (record { low = refl; high = refl }) refl

window_refused_keeps : (b : Bool) (number : ℕ) (order : Order) (o : Outgoing) (resent : ℕ)
    (m : Manager) → KeepsLanes m (window_refused b number order o resent m)
window_refused_keeps true number order o resent m =
    keeps_others m _ (record { low = refl; high = refl }) refl
window_refused_keeps false number order o resent m = refused_keeps number m

window_by_keeps : (b : Bool) (number : ℕ) (order : Order) (o : Outgoing) (resent : ℕ)
    (m : Manager) → KeepsLanes m (window_by b number order o resent m)
window_by_keeps true number order o resent m = window_taken_keeps (is_last o) order o m
window_by_keeps false number order o resent m =
    window_refused_keeps (nat_lt resent MOST_RESENT) number order o resent m

window_keeps : (r : Option Response) (order : Order) (o : Outgoing) (resent : ℕ) (f : Frame)
    (m : Manager) → KeepsLanes m (window_by_reply r order o resent f m)
unfolding window_answered
window_keeps (Some (response.Section code number)) order o resent f m =
    window_by_keeps (code.0 == SUCCESS.0) code.0 order o resent m
window_keeps _ order o resent f m = keeps_reported (report.Freed f.tci) m tt

busy_keeps : (b : Bool) (order : Order) (image : List ℕ) (times : ℕ) (m : Manager)
    → KeepsLanes m (busy_if b order image times m)
busy_keeps true order image times m = keeps_others m _ (record { low = refl; high = refl }) refl
busy_keeps false order image times m = refused_keeps BUSY.0 m

end_by_keeps : (done busy : Bool) (number : ℕ) (order : Order) (image : List ℕ) (times : ℕ)
    (m : Manager) → KeepsLanes m (end_by done busy number order image times m)
unfolding counted_in_step
end_by_keeps true busy number order image times m = record {
  same = record { low = refl; high = refl };
  added = report.ImageDone order.slot ∷ [];
  quiet = (tt, tt);
  reports = refl;
}
end_by_keeps false true number order image times m =
    keeps_both m (with_report (report.Busy (times + 1)) m) _
    (keeps_reported (report.Busy (times + 1)) m tt)
    (busy_keeps (nat_le (times + 1) MOST_BUSY) order image (times + 1)
    (with_report (report.Busy (times + 1)) m))
end_by_keeps false false number order image times m = refused_keeps number m

end_keeps : (r : Option Response) (order : Order) (image : List ℕ) (busy : ℕ) (f : Frame)
    (m : Manager) → KeepsLanes m (end_by_reply r order image busy f m)
unfolding end_answered
end_keeps (Some (response.End code)) order image busy f m =
    end_by_keeps (code.0 == SUCCESS.0) (code.0 == BUSY.0) code.0 order image busy m
end_keeps _ order image busy f m = keeps_reported (report.Freed f.tci) m tt

job_keeps : (job : Option Stage) (r : Option Response) (f : Frame) (m : Manager)
    → KeepsLanes m (job_by job r f m)
job_keeps None r f m = keeps_reported (report.Freed f.tci) m tt
job_keeps (Some (Probing high low)) r f m = keeps_reported (report.Freed f.tci) m tt
job_keeps (Some Asking) r f m = upload_keeps r f m
job_keeps (Some (Gathering expected next copy)) r f m = reply_keeps r expected next copy f m
job_keeps (Some AskingAlarms) r f m = alarms_keep r f m
job_keeps (Some (GatheringRows expected next)) r f m = row_reply_keeps r expected next f m
job_keeps (Some (StartingImage order asked image)) r f m = start_keeps r order asked image f m
job_keeps (Some (SendingImage order outgoing resent)) r f m =
    window_keeps r order outgoing resent f m
job_keeps (Some (EndingImage order image busy)) r f m = end_keeps r order image busy f m
job_keeps (Some (DelayingEnd order image busy)) r f m = keeps_reported (report.Freed f.tci) m tt

lost_by_keeps : (job : Job) (tci : ℕ) (m : Manager) → KeepsLanes m (lost_by job tci m)
lost_by_keeps jobs.Resync tci m = failed_keeps (reason.GaveUp tci) m
lost_by_keeps jobs.Audit tci m = audit_fails (audit.GaveUp tci) m
lost_by_keeps jobs.Image tci m =
    keeps_both m (image_failed (images.GaveUp tci) m) _ (record {
      same = record { low = refl; high = refl };
      added = report.ImageFailed (images.GaveUp tci) ∷ [];
      quiet = (tt, tt);
      reports = refl;
    }) (leave_keeps (image_failed (images.GaveUp tci) m))

job_lost_keeps : (job : Option Stage) (tci : ℕ) (m : Manager) → KeepsLanes m (job_lost job tci m)
job_lost_keeps None tci m = keeps_itself m
job_lost_keeps (Some stage) tci m = lost_by_keeps (job_of stage) tci m

pub loss_keeps : (waits changes : Bool) (tci : ℕ) (m : Manager)
    → KeepsLanes m (loss_seen waits changes tci m)
loss_keeps true changes tci m = job_lost_keeps m.job tci m
loss_keeps false true tci m = leave_keeps m
loss_keeps false false tci m = keeps_itself m

-- and a report that a command was given up comes before it
pub give_up_keeps : (waits changes : Bool) (tci : ℕ) (m : Manager)
    → KeepsLanes m (loss_seen waits changes tci (with_report (report.GaveUp tci) m))
give_up_keeps waits changes tci m =
    keeps_both m (with_report (report.GaveUp tci) m) _
    (keeps_reported (report.GaveUp tci) m tt)
    (loss_keeps waits changes tci (with_report (report.GaveUp tci) m))

-- ---- the replies to submissions and checks

followed_if_keeps : (b : Bool) (one : EntityId) (r : Request) (m : Manager)
    → KeepsLanes m (followed_if b one r m)
followed_if_keeps true one r m = record {
  same = record { low = refl; high = refl };
  added = [];
  quiet = tt;
  reports = sym (append-nil m.reports);
}
followed_if_keeps false one r m = keeps_itself m

followed_keeps : (one : EntityId) (r : Request) (code : ℕ) (m : Manager)
    → KeepsLanes m (followed one r code m)
unfolding followed
followed_keeps one r code m = followed_if_keeps (code == SUCCESS.0) one r m

submission_keeps : (c : Command) (r : Option Response) (m : Manager)
    → KeepsLanes m (followed_by c r m)
submission_keeps c None m = keeps_itself m
submission_keeps c (Some r) m = followed_keeps c.entity c.request (code_of r) m

compared_keeps : (b : Bool) (m : Manager) → KeepsLanes m (compared b m)
compared_keeps true m = keeps_itself m
compared_keeps false m = leave_keeps m

counters_keep : (given : ℕ) (m : Manager) → KeepsLanes m (counters_compared given m)
counters_keep given m =
    keeps_both m (with_report (report.Checked given (expected_counter m)) m) _
    (keeps_reported (report.Checked given (expected_counter m)) m tt)
    (compared_keeps (given == expected_counter m)
    (with_report (report.Checked given (expected_counter m)) m))

-- the reply is handed on first, or not at all
abbrev pub Answers : Frame → Manager → Manager → Type 0
Answers f m n = KeepsLanes m n ⊎ KeepsLanes (with_report (report.Took f) m) n

checked_answers : (b : Bool) (r : Response) (f : Frame) (m : Manager)
    → Answers f m (checked_if b r f m)
checked_answers true r f m = inl (counters_keep (first_value r) m)
checked_answers false r f m = inr (leave_keeps (with_report (report.Took f) m))

check_answers : (r : Option Response) (f : Frame) (m : Manager) → Answers f m (checked_by r f m)
check_answers None f m = inr (leave_keeps (with_report (report.Took f) m))
check_answers (Some r) f m = checked_answers (code_of r == SUCCESS.0) r f m

-- ---- a reply is taken

-- at most the first of these hands a reply on, and it is this
abbrev pub AreFirst : Frame → List Report → Type 0
AreFirst f [] = Unit {0}
AreFirst f (report.Took reply ∷ rest) = (reply ≡ f) × AreQuiet rest
AreFirst f (_ ∷ rest) = AreQuiet rest

-- the reply to a probe is not handed on
abbrev pub AreFor : (probe : Bool) → Frame → List Report → Type 0
AreFor true f rs = AreQuiet rs
AreFor false f rs = AreFirst f rs

quiet_first : (f : Frame) (rs : List Report) → AreQuiet rs → AreFirst f rs
quiet_first f [] h = tt
quiet_first f (report.Took reply ∷ rest) h = absurd h.0
quiet_first f (_ ∷ rest) h = h.1

quiet_for : (probe : Bool) (f : Frame) (rs : List Report) → AreQuiet rs → AreFor probe f rs
quiet_for true f rs h = h
quiet_for false f rs h = quiet_first f rs h

-- the lanes in which a reply was taken that is no probe's
abbrev pub taken_lanes : (probe : Bool) → Priority → List Priority
taken_lanes true l = []
taken_lanes false l = l ∷ []

-- what a reply means, beside the end of its command
pub record IsTaking (probe : Bool) (f : Frame) (l : Priority) (m : Manager)
    (o : Outcome) : Type 0 where
  pub same : SameLanes m o.manager
  pub taken : o.taken ≡ taken_lanes probe l
  pub noticed : o.noticed ≡ []
  pub sends : o.sendings ≡ []
  pub told : m.reports ≡ [] → AreFor probe f o.manager.reports

abbrev after_taking : Bool → Priority → Manager → Outcome
after_taking probe l n =
    record { manager = n; taken = taken_lanes probe l; noticed = []; sendings = [] }

taking_quiet : (probe : Bool) (f : Frame) (l : Priority) (m n : Manager) → KeepsLanes m n
    → IsTaking probe f l m (after_taking probe l n)
taking_quiet probe f l m n k = record {
  same = k.same;
  taken = refl;
  noticed = refl;
  sends = refl;
  told = λ e. subst (AreFor probe f) (sym (k.reports ∙ ap (λ rs. rs ++ k.added) e))
      (quiet_for probe f k.added k.quiet);
}

taking_answers : (f : Frame) (l : Priority) (m n : Manager) → Answers f m n
    → IsTaking false f l m (after_taking false l n)
taking_answers f l m n (inl k) = taking_quiet false f l m n k
taking_answers f l m n (inr k) = record {
  same = record { low = k.same.low; high = k.same.high };
  taken = refl;
  noticed = refl;
  sends = refl;
  told = λ e. subst (AreFirst f)
      (sym (k.reports ∙ ap (λ rs. (rs ++ report.Took f ∷ []) ++ k.added) e)) (refl, k.quiet);
}

pub taking_is : (why : Purpose) (l : Priority) (c : Command) (f : Frame) (m : Manager)
    → IsTaking (is_probe why) f l m (taken_as why l c f m)
taking_is purpose.Probe l c f m = taking_quiet true f l m _ (record {
  same = record { low = refl; high = refl };
  added = report.Proved l ∷ [];
  quiet = (tt, tt);
  reports = refl;
})
taking_is purpose.Submission l c f m = taking_answers f l m _
    (inr (submission_keeps c (response_of f) (with_report (report.Took f) m)))
taking_is purpose.Check l c f m = taking_answers f l m _ (check_answers (response_of f) f m)
taking_is purpose.Job l c f m = taking_quiet false f l m _ (job_keeps m.job (response_of f) f m)

-- ---- the job goes on

wish_takes : (free : Bool) (w : Option Wish) (m : Manager) → (send_wish free w m).taken ≡ []
wish_takes free None m = refl
wish_takes false (Some w) m = refl
wish_takes true (Some w) m = refl

-- it takes no reply
job_takes : (m : Manager) → (job_goes_on m).taken ≡ []
unfolding job_goes_on
job_takes m = wish_takes (is_free m.low) (wish_in m.job) m

-- nothing but that reply is taken
pub takes_one : (probe : Bool) (l : Priority) (a : Outcome) → a.taken ≡ taken_lanes probe l
    → (and_then a job_goes_on).taken ≡ taken_lanes probe l
takes_one probe l a e =
    ap (λ ls. ls ++ (job_goes_on a.manager).taken) e
    ∙ ap (λ ls. taken_lanes probe l ++ ls) (job_takes a.manager)
    ∙ append-nil (taken_lanes probe l)

wish_notices : (free : Bool) (w : Option Wish) (m : Manager) → (send_wish free w m).noticed ≡ []
wish_notices free None m = refl
wish_notices false (Some w) m = refl
wish_notices true (Some w) m = refl

-- and no notice
pub takes_no_notice : (a : Outcome) → a.noticed ≡ [] → (and_then a job_goes_on).noticed ≡ []
unfolding job_goes_on
takes_no_notice a e =
    ap (λ ns. ns ++ (job_goes_on a.manager).noticed) e
    ∙ wish_notices (is_free a.manager.low) (wish_in a.manager.job) a.manager

wish_reports : (free : Bool) (w : Option Wish) (m : Manager)
    → (send_wish free w m).manager.reports ≡ m.reports
wish_reports free None m = refl
wish_reports false (Some w) m = refl
wish_reports true (Some w) m = refl

-- and reports nothing
pub job_reports : (m : Manager) → (job_goes_on m).manager.reports ≡ m.reports
unfolding job_goes_on
job_reports m = wish_reports (is_free m.low) (wish_in m.job) m

resumed_takes : (job : Option Stage) (m : Manager) → (resumed_by job m).taken ≡ []
resumed_takes None m = refl
resumed_takes (Some (DelayingEnd order image busy)) m =
    job_takes (with_job (Some (EndingImage order image busy)) m)
resumed_takes (Some _) m = refl

-- a second of the job takes no reply
pub resume_takes : (m : Manager) → (job_resumes m).taken ≡ []
resume_takes m = resumed_takes m.job m

-- ---- a packet that is no reply

-- no reply is taken, nothing is sent, and none is handed on
pub record IsBeside (m : Manager) (o : Outcome) : Type 0 where
  pub keeps : KeepsLanes m o.manager
  pub taken : o.taken ≡ []
  pub sends : o.sendings ≡ []

beside_silent : (m n : Manager) → KeepsLanes m n → IsBeside m (sends_nothing n)
beside_silent m n k = record { keeps = k; taken = refl; sends = refl }

-- an audit that runs may end
audit_lost_keeps : (job : Option Stage) (why : AuditReason) (m : Manager)
    → KeepsLanes m (audit_lost job why m)
audit_lost_keeps None why m = keeps_itself m
audit_lost_keeps (Some (Probing high low)) why m = keeps_itself m
audit_lost_keeps (Some Asking) why m = keeps_itself m
audit_lost_keeps (Some (Gathering expected next copy)) why m = keeps_itself m
audit_lost_keeps (Some AskingAlarms) why m = audit_fails why m
audit_lost_keeps (Some (GatheringRows expected next)) why m = audit_fails why m
audit_lost_keeps (Some (StartingImage order asked image)) why m = keeps_itself m
audit_lost_keeps (Some (SendingImage order outgoing resent)) why m = keeps_itself m
audit_lost_keeps (Some (EndingImage order image busy)) why m = keeps_itself m
audit_lost_keeps (Some (DelayingEnd order image busy)) why m = keeps_itself m

lost_beside : (r : Report) (why : AuditReason) (m : Manager) → IsQuiet r
    → IsBeside m (sends_nothing (audit_lost m.job why (with_report r m)))
lost_beside r why m q = beside_silent m _
    (keeps_both m (with_report r m) _ (keeps_reported r m q)
    (audit_lost_keeps m.job why (with_report r m)))

alarm_beside : (a : TakenAlarm) (one : EntityId) (bitmap : List ℕ) (number : ℕ) (m : Manager)
    → IsBeside m (alarm_as a one bitmap number m)
alarm_beside taken.Unaudited one bitmap number m =
    beside_silent m _ (keeps_reported (report.AlarmUnaudited number) m tt)
alarm_beside taken.Repeat one bitmap number m =
    beside_silent m _ (keeps_reported (report.AlarmRepeat number) m tt)
alarm_beside (taken.Gap want have) one bitmap number m =
    lost_beside (report.AlarmGap want have) (audit.Gap want have) m tt
alarm_beside taken.Overflow one bitmap number m =
    lost_beside (report.AlarmOverflow number) audit.Overflow m tt
alarm_beside taken.Taken one bitmap number m =
    record { keeps = keeps_reported (report.AlarmTaken number) m tt; taken = refl; sends = refl }

came_beside : (one : EntityId) (bitmap : List ℕ) (number : ℕ) (m : Manager)
    → IsBeside m (alarm_came one bitmap number m)
unfolding alarm_came
came_beside one bitmap number m =
    let n = with_table (after_take one bitmap number m.table) m in
    let k = alarm_beside (take_answer number m.table) one bitmap number n in
    record {
      keeps = keeps_both m n _ (keeps_others m n (record { low = refl; high = refl }) refl) k.keeps;
      taken = k.taken;
      sends = k.sends;
    }

notice_beside : (one : EntityId) (notice : Notice) (f : Frame) (m : Manager)
    → IsBeside m (notice_came one notice f m)
notice_beside one (notices.Alarm bitmap number) f m = came_beside one bitmap number m
notice_beside one (notices.Change mask values) f m =
    beside_silent m _ (keeps_reported (report.Change f) m tt)

pub dropped_beside : (m : Manager) → IsBeside m (packet_dropped m)
dropped_beside m = beside_silent m _ (keeps_reported report.Dropped m tt)

not_taken_beside : (r : Result Message ContentsFault) (f : Frame) (m : Manager)
    → IsBeside m (not_taken r f m)
not_taken_beside (Ok (Told tci entity notice)) f m = notice_beside entity notice f m
not_taken_beside (Ok (Asked tci entity r)) f m = dropped_beside m
not_taken_beside (Ok (Answered tci entity r)) f m = dropped_beside m
not_taken_beside (Err fault) f m = dropped_beside m

untaken_beside : (o : Option Frame) (m : Manager) → IsBeside m (untaken o m)
untaken_beside None m = dropped_beside m
untaken_beside (Some f) m = not_taken_beside (message_of f) f m

pub is_beside : (o : Option Frame) (m : Manager) (a : Outcome) → a ≡ untaken o m → IsBeside m a
is_beside o m a e = subst (IsBeside m) (sym e) (untaken_beside o m)
