-- What becomes of a job, of an audit and of a download, by the reply that is taken.
use Rattle.std.proofs.Common.{◌≡◌, ◌≢◌, ℕ, ◌+◌, Bool, true, false, List, [], ◌∷◌, Option, Some}
use Rattle.std.proofs.Common.{None, ◌⊎◌, inl, inr, refl, sym, subst, ◌∙◌, nat_le, nat_lt, min, cond}
use Rattle.std.proofs.Common.{◌==◌, is_some}
use Rattle.std.specs.Option.{option_map}
use Rattle.std.proofs.lemmas.Option.{same_Some}
use Rattle.std.proofs.lemmas.Bool.{false≢true}
use Rattle.omci_types.specs.declared.Frame.{Frame}
use Rattle.message_spec.specs.declared.Response.{Response}
use Rattle.message_spec.specs.declared.Response.TheVariants as response
use Rattle.alarm_spec.specs.declared.BadRow.{BadRow}
use Rattle.alarm_spec.specs.declared.BadRow.TheVariants as bad
use Rattle.alarm_spec.specs.Table.{Table, begun, gathered, row_fault, after_row}
use Rattle.upload_spec.specs.declared.PieceFault.{PieceFault}
use Rattle.upload_spec.specs.declared.PieceFault.TheVariants as fault
use Rattle.upload_spec.specs.Pieces.{Copy}
use Rattle.upload_spec.specs.Copies.{with_piece, piece_fault, copied_counter}
use Rattle.lane_spec.specs.Command.{Command, is_changing}
use Rattle.message_spec.specs.declared.Request.{Request}
use Rattle.message_spec.specs.declared.Request.TheVariants as request
use Rattle.omci_types.specs.declared.TheConstants.Code.{BUSY}
use Rattle.window_spec.specs.Outgoing.{Outgoing, new_outgoing, is_last, after_window}
use Rattle.manager_spec.specs.declared.TheConstants.{MOST_RESENT, MOST_BUSY}
use Rattle.manager_spec.specs.declared.ImageReason.{ImageReason}
use Rattle.manager_spec.specs.declared.ImageReason.TheVariants as image_reason
use Rattle.manager_spec.specs.Copying.{grown_in_step, counted_in_step}
use Rattle.manager_spec.specs.Upgrade.{image_failed, started_if, image_started, window_taken}
use Rattle.manager_spec.specs.Upgrade.{window_refused, window_by, window_answered, busy_if, end_by}
use Rattle.manager_spec.specs.Upgrade.{end_answered}
use Rattle.manager_spec.specs.declared.ResyncReason.{ResyncReason}
use Rattle.manager_spec.specs.declared.ResyncReason.TheVariants as reason
use Rattle.manager_spec.specs.declared.AuditReason.{AuditReason}
use Rattle.manager_spec.specs.declared.AuditReason.TheVariants as audit
use Rattle.manager_spec.specs.declared.Report.{Report}
use Rattle.manager_spec.specs.declared.Report.TheVariants as report
use Rattle.manager_spec.specs.Manager.{Stage, Probing, Asking, Gathering, AskingAlarms}
use Rattle.manager_spec.specs.Manager.{GatheringRows, Manager, with_report, Order, StartingImage}
use Rattle.manager_spec.specs.Manager.{SendingImage, EndingImage, DelayingEnd}
use Rattle.manager_spec.specs.Resync.{with_job, resync_failed, resync_done, done_if_counted}
use Rattle.manager_spec.specs.Resync.{gather_unless_all, gather_on, piece_by}
use Rattle.manager_spec.specs.Audit.{with_table, audit_failed, audit_done, rows_unless_all, rows_on}
use Rattle.manager_spec.specs.Audit.{row_by, audit_lost}
use Rattle.manager_spec.specs.Steps.{freed, upload_by, piece_by_reply, alarms_by, row_by_reply}
use Rattle.manager_spec.specs.Steps.{start_by_reply, window_by_reply, end_by_reply}
use Rattle.resync_laws.proofs.Telling.{NoneSynced, none_more}
use Rattle.resync_laws.proofs.Mild.{fails, fails_audit}
use Rattle.step_laws.proofs.Reading.{form, IsOther}
use Rattle.step_laws.proofs.Parts.{is_image, AtCommand}
use Rattle.step_laws.proofs.Turning.{Like, like_same, like_then, like_report, like_failed}
use Rattle.step_laws.proofs.Turning.{like_unaudited}

-- ---- what becomes of a job

-- a manager that reports no resynchronisation that ended well
pub record Quietly (m a : Manager) : Type 0 where
  pub like : Like m a
  pub told : NoneSynced m.reports → NoneSynced a.reports

-- it gathers, where it has asked
pub record Gathers (m a : Manager) : Type 0 where
  pub expected : ℕ
  pub next : ℕ
  pub copy : Copy
  pub is : a ≡ with_job (Some (Gathering expected next copy)) m

pub record Syncs (m a : Manager) : Type 0 where
  pub copy : Copy
  pub is : a ≡ resync_done copy m

abbrev pub Turns : Manager → Manager → Type 0
Turns m a = Quietly m a ⊎ (Gathers m a ⊎ Syncs m a)

pub quiet_report : (r : Report) (m : Manager) → NoneSynced (r ∷ []) → Quietly m (with_report r m)
quiet_report r m n = record { like = like_report r m; told = λ k. none_more m.reports r k n.0 }

quiet_failed : (why : ResyncReason) (m : Manager) → Quietly m (resync_failed why m)
quiet_failed why m = record { like = like_failed why m; told = (fails why m).reports }

turns_if : (b : Bool) (copy : Copy) (m : Manager) → Turns m (done_if_counted b copy m)
turns_if true copy m = inr (inr (record { copy = copy; is = refl }))
turns_if false copy m = inl (quiet_failed reason.Missing m)

turns_unless : (b : Bool) (expected next : ℕ) (copy : Copy) (m : Manager)
    → Turns m (gather_unless_all b expected next copy m)
turns_unless true expected next copy m = turns_if (is_some (copied_counter copy)) copy m
turns_unless false expected next copy m =
    inr (inl (record { expected = expected; next = next; copy = copy; is = refl }))

turns_on : (expected next : ℕ) (copy : Copy) (m : Manager)
    → Turns m (gather_on expected next copy m)
unfolding gather_on
turns_on expected next copy m = turns_unless (nat_le expected next) expected next copy m

turns_piece : (o : Option PieceFault) (expected next : ℕ) (piece : List ℕ) (copy : Copy)
    (m : Manager) → Turns m (piece_by o expected next piece copy m)
turns_piece None expected next piece copy m = turns_on expected (next + 1) (with_piece piece copy) m
turns_piece (Some fault.Empty) expected next piece copy m = inl (quiet_failed reason.Empty m)
turns_piece (Some (fault.ClassUnknown class)) expected next piece copy m =
    turns_on expected (next + 1) copy m
turns_piece (Some (fault.Truncated one)) expected next piece copy m =
    inl (quiet_failed (reason.Truncated one) m)
turns_piece (Some (fault.Repeated one attribute)) expected next piece copy m =
    inl (quiet_failed (reason.Repeated one attribute) m)

pub turns_freed : (f : Frame) (m : Manager) → Quietly m (freed f m)
turns_freed f m = quiet_report (report.Freed f.tci) m (refl, tt)

pub turns_upload : (o : Option Response) (f : Frame) (m : Manager) → Turns m (upload_by o f m)
turns_upload (Some (response.Upload count)) f m = turns_on count 0 [] m
turns_upload (Some _) f m = inl (turns_freed f m)
turns_upload None f m = inl (turns_freed f m)

pub turns_reply : (o : Option Response) (expected next : ℕ) (copy : Copy) (f : Frame) (m : Manager)
    → Turns m (piece_by_reply o expected next copy f m)
turns_reply (Some (response.UploadNext piece)) expected next copy f m =
    turns_piece (piece_fault piece copy) expected next piece copy m
turns_reply (Some _) expected next copy f m = inl (turns_freed f m)
turns_reply None expected next copy f m = inl (turns_freed f m)

-- ---- what becomes of an audit

-- no download runs
abbrev IsIdleJob : Manager → Type 0
IsIdleJob m = (c : Command) → AtCommand m.job c → ⊥

quiet_unaudited : (why : AuditReason) (m : Manager) → IsIdleJob m → Quietly m (audit_failed why m)
quiet_unaudited why m idle =
    record { like = like_unaudited why m idle; told = (fails_audit why m).reports }

quiet_same : (m : Manager) → Quietly m m
quiet_same m = record { like = like_same m; told = λ n. n }

pub quiet_then : (m a b : Manager) → Quietly m a → Quietly a b → Quietly m b
quiet_then m a b h k = record {
  like = like_then m a b h.like k.like;
  told =
      λ n. k.told (h.told n);
}

pub quiet_table : (table : Table) (m : Manager) → Quietly m (with_table table m)
quiet_table table m = record {
  like = record {
    low = refl;
    high = refl;
    job = λ s e. e;
    was = λ e. e;
    copy = λ e. refl;
    command = λ e c h. h;
  };
  told = λ n. n;
}

pub quiet_audit : (job : Option Stage) (why : AuditReason) (m : Manager) → m.job ≡ job
    → Quietly m (audit_lost job why m)
quiet_audit None why m e = quiet_same m
quiet_audit (Some (Probing high low)) why m e = quiet_same m
quiet_audit (Some Asking) why m e = quiet_same m
quiet_audit (Some (Gathering expected next copy)) why m e = quiet_same m
quiet_audit (Some AskingAlarms) why m e =
    quiet_unaudited why m (λ c x. subst (λ j. AtCommand j c) e x)
quiet_audit (Some (GatheringRows expected next)) why m e =
    quiet_unaudited why m (λ c x. subst (λ j. AtCommand j c) e x)
quiet_audit (Some (StartingImage order asked image)) why m e = quiet_same m
quiet_audit (Some (SendingImage order outgoing resent)) why m e = quiet_same m
quiet_audit (Some (EndingImage order image busy)) why m e = quiet_same m
quiet_audit (Some (DelayingEnd order image busy)) why m e = quiet_same m

-- it gathers rows
pub record GathersRows (m a : Manager) : Type 0 where
  pub expected : ℕ
  pub next : ℕ
  pub table : Table
  pub is : a ≡ with_job (Some (GatheringRows expected next)) (with_table table m)

pub record Audits (m a : Manager) : Type 0 where
  pub table : Table
  pub is : a ≡ audit_done (with_table table m)

abbrev pub AuditTurns : Manager → Manager → Type 0
AuditTurns m a = Quietly m a ⊎ (GathersRows m a ⊎ Audits m a)

audit_unless : (all : Bool) (expected next : ℕ) (table : Table) (m : Manager)
    → AuditTurns m (rows_unless_all all expected next (with_table table m))
audit_unless true expected next table m = inr (inr (record { table = table; is = refl }))
audit_unless false expected next table m =
    inr (inl (record { expected = expected; next = next; table = table; is = refl }))

audit_on : (expected next : ℕ) (table : Table) (m : Manager)
    → AuditTurns m (rows_on expected next (with_table table m))
unfolding rows_on
audit_on expected next table m = audit_unless (nat_le expected next) expected next table m

audit_row : (o : Option BadRow) (expected next : ℕ) (row : List ℕ) (m : Manager) → IsIdleJob m
    → AuditTurns m (row_by o expected next row m)
audit_row None expected next row m i = audit_on expected (next + 1) (after_row row m.table) m
audit_row (Some bad.Empty) expected next row m i = inl (quiet_unaudited audit.Empty m i)
audit_row (Some (bad.Repeated one)) expected next row m i =
    inl (quiet_unaudited (audit.Repeated one) m i)

pub audit_begins : (o : Option Response) (f : Frame) (m : Manager) → AuditTurns m (alarms_by o f m)
audit_begins (Some (response.Alarms count)) f m = audit_on count 0 (begun m.table) m
audit_begins (Some _) f m = inl (turns_freed f m)
audit_begins None f m = inl (turns_freed f m)

pub audit_reply : (o : Option Response) (expected next : ℕ) (f : Frame) (m : Manager) → IsIdleJob m
    → AuditTurns m (row_by_reply o expected next f m)
audit_reply (Some (response.AlarmsNext row)) expected next f m i =
    audit_row (row_fault row (gathered m.table)) expected next row m i
audit_reply (Some _) expected next f m i = inl (turns_freed f m)
audit_reply None expected next f m i = inl (turns_freed f m)

-- ---- what becomes of a download

-- its job goes on or ends, and the copy grows or stays
pub record Downs (m a : Manager) (grown : Bool) : Type 0 where
  pub low : a.low ≡ m.low
  pub high : a.high ≡ m.high
  pub phase : a.phase ≡ m.phase
  pub job : (s : Stage) → a.job ≡ Some s → is_image s ≡ true
  pub copy : a.copy ≡ cond grown (option_map (grown_in_step m.phase) m.copy) m.copy
  pub told : NoneSynced m.reports → NoneSynced a.reports

downs_at : (s : Stage) (m : Manager) → is_image s ≡ true → Downs m (with_job (Some s) m) false
downs_at s m h = record {
  low = refl;
  high = refl;
  phase = refl;
  job = λ x e. subst (λ y. is_image y ≡ true) (same_Some s x e) h;
  copy = refl;
  told = λ n. n;
}

downs_failed : (why : ImageReason) (m : Manager) → Downs m (image_failed why m) false
downs_failed why m = record {
  low = refl;
  high = refl;
  phase = refl;
  job = λ x e. absurd (cc);
  copy = refl;
  told = λ n. none_more m.reports (report.ImageFailed why) n refl;
}

pub downs_freed : (f : Frame) (s : Stage) (m : Manager) → m.job ≡ Some s → is_image s ≡ true
    → Downs m (freed f m) false
downs_freed f s m e h = record {
  low = refl;
  high = refl;
  phase = refl;
  job = λ x g. subst (λ y. is_image y ≡ true) (same_Some s x (sym e ∙ g)) h;
  copy = refl;
  told = λ n. none_more m.reports (report.Freed f.tci) n refl;
}

started_downs : (b : Bool) (number granted : ℕ) (order : Order) (asked : ℕ) (image : List ℕ)
    (m : Manager) → Downs m (started_if b number granted order asked image m) b
unfolding counted_in_step
started_downs true number granted order asked image m = record {
  low = refl;
  high = refl;
  phase = refl;
  job = λ x e. subst (λ y. is_image y ≡ true)
      (same_Some (SendingImage order (new_outgoing image (min asked granted)) 0) x e) refl;
  copy = refl;
  told = λ n. n;
}
started_downs false number granted order asked image m =
    downs_failed (image_reason.Code (record { 0 = number })) m

pub start_downs : (number granted : ℕ) (order : Order) (asked : ℕ) (image : List ℕ) (m : Manager)
    → Downs m (image_started number granted order asked image m) (number == 0)
unfolding image_started
start_downs number granted order asked image m =
    started_downs (number == 0) number granted order asked image m

taken_downs : (last : Bool) (order : Order) (o : Outgoing) (m : Manager)
    → Downs m (window_taken last order o m) false
taken_downs true order o m = downs_at (EndingImage order o.image 0) m refl
taken_downs false order o m = downs_at (SendingImage order (after_window o) 0) m refl

refused_downs : (more : Bool) (number : ℕ) (order : Order) (o : Outgoing) (resent : ℕ) (m : Manager)
    → Downs m (window_refused more number order o resent m) false
refused_downs true number order o resent m = downs_at (SendingImage order o (resent + 1)) m refl
refused_downs false number order o resent m =
    downs_failed (image_reason.Code (record { 0 = number })) m

window_by_downs : (good : Bool) (number : ℕ) (order : Order) (o : Outgoing) (resent : ℕ)
    (m : Manager) → Downs m (window_by good number order o resent m) false
window_by_downs true number order o resent m = taken_downs (is_last o) order o m
window_by_downs false number order o resent m =
    refused_downs (nat_lt resent MOST_RESENT) number order o resent m

window_downs : (number : ℕ) (order : Order) (o : Outgoing) (resent : ℕ) (m : Manager)
    → Downs m (window_answered number order o resent m) false
unfolding window_answered
window_downs number order o resent m = window_by_downs (number == 0) number order o resent m

busy_downs : (more : Bool) (order : Order) (image : List ℕ) (times : ℕ) (m : Manager)
    → Downs m (busy_if more order image times (with_report (report.Busy times) m)) false
busy_downs true order image times m = record {
  low = refl;
  high = refl;
  phase = refl;
  job = λ x e. subst (λ y. is_image y ≡ true) (same_Some (DelayingEnd order image times) x e) refl;
  copy = refl;
  told = λ n. none_more m.reports (report.Busy times) n refl;
}
busy_downs false order image times m = record {
  low = refl;
  high = refl;
  phase = refl;
  job = λ x e. absurd (cc);
  copy = refl;
  told = λ n.
      none_more (with_report (report.Busy times) m).reports
      (report.ImageFailed (image_reason.Code (record { 0 = BUSY.0 })))
      (none_more m.reports (report.Busy times) n refl) refl;
}

end_by_downs : (done busy : Bool) (number : ℕ) (order : Order) (image : List ℕ) (times : ℕ)
    (m : Manager) → Downs m (end_by done busy number order image times m) done
unfolding counted_in_step
end_by_downs true busy number order image times m = record {
  low = refl;
  high = refl;
  phase = refl;
  job = λ x e. absurd (cc);
  copy = refl;
  told = λ n. none_more m.reports (report.ImageDone order.slot) n refl;
}
end_by_downs false true number order image times m =
    busy_downs (nat_le (times + 1) MOST_BUSY) order image (times + 1) m
end_by_downs false false number order image times m =
    downs_failed (image_reason.Code (record { 0 = number })) m

pub end_downs : (number : ℕ) (order : Order) (image : List ℕ) (times : ℕ) (m : Manager)
    → Downs m (end_answered number order image times m) (number == 0)
unfolding end_answered
end_downs number order image times m =
    end_by_downs (number == 0) (number == BUSY.0) number order image times m

start_other : (o : Option Response) → IsOther o → (order : Order) (asked : ℕ) (image : List ℕ)
    (f : Frame) (m : Manager) → start_by_reply o order asked image f m ≡ freed f m
start_other (Some (response.Start code granted)) h order asked image f m = absurd h
start_other _ h order asked image f m = refl

end_other : (o : Option Response) → IsOther o → (order : Order) (image : List ℕ) (busy : ℕ)
    (f : Frame) (m : Manager) → end_by_reply o order image busy f m ≡ freed f m
end_other (Some (response.End code)) h order image busy f m = absurd h
end_other _ h order image busy f m = refl

pub window_reply_downs : (o : Option Response) (order : Order) (outgoing : Outgoing) (resent : ℕ)
    (f : Frame) (m : Manager) → m.job ≡ Some (SendingImage order outgoing resent)
    → Downs m (window_by_reply o order outgoing resent f m) false
window_reply_downs (Some (response.Section code number)) order outgoing resent f m e =
    window_downs code.0 order outgoing resent m
window_reply_downs _ order outgoing resent f m e =
    downs_freed f (SendingImage order outgoing resent) m e refl

-- a request that is neither a start nor an end, among the job's
pub other_form : (r : Request) → is_changing r ≡ false → form r ≡ 0
other_form (request.Start window size targets target) e = absurd (false≢true (sym e))
other_form (request.End check size targets target) e = absurd (false≢true (sym e))
other_form _ e = refl
