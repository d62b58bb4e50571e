-- What a reply leaves of the lanes and of the job, and how a download goes on.
use Rattle.std.proofs.Common.{◌≡◌, ℕ, ◌+◌, Bool, true, false, List, Some, None, refl, subst, ◌∙◌, nat_le, nat_lt, min, ◌==◌}
use Rattle.std.proofs.lemmas.Option.{same_Some}
use Rattle.omci_types.specs.declared.TheConstants.Code.{SUCCESS, BUSY}
use Rattle.manager_spec.specs.declared.Phase.{Phase}
use Rattle.manager_spec.specs.declared.Phase.TheVariants as phase
use Rattle.manager_spec.specs.declared.ResyncReason.{ResyncReason}
use Rattle.window_spec.specs.Outgoing.{Outgoing, new_outgoing, is_last, after_window}
use Rattle.manager_spec.specs.declared.TheConstants.{MOST_RESENT, MOST_BUSY}
use Rattle.manager_spec.specs.declared.ImageReason.{ImageReason}
use Rattle.manager_spec.specs.declared.ImageReason.TheVariants as image_reason
use Rattle.manager_spec.specs.declared.AuditReason.{AuditReason}
use Rattle.manager_spec.specs.declared.Report.{Report}
use Rattle.manager_spec.specs.declared.Report.TheVariants as report
use Rattle.manager_spec.specs.Manager.{Stage, Probing, Asking, Gathering, AskingAlarms, GatheringRows, StartingImage, SendingImage, EndingImage, DelayingEnd, Order, Manager, with_report, phase_left, leave_step}
use Rattle.manager_spec.specs.Copying.{counted_in_step}
use Rattle.manager_spec.specs.Upgrade.{image_failed, started_if, image_started, window_taken, window_refused, window_by, window_answered, busy_if, end_by, end_answered}
use Rattle.manager_spec.specs.Resync.{with_job, resync_failed}
use Rattle.manager_spec.specs.Audit.{audit_failed}
use Rattle.resync_laws.proofs.Telling.{is_synced, NoneSynced, none_more}

-- ---- what leaves the lanes and the job alone

pub record Mild (a b : Manager) : Type 0 where
  pub low : b.low ≡ a.low
  pub high : b.high ≡ a.high
  pub job : b.job ≡ a.job
  pub reports : NoneSynced a.reports → NoneSynced b.reports

pub mild_then : (a b c : Manager) → Mild a b → Mild b c → Mild a c
mild_then a b c h k = record {
  low = k.low ∙ h.low;
  high = k.high ∙ h.high;
  job = k.job ∙ h.job;
  reports = λ n. k.reports (h.reports n);
}

pub mild_same : (a : Manager) → Mild a a
mild_same a = record { low = refl; high = refl; job = refl; reports = λ n. n }

pub mild_report : (r : Report) (m : Manager) → is_synced r ≡ false → Mild m (with_report r m)
mild_report r m e =
    record { low = refl; high = refl; job = refl; reports = λ n. none_more m.reports r n e }

mild_left : (p : Phase) (m : Manager) → Mild m (phase_left p m)
mild_left phase.InStep m =
    record { low = refl; high = refl; job = refl; reports = λ n. none_more m.reports report.PhaseOut n refl }
mild_left phase.New m = mild_same m
mild_left phase.Out m = mild_same m

pub mild_leave : (m : Manager) → Mild m (leave_step m)
mild_leave m = mild_left m.phase m

-- the job has failed
pub record Fails (a b : Manager) : Type 0 where
  pub low : b.low ≡ a.low
  pub high : b.high ≡ a.high
  pub job : b.job ≡ None
  pub reports : NoneSynced a.reports → NoneSynced b.reports

pub fails : (why : ResyncReason) (m : Manager) → Fails m (resync_failed why m)
fails why m =
    let x : Manager = with_report (report.ResyncFailed why) (with_job None m) in
    let k = mild_leave x in
    record {
      low = k.low;
      high = k.high;
      job = k.job;
      reports = λ n. k.reports (none_more m.reports (report.ResyncFailed why) n refl);
    }

pub fails_audit : (why : AuditReason) (m : Manager) → Fails m (audit_failed why m)
fails_audit why m = record {
  low = refl;
  high = refl;
  job = refl;
  reports = λ n. none_more m.reports (report.AuditFailed why) n refl;
}

pub fails_image : (why : ImageReason) (m : Manager) → Fails m (image_failed why m)
fails_image why m = record {
  low = refl;
  high = refl;
  job = refl;
  reports = λ n. none_more m.reports (report.ImageFailed why) n refl;
}

-- ---- a download goes on, or ends

abbrev pub IsImageStage : Stage → Type 0
IsImageStage (Probing high low) = ⊥
IsImageStage Asking = ⊥
IsImageStage (Gathering expected next copy) = ⊥
IsImageStage AskingAlarms = ⊥
IsImageStage (GatheringRows expected next) = ⊥
IsImageStage (StartingImage order asked image) = Unit {0}
IsImageStage (SendingImage order outgoing resent) = Unit {0}
IsImageStage (EndingImage order image busy) = Unit {0}
IsImageStage (DelayingEnd order image busy) = Unit {0}

-- its lanes are left alone, and no other job begins
pub record Downloads (a b : Manager) : Type 0 where
  pub low : b.low ≡ a.low
  pub high : b.high ≡ a.high
  pub job : (s : Stage) → b.job ≡ Some s → IsImageStage s
  pub reports : NoneSynced a.reports → NoneSynced b.reports

downloads_at : (s : Stage) (m : Manager) → IsImageStage s → Downloads m (with_job (Some s) m)
downloads_at s m h = record {
  low = refl;
  high = refl;
  job = λ x e. subst IsImageStage (same_Some s x e) h;
  reports = λ n. n;
}

downloads_failed : (why : ImageReason) (m : Manager) → Downloads m (image_failed why m)
downloads_failed why m = record {
  low = refl;
  high = refl;
  job = λ x e. absurd (cc);
  reports = λ n. none_more m.reports (report.ImageFailed why) n refl;
}

downloads_started : (b : Bool) (number granted : ℕ) (order : Order) (asked : ℕ) (image : List ℕ)
    (m : Manager) → Downloads m (started_if b number granted order asked image m)
unfolding counted_in_step
downloads_started true number granted order asked image m = record {
  low = refl;
  high = refl;
  job = λ x e. subst IsImageStage (same_Some (SendingImage order (new_outgoing image (min asked granted)) 0) x e) tt;
  reports = λ n. n;
}
downloads_started false number granted order asked image m =
    downloads_failed (image_reason.Code (record { 0 = number })) m

pub start_downloads : (number granted : ℕ) (order : Order) (asked : ℕ) (image : List ℕ)
    (m : Manager) → Downloads m (image_started number granted order asked image m)
unfolding image_started
start_downloads number granted order asked image m =
    downloads_started (number == SUCCESS.0) number granted order asked image m

window_taken_downloads : (last : Bool) (order : Order) (o : Outgoing) (m : Manager)
    → Downloads m (window_taken last order o m)
window_taken_downloads true order o m = downloads_at (EndingImage order o.image 0) m tt
window_taken_downloads false order o m = downloads_at (SendingImage order (after_window o) 0) m tt

window_refused_downloads : (more : Bool) (number : ℕ) (order : Order) (o : Outgoing) (resent : ℕ)
    (m : Manager) → Downloads m (window_refused more number order o resent m)
window_refused_downloads true number order o resent m =
    downloads_at (SendingImage order o (resent + 1)) m tt
window_refused_downloads false number order o resent m =
    downloads_failed (image_reason.Code (record { 0 = number })) m

window_by_downloads : (good : Bool) (number : ℕ) (order : Order) (o : Outgoing) (resent : ℕ)
    (m : Manager) → Downloads m (window_by good number order o resent m)
window_by_downloads true number order o resent m = window_taken_downloads (is_last o) order o m
window_by_downloads false number order o resent m =
    window_refused_downloads (nat_lt resent MOST_RESENT) number order o resent m

pub window_downloads : (number : ℕ) (order : Order) (o : Outgoing) (resent : ℕ) (m : Manager)
    → Downloads m (window_answered number order o resent m)
unfolding window_answered
window_downloads number order o resent m =
    window_by_downloads (number == SUCCESS.0) number order o resent m

busy_downloads : (more : Bool) (order : Order) (image : List ℕ) (times : ℕ) (m : Manager)
    → Downloads m (busy_if more order image times (with_report (report.Busy times) m))
busy_downloads true order image times m = record {
  low = refl;
  high = refl;
  job = λ x e. subst IsImageStage (same_Some (DelayingEnd order image times) x e) tt;
  reports = λ n. none_more m.reports (report.Busy times) n refl;
}
busy_downloads false order image times m = record {
  low = refl;
  high = refl;
  job = λ x e. absurd (cc);
  reports = λ n.
      none_more (with_report (report.Busy times) m).reports
      (report.ImageFailed (image_reason.Code (record { 0 = BUSY.0 })))
      (none_more m.reports (report.Busy times) n refl) refl;
}

end_by_downloads : (done busy : Bool) (number : ℕ) (order : Order) (image : List ℕ) (times : ℕ)
    (m : Manager) → Downloads m (end_by done busy number order image times m)
unfolding counted_in_step
end_by_downloads true busy number order image times m = record {
  low = refl;
  high = refl;
  job = λ x e. absurd (cc);
  reports = λ n. none_more m.reports (report.ImageDone order.slot) n refl;
}
end_by_downloads false true number order image times m =
    busy_downloads (nat_le (times + 1) MOST_BUSY) order image (times + 1) m
end_by_downloads false false number order image times m =
    downloads_failed (image_reason.Code (record { 0 = number })) m

pub end_downloads : (number : ℕ) (order : Order) (image : List ℕ) (times : ℕ) (m : Manager)
    → Downloads m (end_answered number order image times m)
unfolding end_answered
end_downloads number order image times m =
    end_by_downloads (number == SUCCESS.0) (number == BUSY.0) number order image times m
