-- That what a reply to a download's command comes to doesn't hang on the job.
use Rattle.std.proofs.Common.{◌≡◌, ℕ, ◌+◌, ◌==◌, nat_le, nat_lt, refl, sym, ap, ◌∙◌}
use Rattle.std.proofs.Common.{Bool, true, false, List, Option, Some, None}
use Rattle.omci_types.specs.declared.Frame.{Frame}
use Rattle.omci_types.specs.declared.TheConstants.Code.{SUCCESS, BUSY}
use Rattle.message_spec.specs.declared.Response.{Response}
use Rattle.message_spec.specs.declared.Response.TheVariants as response
use Rattle.window_spec.specs.Outgoing.{Outgoing, is_last}
use Rattle.manager_spec.specs.declared.TheConstants.{MOST_RESENT, MOST_BUSY}
use Rattle.manager_spec.specs.declared.Report.TheVariants as report
use Rattle.manager_spec.specs.Manager.{Stage, Order, StartingImage, SendingImage, EndingImage}
use Rattle.manager_spec.specs.Manager.{Manager, with_report}
use Rattle.manager_spec.specs.Copying.{counted_in_step}
use Rattle.manager_spec.specs.Resync.{with_job}
use Rattle.manager_spec.specs.Upgrade.{started_if, image_started, window_taken, window_refused}
use Rattle.manager_spec.specs.Upgrade.{window_by, window_answered, busy_if, end_by, end_answered}
use Rattle.manager_spec.specs.Steps.{job_by}
use Rattle.manager_spec.specs.Steps.{start_by_reply, window_by_reply, end_by_reply}

-- ---- the job that runs is replaced

started_anyhow : (job : Option Stage) (number granted : ℕ) (order : Order) (asked : ℕ)
    (image : List ℕ) (m : Manager)
    → image_started number granted order asked image (with_job job m)
    ≡ image_started number granted order asked image m
unfolding image_started counted_in_step
started_anyhow job number granted order asked image m = by (number == SUCCESS.0)
  where
    by : (b : Bool)
        → started_if b number granted order asked image (with_job job m)
        ≡ started_if b number granted order asked image m
    by true = refl
    by false = refl

window_anyhow : (job : Option Stage) (number : ℕ) (order : Order) (o : Outgoing) (resent : ℕ)
    (m : Manager)
    → window_answered number order o resent (with_job job m)
    ≡ window_answered number order o resent m
unfolding window_answered
window_anyhow job number order o resent m = by (number == SUCCESS.0)
  where
    taken : (b : Bool) → window_taken b order o (with_job job m) ≡ window_taken b order o m
    taken true = refl
    taken false = refl

    refused : (b : Bool)
        → window_refused b number order o resent (with_job job m)
        ≡ window_refused b number order o resent m
    refused true = refl
    refused false = refl

    by : (b : Bool)
        → window_by b number order o resent (with_job job m) ≡ window_by b number order o resent m
    by true = taken (is_last o)
    by false = refused (nat_lt resent MOST_RESENT)

end_anyhow : (job : Option Stage) (number : ℕ) (order : Order) (image : List ℕ) (times : ℕ)
    (m : Manager)
    → end_answered number order image times (with_job job m)
    ≡ end_answered number order image times m
unfolding end_answered counted_in_step
end_anyhow job number order image times m = by (number == SUCCESS.0) (number == BUSY.0)
  where
    delayed : (b : Bool)
        → busy_if b order image (times + 1)
        (with_report (report.Busy (times + 1)) (with_job job m))
        ≡ busy_if b order image (times + 1) (with_report (report.Busy (times + 1)) m)
    delayed true = refl
    delayed false = refl

    by : (done busy : Bool)
        → end_by done busy number order image times (with_job job m)
        ≡ end_by done busy number order image times m
    by true busy = refl
    by false true = delayed (nat_le (times + 1) MOST_BUSY)
    by false false = refl

-- ---- the replies, where the job was taken out before

-- the reply that grants a download
pub start_came : (m n : Manager) (reply : Option Response) (f : Frame) (number granted : ℕ)
    (order : Order) (asked : ℕ) (image : List ℕ)
    → m.job ≡ Some (StartingImage order asked image)
    → reply ≡ Some (response.Start (record { 0 = number }) granted)
    → n ≡ image_started number granted order asked image (with_job None m)
    → n ≡ job_by m.job reply f m
start_came m n reply f number granted order asked image job is e =
    e ∙ started_anyhow None number granted order asked image m
    ∙ sym
    (ap (λ o. job_by o reply f m) job
    ∙ ap (λ o. start_by_reply o order asked image f m) is)

-- the reply is to a window, and has that code
pub record AnswersWindow (reply : Option Response) (number : ℕ) : Type 0 where
  pub section : ℕ
  pub is : reply ≡ Some (response.Section (record { 0 = number }) section)

-- the reply to a window
pub window_came : (m n : Manager) (reply : Option Response) (f : Frame) (number : ℕ)
    (order : Order) (o : Outgoing) (resent : ℕ)
    → m.job ≡ Some (SendingImage order o resent)
    → AnswersWindow reply number
    → n ≡ window_answered number order o resent (with_job None m)
    → n ≡ job_by m.job reply f m
window_came m n reply f number order o resent job answers e =
    e ∙ window_anyhow None number order o resent m
    ∙ sym
    (ap (λ stage. job_by stage reply f m) job
    ∙ ap (λ r. window_by_reply r order o resent f m) answers.is)

-- the reply to a download's end
pub end_came : (m n : Manager) (reply : Option Response) (f : Frame) (number : ℕ)
    (order : Order) (image : List ℕ) (busy : ℕ)
    → m.job ≡ Some (EndingImage order image busy)
    → reply ≡ Some (response.End (record { 0 = number }))
    → n ≡ end_answered number order image busy (with_job None m)
    → n ≡ job_by m.job reply f m
end_came m n reply f number order image busy job is e =
    e ∙ end_anyhow None number order image busy m
    ∙ sym
    (ap (λ stage. job_by stage reply f m) job
    ∙ ap (λ r. end_by_reply r order image busy f m) is)
