use Rattle.std.proofs.Common.{◌≡◌, IfOk, sym, subst, ◌∙◌}
use Rattle.capture_spec.specs.Breaches.{verdict}
use Rattle.capture_spec.specs.Once.{AnsweredOnce}
use Rattle.capture_check.proofs.Once.{ok_once}
use Rattle.capture_check.proofs.check_capture.Goals as goal

pub returns-clause-once : goal.returns-clause-once
returns-clause-once c = λ runs replies e.
    let same : c.deref.result.now ≡ c.args.capture.now = c.deref.ensures.value ∙ c.capture.view_is in
    subst AnsweredOnce same (ok_once c.deref.result.now runs replies (sym (subst (λ r. IfOk r (λ said. said ≡ verdict c.deref.result.now)) e c.check_lines.ensures.verdict)))
