use Rattle.std.proofs.Common.{◌≡◌, ap, sym, ◌∙◌, arith}
use Rattle.pm_history.specs.Steps.{marked_all}
use Rattle.pm_history.proofs.Passing.{marked_none}
use Rattle.pm_history.proofs.monitors.mark_all.Goals as goal

pub returns-then-marks-eq0 : goal.returns-then-marks-eq0
returns-then-marks-eq0 c =
    let none : c.args.marks ≡ 0 = omega (arith, c.if-marks-eq0.true) in
    sym (ap (λ n. marked_all n c.args.monitors.now) none ∙ marked_none c.args.monitors.now)
