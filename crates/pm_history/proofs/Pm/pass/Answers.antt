use Rattle.std.proofs.Common.{ap, ◌∙◌}
use Rattle.pm_history.specs.Steps.{passed}
use Rattle.pm_history.proofs.Passing.{ticks_passed}
use Rattle.pm_history.proofs.Pm.pass.Goals as goal

pub returns : goal.returns
returns c = record { stands = λ h e. c.advance.ensures.value ∙ ap (passed c.args.ticks) e ∙ ticks_passed c.args.ticks h }
