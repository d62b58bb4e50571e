use Rattle.std.proofs.Common.{ap, ◌∙◌}
use Rattle.pm_history.specs.Steps.{passed}
use Rattle.pm_history.proofs.Passing.{tick_passed}
use Rattle.pm_history.proofs.Pm.tick.Goals as goal

pub returns : goal.returns
returns c = record { stands = λ h e. c.advance.ensures.value ∙ ap (passed 1) e ∙ tick_passed h }
