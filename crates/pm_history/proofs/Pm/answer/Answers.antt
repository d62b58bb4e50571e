use Rattle.std.proofs.Common.{ap, ◌∙◌}
use Rattle.pm_history.specs.Steps.{asked, answered}
use Rattle.pm_history.proofs.Asking.{reply_stands}
use Rattle.pm_history.proofs.Standing.{asked_stands}
use Rattle.pm_history.proofs.Pm.answer.Goals as goal

pub returns-clause-reply : goal.returns-clause-reply
returns-clause-reply c = λ h e. c.take.ensures.reply ∙ ap (answered c.args.frame.now) e ∙ reply_stands c.args.frame.now h

pub returns-clause-stands : goal.returns-clause-stands
returns-clause-stands c = λ h e. c.take.ensures.value ∙ ap (asked c.args.frame.now) e ∙ asked_stands c.args.frame.now h
