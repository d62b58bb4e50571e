use Rattle.std.proofs.Common.{ap, ◌∙◌}
use Rattle.pm_history.specs.Steps.{counts_in, counted_in}
use Rattle.pm_history.proofs.Counting.{count_stands, count_answer}
use Rattle.pm_history.proofs.Pm.count.Goals as goal

pub returns-clause-answer : goal.returns-clause-answer
returns-clause-answer c = λ h e. c.add.ensures.answer ∙ ap (counts_in c.args.instance c.args.attribute) e ∙ count_answer c.args.instance c.args.attribute h

pub returns-clause-stands : goal.returns-clause-stands
returns-clause-stands c = λ h e. c.add.ensures.value ∙ ap (counted_in c.args.instance c.args.attribute c.args.n) e ∙ count_stands c.args.instance c.args.attribute c.args.n h
