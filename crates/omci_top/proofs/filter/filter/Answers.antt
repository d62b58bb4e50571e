use Rattle.omci_top.proofs.FilterLemmas.{filter_answers}
use Rattle.omci_top.proofs.filter.filter.Goals as goal

pub returns-in-Ok-clause-answers : goal.returns-in-Ok-clause-answers
returns-in-Ok-clause-answers g c =
    filter_answers c.args.filter _ _ _ _ _ _ _ _
    c.answer.result c.in-Ok.input.items c.in-Ok.ensures.whole c.in-Ok.ensures.kept c.answer.ensures.ends
