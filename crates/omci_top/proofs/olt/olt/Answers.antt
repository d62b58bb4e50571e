use Rattle.omci_top.proofs.OltLemmas.{olt_answers}
use Rattle.omci_top.proofs.olt.olt.Goals as goal

pub returns-in-Ok-clause-answers : goal.returns-in-Ok-clause-answers
returns-in-Ok-clause-answers g c =
    olt_answers g.L.Link.left g.L.Link.sent g.L.Link.faults c.args.turns c.args.link.now c.answer.new.link _ _ _ _ _ _ _ _
    c.answer.result c.in-Ok.input.items c.in-Ok.ensures.whole c.in-Ok.ensures.kept c.answer.ensures.ends
