use Rattle.omci_top.proofs.AnswerLemmas.{laws_hold, AnswersReplay-ends}
use Rattle.omci_top.proofs.replay.replay.Goals as goal

pub returns-in-Ok-clause-answers : goal.returns-in-Ok-clause-answers
returns-in-Ok-clause-answers g c =
    AnswersReplay-ends
    (laws_hold c.commands_act_once.ensures.once c.commands_act_once.ensures.answered
    c.copies_are_snapshots.ensures.synced c.copies_keep_step.ensures.script
    c.audits_are_snapshots.ensures c.downloads_are_what_was_checked.ensures
    c.every_life_boots.ensures) c.answer.result.status c.answer.result.world c.in-Ok.input.items _ _ _ _ _ _ _ _ c.in-Ok.ensures.whole c.in-Ok.ensures.kept c.answer.ensures.ends
