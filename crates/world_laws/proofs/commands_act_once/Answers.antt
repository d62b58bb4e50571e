use Rattle.world_laws.proofs.Runs.{history_once, history_answered}
use Rattle.world_laws.proofs.commands_act_once.Goals as goal

pub returns-clause-once : goal.returns-clause-once
returns-clause-once c = history_once

pub returns-clause-answered : goal.returns-clause-answered
returns-clause-answered c = history_answered
