use Rattle.moves_laws.proofs.Runs.{runs_once, runs_answered}
use Rattle.moves_laws.proofs.moves_act_once.Goals as goal

pub returns-clause-once : goal.returns-clause-once
returns-clause-once c = runs_once

pub returns-clause-answered : goal.returns-clause-answered
returns-clause-answered c = runs_answered
