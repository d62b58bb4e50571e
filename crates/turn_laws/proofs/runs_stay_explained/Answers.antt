use Rattle.turn_laws.proofs.Runs.{run_boots, run_room}
use Rattle.turn_laws.proofs.runs_stay_explained.Goals as goal

pub returns-clause-boots : goal.returns-clause-boots
returns-clause-boots c = λ room s0 turns below some. run_boots s0 room turns below some

pub returns-clause-room : goal.returns-clause-room
returns-clause-room c = λ room s0 turns. run_room room s0 turns
