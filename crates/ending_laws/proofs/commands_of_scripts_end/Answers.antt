use Rattle.ending_laws.proofs.Scripts.{scripts_end}
use Rattle.ending_laws.proofs.commands_of_scripts_end.Goals as goal

pub returns : goal.returns
returns c = scripts_end
