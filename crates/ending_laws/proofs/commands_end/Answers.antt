use Rattle.ending_laws.proofs.Commands.{all_commands_end}
use Rattle.ending_laws.proofs.commands_end.Goals as goal

pub returns : goal.returns
returns c = all_commands_end
