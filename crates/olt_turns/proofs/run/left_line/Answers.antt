use Rattle.std.proofs.Common.{rules, length-drop}
use Rattle.olt_turns.proofs.run.left_line.Goals as goal

pub returns : goal.returns
returns c = record { text = search (rules, length-drop) }
