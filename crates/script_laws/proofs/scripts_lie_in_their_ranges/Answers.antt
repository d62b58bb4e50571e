use Rattle.script_laws.proofs.Scripts.{reading-Writes, reading_range}
use Rattle.script_laws.proofs.scripts_lie_in_their_ranges.Goals as goal

pub returns : goal.returns
returns c =
    record { ranges = λ bytes script h. reading_range bytes script (reading-Writes script bytes h) }
