use Rattle.boot_laws.proofs.Lines.{slots_boot}
use Rattle.boot_laws.proofs.every_life_boots.Goals as goal

pub returns : goal.returns
returns c = slots_boot
