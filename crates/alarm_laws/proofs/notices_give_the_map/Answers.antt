use Rattle.alarm_laws.proofs.Steps.{notices_map}
use Rattle.alarm_laws.proofs.notices_give_the_map.Goals as goal

pub returns : goal.returns
returns c changes log = notices_map changes log
