use Rattle.alarm_laws.proofs.Maps.{other_with_bitmap, here_with_bitmap}
use Rattle.alarm_laws.proofs.others_stay.Goals as goal

pub returns-clause-other : goal.returns-clause-other
returns-clause-other c one other bitmap alarms differ = other_with_bitmap one other differ bitmap alarms

pub returns-clause-here : goal.returns-clause-here
returns-clause-here c one bitmap alarms h = here_with_bitmap one bitmap alarms h
