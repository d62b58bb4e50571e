use Rattle.unit_laws.proofs.Own.{seven_at_most}
use Rattle.unit_laws.proofs.Sound.{sound_started, sound_received, sound_ticked, sound_sensed, sound_alarmed}
use Rattle.unit_laws.proofs.unit_stays_sound.Goals as goal

pub returns-clause-started : goal.returns-clause-started
returns-clause-started c boot room slots = sound_started boot room slots

pub returns-clause-received : goal.returns-clause-received
returns-clause-received c fails bytes u s = sound_received fails bytes u s

pub returns-clause-ticked : goal.returns-clause-ticked
returns-clause-ticked c u s = sound_ticked u s

pub returns-clause-sensed : goal.returns-clause-sensed
returns-clause-sensed c one number value u s = sound_sensed one number value u s

pub returns-clause-alarmed : goal.returns-clause-alarmed
returns-clause-alarmed c one bitmap u s = sound_alarmed one bitmap u s

pub returns-clause-seven : goal.returns-clause-seven
returns-clause-seven c u s = seven_at_most u.log.alarms s.own
