use Rattle.alarm_laws.proofs.Maps.{ascending_with_bitmap}
use Rattle.alarm_laws.proofs.Kept.{whole_after, length_after}
use Rattle.alarm_laws.proofs.log_stays_whole.Goals as goal

pub returns-clause-whole : goal.returns-clause-whole
returns-clause-whole c one bitmap log class instance bytes whole = whole_after one bitmap log class instance bytes whole

pub returns-clause-more : goal.returns-clause-more
returns-clause-more c one bitmap log = length_after one bitmap log

pub returns-clause-ascending : goal.returns-clause-ascending
returns-clause-ascending c one bitmap alarms h = ascending_with_bitmap one bitmap alarms h
