use Rattle.unit_laws.proofs.Own.{may_have_it, own_after, seven_at_most}
use Rattle.unit_laws.proofs.alarms_are_of_seven.Goals as goal

pub returns-clause-may : goal.returns-clause-may
returns-clause-may c one database h may = may_have_it one database h may

pub returns-clause-none : goal.returns-clause-none
returns-clause-none c = record { ascending = tt; among = tt }

pub returns-clause-change : goal.returns-clause-change
returns-clause-change c one bitmap log new own = own_after one bitmap log new own

pub returns-clause-seven : goal.returns-clause-seven
returns-clause-seven c log own = seven_at_most log.alarms own
