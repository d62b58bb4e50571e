use Rattle.alarm_laws.proofs.Steps.{step, steps}
use Rattle.alarm_laws.proofs.table_stays_in_step.Goals as goal

pub returns-clause-one : goal.returns-clause-one
returns-clause-one c one bitmap log t h = step one bitmap log t h

pub returns-clause-all : goal.returns-clause-all
returns-clause-all c changes log t h = steps changes log t h
