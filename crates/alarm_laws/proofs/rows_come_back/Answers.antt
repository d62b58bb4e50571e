use Rattle.alarm_laws.proofs.Rows.{all_good, all_gathered, row_at_is}
use Rattle.alarm_laws.proofs.rows_come_back.Goals as goal

pub returns-clause-good : goal.returns-clause-good
returns-clause-good c alarms t whole = all_good alarms t whole

pub returns-clause-gathered : goal.returns-clause-gathered
returns-clause-gathered c alarms t whole = all_gathered alarms t whole

pub returns-clause-numbered : goal.returns-clause-numbered
returns-clause-numbered c alarms number = row_at_is alarms number
