-- The job that ran is replaced by what the reply makes of it.
use Rattle.std.proofs.Common.{rules}
use Rattle.manager_jobs.proofs.Rows.{alarms_came, next_row_came}
use Rattle.manager_jobs.proofs.olt.Olt.audit_taken.Goals as goal

pub returns-in_ok-begin_rows-in-Some-AskingAlarms-Some-Alarms :
    goal.returns-in_ok-begin_rows-in-Some-AskingAlarms-Some-Alarms
returns-in_ok-begin_rows-in-Some-AskingAlarms-Some-Alarms c =
    record {
      manager = alarms_came c.args.self.now c.begin_rows.new.self _ c.args.frame.now
          c.in-Some-AskingAlarms-Some-Alarms.count
          (search rules) (search rules) (search rules);
    }

pub returns-in_ok-row_came-in-Some-GatheringRows-Some-AlarmsNext :
    goal.returns-in_ok-row_came-in-Some-GatheringRows-Some-AlarmsNext
returns-in_ok-row_came-in-Some-GatheringRows-Some-AlarmsNext c =
    let it = c.in-Some-GatheringRows-Some-AlarmsNext in
    record {
      manager = next_row_came c.args.self.now c.row_came.new.self _ c.args.frame.now
          it.expected it.next it.row
          (search rules) (search rules) (search rules);
    }
