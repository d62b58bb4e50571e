-- The job that ran is replaced by what the reply makes of it.
use Rattle.std.proofs.Common.{rules}
use Rattle.manager_jobs.specs.Stages.{order_of}
use Rattle.manager_jobs.proofs.Downloads.{start_came, window_came, end_came}
use Rattle.manager_jobs.proofs.olt.Olt.download_taken.Goals as goal

pub returns-in_ok-image_started-in-Some-StartingImage-Some-Start :
    goal.returns-in_ok-image_started-in-Some-StartingImage-Some-Start
returns-in_ok-image_started-in-Some-StartingImage-Some-Start c =
    let it = c.in-Some-StartingImage-Some-Start in
    record {
      manager = start_came c.args.self.now c.image_started.new.self _ c.args.frame.now it.code.0
          it.window (order_of it.order) it.asked it.image
          (search rules) (search rules) (search rules);
    }

pub returns-in_ok-window_answered-in-Some-SendingImage-Some-Section :
    goal.returns-in_ok-window_answered-in-Some-SendingImage-Some-Section
returns-in_ok-window_answered-in-Some-SendingImage-Some-Section c =
    let it = c.in-Some-SendingImage-Some-Section in
    record {
      manager = window_came c.args.self.now c.window_answered.new.self _ c.args.frame.now it.code.0
          (order_of it.order) it.outbox it.resent
          (search rules) (search rules) (search rules);
    }

pub returns-in_ok-end_answered-in-Some-EndingImage-Some-End :
    goal.returns-in_ok-end_answered-in-Some-EndingImage-Some-End
returns-in_ok-end_answered-in-Some-EndingImage-Some-End c =
    let it = c.in-Some-EndingImage-Some-End in
    record {
      manager = end_came c.args.self.now c.end_answered.new.self _ c.args.frame.now it.code.0
          (order_of it.order) it.outbox.image it.busy
          (search rules) (search rules) (search rules);
    }
