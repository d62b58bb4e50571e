-- The job that ran is replaced by what the reply makes of it.
use Rattle.std.proofs.Common.{rules}
use Rattle.manager_jobs.proofs.Gathered.{upload_came, next_came}
use Rattle.manager_jobs.proofs.olt.Olt.resync_taken.Goals as goal

pub returns-in_ok-gather_on-in-Some-Asking-Some-Upload :
    goal.returns-in_ok-gather_on-in-Some-Asking-Some-Upload
returns-in_ok-gather_on-in-Some-Asking-Some-Upload c =
    let gathered = c.gather_on-in-Some-Asking-Some-Upload.new.self in
    let count = c.in-Some-Asking-Some-Upload.count in
    record {
      manager = upload_came c.args.self.now gathered _ c.args.frame.now count
          (search rules) (search rules) (search rules);
    }

pub returns-in_ok-piece_came-in-Some-Gathering-Some-UploadNext :
    goal.returns-in_ok-piece_came-in-Some-Gathering-Some-UploadNext
returns-in_ok-piece_came-in-Some-Gathering-Some-UploadNext c =
    let it = c.in-Some-Gathering-Some-UploadNext in
    record {
      manager = next_came c.args.self.now c.piece_came.new.self _ c.args.frame.now
          it.gather.expected it.next it.gather.copy it.piece
          (search rules) (search rules) (search rules);
    }
