use Rattle.std.proofs.Common.{rules}
use Rattle.manager_jobs.proofs.Granted.{granted}
use Rattle.manager_jobs.proofs.replies.response_of.Goals as goal

pub returns-in-Ok-Answered-clause-grants : goal.returns-in-Ok-Answered-clause-grants
returns-in-Ok-Answered-clause-grants c =
    let it = c.in-Ok-Answered in
    granted c.args.frame.now it.field-0-0 it.field-0-1 it.response (search rules)
