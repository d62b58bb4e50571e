use Rattle.std.proofs.Common.{length}
use Rattle.plan_reconcile.proofs.Rows.{row_put}
use Rattle.plan_reconcile.proofs.bytes.put.Goals as goal

pub returns-clause-row : goal.returns-clause-row
returns-clause-row c before len is =
    row_put (length c.args.into.now) c.args.at before c.args.bytes.now c.args.into.now c.copy_to.new.into len is c.requires c.copy_to.ensures.front c.copy_to.ensures.back
