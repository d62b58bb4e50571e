use Rattle.mib_store.proofs.Counter.{take_zeros}
use Rattle.plan_reconcile.proofs.bytes.zeros.Goals as goal

pub returns : goal.returns
returns c = take_zeros 25 c.args.width c.requires
