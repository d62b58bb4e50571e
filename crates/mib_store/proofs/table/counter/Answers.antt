use Rattle.mib_store.proofs.Counter.{first_byte}
use Rattle.mib_store.proofs.table.counter.Goals as goal

pub returns : goal.returns
returns c = first_byte _ _ c.values_of.ensures
