use Rattle.mib_store.specs.Entries.{values_in}
use Rattle.mib_store.proofs.Places.{unwritten}
use Rattle.mib_store.proofs.table.put_values.Goals as goal

pub returns-in_default-clause-written : goal.returns-in_default-clause-written
returns-in_default-clause-written c = unwritten c.args.table.now c.args.entity (values_in c.args.entity.class c.args.values) c.in_default.ensures.absent.not_held
