use Rattle.std.proofs.Common.{ap, ◌∙◌}
use Rattle.mib_store.specs.Entries.{values_in}
use Rattle.mib_store.proofs.Places.{values_at, values_absent}
use Rattle.mib_store.proofs.Counter.{zeros_in}
use Rattle.mib_store.proofs.table.values_of.Goals as goal

pub returns-in-Ok : goal.returns-in-Ok
returns-in-Ok c = ap (values_in c.args.entity.class) c.values.ensures ∙ values_at c.args.table.now c.in-Ok.at c.args.entity c.in-Ok.ensures.found

pub returns-in-Err : goal.returns-in-Err
returns-in-Err c = zeros_in c.args.entity.class ∙ values_absent c.args.table.now c.args.entity c.in-Err.ensures.absent.not_held
