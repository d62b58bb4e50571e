use Rattle.std.proofs.Common.{◌<◌, length, set, ap, ◌∙◌, arith}
use Rattle.class_spec.specs.declared.TheConstants.{ONU_DATA}
use Rattle.mib_spec.specs.Database.{with_values}
use Rattle.mib_store.specs.Entries.{values_in, database_of}
use Rattle.mib_store.proofs.Counter.{grown_by}
use Rattle.mib_store.proofs.table.grow.Goals as goal

pub returns-clause-grown : goal.returns-clause-grown
returns-clause-grown c =
    let some : 0 < length c.values_of-values.result = omega arith in
    grown_by c.values_of-values.result (database_of c.args.table.now) _ some c.values_of-values.ensures
    (c.put_values.ensures.written ∙ ap (λ n. with_values ONU_DATA (values_in 2 (set c.values_of-values.result 0 n)) (database_of c.args.table.now)) c.next_count.ensures)
