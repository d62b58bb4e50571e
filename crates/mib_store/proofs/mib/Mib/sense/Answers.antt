use Rattle.std.proofs.Common.{◌≡◌, true, sym, subst}
use Rattle.mib_spec.specs.Database.{has_unit_entities}
use Rattle.mib_laws.proofs.UnitEntities.{keeps_sense}
use Rattle.mib_store.specs.Entries.{IsTable, database_of}
use Rattle.mib_store.proofs.mib.Mib.sense.Goals as goal

pub invariant_of-self : goal.invariant_of-self
invariant_of-self c = record {
  table = subst IsTable (sym c.sense_in.ensures.keys) c.self.invariant.table;
  whole = subst (λ d. has_unit_entities d ≡ true) (sym c.sense_in.ensures.database) (keeps_sense c.args.entity c.args.number c.args.value.now (database_of c.self.inside.table) c.self.invariant.whole);
}
