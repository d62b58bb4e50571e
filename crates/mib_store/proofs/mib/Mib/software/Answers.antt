use Rattle.std.proofs.Common.{◌≡◌, true, sym, subst}
use Rattle.mib_spec.specs.Database.{has_unit_entities}
use Rattle.mib_laws.proofs.UnitEntities.{keeps_software}
use Rattle.mib_store.specs.Entries.{IsTable, database_of}
use Rattle.mib_store.proofs.mib.Mib.software.Goals as goal

pub invariant_of-self : goal.invariant_of-self
invariant_of-self c = record {
  table = subst IsTable (sym c.software_in.ensures.keys) c.self.invariant.table;
  whole = subst (λ d. has_unit_entities d ≡ true) (sym c.software_in.ensures.software) (keeps_software c.args.software (database_of c.self.inside.table) c.self.invariant.whole);
}
