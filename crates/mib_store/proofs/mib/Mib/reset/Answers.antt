use Rattle.std.proofs.Common.{◌≡◌, true, sym, subst}
use Rattle.mib_spec.specs.Database.{has_unit_entities}
use Rattle.mib_laws.proofs.UnitEntities.{keeps_reset}
use Rattle.mib_store.specs.Entries.{database_of}
use Rattle.mib_store.proofs.mib.Mib.reset.Goals as goal

pub invariant_of-self : goal.invariant_of-self
invariant_of-self c = record {
  table = c.reset_in.ensures.table;
  whole = subst (λ d. has_unit_entities d ≡ true) (sym c.reset_in.ensures.reset) (keeps_reset (database_of c.self.inside.table));
}
