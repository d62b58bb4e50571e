use Rattle.std.proofs.Common.{◌≡◌, true, sym, ap, subst, ◌∙◌}
use Rattle.mib_spec.specs.Database.{counter, bump, has_unit_entities}
use Rattle.mib_laws.proofs.UnitEntities.{keeps_grown}
use Rattle.mib_store.specs.Entries.{IsTable, database_of}
use Rattle.mib_laws.proofs.Counting.{counter_grown}
use Rattle.mib_store.proofs.Kept.{is_counted}
use Rattle.mib_store.proofs.mib.Mib.grow.Goals as goal

pub invariant_of-self : goal.invariant_of-self
invariant_of-self c = record {
  table = subst IsTable (sym c.grow.ensures.keys) c.self.invariant.table;
  whole = subst (λ d. has_unit_entities d ≡ true) (sym c.grow.ensures.grown) (keeps_grown (database_of c.self.inside.table) c.self.invariant.whole);
}

pub returns-clause-counter : goal.returns-clause-counter
returns-clause-counter c =
    ap counter c.grow.ensures.grown ∙ counter_grown (database_of c.self.inside.table) (is_counted c.self.inside.table c.self.invariant.whole) ∙ ap (λ d. bump (counter d)) c.self.view_is
