use Rattle.std.proofs.Common.{◌≡◌, true, sym, ap, subst, ◌∙◌}
use Rattle.mib_spec.specs.Database.{counter, bump, has_unit_entities}
use Rattle.mib_laws.proofs.UnitEntities.{keeps_delete}
use Rattle.mib_store.specs.Entries.{database_of}
use Rattle.mib_laws.proofs.Counting.{delete_counts}
use Rattle.mib_store.proofs.Kept.{is_counted}
use Rattle.mib_store.proofs.mib.Mib.delete.Goals as goal

pub invariant_of-self : goal.invariant_of-self
invariant_of-self c = record {
  table = c.delete_in.ensures.table;
  whole = subst (λ d. has_unit_entities d ≡ true) (sym c.delete_in.ensures.database) (keeps_delete c.args.entity (database_of c.self.inside.table) c.self.invariant.whole);
}

pub returns-clause-counter : goal.returns-clause-counter
returns-clause-counter c zero_is =
    ap counter c.delete_in.ensures.database ∙ delete_counts c.args.entity (database_of c.self.inside.table) (is_counted c.self.inside.table c.self.invariant.whole) (sym c.delete_in.ensures.code ∙ zero_is) ∙ ap (λ d. bump (counter d)) c.self.view_is
