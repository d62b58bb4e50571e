use Rattle.std.proofs.Common.{◌≡◌, true, ap, sym, subst, ◌∙◌}
use Rattle.mib_spec.specs.Database.{image_values, first_with, first, has_unit_entities}
use Rattle.mib_laws.proofs.UnitEntities.{first_has}
use Rattle.mib_store.specs.Entries.{database_of, keys_of, values_in, IsTable}
use Rattle.mib_store.proofs.mib.Mib.new.Goals as goal

pub returns : goal.returns
unfolding first
returns c =
    ap database_of c.in_ok-of.ensures ∙ c.first_entries-made.ensures.seen
    ∙ ap (λ v. first_with v (values_in 7 c.image_of-2.result)) c.image_of.ensures ∙ ap (first_with (image_values 0 c.args.software)) c.image_of-2.ensures

pub invariant_of-result : goal.invariant_of-result
invariant_of-result c = record {
  table = subst (λ es. IsTable (keys_of es)) (sym c.in_ok-of.ensures) c.first_entries-made.ensures.table;
  whole = subst (λ d. has_unit_entities d ≡ true) (sym (ap database_of c.in_ok-of.ensures ∙ c.first_entries-made.ensures.seen)) (first_has (values_in 7 c.image_of.result) (values_in 7 c.image_of-2.result));
}
