-- A change at one entity leaves every other as it is.
use Rattle.std.proofs.Common.{◌≡◌, ◌≢◌, ℕ, true, false, cond, [], ◌∷◌, Option, Some, None, option_map, Ordering, refl, sym, ap, ◌∙◌}
use Rattle.std.specs.declared.cmp.Ordering.TheVariants.{Less, Equal, Greater}
use Rattle.std.specs.Ordering.{nat_cmp, is_eq, match_ordering}
use Rattle.std.specs.Cmp.{IsTotalOrder, nat_cmp_total, tied_itself}
use Rattle.std.specs.Map.{lookup, set_value, remove_entry}
use Rattle.std.specs.BTreeMap.{insert_entry, is_at}
use Rattle.std.specs.Option.{option_map_or}
use Rattle.std.proofs.lemmas.Cmp.{on_total, then_total}
use Rattle.std.proofs.lemmas.Map.Lookups.{exact_pairs, exact_unsigned}
use Rattle.omci_types.specs.declared.EntityId.{EntityId}
use Rattle.mib_spec.specs.Database.{Database, Managed, Values, entity_cmp, managed_of, with_entity, without_entity, with_values}
use Rattle.mib_laws.specs.Counted.{revalue}

pub entity_total : IsTotalOrder entity_cmp
entity_total = then_total (on_total (λ (e : EntityId). e.class) nat_cmp_total) (on_total (λ (e : EntityId). e.instance) nat_cmp_total)

-- entities that compare alike are one
pub entity_exact : (a b : EntityId) → entity_cmp a b ≡ Equal → a ≡ b
entity_exact a b h =
    ap (λ (p : ℕ × ℕ). let e : EntityId = record { class = p.0; instance = p.1 } in e) (exact_pairs nat_cmp nat_cmp exact_unsigned exact_unsigned (a.class, a.instance) (b.class, b.instance) h)

-- what a comparison with another entity says
apart : (a b : EntityId) → a ≢ b → is_eq (entity_cmp a b) ≡ false
apart a b h = go (entity_cmp a b) refl
  where
    go : (r : Ordering) → entity_cmp a b ≡ r → is_eq r ≡ false
    go Less is = refl
    go Equal is = absurd (h (entity_exact a b is))
    go Greater is = refl

module _ (one other : EntityId) (differ : one ≢ other) where
  -- the other entity isn't where this one is
  elsewhere : (key : EntityId) → entity_cmp one key ≡ Equal → is_eq (entity_cmp other key) ≡ false
  elsewhere key is = apart other key (λ e. differ (entity_exact one key is ∙ sym e))

  inserted : (managed : Managed) (database : Database) → lookup (is_at (entity_cmp other)) (insert_entry entity_cmp database one managed) ≡ lookup (is_at (entity_cmp other)) database
  inserted managed [] = ap (λ b. cond b (Some managed) None) (apart other one (λ e. differ (sym e)))
  inserted managed (e ∷ es) = go (entity_cmp one e.0) refl (inserted managed es)
    where
      find : Database → Option Managed
      find = λ d. lookup (is_at (entity_cmp other)) d

      go : (r : Ordering) → entity_cmp one e.0 ≡ r → find (insert_entry entity_cmp es one managed) ≡ find es → find (match_ordering r ((one, managed) ∷ e ∷ es) ((e.0, managed) ∷ es) (e ∷ insert_entry entity_cmp es one managed)) ≡ find (e ∷ es)
      go Less is later = ap (λ b. cond b (Some managed) (find (e ∷ es))) (apart other one (λ q. differ (sym q)))
      go Equal is later = ap (λ b. cond b (Some managed) (find es)) (elsewhere e.0 is) ∙ sym (ap (λ b. cond b (Some e.1) (find es)) (elsewhere e.0 is))
      go Greater is later = ap (λ o. cond (is_eq (entity_cmp other e.0)) (Some e.1) o) later

  removed : (database : Database) → lookup (is_at (entity_cmp other)) (remove_entry (is_at (entity_cmp one)) database) ≡ lookup (is_at (entity_cmp other)) database
  removed [] = refl
  removed (e ∷ es) = go (entity_cmp one e.0) refl (removed es)
    where
      find : Database → Option Managed
      find = λ d. lookup (is_at (entity_cmp other)) d

      go : (r : Ordering) → entity_cmp one e.0 ≡ r → find (remove_entry (is_at (entity_cmp one)) es) ≡ find es → find (cond (is_eq r) es (e ∷ remove_entry (is_at (entity_cmp one)) es)) ≡ find (e ∷ es)
      go Less is later = ap (λ o. cond (is_eq (entity_cmp other e.0)) (Some e.1) o) later
      go Equal is later = sym (ap (λ b. cond b (Some e.1) (find es)) (elsewhere e.0 is))
      go Greater is later = ap (λ o. cond (is_eq (entity_cmp other e.0)) (Some e.1) o) later

  revalued : (managed : Managed) (database : Database) → lookup (is_at (entity_cmp other)) (set_value (is_at (entity_cmp one)) database managed) ≡ lookup (is_at (entity_cmp other)) database
  revalued managed [] = refl
  revalued managed (e ∷ es) = go (entity_cmp one e.0) refl (revalued managed es)
    where
      find : Database → Option Managed
      find = λ d. lookup (is_at (entity_cmp other)) d

      go : (r : Ordering) → entity_cmp one e.0 ≡ r → find (set_value (is_at (entity_cmp one)) es managed) ≡ find es → find (cond (is_eq r) ((e.0, managed) ∷ es) (e ∷ set_value (is_at (entity_cmp one)) es managed)) ≡ find (e ∷ es)
      go Less is later = ap (λ o. cond (is_eq (entity_cmp other e.0)) (Some e.1) o) later
      go Equal is later = ap (λ b. cond b (Some managed) (find es)) (elsewhere e.0 is) ∙ sym (ap (λ b. cond b (Some e.1) (find es)) (elsewhere e.0 is))
      go Greater is later = ap (λ o. cond (is_eq (entity_cmp other e.0)) (Some e.1) o) later

  pub other_with_entity : (managed : Managed) (database : Database) → managed_of other (with_entity one managed database) ≡ managed_of other database
  unfolding managed_of with_entity
  other_with_entity managed database = inserted managed database

  pub other_without_entity : (database : Database) → managed_of other (without_entity one database) ≡ managed_of other database
  unfolding managed_of without_entity
  other_without_entity database = removed database

  pub other_with_values : (values : Values) (database : Database) → managed_of other (with_values one values database) ≡ managed_of other database
  unfolding managed_of with_values
  other_with_values values database = go (lookup (is_at (entity_cmp one)) database)
    where
      go : (found : Option Managed) → lookup (is_at (entity_cmp other)) (option_map_or (λ (managed : Managed). set_value (is_at (entity_cmp one)) database (record managed { values = values })) found database) ≡ lookup (is_at (entity_cmp other)) database
      go None = refl
      go (Some managed) = revalued (record managed { values = values }) database

-- the entity itself
module _ (one : EntityId) where
  itself : is_eq (entity_cmp one one) ≡ true
  itself = ap is_eq (tied_itself entity_total one)

  inserted_here : (managed : Managed) (database : Database) → lookup (is_at (entity_cmp one)) (insert_entry entity_cmp database one managed) ≡ Some managed
  inserted_here managed [] = ap (λ b. cond b (Some managed) None) itself
  inserted_here managed (e ∷ es) = go (entity_cmp one e.0) refl (inserted_here managed es)
    where
      find : Database → Option Managed
      find = λ d. lookup (is_at (entity_cmp one)) d

      go : (r : Ordering) → entity_cmp one e.0 ≡ r → find (insert_entry entity_cmp es one managed) ≡ Some managed → find (match_ordering r ((one, managed) ∷ e ∷ es) ((e.0, managed) ∷ es) (e ∷ insert_entry entity_cmp es one managed)) ≡ Some managed
      go Less is later = ap (λ b. cond b (Some managed) (find (e ∷ es))) itself
      go Equal is later = ap (λ r. cond (is_eq r) (Some managed) (find es)) is
      go Greater is later = ap (λ r. cond (is_eq r) (Some e.1) (find (insert_entry entity_cmp es one managed))) is ∙ later

  revalued_here : (managed before : Managed) (database : Database) → lookup (is_at (entity_cmp one)) database ≡ Some before → lookup (is_at (entity_cmp one)) (set_value (is_at (entity_cmp one)) database managed) ≡ Some managed
  revalued_here managed before [] h = absurd cc
  revalued_here managed before (e ∷ es) h = go (entity_cmp one e.0) refl h (revalued_here managed before es)
    where
      find : Database → Option Managed
      find = λ d. lookup (is_at (entity_cmp one)) d

      go : (r : Ordering) → entity_cmp one e.0 ≡ r → cond (is_eq (entity_cmp one e.0)) (Some e.1) (find es) ≡ Some before
          → (find es ≡ Some before → find (set_value (is_at (entity_cmp one)) es managed) ≡ Some managed)
          → find (cond (is_eq r) ((e.0, managed) ∷ es) (e ∷ set_value (is_at (entity_cmp one)) es managed)) ≡ Some managed
      go Less is h later =
          ap (λ r. cond (is_eq r) (Some e.1) (find (set_value (is_at (entity_cmp one)) es managed))) is
          ∙ later (sym (ap (λ r. cond (is_eq r) (Some e.1) (find es)) is) ∙ h)
      go Equal is h later = ap (λ r. cond (is_eq r) (Some managed) (find es)) is
      go Greater is h later =
          ap (λ r. cond (is_eq r) (Some e.1) (find (set_value (is_at (entity_cmp one)) es managed))) is
          ∙ later (sym (ap (λ r. cond (is_eq r) (Some e.1) (find es)) is) ∙ h)

  pub here_with_entity : (managed : Managed) (database : Database) → managed_of one (with_entity one managed database) ≡ Some managed
  unfolding managed_of with_entity
  here_with_entity managed database = inserted_here managed database

  pub here_with_values : (values : Values) (database : Database) → managed_of one (with_values one values database) ≡ option_map (revalue values) (managed_of one database)
  unfolding managed_of with_values
  here_with_values values database = go (lookup (is_at (entity_cmp one)) database) refl
    where
      go : (found : Option Managed) → lookup (is_at (entity_cmp one)) database ≡ found
          → lookup (is_at (entity_cmp one)) (option_map_or (λ (managed : Managed). set_value (is_at (entity_cmp one)) database (record managed { values = values })) found database) ≡ option_map (revalue values) found
      go None is = is
      go (Some managed) is = revalued_here (record managed { values = values }) managed database is
