-- The entities that the unit made stay through every request.
use Rattle.std.proofs.Common.{◌≡◌, ◌≢◌, ℕ, Bool, true, false, cond, List, [], ◌∷◌, Option, Some, None, option_map, Ordering, refl, sym, ap, subst, ◌∙◌, arith}
use Rattle.std.proofs.lemmas.Bool.Decides.{nat_tests}
use Rattle.std.specs.Prelude.{◌&&◌, ◌==◌, not}
use Rattle.std.specs.declared.cmp.Ordering.TheVariants.{Less, Equal, Greater}
use Rattle.std.specs.Ordering.{is_eq}
use Rattle.std.specs.Cmp.{tied_itself}
use Rattle.std.specs.List.{list_all}
use Rattle.std.specs.Option.{option_map_or}
use Rattle.std.proofs.lemmas.Bool.{false≢true}
use Rattle.omci_types.specs.declared.EntityId.{EntityId}
use Rattle.omci_types.specs.declared.Software.{Software}
use Rattle.class_spec.specs.declared.TheConstants.{ONU_DATA}
use Rattle.class_spec.specs.Classes.{class_row, class_table}
use Rattle.mib_spec.specs.declared.Sensed.{Sensed}
use Rattle.mib_spec.specs.declared.Sensed.TheVariants.{NotAllowed, Same, Changed}
use Rattle.mib_spec.specs.Database.{Database, Managed, Values, entity_cmp, managed_of, with_entity, without_entity, with_values, values_of, with_value, counter, with_counter, with_counter_grown, bump, with_software, image_entity, image_values, unit_entities, is_by_unit, is_made_by_unit, has_unit_entities, first_with}
use Rattle.mib_spec.specs.Requests.{unless_refused, is_unit_made, new_entity, create_code, create_outcome, delete_code, delete_outcome, set_effect, set_values, set_outcome, set_code, is_counter_set, reset, sense_outcome, may_sense, is_sensed}
use Rattle.mib_laws.proofs.Others.{entity_total, entity_exact, other_with_entity, other_without_entity, other_with_values, here_with_values}
use Rattle.mib_laws.specs.Counted.{revalue}
use Rattle.mib_laws.proofs.Counting.{other_class, create_by_manager, delete_by_manager}

all_unit_made : list_all (λ (e : EntityId). is_unit_made e.class) unit_entities ≡ true
unfolding class_row class_table
all_unit_made = refl

both : (a b : Bool) → (a && b) ≡ true → (a ≡ true) × (b ≡ true)
both true b h = (refl, h)
both false b h = absurd (false≢true h)

all_same : (p q : EntityId → Bool) (unit : EntityId → Bool) (es : List EntityId) → ((e : EntityId) → unit e ≡ true → q e ≡ p e) → list_all unit es ≡ true → list_all q es ≡ list_all p es
all_same p q unit [] same h = refl
all_same p q unit (e ∷ es) same h =
    let parts = both (unit e) (list_all unit es) h in
    ap (λ b. b && list_all q es) (same e parts.0) ∙ ap (λ b. p e && b) (all_same p q unit es same parts.1)

keeps : (after before : Database) → ((e : EntityId) → is_unit_made e.class ≡ true → is_made_by_unit after e ≡ is_made_by_unit before e) → has_unit_entities before ≡ true → has_unit_entities after ≡ true
unfolding has_unit_entities
keeps after before same h = all_same (is_made_by_unit before) (is_made_by_unit after) (λ (e : EntityId). is_unit_made e.class) unit_entities same all_unit_made ∙ h

by_found : Option Managed → Bool
by_found found = option_map_or (λ (managed : Managed). is_by_unit managed.maker) found false

keeps_with_entity : (one : EntityId) (managed : Managed) (database : Database) → is_unit_made one.class ≡ false → has_unit_entities database ≡ true → has_unit_entities (with_entity one managed database) ≡ true
unfolding by_found
keeps_with_entity one managed database theirs h = keeps (with_entity one managed database) database (λ e ours. ap by_found (other_with_entity one e (other_class one e theirs ours) managed database)) h

keeps_without_entity : (one : EntityId) (database : Database) → is_unit_made one.class ≡ false → has_unit_entities database ≡ true → has_unit_entities (without_entity one database) ≡ true
unfolding by_found
keeps_without_entity one database theirs h = keeps (without_entity one database) database (λ e ours. ap by_found (other_without_entity one e (other_class one e theirs ours) database)) h

same_maker : (values : Values) (found : Option Managed) → by_found (option_map (revalue values) found) ≡ by_found found
unfolding by_found
same_maker values None = refl
same_maker values (Some managed) = refl

pub keeps_with_values : (one : EntityId) (values : Values) (database : Database) → has_unit_entities database ≡ true → has_unit_entities (with_values one values database) ≡ true
unfolding by_found
keeps_with_values one values database h = keeps (with_values one values database) database (λ e _. go e (entity_cmp one e) refl) h
  where
    apart : (e : EntityId) (r : Ordering) → is_eq r ≡ false → entity_cmp one e ≡ r → one ≢ e
    apart e r theirs is same = false≢true (sym theirs ∙ ap is_eq (sym is) ∙ ap (λ x. is_eq (entity_cmp one x)) (sym same) ∙ ap is_eq (tied_itself entity_total one))

    go : (e : EntityId) (r : Ordering) → entity_cmp one e ≡ r → is_made_by_unit (with_values one values database) e ≡ is_made_by_unit database e
    go e Less is = ap by_found (other_with_values one e (apart e Less refl is) values database)
    go e Equal is = subst (λ x. by_found (managed_of x (with_values one values database)) ≡ by_found (managed_of x database)) (entity_exact one e is) (ap by_found (here_with_values one values database) ∙ same_maker values (managed_of one database))
    go e Greater is = ap by_found (other_with_values one e (apart e Greater refl is) values database)

pub keeps_grown : (database : Database) → has_unit_entities database ≡ true → has_unit_entities (with_counter_grown database) ≡ true
unfolding with_counter_grown with_counter
keeps_grown database h = keeps_with_values ONU_DATA (with_value 1 (bump (counter database) ∷ []) (values_of ONU_DATA database)) database h

pub keeps_software : (software : Software) (database : Database) → has_unit_entities database ≡ true → has_unit_entities (with_software software database) ≡ true
unfolding with_software
keeps_software software database h =
    keeps_with_values (image_entity 1) (image_values 1 software) (with_values (image_entity 0) (image_values 0 software) database) (keeps_with_values (image_entity 0) (image_values 0 software) database h)

-- a request with code 0 has its effect, and any other changes nothing
keeps_unless : (code : ℕ) (after before : Database) → (code ≡ 0 → has_unit_entities after ≡ true) → has_unit_entities before ≡ true → has_unit_entities (unless_refused code after before) ≡ true
keeps_unless code after before done h = go (code == 0) refl
  where
    go : (b : Bool) → (code == 0) ≡ b → has_unit_entities (cond b after before) ≡ true
    go true is = done (grind (arith, nat_tests, is))
    go false is = h

pub keeps_create : (one : EntityId) (given : List ℕ) (database : Database) → has_unit_entities database ≡ true → has_unit_entities (create_outcome one given database).1 ≡ true
unfolding create_outcome
keeps_create one given database h =
    keeps_unless (create_code one database) _ database
    (λ zero_is. keeps_grown (with_entity one (new_entity one.class given) database) (keeps_with_entity one (new_entity one.class given) database (create_by_manager one database zero_is) h)) h

pub keeps_delete : (one : EntityId) (database : Database) → has_unit_entities database ≡ true → has_unit_entities (delete_outcome one database).1 ≡ true
unfolding delete_outcome
keeps_delete one database h =
    keeps_unless (delete_code one database) _ database
    (λ zero_is. keeps_grown (without_entity one database) (keeps_without_entity one database (delete_by_manager one database zero_is) h)) h

keeps_effect : (one : EntityId) (mask : ℕ) (given : List ℕ) (database : Database) → has_unit_entities database ≡ true → has_unit_entities (set_effect one mask given database) ≡ true
unfolding set_effect
keeps_effect one mask given database h =
    let after : Database = with_values one (set_values mask given (values_of one database)) database in
    let stands = keeps_with_values one (set_values mask given (values_of one database)) database h in
    elim (is_counter_set one mask) as (λ b. has_unit_entities (cond b after (with_counter_grown after)) ≡ true) [ true ↦ stands | false ↦ keeps_grown after stands ]

pub keeps_set : (one : EntityId) (mask : ℕ) (given : List ℕ) (database : Database) → has_unit_entities database ≡ true → has_unit_entities (set_outcome one mask given database).database ≡ true
unfolding set_outcome
keeps_set one mask given database h = keeps_unless (set_code one mask given database) _ database (λ _. keeps_effect one mask given database h) h

pub keeps_sense : (one : EntityId) (number : ℕ) (value : List ℕ) (database : Database) → has_unit_entities database ≡ true → has_unit_entities (sense_outcome one number value database).1 ≡ true
unfolding sense_outcome
keeps_sense one number value database h =
    let after : Database = with_values one (with_value number value (values_of one database)) database in
    elim (may_sense one number value database) as (λ b. has_unit_entities (cond {A = Sensed × Database} (not b) (NotAllowed, database) (cond (is_sensed one number value database) (Same, database) (Changed, after))).1 ≡ true) [
      | true ↦ elim (is_sensed one number value database) as (λ b. has_unit_entities (cond {A = Sensed × Database} b (Same, database) (Changed, after)).1 ≡ true) [ true ↦ h | false ↦ keeps_with_values one (with_value number value (values_of one database)) database h ]
      | false ↦ h
    ]

pub first_has : (image image' : Values) → has_unit_entities (first_with image image') ≡ true
unfolding has_unit_entities first_with managed_of
first_has image image' = refl

pub keeps_reset : (database : Database) → has_unit_entities (reset database) ≡ true
unfolding reset
keeps_reset database = first_has (values_of (image_entity 0) database) (values_of (image_entity 1) database)
