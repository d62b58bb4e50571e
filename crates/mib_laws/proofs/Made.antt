-- Of the classes whose instances the unit makes, no other entity comes than those that it makes at
-- its start.
use Rattle.std.proofs.Common.{◌≡◌, ◌≢◌, ℕ, Bool, true, false, cond, List, [], ◌∷◌, map, Option, Some, None, option_map, is_some, Ordering, refl, sym, ap, subst, ◌∙◌, arith}
use Rattle.std.proofs.lemmas.Bool.Decides.{nat_tests}
use Rattle.std.specs.Prelude.{◌==◌, ◌||◌, not}
use Rattle.std.specs.List.{list_any}
use Rattle.std.specs.Map.{lookup}
use Rattle.std.specs.BTreeMap.{is_at}
use Rattle.std.specs.declared.cmp.Ordering.TheVariants.{Less, Equal, Greater}
use Rattle.std.specs.Ordering.{is_eq}
use Rattle.std.specs.Cmp.{tied_itself}
use Rattle.std.proofs.lemmas.Bool.{false≢true}
use Rattle.omci_types.specs.declared.EntityId.{EntityId}
use Rattle.omci_types.specs.declared.Software.{Software}
use Rattle.class_spec.specs.declared.TheConstants.{ONU_DATA}
use Rattle.mib_spec.specs.declared.Sensed.{Sensed}
use Rattle.mib_spec.specs.declared.Sensed.TheVariants.{NotAllowed, Same, Changed}
use Rattle.mib_spec.specs.Database.{Database, Managed, Values, entity_cmp, managed_of, is_held, with_entity, without_entity, with_values, values_of, with_value, counter, with_counter, with_counter_grown, bump, with_software, image_entity, image_values, unit_entities, first_with}
use Rattle.mib_spec.specs.Requests.{unless_refused, is_unit_made, new_entity, create_code, create_outcome, delete_code, delete_outcome, set_effect, set_values, set_outcome, set_code, is_counter_set, reset, sense_outcome, may_sense, is_sensed}
use Rattle.mib_laws.proofs.Others.{entity_total, entity_exact, other_with_entity, other_without_entity, other_with_values, here_with_values}
use Rattle.mib_laws.proofs.Counting.{other_class, create_by_manager, delete_by_manager}
use Rattle.mib_laws.specs.Counted.{revalue}
use Rattle.mib_laws.specs.Made.{is_made, HoldsOnlyMade}

-- an entity is held where its key is there
held_among : (one : EntityId) (database : Database) → is_some (lookup (is_at (entity_cmp one)) database) ≡ list_any (is_at (entity_cmp one)) (map (λ e. e.0) database)
held_among one [] = refl
held_among one (e ∷ es) = go (is_eq (entity_cmp one e.0)) (held_among one es)
  where
    go : (b : Bool) → is_some (lookup (is_at (entity_cmp one)) es) ≡ list_any (is_at (entity_cmp one)) (map (λ x. x.0) es)
        → is_some (cond b (Some e.1) (lookup (is_at (entity_cmp one)) es)) ≡ (b || list_any (is_at (entity_cmp one)) (map (λ x. x.0) es))
    go true later = refl
    go false later = later

first_keys : (image image' : Values) → map (λ e. e.0) (first_with image image') ≡ unit_entities
unfolding first_with
first_keys image image' = refl

pub made_first : (image image' : Values) → HoldsOnlyMade (first_with image image')
unfolding managed_of is_made
made_first image image' = record {
  only = λ one held ours. sym (held_among one (first_with image image') ∙ ap (list_any (is_at (entity_cmp one))) (first_keys image image')) ∙ held;
}

-- what leaves those entities as they are holds no other of them
keeps : (after before : Database) → ((e : EntityId) → is_unit_made e.class ≡ true → is_held e after ≡ is_held e before) → HoldsOnlyMade before → HoldsOnlyMade after
keeps after before same h = record { only = λ one held ours. h.only one (sym (same one ours) ∙ held) ours }

made_with_entity : (one : EntityId) (managed : Managed) (database : Database) → is_unit_made one.class ≡ false → HoldsOnlyMade database → HoldsOnlyMade (with_entity one managed database)
made_with_entity one managed database theirs h = keeps (with_entity one managed database) database (λ e ours. ap is_some (other_with_entity one e (other_class one e theirs ours) managed database)) h

made_without_entity : (one : EntityId) (database : Database) → is_unit_made one.class ≡ false → HoldsOnlyMade database → HoldsOnlyMade (without_entity one database)
made_without_entity one database theirs h = keeps (without_entity one database) database (λ e ours. ap is_some (other_without_entity one e (other_class one e theirs ours) database)) h

same_there : (values : Values) (found : Option Managed) → is_some (option_map (revalue values) found) ≡ is_some found
same_there values None = refl
same_there values (Some managed) = refl

pub made_with_values : (one : EntityId) (values : Values) (database : Database) → HoldsOnlyMade database → HoldsOnlyMade (with_values one values database)
made_with_values one values database h = keeps (with_values one values database) database (λ e _. go e (entity_cmp one e) refl) h
  where
    apart : (e : EntityId) (r : Ordering) → is_eq r ≡ false → entity_cmp one e ≡ r → one ≢ e
    apart e r theirs is same = false≢true (sym theirs ∙ ap is_eq (sym is) ∙ ap (λ x. is_eq (entity_cmp one x)) (sym same) ∙ ap is_eq (tied_itself entity_total one))

    go : (e : EntityId) (r : Ordering) → entity_cmp one e ≡ r → is_held e (with_values one values database) ≡ is_held e database
    go e Less is = ap is_some (other_with_values one e (apart e Less refl is) values database)
    go e Equal is = subst (λ x. is_some (managed_of x (with_values one values database)) ≡ is_some (managed_of x database)) (entity_exact one e is) (ap is_some (here_with_values one values database) ∙ same_there values (managed_of one database))
    go e Greater is = ap is_some (other_with_values one e (apart e Greater refl is) values database)

pub made_grown : (database : Database) → HoldsOnlyMade database → HoldsOnlyMade (with_counter_grown database)
unfolding with_counter_grown with_counter
made_grown database h = made_with_values ONU_DATA (with_value 1 (bump (counter database) ∷ []) (values_of ONU_DATA database)) database h

pub made_software : (software : Software) (database : Database) → HoldsOnlyMade database → HoldsOnlyMade (with_software software database)
unfolding with_software
made_software software database h =
    made_with_values (image_entity 1) (image_values 1 software) (with_values (image_entity 0) (image_values 0 software) database) (made_with_values (image_entity 0) (image_values 0 software) database h)

-- a request with code 0 has its effect, and any other changes nothing
made_unless : (code : ℕ) (after before : Database) → (code ≡ 0 → HoldsOnlyMade after) → HoldsOnlyMade before → HoldsOnlyMade (unless_refused code after before)
made_unless code after before done h = go (code == 0) refl
  where
    go : (b : Bool) → (code == 0) ≡ b → HoldsOnlyMade (cond b after before)
    go true is = done (grind (arith, nat_tests, is))
    go false is = h

pub made_create : (one : EntityId) (given : List ℕ) (database : Database) → HoldsOnlyMade database → HoldsOnlyMade (create_outcome one given database).1
unfolding create_outcome
made_create one given database h =
    made_unless (create_code one database) _ database
    (λ zero_is. made_grown (with_entity one (new_entity one.class given) database) (made_with_entity one (new_entity one.class given) database (create_by_manager one database zero_is) h)) h

pub made_delete : (one : EntityId) (database : Database) → HoldsOnlyMade database → HoldsOnlyMade (delete_outcome one database).1
unfolding delete_outcome
made_delete one database h =
    made_unless (delete_code one database) _ database
    (λ zero_is. made_grown (without_entity one database) (made_without_entity one database (delete_by_manager one database zero_is) h)) h

made_effect : (one : EntityId) (mask : ℕ) (given : List ℕ) (database : Database) → HoldsOnlyMade database → HoldsOnlyMade (set_effect one mask given database)
unfolding set_effect
made_effect one mask given database h =
    let after : Database = with_values one (set_values mask given (values_of one database)) database in
    let stands = made_with_values one (set_values mask given (values_of one database)) database h in
    elim (is_counter_set one mask) as (λ b. HoldsOnlyMade (cond b after (with_counter_grown after))) [ true ↦ stands | false ↦ made_grown after stands ]

pub made_set : (one : EntityId) (mask : ℕ) (given : List ℕ) (database : Database) → HoldsOnlyMade database → HoldsOnlyMade (set_outcome one mask given database).database
unfolding set_outcome
made_set one mask given database h = made_unless (set_code one mask given database) _ database (λ _. made_effect one mask given database h) h

pub made_sense : (one : EntityId) (number : ℕ) (value : List ℕ) (database : Database) → HoldsOnlyMade database → HoldsOnlyMade (sense_outcome one number value database).1
unfolding sense_outcome
made_sense one number value database h =
    let after : Database = with_values one (with_value number value (values_of one database)) database in
    elim (may_sense one number value database) as (λ b. HoldsOnlyMade (cond {A = Sensed × Database} (not b) (NotAllowed, database) (cond (is_sensed one number value database) (Same, database) (Changed, after))).1) [
      | true ↦ elim (is_sensed one number value database) as (λ b. HoldsOnlyMade (cond {A = Sensed × Database} b (Same, database) (Changed, after)).1) [ true ↦ h | false ↦ made_with_values one (with_value number value (values_of one database)) database h ]
      | false ↦ h
    ]

pub made_reset : (database : Database) → HoldsOnlyMade (reset database)
unfolding reset
made_reset database = made_first (values_of (image_entity 0) database) (values_of (image_entity 1) database)
