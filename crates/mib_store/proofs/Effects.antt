-- The outcomes of the requests by their codes, and their effects.
use Rattle.std.proofs.Common.{◌≡◌, ◌≢◌, ℕ, ◌≤◌, Bool, true, false, cond, List, [], length, take, Some, Option, sym, ap, ◌∙◌, arith}
use Rattle.std.specs.Prelude.{◌==◌, ◌||◌, not, bytes_eq}
use Rattle.std.specs.Option.{option_map_or}
use Rattle.std.proofs.lemmas.List.{take_at}
use Rattle.std.proofs.lemmas.Bool.Decides.{nat_tests}
use Rattle.omci_types.specs.declared.EntityId.{EntityId}
use Rattle.frame_spec.specs.Widths.{filled}
use Rattle.class_spec.specs.declared.Maker.TheVariants.{Manager as by_manager}
use Rattle.class_spec.specs.Classes.{Row, Attribute, class_row, attribute_in}
use Rattle.class_spec.specs.Masks.{known_mask, unknown_mask, fixed_mask, width_where}
use Rattle.entity_classes.specs.Rule.{IsRow}
use Rattle.omci_attributes.specs.declared.mask.Mask.{Mask}
use Rattle.mib_spec.specs.declared.Sensed.{Sensed}
use Rattle.mib_spec.specs.declared.Sensed.TheVariants.{NotAllowed, Same, Changed}
use Rattle.mib_spec.specs.Database.{Database, Values, Managed, with_entity, without_entity, with_values, values_of, value_at, with_value, with_counter_grown}
use Rattle.mib_spec.specs.Requests.{unless_refused, create_outcome, create_code, new_entity, create_values, delete_outcome, delete_code, set_outcome, set_code, set_effect, is_counter_set, set_values, of_class, get_outcome_in, get_code, named_values, is_answered, sense_outcome, may_sense, is_sensed}
use Rattle.mib_store.specs.declared.layout.Chosen.TheVariants.{Created, Named, Only}
use Rattle.mib_store.specs.Layout.{picks, cut, chosen_bytes, with_chosen}
use Rattle.mib_store.specs.Entries.{values_in, maker_of}
use Rattle.mib_store.proofs.Values.{stored_is, laid_is, named_is, only_stored, only_value, only_length}
use Rattle.mib_store.proofs.Counter.{blank}

-- a code other than 0 changes nothing
pub kept_by : (code : ℕ) (after before : Database) → code ≢ 0 → unless_refused code after before ≡ before
kept_by code after before fails = let b : (code == 0) ≡ false = grind (arith, nat_tests) in ap (λ b. cond b after before) b

-- the values of a class in bytes
pub values_in_row : (class : ℕ) (r : Row) (bytes : List ℕ) → class_row class ≡ Some r → values_in class bytes ≡ cut r.attributes bytes
unfolding values_in
values_in_row class r bytes row = ap (λ o. option_map_or (λ (x : Row). cut x.attributes bytes) o []) row

module _ (one : EntityId) (given : List ℕ) (database : Database) where
  pub created_code : (code : ℕ) → create_code one database ≡ code → code ≡ (create_outcome one given database).0
  unfolding create_outcome
  created_code code is = sym is

  pub created_kept : (code : ℕ) → create_code one database ≡ code → (code == 0) ≡ false → database ≡ (create_outcome one given database).1
  unfolding create_outcome
  created_kept code is fails =
      sym (ap (λ k. unless_refused k (with_counter_grown (with_entity one (new_entity one.class given) database)) database) is ∙ ap (λ b. cond b (with_counter_grown (with_entity one (new_entity one.class given) database)) database) fails)

  pub created_done : create_code one database ≡ 0 → with_counter_grown (with_entity one (new_entity one.class given) database) ≡ (create_outcome one given database).1
  unfolding create_outcome
  created_done is = sym (ap (λ k. unless_refused k (with_counter_grown (with_entity one (new_entity one.class given) database)) database) is)

  pub created_changes : (create_outcome one given database).0 ≢ 0 → (create_outcome one given database).1 ≡ database
  unfolding create_outcome
  created_changes fails = kept_by (create_code one database) _ database fails

-- what the code makes of the given bytes is what a create makes
pub created_is : (class : ℕ) (r : Row) (given bytes : List ℕ) → class_row class ≡ Some r → IsRow r → 32 ≤ length given → bytes ≡ with_chosen (picks Created) r.attributes given (blank 45)
    → ◌≡◌ {A = Managed} (record { maker = maker_of class; values = values_in class bytes }) (new_entity class given)
unfolding maker_of new_entity
created_is class r given bytes row rule room is =
    let values : values_in class bytes ≡ create_values r.attributes given = values_in_row class r bytes row ∙ ap (cut r.attributes) is ∙ laid_is r.attributes given 45 (omega (arith, rule.created)) rule.whole in
    let M : Option Row → Values → Managed = λ o v. record { maker = option_map_or (λ (x : Row). x.maker) o by_manager; values = v } in
    let L : Option Row → Managed = λ o. option_map_or (λ (x : Row). record { maker = x.maker; values = create_values x.attributes given }) o (record { maker = by_manager; values = [] }) in
    ap (M (class_row class)) values ∙ ap (λ o. M o (create_values r.attributes given)) row ∙ sym (ap L row)

module _ (one : EntityId) (database : Database) where
  pub deleted_code : (code : ℕ) → delete_code one database ≡ code → code ≡ (delete_outcome one database).0
  unfolding delete_outcome
  deleted_code code is = sym is

  pub deleted_kept : (code : ℕ) → delete_code one database ≡ code → (code == 0) ≡ false → database ≡ (delete_outcome one database).1
  unfolding delete_outcome
  deleted_kept code is fails =
      sym (ap (λ k. unless_refused k (with_counter_grown (without_entity one database)) database) is ∙ ap (λ b. cond b (with_counter_grown (without_entity one database)) database) fails)

  pub deleted_done : delete_code one database ≡ 0 → with_counter_grown (without_entity one database) ≡ (delete_outcome one database).1
  unfolding delete_outcome
  deleted_done is = sym (ap (λ k. unless_refused k (with_counter_grown (without_entity one database)) database) is)

  pub deleted_changes : (delete_outcome one database).0 ≢ 0 → (delete_outcome one database).1 ≡ database
  unfolding delete_outcome
  deleted_changes fails = kept_by (delete_code one database) _ database fails

module _ (one : EntityId) (mask : ℕ) (given : List ℕ) (database : Database) where
  pub set_code_is : (code : ℕ) → set_code one mask given database ≡ code → code ≡ (set_outcome one mask given database).code
  unfolding set_outcome
  set_code_is code is = sym is

  pub set_no_unsupported : (code : ℕ) → set_code one mask given database ≡ code → (code == 9) ≡ false → 0 ≡ (set_outcome one mask given database).unsupported
  unfolding set_outcome
  set_no_unsupported code is other = sym (ap (λ k. cond (k == 9) (of_class unknown_mask one.class mask) 0) is ∙ ap (λ b. cond b (of_class unknown_mask one.class mask) 0) other)

  pub set_no_failed : (code : ℕ) → set_code one mask given database ≡ code → (code == 9) ≡ false → 0 ≡ (set_outcome one mask given database).failed
  unfolding set_outcome
  set_no_failed code is other = sym (ap (λ k. cond (k == 9) (of_class fixed_mask one.class mask) 0) is ∙ ap (λ b. cond b (of_class fixed_mask one.class mask) 0) other)

  pub set_unsupported : set_code one mask given database ≡ 9 → (r : Row) → class_row one.class ≡ Some r → unknown_mask r mask ≡ (set_outcome one mask given database).unsupported
  unfolding set_outcome
  set_unsupported is r row = sym (ap (λ k. cond (k == 9) (of_class unknown_mask one.class mask) 0) is ∙ ap (λ o. option_map_or (λ (x : Row). unknown_mask x mask) o 0) row)

  pub set_failed : set_code one mask given database ≡ 9 → (r : Row) → class_row one.class ≡ Some r → fixed_mask r mask ≡ (set_outcome one mask given database).failed
  unfolding set_outcome
  set_failed is r row = sym (ap (λ k. cond (k == 9) (of_class fixed_mask one.class mask) 0) is ∙ ap (λ o. option_map_or (λ (x : Row). fixed_mask x mask) o 0) row)

  pub set_kept : (code : ℕ) → set_code one mask given database ≡ code → (code == 0) ≡ false → database ≡ (set_outcome one mask given database).database
  unfolding set_outcome
  set_kept code is fails =
      sym (ap (λ k. unless_refused k (set_effect one mask given database) database) is ∙ ap (λ b. cond b (set_effect one mask given database) database) fails)

  pub set_changed : set_code one mask given database ≡ 0 → set_effect one mask given database ≡ (set_outcome one mask given database).database
  unfolding set_outcome
  set_changed is = sym (ap (λ k. unless_refused k (set_effect one mask given database) database) is)

  pub set_changes : (set_outcome one mask given database).code ≢ 0 → (set_outcome one mask given database).database ≡ database
  unfolding set_outcome
  set_changes fails = kept_by (set_code one mask given database) _ database fails

  -- the values are stored, and then the counter grows or has its value
  pub set_settled : (counted : Bool) (written after : Database) → counted ≡ is_counter_set one mask → written ≡ with_values one (set_values mask given (values_of one database)) database → after ≡ cond counted written (with_counter_grown written) → after ≡ set_effect one mask given database
  unfolding set_effect
  set_settled counted written after is stores settles =
      settles ∙ ap (λ (d : Database). cond counted d (with_counter_grown d)) stores
      ∙ ap (λ b. cond b (with_values one (set_values mask given (values_of one database)) database) (with_counter_grown (with_values one (set_values mask given (values_of one database)) database))) is

-- what the code stores is what a set stores
pub stored_in : (one : EntityId) (mask : Mask) (r : Row) (given bytes after : List ℕ) (database : Database) → class_row one.class ≡ Some r → IsRow r → 45 ≤ length bytes → width_where (picks (Named mask)) r.attributes ≤ length given
    → values_in one.class bytes ≡ values_of one database → after ≡ with_chosen (picks (Named mask)) r.attributes given bytes → values_in one.class after ≡ set_values mask.0 given (values_of one database)
stored_in one mask r given bytes after database row rule wide room before is =
    values_in_row one.class r after row ∙ ap (cut r.attributes) is ∙ stored_is mask r.attributes given bytes room (omega (arith, rule.whole))
    ∙ ap (set_values mask.0 given) (sym (values_in_row one.class r bytes row) ∙ before)

-- what the code gathers is what a get answers
pub named_in : (one : EntityId) (mask : Mask) (r : Row) (bytes values : List ℕ) (database : Database) → class_row one.class ≡ Some r → values_in one.class bytes ≡ values_of one database → values ≡ filled 25 (chosen_bytes (picks (Named mask)) r.attributes bytes) → values ≡ filled 25 (named_values mask.0 (values_of one database))
named_in one mask r bytes values database row before is =
    is ∙ ap (filled 25) (named_is mask r.attributes bytes ∙ ap (named_values mask.0) (sym (values_in_row one.class r bytes row) ∙ before))

module _ (one : EntityId) (mask : ℕ) (database : Database) where
  pub got_code : (code : ℕ) → get_code 25 one mask database ≡ code → code ≡ (get_outcome_in 25 one mask database).code
  unfolding get_outcome_in
  got_code code is = sym is

  unanswered : (code : ℕ) → (code == 0) ≡ false → (code == 9) ≡ false → is_answered code ≡ false
  unanswered code zero nine = ap (λ b. b || (code == 9)) zero ∙ nine

  pub got_no_mask : (code : ℕ) → get_code 25 one mask database ≡ code → (code == 0) ≡ false → (code == 9) ≡ false → 0 ≡ (get_outcome_in 25 one mask database).mask
  unfolding get_outcome_in
  got_no_mask code is zero nine =
      sym (ap (λ k. cond (is_answered k) (of_class known_mask one.class mask) 0) is ∙ ap (λ b. cond b (of_class known_mask one.class mask) 0) (unanswered code zero nine))

  pub got_no_values : (code : ℕ) → get_code 25 one mask database ≡ code → (code == 0) ≡ false → (code == 9) ≡ false → blank 25 ≡ (get_outcome_in 25 one mask database).values
  unfolding get_outcome_in
  got_no_values code is zero nine =
      sym (ap (λ k. filled 25 (cond (is_answered k) (named_values mask (values_of one database)) [])) is ∙ ap (λ b. filled 25 (cond b (named_values mask (values_of one database)) [])) (unanswered code zero nine))

  pub got_no_unsupported : (code : ℕ) → get_code 25 one mask database ≡ code → (code == 9) ≡ false → 0 ≡ (get_outcome_in 25 one mask database).unsupported
  unfolding get_outcome_in
  got_no_unsupported code is nine = sym (ap (λ k. cond (k == 9) (of_class unknown_mask one.class mask) 0) is ∙ ap (λ b. cond b (of_class unknown_mask one.class mask) 0) nine)

  pub got_unsupported : get_code 25 one mask database ≡ 9 → (r : Row) → class_row one.class ≡ Some r → unknown_mask r mask ≡ (get_outcome_in 25 one mask database).unsupported
  unfolding get_outcome_in
  got_unsupported is r row = sym (ap (λ k. cond (k == 9) (of_class unknown_mask one.class mask) 0) is ∙ ap (λ o. option_map_or (λ (x : Row). unknown_mask x mask) o 0) row)

  pub got_mask : (code : ℕ) → get_code 25 one mask database ≡ code → is_answered code ≡ true → (r : Row) → class_row one.class ≡ Some r → known_mask r mask ≡ (get_outcome_in 25 one mask database).mask
  unfolding get_outcome_in
  got_mask code is answered r row =
      sym (ap (λ k. cond (is_answered k) (of_class known_mask one.class mask) 0) is ∙ ap (λ b. cond b (of_class known_mask one.class mask) 0) answered ∙ ap (λ o. option_map_or (λ (x : Row). known_mask x mask) o 0) row)

  pub got_values : (code : ℕ) → get_code 25 one mask database ≡ code → is_answered code ≡ true → filled 25 (named_values mask (values_of one database)) ≡ (get_outcome_in 25 one mask database).values
  unfolding get_outcome_in
  got_values code is answered =
      sym (ap (λ k. filled 25 (cond (is_answered k) (named_values mask (values_of one database)) [])) is ∙ ap (λ b. filled 25 (cond b (named_values mask (values_of one database)) [])) answered)

module _ (one : EntityId) (number : ℕ) (value : List ℕ) (database : Database) where
  sensed_by : Bool → Bool → Sensed × Database
  sensed_by may same = cond (not may) (NotAllowed, database) (cond same (Same, database) (Changed, with_values one (with_value number value (values_of one database)) database))

  pub sensed_off : may_sense one number value database ≡ false → sense_outcome one number value database ≡ (NotAllowed, database)
  unfolding sense_outcome sensed_by
  sensed_off off = ap (λ b. sensed_by b (is_sensed one number value database)) off

  pub sensed_same : may_sense one number value database ≡ true → is_sensed one number value database ≡ true → sense_outcome one number value database ≡ (Same, database)
  unfolding sense_outcome sensed_by
  sensed_same may same = ap (λ b. sensed_by b (is_sensed one number value database)) may ∙ ap (sensed_by true) same

  pub sensed_changed : may_sense one number value database ≡ true → is_sensed one number value database ≡ false → sense_outcome one number value database ≡ (Changed, with_values one (with_value number value (values_of one database)) database)
  unfolding sense_outcome sensed_by
  sensed_changed may same = ap (λ b. sensed_by b (is_sensed one number value database)) may ∙ ap (sensed_by true) same

  module _ (r : Row) (row : class_row one.class ≡ Some r) (rule : IsRow r) (found : Attribute) (is : attribute_in r.attributes number ≡ Some found) (width : found.width ≡ length value)
      (bytes : List ℕ) (wide : 45 ≤ length bytes) (before : values_in one.class bytes ≡ values_of one database) where
    held_values : cut r.attributes bytes ≡ values_of one database
    held_values = sym (values_in_row one.class r bytes row) ∙ before

    -- the code compares the value that is held
    pub is_sensed_by : (held : List ℕ) → held ≡ filled 25 (chosen_bytes (picks (Only number)) r.attributes bytes) → bytes_eq (take (length value) held) value ≡ is_sensed one number value database
    unfolding is_sensed
    is_sensed_by held gathered =
        let v : List ℕ = chosen_bytes (picks (Only number)) r.attributes bytes in
        let len : length v ≡ length value = only_length number r.attributes 1 found bytes rule.numbered is (omega (arith, rule.whole)) ∙ width in
        ap (λ h. bytes_eq (take (length value) h) value) gathered
        ∙ ap (λ h. bytes_eq h value) (take_at v _ (length value) len)
        ∙ sym (ap (λ o. option_map_or (λ b. bytes_eq b value) o false) (ap (value_at number) (sym held_values) ∙ only_value number r.attributes 1 found bytes rule.numbered is))

    pub sensed_stored : (after : List ℕ) → after ≡ with_chosen (picks (Only number)) r.attributes value bytes → values_in one.class after ≡ with_value number value (values_of one database)
    sensed_stored after written =
        values_in_row one.class r after row ∙ ap (cut r.attributes) written ∙ only_stored number r.attributes 1 found value bytes rule.numbered is width (omega (arith, rule.whole))
        ∙ ap (with_value number value) held_values
