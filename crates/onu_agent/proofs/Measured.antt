-- What a measured value changes, and what it fits; which entities may have alarms.
use Rattle.std.proofs.Common.{◌≡◌, ◌≢◌, ℕ, ◌≤◌, Bool, true, false, cond, List, [], ◌∷◌, length, Some, refl, sym, ap, subst, ◌∙◌, arith}
use Rattle.std.proofs.lemmas.Bool.{false≢true}
use Rattle.std.proofs.lemmas.Bool.Decides.{nat_tests}
use Rattle.std.specs.Prelude.{◌==◌, ◌&&◌, ◌||◌, not, nat_le, nat_lt}
use Rattle.std.specs.List.{list_all}
use Rattle.std.specs.Option.{option_map_or}
use Rattle.omci_types.specs.declared.EntityId.{EntityId}
use Rattle.class_spec.specs.declared.TheConstants.{SET_ROOM, GET_ROOM}
use Rattle.class_spec.specs.Classes.{Attribute, Row, class_table, class_row, row_in, attribute_in}
use Rattle.class_spec.specs.Masks.{unknown_mask, width_of}
use Rattle.mib_spec.specs.declared.Sensed.{Sensed}
use Rattle.mib_spec.specs.declared.Sensed.TheVariants.{NotAllowed, Same, Changed}
use Rattle.mib_spec.specs.Database.{Database, is_held, with_values, values_of, with_value}
use Rattle.mib_spec.specs.Requests.{first_code, is_class, of_class, get_code, get_outcome, get_outcome_in, sense_outcome, may_sense, is_sensed}
use Rattle.unit_spec.specs.Noticing.{has_alarms, may_alarm}

equal_says : (a b : ℕ) → (a == b) ≡ true → a ≡ b
equal_says a b h = grind (arith, nat_tests, h)

both : (a b : Bool) → (a && b) ≡ true → (a ≡ true) × (b ≡ true)
both true b h = (refl, h)
both false b h = absurd (false≢true h)

-- ---- a measured value

outcome : (may same : Bool) (before after : Database) → Sensed × Database
outcome may same before after = cond (not may) (NotAllowed, before) (cond same (Same, before) (Changed, after))

kept_by : (may same : Bool) (before after : Database) → (outcome may same before after).0 ≢ Changed → (outcome may same before after).1 ≡ before
unfolding outcome
kept_by false same before after differ = refl
kept_by true true before after differ = refl
kept_by true false before after differ = absurd (differ refl)

pub sense_keeps : (one : EntityId) (number : ℕ) (value : List ℕ) (database : Database) → (sense_outcome one number value database).0 ≢ Changed → (sense_outcome one number value database).1 ≡ database
unfolding sense_outcome outcome
sense_keeps one number value database differ = kept_by (may_sense one number value database) (is_sensed one number value database) database (with_values one (with_value number value (values_of one database)) database) differ

may_by : (may same : Bool) (before after : Database) → (outcome may same before after).0 ≡ Changed → may ≡ true
unfolding outcome
may_by false same before after is = absurd cc
may_by true same before after is = refl

changed_may : (one : EntityId) (number : ℕ) (value : List ℕ) (database : Database) → (sense_outcome one number value database).0 ≡ Changed → may_sense one number value database ≡ true
unfolding sense_outcome outcome
changed_may one number value database is = may_by (may_sense one number value database) (is_sensed one number value database) database (with_values one (with_value number value (values_of one database)) database) is

-- an attribute's number, and a width that a notice has room for
pub record Fits (number width : ℕ) : Type 0 where
  pub from_one : 1 ≤ number
  pub to_sixteen : number ≤ 16
  pub room : width ≤ SET_ROOM

fits : Attribute → Bool
fits one = nat_le 1 one.number && nat_le one.number 16 && nat_le one.width SET_ROOM

table_fits : list_all (λ (row : Row). list_all fits row.attributes) class_table ≡ true
unfolding class_table fits
table_fits = refl

one_fits : (one : Attribute) (number width : ℕ) → fits one ≡ true → one.number ≡ number → one.width ≡ width → Fits number width
unfolding fits
one_fits one number width h same wide =
    let parts = both (nat_le 1 one.number && nat_le one.number 16) (nat_le one.width SET_ROOM) h in
    let more = both (nat_le 1 one.number) (nat_le one.number 16) parts.0 in
    let a : 1 ≤ one.number = grind (arith, nat_tests, more.0) in
    let b : one.number ≤ 16 = grind (arith, nat_tests, more.1) in
    let c : one.width ≤ SET_ROOM = grind (arith, nat_tests, parts.1) in
    record { from_one = omega (arith, a, same); to_sixteen = omega (arith, b, same); room = omega (arith, c, wide) }

module _ (number : ℕ) (value : List ℕ) where
  is_read : Attribute → Bool
  is_read = λ (one : Attribute). not one.written && one.width == length value

  in_attributes : (attributes : List Attribute) → list_all fits attributes ≡ true → option_map_or is_read (attribute_in attributes number) false ≡ true → Fits number (length value)
  unfolding is_read
  in_attributes [] good h = absurd (false≢true h)
  in_attributes (one ∷ rest) good h = go (one.number == number) refl h (in_attributes rest (both (fits one) (list_all fits rest) good).1)
    where
      good_parts : (fits one ≡ true) × (list_all fits rest ≡ true)
      good_parts = both (fits one) (list_all fits rest) good

      go : (b : Bool) → (one.number == number) ≡ b → option_map_or is_read (cond b (Some one) (attribute_in rest number)) false ≡ true
          → (option_map_or is_read (attribute_in rest number) false ≡ true → Fits number (length value)) → Fits number (length value)
      go true is h later = one_fits one number (length value) good_parts.0 (equal_says one.number number is) (equal_says one.width (length value) (both (not one.written) (one.width == length value) h).1)
      go false is h later = later h

  in_rows : (class : ℕ) (rows : List Row) → list_all (λ (row : Row). list_all fits row.attributes) rows ≡ true → option_map_or (λ (row : Row). option_map_or is_read (attribute_in row.attributes number) false) (row_in rows class) false ≡ true → Fits number (length value)
  in_rows class [] good h = absurd (false≢true h)
  in_rows class (row ∷ rows) good h = go (row.number == class) h (in_rows class rows (both (list_all fits row.attributes) (list_all (λ (r : Row). list_all fits r.attributes) rows) good).1)
    where
      good_parts : (list_all fits row.attributes ≡ true) × (list_all (λ (r : Row). list_all fits r.attributes) rows ≡ true)
      good_parts = both (list_all fits row.attributes) (list_all (λ (r : Row). list_all fits r.attributes) rows) good

      go : (b : Bool) → option_map_or (λ (r : Row). option_map_or is_read (attribute_in r.attributes number) false) (cond b (Some row) (row_in rows class)) false ≡ true
          → (option_map_or (λ (r : Row). option_map_or is_read (attribute_in r.attributes number) false) (row_in rows class) false ≡ true → Fits number (length value)) → Fits number (length value)
      go true h later = in_attributes row.attributes good_parts.0 h
      go false h later = later h

pub changed_fits : (one : EntityId) (number : ℕ) (value : List ℕ) (database : Database) → (sense_outcome one number value database).0 ≡ Changed → Fits number (length value)
unfolding may_sense class_row is_read
changed_fits one number value database is =
    let may = changed_may one number value database is in
    in_rows number value one.class class_table table_fits (both _ _ may).1

-- ---- alarms

known : (a b c : Bool) (class : ℕ) → (class == 11) ≡ a → (class == 256) ≡ b → (class == 262) ≡ c → (a || b || c) ≡ true → is_class class ≡ true
unfolding class_row class_table
known true b c class is _ _ h = subst (λ n. is_class n ≡ true) (sym (equal_says class 11 is)) refl
known false true c class _ is _ h = subst (λ n. is_class n ≡ true) (sym (equal_says class 256 is)) refl
known false false true class _ _ is h = subst (λ n. is_class n ≡ true) (sym (equal_says class 262 is)) refl
known false false false class _ _ _ h = absurd (false≢true h)

absent_by : (known held wide strange : Bool) → known ≡ true → (first_code ((not known, 4) ∷ (not held, 5) ∷ (wide, 3) ∷ (strange, 9) ∷ []) == 5) ≡ not held
absent_by false held wide strange k = absurd (false≢true k)
absent_by true false wide strange k = refl
absent_by true true true strange k = refl
absent_by true true false true k = refl
absent_by true true false false k = refl

-- of a class that has alarms, a get says with code 5 exactly that the entity isn't there
pub absent_is_told : (one : EntityId) (database : Database) → has_alarms one.class ≡ true → ((get_outcome one 0 database).code == 5) ≡ not (is_held one database)
unfolding get_outcome_in get_code
absent_is_told one database has =
    absent_by (is_class one.class) (is_held one database) (nat_lt GET_ROOM (of_class width_of one.class 0)) (not (of_class unknown_mask one.class 0 == 0))
    (known (one.class == 11) (one.class == 256) (one.class == 262) one.class refl refl refl has)

-- so the entity may have alarms exactly where the get says another code
pub may_is_told : (one : EntityId) (database : Database) → has_alarms one.class ≡ true → not ((get_outcome one 0 database).code == 5) ≡ may_alarm one database
unfolding may_alarm
may_is_told one database has =
    ap not (absent_is_told one database has)
    ∙ twice (is_held one database)
    ∙ sym (ap (λ b. b && is_held one database) has)
  where
    twice : (b : Bool) → not (not b) ≡ b
    twice true = refl
    twice false = refl

-- and an entity of another class may have none
pub may_not : (one : EntityId) (database : Database) → has_alarms one.class ≡ false → may_alarm one database ≡ false
unfolding may_alarm
may_not one database none = ap (λ b. b && is_held one database) none
