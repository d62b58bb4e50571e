-- The unit's database stays whole.
use Rattle.std.proofs.Common.{◌≡◌, ℕ, ◌+◌, ◌<◌, ◌≤◌, ◌^◌, Bool, true, false, cond, not, ◌&&◌, List, [], ◌∷◌, ◌++◌, length, take, drop, replicate, map, Option, Some, None, option_map, is_some, Ordering, Less, Equal, Greater, is_lt, refl, sym, ap, subst, ◌∙◌, arith, nat_le, nat_lt, ◌==◌, length-drop, length-append}
use Rattle.std.proofs.lemmas.Option.{same_Some}
use Rattle.std.proofs.lemmas.Bool.{eqb-true, and_parts, false≢true}
use Rattle.std.proofs.lemmas.Bool.Decides.{nat_tests}
use Rattle.std.proofs.lemmas.List.{length-replicate, length-take-le}
use Rattle.std.specs.Option.{option_map_or}
use Rattle.std.specs.Map.{lookup, set_value, remove_entry}
use Rattle.std.specs.BTreeMap.{insert_entry, is_at}
use Rattle.omci_types.specs.declared.EntityId.{EntityId}
use Rattle.omci_types.specs.declared.SlotView.{SlotView}
use Rattle.omci_types.specs.declared.Software.{Software}
use Rattle.slot_spec.specs.Layout.{version}
use Rattle.slot_spec.specs.Header.{view_of}
use Rattle.slot_spec.specs.Slots.{SlotPair}
use Rattle.store_spec.specs.State.{software_in}
use Rattle.class_spec.specs.declared.Maker.TheVariants.{Unit as by_unit, Manager as by_manager}
use Rattle.class_spec.specs.declared.TheConstants.{ONU_DATA}
use Rattle.class_spec.specs.Classes.{Attribute, Row, class_row, class_table, attribute_in}
use Rattle.class_spec.specs.Masks.{has, width_where, width_of}
use Rattle.mib_spec.specs.declared.TheConstants.{MOST_ENTITIES}
use Rattle.mib_spec.specs.Database.{Database, Managed, Values, entity_cmp, entity, managed_of, is_held, with_entity, without_entity, zeros, zeros_of, values_of, with_values, with_value, counter, with_counter, bump, with_counter_grown, image_entity, image_values, first_with, first, with_software, ethernet, onu_g, onu2_g, t_cont, slot}
use Rattle.mib_spec.specs.declared.Sensed.{Sensed}
use Rattle.mib_spec.specs.declared.Sensed.TheVariants.{NotAllowed, Same, Changed}
use Rattle.mib_spec.specs.Requests.{may_sense, is_sensed, sense_outcome, first_code, unless_refused, is_class, is_unit_made, create_values, new_entity, create_code, create_outcome, delete_code, delete_outcome, of_class, set_values, set_code, is_counter_set, set_effect, set_outcome, reset}
use Rattle.upload_spec.specs.Pieces.{Copy, without_makers}
use Rattle.upload_laws.specs.Shaped.{IsShaped, IsWholeEntry, ComesBefore, IsWhole}
use Rattle.resync_laws.specs.Databases.{IsWholeDatabase, HasVersions}
use Rattle.resync_laws.proofs.Tables.{class_is}
use Rattle.resync_laws.proofs.Whole.{entry_is, whole_insert, insert_length, whole_remove, remove_length, whole_set, set_length, whole_found, makers_length, makers_insert, makers_remove, makers_set, makers_lookup}

-- ---- shapes

pub zeros_shaped : (attributes : List Attribute) → IsShaped attributes (zeros attributes)
zeros_shaped [] = tt
zeros_shaped (one ∷ rest) = (refl, length-replicate one.width 0, zeros_shaped rest)

more_left : (wide all room : ℕ) (given : List ℕ) → wide + all ≤ length given
    → all ≤ length (drop wide given)
more_left wide all room given h = rw length-drop (omega (arith, h))

pub create_shaped : (attributes : List Attribute) (given : List ℕ)
    → width_where (λ one. one.created) attributes ≤ length given
    → IsShaped attributes (create_values attributes given)
create_shaped [] given h = tt
create_shaped (one ∷ rest) given h =
    go one.created h (λ k. create_shaped rest given k)
    (λ k. create_shaped rest (drop one.width given) k)
  where
    width : ℕ
    width = width_where (λ one. one.created) rest

    go : (b : Bool) → cond b one.width 0 + width ≤ length given
        → (width ≤ length given → IsShaped rest (create_values rest given))
        → (width ≤ length (drop one.width given)
        → IsShaped rest (create_values rest (drop one.width given)))
        → IsShaped (one ∷ rest)
        (cond b ((one.number, take one.width given) ∷ create_values rest (drop one.width given))
        ((one.number, replicate one.width 0) ∷ create_values rest given))
    go true k same less = (
      refl,
      length-take-le one.width given (omega (arith, k)),
      less (more_left one.width width 0 given k),
    )
    go false k same less = (refl, length-replicate one.width 0, same (omega (arith, k)))

pub set_shaped : (mask : ℕ) (attributes : List Attribute) (values : Values) (given : List ℕ)
    → width_where (λ one. has mask one.number) attributes ≤ length given
    → IsShaped attributes values → IsShaped attributes (set_values mask given values)
set_shaped mask [] [] given h s = tt
set_shaped mask [] (v ∷ vs) given h s = absurd s
set_shaped mask (one ∷ rest) [] given h s = absurd s
set_shaped mask (one ∷ rest) (v ∷ vs) given h s =
    go (has mask one.number) (has mask v.0) (ap (has mask) s.0) h
    (λ k. set_shaped mask rest vs given k s.2)
    (λ k. set_shaped mask rest vs (drop (length v.1) given) k s.2)
  where
    width : ℕ
    width = width_where (λ one. has mask one.number) rest

    go : (a b : Bool) → b ≡ a → cond a one.width 0 + width ≤ length given
        → (width ≤ length given → IsShaped rest (set_values mask given vs))
        → (width ≤ length (drop (length v.1) given)
        → IsShaped rest (set_values mask (drop (length v.1) given) vs))
        → IsShaped (one ∷ rest)
        (cond b ((v.0, take (length v.1) given) ∷ set_values mask (drop (length v.1) given) vs)
        (v ∷ set_values mask given vs))
    go true true e k same less =
        let wide : length v.1 ≡ one.width = s.1 in (
          s.0,
          length-take-le (length v.1) given (omega (arith, k, wide)) ∙ wide,
          less (more_left (length v.1) width 0 given (omega (arith, k, wide))),
        )
    go false false e k same less = (s.0, s.1, same (omega (arith, k)))
    go true false e k same less = absurd (cc)
    go false true e k same less = absurd (cc)

-- ---- what a whole database has

-- the copy has what the database has
pub copied_is : (one : EntityId) (database : Database) → lookup (is_at (entity_cmp one)) (without_makers database)
    ≡ option_map (λ (managed : Managed). managed.values) (managed_of one database)
unfolding managed_of
copied_is one database = sym (makers_lookup (is_at (entity_cmp one)) database)

pub managed_whole : (one : EntityId) (managed : Managed) (database : Database)
    → IsWholeDatabase database → managed_of one database ≡ Some managed
    → IsWholeEntry one managed.values
managed_whole one managed database h e =
    whole_found one managed.values (without_makers database) h.whole
    (copied_is one database ∙ ap (option_map (λ (managed : Managed). managed.values)) e)

pub same_row : (class : ℕ) (a b : Row) → class_row class ≡ Some a → class_row class ≡ Some b
    → a ≡ b
same_row class a b e f = same_Some a b (sym e ∙ f)

-- the values of an entity of a known class
pub values_shaped : (one : EntityId) (row : Row) (database : Database) → IsWholeDatabase database
    → class_row one.class ≡ Some row → IsShaped row.attributes (values_of one database)
unfolding values_of zeros_of
values_shaped one row database h is = go (managed_of one database) refl
  where
    go : (o : Option Managed) → managed_of one database ≡ o
        → IsShaped row.attributes (option_map_or (λ managed. managed.values) o (option_map_or (λ row. zeros row.attributes) (class_row one.class) []))
    go None e = subst (λ r. IsShaped row.attributes (option_map_or (λ (row : Row). zeros row.attributes) r [])) (sym is) (zeros_shaped row.attributes)
    go (Some managed) e =
        let entry = managed_whole one managed database h e in
        subst (λ r. IsShaped r.attributes managed.values)
        (same_row one.class entry.row row entry.is is) entry.shaped

-- ---- the three ways in which it changes

pub with_values_whole : (one : EntityId) (row : Row) (values : Values) (database : Database)
    → IsWholeDatabase database → class_row one.class ≡ Some row → IsShaped row.attributes values
    → IsWholeDatabase (with_values one values database)
unfolding with_values
with_values_whole one row values database h is shaped = go (managed_of one database) refl
  where
    go : (o : Option Managed) → managed_of one database ≡ o
        → IsWholeDatabase (option_map_or (λ (managed : Managed). set_value (is_at (entity_cmp one)) database (record managed { values = values })) o database)
    go None e = h
    go (Some managed) e =
        let was = managed_whole one managed database h e in
        let entry = entry_is one row values is shaped was.instance in
        let next : Managed = record managed { values = values } in
        let same = makers_set (is_at (entity_cmp one)) next database in
        record {
          whole = subst IsWhole (sym same) (whole_set one values (without_makers database) entry h.whole);
          few =
              let a = ap length same in
              let b = set_length (is_at (entity_cmp one)) values (without_makers database) in
              let c = makers_length (set_value (is_at (entity_cmp one)) database next) in
              let d = makers_length database in
              omega (arith, a, b, c, d, h.few);
        }

pub with_entity_whole : (one : EntityId) (managed : Managed) (database : Database)
    → IsWholeDatabase database → IsWholeEntry one managed.values → length database < MOST_ENTITIES
    → IsWholeDatabase (with_entity one managed database)
unfolding with_entity
with_entity_whole one managed database h entry room =
    let same = makers_insert one managed database in
    record {
      whole = subst IsWhole (sym same) (whole_insert one managed.values (without_makers database) entry h.whole);
      few =
          let a = ap length same in
          let b = insert_length one managed.values (without_makers database) in
          let c = makers_length (insert_entry entity_cmp database one managed) in
          let d = makers_length database in
          omega (arith, a, b, c, d, room);
    }

pub without_entity_whole : (one : EntityId) (database : Database) → IsWholeDatabase database
    → IsWholeDatabase (without_entity one database)
unfolding without_entity
without_entity_whole one database h =
    let test = is_at (entity_cmp one) in
    let same = makers_remove test database in
    record {
      whole = subst IsWhole (sym same) (whole_remove test (without_makers database) h.whole);
      few =
          let a = ap length same in
          let b = remove_length test (without_makers database) in
          let c = makers_length (remove_entry test database) in
          let d = makers_length database in
          omega (arith, a, b, c, d, h.few);
    }

-- ---- the counter

abbrev pub onu_data_row : Row
onu_data_row = record {
  number = 2;
  maker = by_unit;
  attributes = record { number = 1; width = 1; written = true; created = false } ∷ [];
}

pub onu_data_is : class_row ONU_DATA.class ≡ Some onu_data_row
unfolding class_row class_table
onu_data_is = refl

pub counter_shaped : (count : ℕ) (values : Values) → IsShaped onu_data_row.attributes values
    → IsShaped onu_data_row.attributes (with_value 1 (count ∷ []) values)
counter_shaped count [] h = absurd h
counter_shaped count (v ∷ []) h = go (v.0 == 1)
  where
    go : (b : Bool) → IsShaped onu_data_row.attributes (cond b ((v.0, count ∷ []) ∷ []) (v ∷ []))
    go true = (h.0, refl, tt)
    go false = h
counter_shaped count (v ∷ w ∷ rest) h = absurd h.2

pub grown_whole : (database : Database) → IsWholeDatabase database
    → IsWholeDatabase (with_counter_grown database)
unfolding with_counter_grown with_counter
grown_whole database h =
    with_values_whole ONU_DATA onu_data_row _ database h onu_data_is
    (counter_shaped (bump (counter database)) (values_of ONU_DATA database)
    (values_shaped ONU_DATA onu_data_row database h onu_data_is))

-- ---- requests

pub whole_unless : (code : ℕ) (after before : Database) → (code ≡ 0 → IsWholeDatabase after)
    → IsWholeDatabase before → IsWholeDatabase (unless_refused code after before)
whole_unless code after before done h = go (code == 0) refl
  where
    go : (b : Bool) → (code == 0) ≡ b → IsWholeDatabase (cond b after before)
    go true is = done (eqb-true code 0 is)
    go false is = h

-- the row of a class that is there
pub record HasRow (class : ℕ) : Type 0 where
  pub row : Row
  pub is : class_row class ≡ Some row

pub row_of : (class : ℕ) → is_class class ≡ true → HasRow class
row_of class h = go (class_row class) refl h
  where
    go : (o : Option Row) → class_row class ≡ o → is_some o ≡ true → HasRow class
    go None e k = absurd (false≢true k)
    go (Some row) e k = record { row = row; is = e }

created_if : (unknown unit there full : Bool)
    → first_code ((unknown, 4) ∷ (unit, 2) ∷ (there, 7) ∷ (full, 1) ∷ []) ≡ 0
    → (unknown ≡ false) × (full ≡ false)
created_if true unit there full h = absurd (omega (arith, h))
created_if false true there full h = absurd (omega (arith, h))
created_if false false true full h = absurd (omega (arith, h))
created_if false false false true h = absurd (omega (arith, h))
created_if false false false false h = (refl, refl)

pub not_false : (b : Bool) → not b ≡ false → b ≡ true
not_false true h = refl
not_false false h = sym h

pub new_values : (class : ℕ) (row : Row) (given : List ℕ) → class_row class ≡ Some row
    → (new_entity class given).values ≡ create_values row.attributes given
unfolding new_entity
new_values class row given is = ap (λ o. (option_map_or (λ (row : Row). let m : Managed = record { maker = row.maker; values = create_values row.attributes given } in m) o (record { maker = by_manager; values = [] })).values) is

pub create_whole : (one : EntityId) (given : List ℕ) (database : Database)
    → one.instance < 2 ^ 16 → 32 ≤ length given → IsWholeDatabase database
    → IsWholeDatabase (create_outcome one given database).1
unfolding create_outcome create_code
create_whole one given database instance long h =
    whole_unless (create_code one database) _ database (λ zero_is. done zero_is) h
  where
    done : create_code one database ≡ 0
        → IsWholeDatabase (with_counter_grown (with_entity one (new_entity one.class given) database))
    done e =
        let k = created_if (not (is_class one.class)) (is_unit_made one.class) (is_held one database) (nat_le MOST_ENTITIES (length database)) e in
        let r = row_of one.class (not_false (is_class one.class) k.0) in
        let c = class_is one.class r.row r.is in
        let shaped = create_shaped r.row.attributes given (omega (arith, c.created, long)) in
        let entry = entry_is one r.row _ r.is shaped instance in
        grown_whole _
        (with_entity_whole one (new_entity one.class given) database h
        (subst (λ v. IsWholeEntry one v) (sym (new_values one.class r.row given r.is)) entry)
        (let full = k.1 in grind (arith, nat_tests)))

pub delete_whole : (one : EntityId) (database : Database) → IsWholeDatabase database
    → IsWholeDatabase (delete_outcome one database).1
unfolding delete_outcome
delete_whole one database h =
    whole_unless (delete_code one database) _ database
    (λ zero_is. grown_whole _ (without_entity_whole one database h)) h

settable_if : (unknown absent fixed short : Bool)
    → first_code ((unknown, 4) ∷ (absent, 5) ∷ (fixed, 9) ∷ (short, 3) ∷ []) ≡ 0
    → (unknown ≡ false) × (short ≡ false)
settable_if true absent fixed short h = absurd (omega (arith, h))
settable_if false true fixed short h = absurd (omega (arith, h))
settable_if false false true short h = absurd (omega (arith, h))
settable_if false false false true h = absurd (omega (arith, h))
settable_if false false false false h = (refl, refl)

pub class_width : (class mask : ℕ) (row : Row) → class_row class ≡ Some row
    → of_class width_of class mask ≡ width_where (λ one. has mask one.number) row.attributes
unfolding width_of
class_width class mask row is = ap (λ o. option_map_or (λ (row : Row). width_of row mask) o 0) is

pub set_whole : (one : EntityId) (mask : ℕ) (given : List ℕ) (database : Database)
    → IsWholeDatabase database → IsWholeDatabase (set_outcome one mask given database).database
unfolding set_outcome set_code set_effect
set_whole one mask given database h =
    whole_unless (set_code one mask given database) _ database (λ zero_is. done zero_is) h
  where
    done : set_code one mask given database ≡ 0 → IsWholeDatabase (set_effect one mask given database)
    done e =
        let k = settable_if _ _ _ (nat_lt (length given) (of_class width_of one.class mask)) e in
        let r = row_of one.class (not_false (is_class one.class) k.0) in
        let wide = class_width one.class mask r.row r.is in
        let enough : width_where (λ one. has mask one.number) r.row.attributes ≤ length given = (let short = k.1 in grind (arith, nat_tests)) in
        let after = with_values_whole one r.row (set_values mask given (values_of one database)) database h r.is (set_shaped mask r.row.attributes (values_of one database) given enough (values_shaped one r.row database h r.is)) in
        elim (is_counter_set one mask) as (λ b. IsWholeDatabase (cond b (with_values one (set_values mask given (values_of one database)) database) (with_counter_grown (with_values one (set_values mask given (values_of one database)) database)))) [
          | true ↦ after
          | false ↦ grown_whole _ after
        ]

-- ---- a value that the unit measured

-- the attribute is there, may not be written, and has this width
abbrev pub may_be_sensed : List ℕ → Option Attribute → Bool
may_be_sensed value o =
    option_map_or (λ (one : Attribute). not one.written && one.width == length value) o false

pub value_shaped : (number : ℕ) (value : List ℕ) (attributes : List Attribute) (values : Values)
    → IsShaped attributes values → may_be_sensed value (attribute_in attributes number) ≡ true
    → IsShaped attributes (with_value number value values)
value_shaped number value [] [] s h = absurd (false≢true h)
value_shaped number value [] (v ∷ vs) s h = absurd s
value_shaped number value (one ∷ rest) [] s h = absurd s
value_shaped number value (one ∷ rest) (v ∷ vs) s h =
    go (one.number == number) (v.0 == number) (ap (λ n. n == number) s.0) h
    (λ k. value_shaped number value rest vs s.2 k)
  where
    go : (a b : Bool) → b ≡ a → may_be_sensed value (cond a (Some one) (attribute_in rest number)) ≡ true
        → (may_be_sensed value (attribute_in rest number) ≡ true → IsShaped rest (with_value number value vs))
        → IsShaped (one ∷ rest) (cond b ((v.0, value) ∷ vs) (v ∷ with_value number value vs))
    go true true e k later = (s.0, sym (eqb-true one.width (length value) (and_parts (not one.written) (one.width == length value) k).1), s.2)
    go false false e k later = (s.0, s.1, later k)
    go true false e k later = absurd (cc)
    go false true e k later = absurd (cc)

-- of a class that is there
pub sensed_row : (value : List ℕ) (number class : ℕ) (o : Option Row) → class_row class ≡ o
    → option_map_or (λ (row : Row). may_be_sensed value (attribute_in row.attributes number)) o false ≡ true
    → (row : Row) × (class_row class ≡ Some row) × (may_be_sensed value (attribute_in row.attributes number) ≡ true)
sensed_row value number class None e h = absurd (false≢true h)
sensed_row value number class (Some row) e h = (row, e, h)

pub sense_whole : (one : EntityId) (number : ℕ) (value : List ℕ) (database : Database)
    → IsWholeDatabase database → IsWholeDatabase (sense_outcome one number value database).1
unfolding sense_outcome may_sense
sense_whole one number value database h =
    go (may_sense one number value database) (is_sensed one number value database) refl
  where
    go : (may same : Bool) → may_sense one number value database ≡ may
        → IsWholeDatabase (cond {A = Sensed × Database} (not may) (NotAllowed, database) (cond same (Same, database) (Changed, with_values one (with_value number value (values_of one database)) database))).1
    go false same e = h
    go true true e = h
    go true false e =
        let r = sensed_row value number one.class (class_row one.class) refl (and_parts _ _ e).1 in
        with_values_whole one r.0 (with_value number value (values_of one database)) database h r.1
        (value_shaped number value r.0.attributes (values_of one database) (values_shaped one r.0 database h r.1) r.2)

-- ---- the first database

is_shaped : List Attribute → Values → Bool
is_shaped [] [] = true
is_shaped [] (v ∷ vs) = false
is_shaped (one ∷ rest) [] = false
is_shaped (one ∷ rest) (v ∷ vs) =
    (v.0 == one.number) && ((length v.1 == one.width) && is_shaped rest vs)

shaped_if : (attributes : List Attribute) (values : Values) → is_shaped attributes values ≡ true
    → IsShaped attributes values
unfolding is_shaped
shaped_if [] [] h = tt
shaped_if [] (v ∷ vs) h = absurd (false≢true h)
shaped_if (one ∷ rest) [] h = absurd (false≢true h)
shaped_if (one ∷ rest) (v ∷ vs) h =
    let a = and_parts (v.0 == one.number) ((length v.1 == one.width) && is_shaped rest vs) h in
    let b = and_parts (length v.1 == one.width) (is_shaped rest vs) a.1 in
    (eqb-true v.0 one.number a.0, eqb-true (length v.1) one.width b.0, shaped_if rest vs b.1)

before : EntityId → List EntityId → Bool
before one [] = true
before one (other ∷ rest) = is_lt (entity_cmp one other) && before one rest

less_if : (r : Ordering) → is_lt r ≡ true → r ≡ Less
less_if Less h = refl
less_if Equal h = absurd (false≢true h)
less_if Greater h = absurd (false≢true h)

before_if : (one : EntityId) (copy : Copy) → before one (map (λ (e : EntityId × Values). e.0) copy) ≡ true
    → ComesBefore one copy
unfolding before
before_if one [] h = tt
before_if one (e ∷ es) h =
    let a = and_parts (is_lt (entity_cmp one e.0)) (before one (map (λ (e : EntityId × Values). e.0) es)) h in
    (less_if (entity_cmp one e.0) a.0, before_if one es a.1)

-- the row of a class, and an empty one where there is none
abbrev row_at : ℕ → Row
row_at class = option_map_or (λ row. row) (class_row class) (record { number = class; maker = by_unit; attributes = [] })

-- the class of the software images
unfoldable pub image_row : Row
image_row = row_at 7

pub image_row_is : class_row 7 ≡ Some image_row
unfolding image_row class_row class_table
image_row_is = refl

-- one entity before the others
put_first : (one : EntityId) (values : Values) (rest : Copy) → IsWholeEntry one values
    → before one (map (λ (e : EntityId × Values). e.0) rest) ≡ true → IsWhole rest
    → IsWhole ((one, values) ∷ rest)
put_first one values rest entry first h = (entry, before_if one rest first, h)

-- an entity of a class of the table
made : (one : EntityId) (values : Values) → class_row one.class ≡ Some (row_at one.class)
    → is_shaped (row_at one.class).attributes values ≡ true → one.instance < 2 ^ 16
    → IsWholeEntry one values
made one values is shaped instance =
    entry_is one (row_at one.class) values is
    (shaped_if (row_at one.class).attributes values shaped) instance

pub first_with_whole : (image image' : Values) → IsShaped image_row.attributes image
    → IsShaped image_row.attributes image' → IsWholeDatabase (first_with image image')
unfolding first_with before is_shaped class_row class_table zeros_of ethernet onu_g onu2_g t_cont image_row
first_with_whole image image' a b =
    let c10 : Copy = (entity 262 32770, t_cont) ∷ [] in
    let h10 : IsWhole c10 = put_first (entity 262 32770) t_cont [] (made (entity 262 32770) t_cont refl refl (omega arith)) refl tt in
    let c9 : Copy = (entity 262 32769, t_cont) ∷ c10 in
    let h9 : IsWhole c9 = put_first (entity 262 32769) t_cont c10 (made (entity 262 32769) t_cont refl refl (omega arith)) refl h10 in
    let c8 : Copy = (entity 257 0, onu2_g) ∷ c9 in
    let h8 : IsWhole c8 = put_first (entity 257 0) onu2_g c9 (made (entity 257 0) onu2_g refl refl (omega arith)) refl h9 in
    let c7 : Copy = (entity 256 0, onu_g) ∷ c8 in
    let h7 : IsWhole c7 = put_first (entity 256 0) onu_g c8 (made (entity 256 0) onu_g refl refl (omega arith)) refl h8 in
    let c6 : Copy = (entity 11 260, ethernet) ∷ c7 in
    let h6 : IsWhole c6 = put_first (entity 11 260) ethernet c7 (made (entity 11 260) ethernet refl refl (omega arith)) refl h7 in
    let c5 : Copy = (entity 11 259, ethernet) ∷ c6 in
    let h5 : IsWhole c5 = put_first (entity 11 259) ethernet c6 (made (entity 11 259) ethernet refl refl (omega arith)) refl h6 in
    let c4 : Copy = (entity 11 258, ethernet) ∷ c5 in
    let h4 : IsWhole c4 = put_first (entity 11 258) ethernet c5 (made (entity 11 258) ethernet refl refl (omega arith)) refl h5 in
    let c3 : Copy = (entity 11 257, ethernet) ∷ c4 in
    let h3 : IsWhole c3 = put_first (entity 11 257) ethernet c4 (made (entity 11 257) ethernet refl refl (omega arith)) refl h4 in
    let c2 : Copy = (entity 7 1, image') ∷ c3 in
    let h2 : IsWhole c2 = put_first (entity 7 1) image' c3 (entry_is (entity 7 1) (row_at 7) image' refl b (omega arith)) refl h3 in
    let c1 : Copy = (entity 7 0, image) ∷ c2 in
    let h1 : IsWhole c1 = put_first (entity 7 0) image c2 (entry_is (entity 7 0) (row_at 7) image refl a (omega arith)) refl h2 in
    let c0 : Copy = (entity 2 0, zeros_of 2) ∷ c1 in
    let h0 : IsWhole c0 = put_first (entity 2 0) (zeros_of 2) c1 (made (entity 2 0) (zeros_of 2) refl refl (omega arith)) refl h1 in
    record { whole = h0; few = omega arith }

pub reset_whole : (database : Database) → IsWholeDatabase database
    → IsWholeDatabase (reset database)
unfolding reset
reset_whole database h =
    first_with_whole (values_of (image_entity 0) database) (values_of (image_entity 1) database)
    (values_shaped (image_entity 0) image_row database h image_row_is)
    (values_shaped (image_entity 1) image_row database h image_row_is)

pub version_wide : (o : Option SlotView) → ((view : SlotView) → o ≡ Some view → length view.version ≡ 14)
    → length (option_map_or (λ (view : SlotView). view.version) o (replicate 14 0)) ≡ 14
version_wide None h = refl
version_wide (Some view) h = h view refl

pub image_wide : (number : ℕ) (software : Software)
    → length (option_map_or (λ (view : SlotView). view.version) (slot number software) (replicate 14 0)) ≡ 14
    → IsShaped image_row.attributes (image_values number software)
unfolding image_row class_row class_table image_values
image_wide number software wide = (refl, wide, (refl, refl, (refl, refl, (refl, refl, tt))))

pub first_whole : (software : Software) → HasVersions software → IsWholeDatabase (first software)
unfolding first
first_whole software h =
    first_with_whole (image_values 0 software) (image_values 1 software)
    (image_wide 0 software (version_wide software.first h.first))
    (image_wide 1 software (version_wide software.second h.second))

-- ---- the software images

-- a database stays whole where the software images are shown
pub with_software_whole : (software : Software) (database : Database) → HasVersions software
    → IsWholeDatabase database → IsWholeDatabase (with_software software database)
unfolding with_software
with_software_whole software database v h =
    with_values_whole (image_entity 1) image_row (image_values 1 software)
    (with_values (image_entity 0) (image_values 0 software) database)
    (with_values_whole (image_entity 0) image_row (image_values 0 software) database h image_row_is
    (image_wide 0 software (version_wide software.first v.first)))
    image_row_is (image_wide 1 software (version_wide software.second v.second))

image_version_wide : (image : List ℕ) → length (version image) ≡ 14
unfolding version
image_version_wide image =
    let a = length-append image (replicate 14 0) in
    let b = length-replicate {A = ℕ} 14 0 in
    length-take-le 14 (image ++ replicate 14 0) (omega (arith, a, b))

view_wide : (o : Option (List ℕ)) (view : SlotView) → option_map view_of o ≡ Some view
    → length view.version ≡ 14
view_wide None view e = absurd (cc)
view_wide (Some image) view e =
    ap (λ (v : SlotView). length v.version) (sym (same_Some (view_of image) view e))
    ∙ image_version_wide image

-- the images of a store are shown with versions of that width
pub slots_versions : (active : ℕ) (slots : SlotPair) → HasVersions (software_in active slots)
slots_versions active slots = record {
  first = λ view e. view_wide slots.first view e;
  second = λ view e. view_wide slots.second view e;
}
