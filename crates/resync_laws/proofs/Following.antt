-- Each change of the manager, at the unit and in its copy.
use Rattle.std.proofs.Common.{◌≡◌, ◌≢◌, ℕ, ◌<◌, ◌≤◌, ◌^◌, Bool, true, false, cond, not, ◌&&◌, List, [], ◌∷◌, length, Option, Some, None, is_some, refl, sym, ap, subst, ◌∙◌, arith, nat_le, nat_lt, ◌==◌}
use Rattle.std.proofs.lemmas.Bool.{eqb-true, and_parts, false≢true}
use Rattle.std.proofs.lemmas.Bool.Decides.{nat_tests}
use Rattle.std.specs.Option.{option_map_or}
use Rattle.std.specs.Map.{lookup, set_value}
use Rattle.std.specs.BTreeMap.{insert_entry, is_at}
use Rattle.omci_types.specs.declared.EntityId.{EntityId}
use Rattle.class_spec.specs.declared.TheConstants.{ONU_DATA}
use Rattle.class_spec.specs.Classes.{Row, class_row, class_table}
use Rattle.class_spec.specs.Masks.{has, width_where, width_of, unknown_mask, fixed_mask}
use Rattle.mib_spec.specs.declared.TheConstants.{MOST_ENTITIES}
use Rattle.mib_spec.specs.Database.{Database, Managed, Values, entity_cmp, managed_of, is_held, with_entity, without_entity, zeros_of, value_at, with_value, byte_of, values_of, with_values, counter, with_counter, bump, with_counter_grown}
use Rattle.mib_spec.specs.Requests.{first_code, unless_refused, is_class, is_unit_made, create_values, new_entity, create_code, create_outcome, delete_code, delete_outcome, of_class, set_values, set_code, is_onu_data, is_counter_set, set_effect, set_outcome}
use Rattle.upload_spec.specs.Pieces.{Copy, without_makers, values_named}
use Rattle.upload_spec.specs.Copies.{copied, is_copied, copied_values, with_copied, without_copied, overlay, attributes_of, with_overlay, copied_counter, copy_counter, after_create, is_settable, after_set, after_delete, copy_grown}
use Rattle.mib_laws.proofs.Others.{other_with_entity, other_without_entity}
use Rattle.upload_laws.specs.Shaped.{IsShaped, IsWholeEntry}
use Rattle.manager_spec.specs.Copying.{grown_unless}
use Rattle.resync_laws.specs.Databases.{IsWholeDatabase}
use Rattle.resync_laws.specs.Agreeing.{ValuesAgree, Agrees, IsCopied}
use Rattle.resync_laws.proofs.Tables.{class_is}
use Rattle.resync_laws.proofs.Whole.{entry_is, whole_insert, whole_remove, whole_found}
use Rattle.resync_laws.proofs.Databases.{create_shaped, set_shaped, managed_whole, with_values_whole, with_entity_whole, without_entity_whole, onu_data_row, onu_data_is, counter_shaped, HasRow, row_of, same_row, new_values, not_false, class_width}
use Rattle.resync_laws.proofs.Agreeing.{values_same, value_agrees, set_agrees, overlay_set, agrees_insert, agrees_remove, agrees_found, insert_is_set, agrees_set, agrees_itself}

-- ---- other values of an entity on both sides

pub row_attributes : (class : ℕ) (row : Row) → class_row class ≡ Some row → attributes_of class ≡ row.attributes
row_attributes class row is = ap (λ o. option_map_or (λ (row : Row). row.attributes) o []) is

-- an entity that both sides have
pub record IsThere (one : EntityId) (database : Database) (copy : Copy) : Type 0 where
  pub managed : Managed
  pub held : managed_of one database ≡ Some managed
  pub row : Row
  pub is : class_row one.class ≡ Some row
  pub instance : one.instance < 2 ^ 16
  pub shaped : IsShaped row.attributes managed.values
  pub values : Values
  pub found : copied one copy ≡ Some values
  pub copied_shaped : IsShaped row.attributes values
  pub agree : ValuesAgree (attributes_of one.class) managed.values values

pub there : (one : EntityId) (managed : Managed) (database : Database) (copy : Copy)
    → IsCopied database copy → managed_of one database ≡ Some managed → IsThere one database copy
unfolding managed_of copied
there one managed database copy h e =
    let entry = managed_whole one managed database h.whole e in
    let k = agrees_found one managed database copy h.agrees e in
    let other = whole_found one k.values copy h.copied k.is in
    record {
      managed = managed;
      held = e;
      row = entry.row;
      is = entry.is;
      instance = entry.instance;
      shaped = entry.shaped;
      values = k.values;
      found = k.is;
      copied_shaped = subst (λ (r : Row). IsShaped r.attributes k.values) (same_row one.class other.row entry.row other.is entry.is) other.shaped;
      agree = k.agree;
    }

pub values_held : (one : EntityId) (managed : Managed) (database : Database)
    → managed_of one database ≡ Some managed → values_of one database ≡ managed.values
unfolding values_of
values_held one managed database e = ap (λ o. option_map_or (λ (m : Managed). m.values) o (zeros_of one.class)) e

pub values_found : (one : EntityId) (values : Values) (copy : Copy) → copied one copy ≡ Some values
    → copied_values one copy ≡ values
unfolding copied_values
values_found one values copy e = ap (λ o. option_map_or (λ (v : Values). v) o []) e

-- what is there stays there, whatever its values
set_stays : (test other : EntityId → Bool) (managed : Managed) (database : Database)
    → is_some (lookup other (set_value test database managed)) ≡ is_some (lookup other database)
set_stays test other managed [] = refl
set_stays test other managed (d ∷ ds) = go (test d.0) (set_stays test other managed ds)
  where
    go : (b : Bool) → is_some (lookup other (set_value test ds managed)) ≡ is_some (lookup other ds)
        → is_some (lookup other (cond b ((d.0, managed) ∷ ds) (d ∷ set_value test ds managed)))
        ≡ is_some (cond (other d.0) (Some d.1) (lookup other ds))
    go true later = by (other d.0)
      where
        by : (b : Bool) → is_some (cond b (Some managed) (lookup other ds)) ≡ is_some (cond b (Some d.1) (lookup other ds))
        by true = refl
        by false = refl
    go false later = by (other d.0)
      where
        by : (b : Bool) → is_some (cond b (Some d.1) (lookup other (set_value test ds managed))) ≡ is_some (cond b (Some d.1) (lookup other ds))
        by true = refl
        by false = later

pub held_still : (one other : EntityId) (values : Values) (database : Database)
    → is_held other database ≡ true → is_held other (with_values one values database) ≡ true
unfolding with_values managed_of
held_still one other values database h = go (lookup (is_at (entity_cmp one)) database)
  where
    go : (o : Option Managed) → is_some (lookup (is_at (entity_cmp other)) (option_map_or (λ (m : Managed). set_value (is_at (entity_cmp one)) database (record m { values = values })) o database)) ≡ true
    go None = h
    go (Some m) = set_stays (is_at (entity_cmp one)) (is_at (entity_cmp other)) (record m { values = values }) database ∙ h

pub revalued : (one : EntityId) (database : Database) (copy : Copy) (k : IsThere one database copy)
    (held copies : Values) → IsCopied database copy → IsShaped k.row.attributes held
    → IsShaped k.row.attributes copies → ValuesAgree (attributes_of one.class) held copies
    → IsCopied (with_values one held database) (with_copied one copies copy)
unfolding with_values with_copied copied
revalued one database copy k held copies h s r agree = record {
  whole = with_values_whole one k.row held database h.whole k.is s;
  counted = held_still one ONU_DATA held database h.counted;
  copied = whole_insert one copies copy (entry_is one k.row copies k.is r k.instance) h.copied;
  agrees =
      subst (λ o. Agrees (option_map_or (λ (m : Managed). set_value (is_at (entity_cmp one)) database (record m { values = held })) o database) (insert_entry entity_cmp copy one copies)) (sym k.held)
      (subst (Agrees (set_value (is_at (entity_cmp one)) database (record k.managed { values = held }))) (sym (insert_is_set one copies k.values copy h.copied k.found))
      (agrees_set one (record k.managed { values = held }) copies database copy h.agrees agree));
}

-- ---- the counter

some_held : (o : Option Managed) → is_some o ≡ true → (m : Managed) × (o ≡ Some m)
some_held None e = absurd (false≢true e)
some_held (Some m) e = (m, refl)

pub there_too : (one : EntityId) (database : Database) (copy : Copy) → IsCopied database copy
    → is_held one database ≡ true → IsThere one database copy
there_too one database copy h e =
    let m = some_held (managed_of one database) e in there one m.0 database copy h m.1

-- the one value of ONU data on both sides
record IsOneByte (held copies : Values) : Type 0 where
  some : is_some (value_at 1 copies) ≡ true
  same : value_at 1 held ≡ value_at 1 copies

one_byte : (held copies : Values) → IsShaped onu_data_row.attributes held
    → IsShaped onu_data_row.attributes copies → ValuesAgree onu_data_row.attributes held copies
    → IsOneByte held copies
one_byte [] copies s r h = absurd s
one_byte (v ∷ vs) [] s r h = absurd r
one_byte (v ∷ w ∷ vs) (c ∷ cs) s r h = absurd s.2
one_byte (v ∷ []) (c ∷ d ∷ cs) s r h = absurd r.2
one_byte (v ∷ []) (c ∷ []) s r h =
    let mine : (v.0 == 1) ≡ true = (let a = s.0 in grind (arith, nat_tests)) in
    let theirs : (c.0 == 1) ≡ true = (let a = r.0 in grind (arith, nat_tests)) in
    record {
      some = ap (λ b. is_some (cond b (Some c.1) None)) theirs;
      same =
          ap (λ b. cond b (Some v.1) None) mine ∙ ap (λ x. Some x) (h.1 refl)
          ∙ sym (ap (λ b. cond b (Some c.1) None) theirs);
    }

-- ONU data on both sides
record Counts (database : Database) (copy : Copy) : Type 0 where
  k : IsThere ONU_DATA database copy
  byte : IsOneByte k.managed.values k.values
  held : values_of ONU_DATA database ≡ k.managed.values
  found : copied_values ONU_DATA copy ≡ k.values
  row : k.row ≡ onu_data_row

counts : (database : Database) (copy : Copy) → IsCopied database copy → Counts database copy
counts database copy h =
    let k = there_too ONU_DATA database copy h h.counted in
    let row = same_row ONU_DATA.class k.row onu_data_row k.is onu_data_is in
    record {
      k = k;
      byte =
          one_byte k.managed.values k.values
          (subst (λ (r : Row). IsShaped r.attributes k.managed.values) row k.shaped)
          (subst (λ (r : Row). IsShaped r.attributes k.values) row k.copied_shaped)
          (subst (λ l. ValuesAgree l k.managed.values k.values) (row_attributes ONU_DATA.class onu_data_row onu_data_is) k.agree);
      held = values_held ONU_DATA k.managed database k.held;
      found = values_found ONU_DATA k.values copy k.found;
      row = row;
    }

pub counters_agree : (database : Database) (copy : Copy) → IsCopied database copy
    → counter database ≡ copy_counter copy
unfolding counter copy_counter copied_counter
counters_agree database copy h =
    let c = counts database copy h in
    ap (λ (v : Values). byte_of (value_at 1 v)) c.held ∙ ap byte_of c.byte.same
    ∙ ap (λ (v : Values). byte_of (value_at 1 v)) (sym c.found)

grown_by : (database : Database) (copy : Copy) (count : ℕ) → IsCopied database copy
    → (held : Values) → values_of ONU_DATA database ≡ held → (copies : Values)
    → copied_values ONU_DATA copy ≡ copies
    → IsCopied (with_values ONU_DATA (with_value 1 (count ∷ []) held) database) (with_copied ONU_DATA (with_value 1 (count ∷ []) copies) copy)
grown_by database copy count h held e copies f =
    let c = counts database copy h in
    let k = c.k in
    let shape : (v : Values) → IsShaped k.row.attributes v → IsShaped k.row.attributes (with_value 1 (count ∷ []) v) = λ v s.
    subst (λ (r : Row). IsShaped r.attributes (with_value 1 (count ∷ []) v)) (sym c.row)
    (counter_shaped count v (subst (λ (r : Row). IsShaped r.attributes v) c.row s)) in
    let done = revalued ONU_DATA database copy k (with_value 1 (count ∷ []) k.managed.values) (with_value 1 (count ∷ []) k.values) h
    (shape k.managed.values k.shaped) (shape k.values k.copied_shaped)
    (value_agrees 1 (count ∷ []) (attributes_of ONU_DATA.class) k.managed.values k.values k.agree) in
    subst (λ (v : Values). IsCopied (with_values ONU_DATA (with_value 1 (count ∷ []) v) database) (with_copied ONU_DATA (with_value 1 (count ∷ []) copies) copy)) (sym c.held ∙ e)
    (subst (λ (v : Values). IsCopied (with_values ONU_DATA (with_value 1 (count ∷ []) k.managed.values) database) (with_copied ONU_DATA (with_value 1 (count ∷ []) v) copy)) (sym c.found ∙ f) done)

pub grown_copied : (database : Database) (copy : Copy) → IsCopied database copy
    → IsCopied (with_counter_grown database) (copy_grown copy)
unfolding with_counter_grown with_counter copy_grown copied_counter
grown_copied database copy h =
    let c = counts database copy h in
    let some : is_some (value_at 1 (copied_values ONU_DATA copy)) ≡ true = ap (λ (v : Values). is_some (value_at 1 v)) c.found ∙ c.byte.some in
    let after : Database = with_values ONU_DATA (with_value 1 (bump (counter database) ∷ []) (values_of ONU_DATA database)) database in
    subst (λ b. IsCopied after (cond b (with_copied ONU_DATA (with_value 1 (bump (copy_counter copy) ∷ []) (copied_values ONU_DATA copy)) copy) copy)) (sym some)
    (subst (λ n. IsCopied after (with_copied ONU_DATA (with_value 1 (bump n ∷ []) (copied_values ONU_DATA copy)) copy)) (counters_agree database copy h)
    (grown_by database copy (bump (counter database)) h (values_of ONU_DATA database) refl (copied_values ONU_DATA copy) refl))

-- ---- what isn't ONU data

unit_makes : is_unit_made ONU_DATA.class ≡ true
unfolding class_row class_table
unit_makes = refl

other_class : (one : EntityId) → is_unit_made one.class ≡ false → one ≢ ONU_DATA
other_class one e same =
    false≢true (sym e ∙ ap (λ (x : EntityId). is_unit_made x.class) same ∙ unit_makes)

other_than : (one : EntityId) → is_unit_made one.class ≡ false → is_onu_data one ≡ false
other_than one e = go (is_onu_data one) refl
  where
    go : (b : Bool) → is_onu_data one ≡ b → b ≡ false
    go false is = refl
    go true is =
        let class = eqb-true one.class ONU_DATA.class (and_parts (one.class == ONU_DATA.class) (one.instance == ONU_DATA.instance) is).0 in
        absurd (false≢true (sym e ∙ ap is_unit_made class ∙ unit_makes))

-- ---- create

created_if : (unknown unit there full : Bool)
    → first_code ((unknown, 4) ∷ (unit, 2) ∷ (there, 7) ∷ (full, 1) ∷ []) ≡ 0
    → (unknown ≡ false) × (unit ≡ false) × (full ≡ false)
created_if true unit there full h = absurd (omega (arith, h))
created_if false true there full h = absurd (omega (arith, h))
created_if false false true full h = absurd (omega (arith, h))
created_if false false false true h = absurd (omega (arith, h))
created_if false false false false h = (refl, refl, refl)

entity_copied : (one : EntityId) (given : List ℕ) (database : Database) (copy : Copy) (r : HasRow one.class)
    → one.instance < 2 ^ 16 → 32 ≤ length given → IsCopied database copy → one ≢ ONU_DATA
    → length database < MOST_ENTITIES
    → IsCopied (with_entity one (new_entity one.class given) database) (with_copied one (create_values (attributes_of one.class) given) copy)
unfolding with_copied with_entity
entity_copied one given database copy r instance long h other room =
    let c = class_is one.class r.row r.is in
    let shaped = create_shaped r.row.attributes given (let w = c.created in omega (arith, w, long)) in
    let attributes = row_attributes one.class r.row r.is in
    let mine : (new_entity one.class given).values ≡ create_values r.row.attributes given = new_values one.class r.row given r.is in
    let theirs : create_values r.row.attributes given ≡ create_values (attributes_of one.class) given = ap (λ l. create_values l given) (sym attributes) in
    let entry = entry_is one r.row (create_values r.row.attributes given) r.is shaped instance in
    record {
      whole = with_entity_whole one (new_entity one.class given) database h.whole (subst (IsWholeEntry one) (sym mine) entry) room;
      counted = ap is_some (other_with_entity one ONU_DATA other (new_entity one.class given) database) ∙ h.counted;
      copied = whole_insert one (create_values (attributes_of one.class) given) copy (subst (IsWholeEntry one) theirs entry) h.copied;
      agrees = agrees_insert one (new_entity one.class given) (create_values (attributes_of one.class) given) database copy h.agrees
          (subst (λ l. ValuesAgree l (new_entity one.class given).values (create_values (attributes_of one.class) given)) (sym attributes)
          (subst (λ (v : Values). ValuesAgree r.row.attributes v (create_values (attributes_of one.class) given)) (sym mine)
          (subst (ValuesAgree r.row.attributes (create_values r.row.attributes given)) theirs (values_same r.row.attributes (create_values r.row.attributes given) shaped))));
    }

both_true : (a b : Bool) → a ≡ true → b ≡ false → (a && not b) ≡ true
both_true true false e f = refl
both_true true true e f = absurd (cc)
both_true false b e f = absurd (cc)

pub created_copied : (one : EntityId) (given : List ℕ) (database : Database) (copy : Copy)
    → one.instance < 2 ^ 16 → 32 ≤ length given → IsCopied database copy
    → (create_outcome one given database).0 ≡ 0
    → IsCopied (create_outcome one given database).1 (copy_grown (after_create one given copy))
unfolding create_outcome create_code after_create
created_copied one given database copy instance long h code =
    let k = created_if (not (is_class one.class)) (is_unit_made one.class) (is_held one database) (nat_le MOST_ENTITIES (length database)) code in
    let known = not_false (is_class one.class) k.0 in
    let made : Database = with_counter_grown (with_entity one (new_entity one.class given) database) in
    let room : length database < MOST_ENTITIES = (let full = k.2 in grind (arith, nat_tests)) in
    subst (λ n. IsCopied (unless_refused n made database) (copy_grown (cond (is_class one.class && not (is_onu_data one)) (with_copied one (create_values (attributes_of one.class) given) copy) copy))) (sym code)
    (subst (λ b. IsCopied made (copy_grown (cond b (with_copied one (create_values (attributes_of one.class) given) copy) copy))) (sym (both_true (is_class one.class) (is_onu_data one) known (other_than one k.1)))
    (grown_copied (with_entity one (new_entity one.class given) database) (with_copied one (create_values (attributes_of one.class) given) copy)
    (entity_copied one given database copy (row_of one.class known) instance long h (other_class one k.1) room)))

-- ---- delete

deleted_if : (unknown unit absent : Bool)
    → first_code ((unknown, 4) ∷ (unit, 2) ∷ (absent, 5) ∷ []) ≡ 0 → unit ≡ false
deleted_if true unit absent h = absurd (omega (arith, h))
deleted_if false true absent h = absurd (omega (arith, h))
deleted_if false false absent h = refl

gone_copied : (one : EntityId) (database : Database) (copy : Copy) → IsCopied database copy
    → one ≢ ONU_DATA → IsCopied (without_entity one database) (without_copied one copy)
unfolding without_copied without_entity
gone_copied one database copy h other = record {
  whole = without_entity_whole one database h.whole;
  counted = ap is_some (other_without_entity one ONU_DATA other database) ∙ h.counted;
  copied = whole_remove (is_at (entity_cmp one)) copy h.copied;
  agrees = agrees_remove (is_at (entity_cmp one)) database copy h.agrees;
}

pub deleted_copied : (one : EntityId) (database : Database) (copy : Copy) → IsCopied database copy
    → (delete_outcome one database).0 ≡ 0
    → IsCopied (delete_outcome one database).1 (copy_grown (after_delete one copy))
unfolding delete_outcome delete_code after_delete
deleted_copied one database copy h code =
    let k = deleted_if (not (is_class one.class)) (is_unit_made one.class) (not (is_held one database)) code in
    let made : Database = with_counter_grown (without_entity one database) in
    subst (λ n. IsCopied (unless_refused n made database) (copy_grown (cond (is_onu_data one) copy (without_copied one copy)))) (sym code)
    (subst (λ b. IsCopied made (copy_grown (cond b copy (without_copied one copy)))) (sym (other_than one k))
    (grown_copied (without_entity one database) (without_copied one copy) (gone_copied one database copy h (other_class one k))))

-- ---- set

settable_if : (unknown absent fixed short : Bool)
    → first_code ((unknown, 4) ∷ (absent, 5) ∷ (fixed, 9) ∷ (short, 3) ∷ []) ≡ 0
    → (unknown ≡ false) × (absent ≡ false) × (fixed ≡ false) × (short ≡ false)
settable_if true absent fixed short h = absurd (omega (arith, h))
settable_if false true fixed short h = absurd (omega (arith, h))
settable_if false false true short h = absurd (omega (arith, h))
settable_if false false false true h = absurd (omega (arith, h))
settable_if false false false false h = (refl, refl, refl, refl)

three_true : (a b c : Bool) → a ≡ true → b ≡ true → c ≡ true → (a && (b && c)) ≡ true
three_true true true true e f g = refl
three_true false b c e f g = absurd (cc)
three_true true false c e f g = absurd (cc)
three_true true true false e f g = absurd (cc)

-- the values are stored on both sides
stored_copied : (one : EntityId) (mask : ℕ) (given : List ℕ) (database : Database) (copy : Copy)
    (k : IsThere one database copy) → IsCopied database copy
    → width_where (λ a. has mask a.number) k.row.attributes ≤ length given
    → IsCopied (with_values one (set_values mask given (values_of one database)) database)
    (with_overlay one (values_named (attributes_of one.class) mask given) copy)
stored_copied one mask given database copy k h enough =
    let attributes = row_attributes one.class k.row k.is in
    let c = class_is one.class k.row k.is in
    let laid : overlay (attributes_of one.class) (copied_values one copy) (values_named (attributes_of one.class) mask given) ≡ set_values mask given k.values =
    ap (λ l. overlay l (copied_values one copy) (values_named l mask given)) attributes
    ∙ ap (λ (v : Values). overlay k.row.attributes v (values_named k.row.attributes mask given)) (values_found one k.values copy k.found)
    ∙ overlay_set k.row.attributes 1 mask k.values given c.numbered k.copied_shaped in
    let agree : ValuesAgree (attributes_of one.class) (set_values mask given k.managed.values) (set_values mask given k.values) =
    subst (λ l. ValuesAgree l (set_values mask given k.managed.values) (set_values mask given k.values)) (sym attributes)
    (set_agrees mask k.row.attributes k.managed.values k.values given k.shaped k.copied_shaped
    (subst (λ l. ValuesAgree l k.managed.values k.values) attributes k.agree)) in
    let done = revalued one database copy k (set_values mask given k.managed.values) (set_values mask given k.values) h
    (set_shaped mask k.row.attributes k.managed.values given enough k.shaped)
    (set_shaped mask k.row.attributes k.values given enough k.copied_shaped) agree in
    subst (λ (v : Values). IsCopied (with_values one (set_values mask given v) database) (with_copied one (overlay (attributes_of one.class) (copied_values one copy) (values_named (attributes_of one.class) mask given)) copy)) (sym (values_held one k.managed database k.held))
    (subst (λ (v : Values). IsCopied (with_values one (set_values mask given k.managed.values) database) (with_copied one v copy)) (sym laid) done)

pub set_copied : (one : EntityId) (mask : ℕ) (given : List ℕ) (database : Database) (copy : Copy)
    → IsCopied database copy → (set_outcome one mask given database).code ≡ 0
    → IsCopied (set_outcome one mask given database).database (grown_unless (is_counter_set one mask) (after_set one mask given copy))
unfolding set_outcome set_code set_effect after_set copied
set_copied one mask given database copy h code =
    let q = settable_if (not (is_class one.class)) (not (is_held one database)) (not (of_class unknown_mask one.class mask == 0 && of_class fixed_mask one.class mask == 0)) (nat_lt (length given) (of_class width_of one.class mask)) code in
    let k = there_too one database copy h (not_false (is_held one database) q.1) in
    let wide = class_width one.class mask k.row k.is in
    let enough : width_where (λ a. has mask a.number) k.row.attributes ≤ length given = (let short = q.3 in grind (arith, nat_tests)) in
    let known = (and_parts (of_class unknown_mask one.class mask == 0) (of_class fixed_mask one.class mask == 0) (not_false (of_class unknown_mask one.class mask == 0 && of_class fixed_mask one.class mask == 0) q.2)).0 in
    let fits : nat_le (of_class width_of one.class mask) (length given) ≡ true = grind (arith, nat_tests) in
    let may = three_true (is_copied one copy) (of_class unknown_mask one.class mask == 0) (nat_le (of_class width_of one.class mask) (length given)) (ap is_some k.found) known fits in
    let stored : Database = with_values one (set_values mask given (values_of one database)) database in
    let laid : Copy = with_overlay one (values_named (attributes_of one.class) mask given) copy in
    let after : Database = cond (is_counter_set one mask) stored (with_counter_grown stored) in
    let base = stored_copied one mask given database copy k h enough in
    subst (λ n. IsCopied (unless_refused n after database) (grown_unless (is_counter_set one mask) (cond (is_settable one mask given copy) laid copy))) (sym code)
    (subst (λ b. IsCopied after (grown_unless (is_counter_set one mask) (cond b laid copy))) (sym may)
    (elim (is_counter_set one mask) as (λ b. IsCopied (cond b stored (with_counter_grown stored)) (grown_unless b laid)) [
      | true ↦ base
      | false ↦ grown_copied stored laid base
    ]))

-- the copy that a resynchronisation gives
pub snapshot_copied : (database : Database) → IsWholeDatabase database → is_held ONU_DATA database ≡ true
    → IsCopied database (without_makers database)
snapshot_copied database whole counted = record {
  whole = whole;
  counted = counted;
  copied = whole.whole;
  agrees = agrees_itself database whole.whole;
}

-- ---- a refused request

pub refused_same : (code : ℕ) (after before : Database) → code ≢ 0
    → unless_refused code after before ≡ before
refused_same code after before other = go (code == 0) refl
  where
    go : (b : Bool) → (code == 0) ≡ b → cond b after before ≡ before
    go true is = absurd (other (eqb-true code 0 is))
    go false is = refl

pub create_refused : (one : EntityId) (given : List ℕ) (database : Database)
    → (create_outcome one given database).0 ≢ 0 → (create_outcome one given database).1 ≡ database
unfolding create_outcome
create_refused one given database other =
    refused_same (create_code one database) (with_counter_grown (with_entity one (new_entity one.class given) database)) database other

pub delete_refused : (one : EntityId) (database : Database)
    → (delete_outcome one database).0 ≢ 0 → (delete_outcome one database).1 ≡ database
unfolding delete_outcome
delete_refused one database other =
    refused_same (delete_code one database) (with_counter_grown (without_entity one database)) database other

pub set_refused : (one : EntityId) (mask : ℕ) (given : List ℕ) (database : Database)
    → (set_outcome one mask given database).code ≢ 0
    → (set_outcome one mask given database).database ≡ database
unfolding set_outcome
set_refused one mask given database other =
    refused_same (set_code one mask given database) (set_effect one mask given database) database other
