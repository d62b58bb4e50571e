-- What every database has: a counter, and the entities that the unit made.
use Rattle.std.proofs.Common.{◌≡◌, ℕ, ◌+◌, ◌<◌, Bool, true, false, cond, List, [], ◌∷◌, ◌++◌, length, take, drop, Option, Some, None, is_some, Result, Ok, Err, IfOk, OnOk, OnErr, Ordering, refl, sym, ap, subst, ◌∙◌, arith}
use Rattle.std.specs.Prelude.{◌&&◌, slice_index_or}
use Rattle.std.specs.declared.cmp.Ordering.TheVariants.{Less, Equal, Greater}
use Rattle.std.specs.Ordering.{is_eq}
use Rattle.std.specs.Option.{option_map_or}
use Rattle.std.specs.Map.{lookup}
use Rattle.std.specs.BTreeMap.{is_at}
use Rattle.std.proofs.Math.Seq.{take-add}
use Rattle.std.proofs.lemmas.Bool.{false≢true}
use Rattle.std.proofs.lemmas.List.{get_or-map, take-take, drop-take}
use Rattle.omci_types.specs.declared.EntityId.{EntityId}
use Rattle.omci_types.specs.declared.Code.{Code}
use Rattle.omci_core.specs.declared.errors.NoMemory.{NoMemory}
use Rattle.class_spec.specs.declared.TheConstants.{ONU_DATA}
use Rattle.class_spec.specs.Classes.{Row, Attribute, class_row, class_table}
use Rattle.entity_classes.specs.Rule.{whole_width}
use Rattle.mib_spec.specs.Database.{Database, Managed, Values, entity_cmp, managed_of, value_at, bytes_of, counter, bump, is_by_unit, is_made_by_unit, has_unit_entities}
use Rattle.mib_spec.specs.Requests.{create_outcome}
use Rattle.mib_laws.specs.Counted.{IsCounted}
use Rattle.mib_laws.proofs.Others.{entity_exact}
use Rattle.mib_laws.proofs.Counting.{create_counts}
use Rattle.mib_laws.proofs.UnitEntities.{keeps_create}
use Rattle.mib_store.specs.declared.entry.Entry.{Entry}
use Rattle.mib_store.specs.Layout.{cut}
use Rattle.mib_store.specs.Entries.{database_of, held_of, held_in, maker_of, values_in, width_in, entry_at, no_entry}
use Rattle.mib_store.proofs.Effects.{values_in_row}

abbrev managed_or : Managed → Option Managed → Managed
managed_or default None = default
managed_or default (Some managed) = managed

-- the values of an entity that is found stand in bytes
found_values : (es : List Entry) (q : EntityId) (m : Managed) → lookup (is_at (entity_cmp q)) (database_of es) ≡ Some m → (bytes : List ℕ) × (m.values ≡ values_in q.class bytes)
found_values [] q m h = absurd cc
found_values (e ∷ es) q m h = go (entity_cmp q e.entity) refl h (found_values es q m)
  where
    find : Option Managed
    find = lookup (is_at (entity_cmp q)) (database_of es)

    go : (r : Ordering) → entity_cmp q e.entity ≡ r → cond (is_eq (entity_cmp q e.entity)) (Some (held_of e).1) find ≡ Some m → (find ≡ Some m → (bytes : List ℕ) × (m.values ≡ values_in q.class bytes)) → (bytes : List ℕ) × (m.values ≡ values_in q.class bytes)
    go Less is h later = later (sym (ap (λ r. cond (is_eq r) (Some (held_of e).1) find) is) ∙ h)
    go Equal is h later =
        let same : Some (held_of e).1 ≡ Some m = sym (ap (λ r. cond (is_eq r) (Some (held_of e).1) find) is) ∙ h in
        (e.values, ap (λ o. (managed_or m o).values) (sym same) ∙ ap (λ (x : EntityId). values_in x.class e.values) (sym (entity_exact q e.entity is)))
    go Greater is h later = later (sym (ap (λ r. cond (is_eq r) (Some (held_of e).1) find) is) ∙ h)

counter_value : (bytes : List ℕ) → is_some (value_at 1 (values_in ONU_DATA.class bytes)) ≡ true
unfolding values_in class_row class_table
counter_value bytes = refl

first_of : (a b : Bool) → (a && b) ≡ true → a ≡ true
first_of true b h = refl
first_of false b h = h

-- a database with the entities that the unit made has a counter
pub is_counted : (es : List Entry) → has_unit_entities (database_of es) ≡ true → IsCounted (database_of es)
unfolding has_unit_entities managed_of
is_counted es h = go (managed_of ONU_DATA (database_of es)) refl (first_of (is_made_by_unit (database_of es) ONU_DATA) _ h)
  where
    go : (found : Option Managed) → managed_of ONU_DATA (database_of es) ≡ found → is_made_by_unit (database_of es) ONU_DATA ≡ true → IsCounted (database_of es)
    go None is by = absurd (false≢true (sym (ap (λ o. option_map_or (λ (m : Managed). is_by_unit m.maker) o false) is) ∙ by))
    go (Some m) is by =
        let v = found_values es ONU_DATA m is in
        record { managed = m; here = is; value = ap (λ (vs : Values). is_some (value_at 1 vs)) v.1 ∙ counter_value v.0 }

-- all values of an entity, one after the other
whole_bytes : (attributes : List Attribute) (bytes : List ℕ) → take (whole_width attributes) bytes ≡ bytes_of (cut attributes bytes)
whole_bytes [] bytes = refl
whole_bytes (one ∷ rest) bytes = take-add one.width (whole_width rest) bytes ∙ ap (λ v. take one.width bytes ++ v) (whole_bytes rest (drop one.width bytes))

pub values_seen : (es : List Entry) (place : ℕ) (other : EntityId × Managed) (r : Row) → place < length es → class_row (entry_at es place).entity.class ≡ Some r
    → take (whole_width r.attributes) (entry_at es place).values ≡ bytes_of (slice_index_or (database_of es) place other).1.values
values_seen es place other r lt row =
    let e : Entry = entry_at es place in
    whole_bytes r.attributes e.values ∙ ap bytes_of (sym (values_in_row e.entity.class r e.values row)) ∙ ap (λ (p : EntityId × Managed). bytes_of p.1.values) (sym (get_or-map held_of es place no_entry other lt))

pub no_values_seen : (es : List Entry) (place : ℕ) (other : EntityId × Managed) → place < length es → class_row (entry_at es place).entity.class ≡ None
    → ◌≡◌ {A = List ℕ} [] (bytes_of (slice_index_or (database_of es) place other).1.values)
unfolding values_in
no_values_seen es place other lt row =
    let e : Entry = entry_at es place in
    ap (λ o. bytes_of (option_map_or (λ (r : Row). cut r.attributes e.values) o [])) (sym row) ∙ ap (λ (p : EntityId × Managed). bytes_of p.1.values) (sym (get_or-map held_of es place no_entry other lt))

-- they tell the values
pub whole_cut : (attributes : List Attribute) (bytes : List ℕ) → cut attributes bytes ≡ cut attributes (take (whole_width attributes) bytes)
whole_cut [] bytes = refl
whole_cut (one ∷ rest) bytes =
    let width : ℕ = one.width + whole_width rest in
    let head : take one.width (take width bytes) ≡ take one.width bytes = take-take one.width width bytes (omega arith) in
    let tail : drop one.width (take width bytes) ≡ take (whole_width rest) (drop one.width bytes) = drop-take one.width (whole_width rest) bytes in
    ap (λ (vs : Values). (one.number, take one.width bytes) ∷ vs) (whole_cut rest (drop one.width bytes))
    ∙ ap (λ (v : List ℕ). (one.number, v) ∷ cut rest (take (whole_width rest) (drop one.width bytes))) (sym head)
    ∙ ap (λ (v : List ℕ). (one.number, take one.width (take width bytes)) ∷ cut rest v) (sym tail)

pub held_seen : (es : List Entry) (place : ℕ) (other : EntityId × Managed) (r : Row) → place < length es → class_row (entry_at es place).entity.class ≡ Some r
    → slice_index_or (database_of es) place other ≡ held_in (slice_index_or (database_of es) place other).0 (take (whole_width r.attributes) (entry_at es place).values)
held_seen es place other r lt row =
    let e : Entry = entry_at es place in
    let bytes : List ℕ = take (whole_width r.attributes) e.values in
    let same : values_in e.entity.class e.values ≡ values_in e.entity.class bytes = values_in_row e.entity.class r e.values row ∙ whole_cut r.attributes e.values ∙ sym (values_in_row e.entity.class r bytes row) in
    let seen : slice_index_or (database_of es) place other ≡ held_of e = get_or-map held_of es place no_entry other lt in
    seen ∙ ap (λ (v : Values). (e.entity, record { maker = maker_of e.entity.class; values = v })) same ∙ ap (λ (p : EntityId × Managed). held_in p.0 bytes) (sym seen)

pub held_none : (es : List Entry) (place : ℕ) (other : EntityId × Managed) → place < length es → class_row (entry_at es place).entity.class ≡ None
    → slice_index_or (database_of es) place other ≡ held_in (slice_index_or (database_of es) place other).0 []
unfolding values_in
held_none es place other lt row =
    let e : Entry = entry_at es place in
    let seen : slice_index_or (database_of es) place other ≡ held_of e = get_or-map held_of es place no_entry other lt in
    let none : (bytes : List ℕ) → values_in e.entity.class bytes ≡ [] = λ bytes. ap (λ o. option_map_or (λ (r : Row). cut r.attributes bytes) o []) row in
    seen ∙ ap (λ (v : Values). (e.entity, record { maker = maker_of e.entity.class; values = v })) (none e.values ∙ sym (none [])) ∙ ap (λ (p : EntityId × Managed). held_in p.0 []) (sym seen)

pub width_seen : (es : List Entry) (place : ℕ) (other : EntityId × Managed) (o : Option Row) → place < length es → class_row (entry_at es place).entity.class ≡ o
    → option_map_or (λ (r : Row). whole_width r.attributes) o 0 ≡ width_in (slice_index_or (database_of es) place other).0.class
width_seen es place other o lt row =
    ap (λ o. option_map_or (λ (r : Row). whole_width r.attributes) o 0) (sym row)
    ∙ ap (λ (p : EntityId × Managed). width_in p.0.class) (sym (get_or-map held_of es place no_entry other lt))

-- a create that was answered, and one that had no memory
pub created_whole : (r : Result Code NoMemory) (old new : List Entry) (one : EntityId) (given : List ℕ) → OnOk r (database_of new ≡ (create_outcome one given (database_of old)).1) → OnErr r (database_of new ≡ database_of old)
    → has_unit_entities (database_of old) ≡ true → has_unit_entities (database_of new) ≡ true
created_whole (Ok code) old new one given ok err h = subst (λ d. has_unit_entities d ≡ true) (sym ok) (keeps_create one given (database_of old) h)
created_whole (Err e) old new one given ok err h = subst (λ d. has_unit_entities d ≡ true) (sym err) h

pub created_counts : (r : Result Code NoMemory) (old new : List Entry) (before : Database) (one : EntityId) (given : List ℕ) → IfOk r (λ code. code.0 ≡ (create_outcome one given (database_of old)).0) → OnOk r (database_of new ≡ (create_outcome one given (database_of old)).1)
    → has_unit_entities (database_of old) ≡ true → database_of old ≡ before → IfOk r (λ code. code.0 ≡ 0 → counter (database_of new) ≡ bump (counter before))
created_counts (Ok code) old new before one given code_is ok h same = λ zero_is.
    ap counter ok ∙ create_counts one given (database_of old) (is_counted old h) (sym code_is ∙ zero_is) ∙ ap (λ d. bump (counter d)) same
created_counts (Err e) old new before one given code_is ok h same = tt
