-- Copies that are whole: each entity, in ascending order, with all of its values.
use Rattle.std.proofs.Common.{◌≡◌, ◌+◌, ◌<◌, ◌≤◌, ◌^◌, Bool, true, false, cond, [], ◌∷◌, length, Some, option_map, Ordering, Less, Equal, Greater, is_eq, refl, sym, ap, subst, ◌∙◌, arith}
use Rattle.std.proofs.lemmas.Option.{same_Some}
use Rattle.std.specs.Ordering.{match_ordering, ordering_reverse}
use Rattle.std.specs.Map.{lookup, set_value, remove_entry}
use Rattle.std.specs.BTreeMap.{insert_entry, is_at}
use Rattle.omci_types.specs.declared.EntityId.{EntityId}
use Rattle.class_spec.specs.Classes.{Row, class_row}
use Rattle.mib_spec.specs.Database.{Database, Managed, Values, entity_cmp}
use Rattle.upload_spec.specs.Pieces.{Copy, without_makers}
use Rattle.mib_laws.proofs.Others.{entity_total, entity_exact}
use Rattle.upload_laws.specs.Shaped.{IsShaped, IsWholeEntry, ComesBefore, IsWhole}
use Rattle.resync_laws.proofs.Tables.{class_is}

pub turned : (a b : EntityId) → entity_cmp a b ≡ Greater → entity_cmp b a ≡ Less
turned a b h = entity_total.antisymm b a ∙ ap ordering_reverse h

-- an entity of a class of the table, with values shaped as the class's attributes
pub entry_is : (one : EntityId) (row : Row) (values : Values) → class_row one.class ≡ Some row
    → IsShaped row.attributes values → one.instance < 2 ^ 16 → IsWholeEntry one values
entry_is one row values is shaped instance =
    let k = class_is one.class row is in
    record {
      row = row;
      is = is;
      numbered = k.numbered;
      few = omega (arith, k.few);
      shaped = shaped;
      class = k.small;
      instance = instance;
    }

-- ---- one entity more, or with other values

before_all : (x one : EntityId) (copy : Copy) → entity_cmp x one ≡ Less → ComesBefore one copy
    → ComesBefore x copy
before_all x one [] less h = tt
before_all x one (e ∷ es) less h =
    (entity_total.trans x one e.0 less h.0, before_all x one es less h.1)

before_insert : (x one : EntityId) (values : Values) (copy : Copy) → entity_cmp x one ≡ Less
    → ComesBefore x copy → ComesBefore x (insert_entry entity_cmp copy one values)
before_insert x one values [] less h = (less, tt)
before_insert x one values (e ∷ es) less h =
    go (entity_cmp one e.0) (before_insert x one values es less h.1)
  where
    go : (r : Ordering) → ComesBefore x (insert_entry entity_cmp es one values)
        → ComesBefore x (match_ordering r ((one, values) ∷ e ∷ es) ((e.0, values) ∷ es)
        (e ∷ insert_entry entity_cmp es one values))
    go Less later = (less, h)
    go Equal later = (h.0, h.1)
    go Greater later = (h.0, later)

pub whole_insert : (one : EntityId) (values : Values) (copy : Copy) → IsWholeEntry one values
    → IsWhole copy → IsWhole (insert_entry entity_cmp copy one values)
whole_insert one values [] entry h = (entry, tt, tt)
whole_insert one values (e ∷ es) entry h =
    go (entity_cmp one e.0) refl (whole_insert one values es entry h.2)
  where
    go : (r : Ordering) → entity_cmp one e.0 ≡ r → IsWhole (insert_entry entity_cmp es one values)
        → IsWhole (match_ordering r ((one, values) ∷ e ∷ es) ((e.0, values) ∷ es)
        (e ∷ insert_entry entity_cmp es one values))
    go Less is later = (entry, (is, before_all one e.0 es is h.1), h)
    go Equal is later =
        (subst (λ x. IsWholeEntry x values) (entity_exact one e.0 is) entry, h.1, h.2)
    go Greater is later = (h.0, before_insert e.0 one values es (turned one e.0 is) h.1, later)

pub insert_length : (one : EntityId) (values : Values) (copy : Copy)
    → length (insert_entry entity_cmp copy one values) ≤ length copy + 1
insert_length one values [] = omega arith
insert_length one values (e ∷ es) =
    go (entity_cmp one e.0) (insert_length one values es)
  where
    go : (r : Ordering) → length (insert_entry entity_cmp es one values) ≤ length es + 1
        → length (match_ordering r ((one, values) ∷ e ∷ es) ((e.0, values) ∷ es)
        (e ∷ insert_entry entity_cmp es one values)) ≤ length (e ∷ es) + 1
    go Less later = omega arith
    go Equal later = omega arith
    go Greater later = omega (arith, later)

-- ---- one entity less

before_remove : (x : EntityId) (test : EntityId → Bool) (copy : Copy) → ComesBefore x copy
    → ComesBefore x (remove_entry test copy)
before_remove x test [] h = tt
before_remove x test (e ∷ es) h = go (test e.0) (before_remove x test es h.1)
  where
    go : (b : Bool) → ComesBefore x (remove_entry test es)
        → ComesBefore x (cond b es (e ∷ remove_entry test es))
    go true later = h.1
    go false later = (h.0, later)

pub whole_remove : (test : EntityId → Bool) (copy : Copy) → IsWhole copy
    → IsWhole (remove_entry test copy)
whole_remove test [] h = tt
whole_remove test (e ∷ es) h = go (test e.0) (whole_remove test es h.2)
  where
    go : (b : Bool) → IsWhole (remove_entry test es)
        → IsWhole (cond b es (e ∷ remove_entry test es))
    go true later = h.2
    go false later = (h.0, before_remove e.0 test es h.1, later)

pub remove_length : (test : EntityId → Bool) (copy : Copy)
    → length (remove_entry test copy) ≤ length copy
remove_length test [] = omega arith
remove_length test (e ∷ es) = go (test e.0) (remove_length test es)
  where
    go : (b : Bool) → length (remove_entry test es) ≤ length es
        → length (cond b es (e ∷ remove_entry test es)) ≤ length (e ∷ es)
    go true later = omega arith
    go false later = omega (arith, later)

-- ---- other values of an entity that is there

before_set : (x : EntityId) (test : EntityId → Bool) (values : Values) (copy : Copy)
    → ComesBefore x copy → ComesBefore x (set_value test copy values)
before_set x test values [] h = tt
before_set x test values (e ∷ es) h = go (test e.0) (before_set x test values es h.1)
  where
    go : (b : Bool) → ComesBefore x (set_value test es values)
        → ComesBefore x (cond b ((e.0, values) ∷ es) (e ∷ set_value test es values))
    go true later = h
    go false later = (h.0, later)

pub whole_set : (one : EntityId) (values : Values) (copy : Copy) → IsWholeEntry one values
    → IsWhole copy → IsWhole (set_value (is_at (entity_cmp one)) copy values)
whole_set one values [] entry h = tt
whole_set one values (e ∷ es) entry h =
    go (entity_cmp one e.0) refl (whole_set one values es entry h.2)
  where
    rest : Copy
    rest = set_value (is_at (entity_cmp one)) es values

    go : (r : Ordering) → entity_cmp one e.0 ≡ r → IsWhole rest
        → IsWhole (cond (is_eq r) ((e.0, values) ∷ es) (e ∷ rest))
    go Less is later = (h.0, before_set e.0 (is_at (entity_cmp one)) values es h.1, later)
    go Equal is later =
        (subst (λ x. IsWholeEntry x values) (entity_exact one e.0 is) entry, h.1, h.2)
    go Greater is later = (h.0, before_set e.0 (is_at (entity_cmp one)) values es h.1, later)

pub set_length : (test : EntityId → Bool) (values : Values) (copy : Copy)
    → length (set_value test copy values) ≡ length copy
set_length test values [] = refl
set_length test values (e ∷ es) = go (test e.0) (set_length test values es)
  where
    go : (b : Bool) → length (set_value test es values) ≡ length es
        → length (cond b ((e.0, values) ∷ es) (e ∷ set_value test es values)) ≡ length (e ∷ es)
    go true later = refl
    go false later = omega (arith, later)

-- what a whole copy has of an entity is whole
pub whole_found : (one : EntityId) (values : Values) (copy : Copy) → IsWhole copy
    → lookup (is_at (entity_cmp one)) copy ≡ Some values → IsWholeEntry one values
whole_found one values [] h e = absurd (cc)
whole_found one values (e ∷ es) h f =
    go (entity_cmp one e.0) refl (λ g. whole_found one values es h.2 g) f
  where
    go : (r : Ordering) → entity_cmp one e.0 ≡ r
        → (lookup (is_at (entity_cmp one)) es ≡ Some values → IsWholeEntry one values)
        → cond (is_eq r) (Some e.1) (lookup (is_at (entity_cmp one)) es) ≡ Some values
        → IsWholeEntry one values
    go Less is later g = later g
    go Equal is later g =
        subst (λ x. IsWholeEntry x values) (sym (entity_exact one e.0 is))
        (subst (λ v. IsWholeEntry e.0 v) (same_Some e.1 values g) h.0)
    go Greater is later g = later g

-- ---- the database without its makers

pub makers_length : (database : Database) → length (without_makers database) ≡ length database
makers_length [] = refl
makers_length (e ∷ es) = omega (arith, makers_length es)

pub makers_insert : (one : EntityId) (managed : Managed) (database : Database)
    → without_makers (insert_entry entity_cmp database one managed)
    ≡ insert_entry entity_cmp (without_makers database) one managed.values
makers_insert one managed [] = refl
makers_insert one managed (e ∷ es) =
    go (entity_cmp one e.0) (makers_insert one managed es)
  where
    go : (r : Ordering) → without_makers (insert_entry entity_cmp es one managed)
        ≡ insert_entry entity_cmp (without_makers es) one managed.values
        → without_makers (match_ordering r ((one, managed) ∷ e ∷ es) ((e.0, managed) ∷ es)
        (e ∷ insert_entry entity_cmp es one managed))
        ≡ match_ordering r ((one, managed.values) ∷ without_makers (e ∷ es))
        ((e.0, managed.values) ∷ without_makers es)
        ((e.0, e.1.values) ∷ insert_entry entity_cmp (without_makers es) one managed.values)
    go Less later = refl
    go Equal later = refl
    go Greater later = ap (λ (c : Copy). (e.0, e.1.values) ∷ c) later

pub makers_remove : (test : EntityId → Bool) (database : Database)
    → without_makers (remove_entry test database) ≡ remove_entry test (without_makers database)
makers_remove test [] = refl
makers_remove test (e ∷ es) = go (test e.0) (makers_remove test es)
  where
    go : (b : Bool) → without_makers (remove_entry test es) ≡ remove_entry test (without_makers es)
        → without_makers (cond b es (e ∷ remove_entry test es))
        ≡ cond b (without_makers es) ((e.0, e.1.values) ∷ remove_entry test (without_makers es))
    go true later = refl
    go false later = ap (λ (c : Copy). (e.0, e.1.values) ∷ c) later

pub makers_set : (test : EntityId → Bool) (managed : Managed) (database : Database)
    → without_makers (set_value test database managed)
    ≡ set_value test (without_makers database) managed.values
makers_set test managed [] = refl
makers_set test managed (e ∷ es) = go (test e.0) (makers_set test managed es)
  where
    go : (b : Bool) → without_makers (set_value test es managed)
        ≡ set_value test (without_makers es) managed.values
        → without_makers (cond b ((e.0, managed) ∷ es) (e ∷ set_value test es managed))
        ≡ cond b ((e.0, managed.values) ∷ without_makers es)
        ((e.0, e.1.values) ∷ set_value test (without_makers es) managed.values)
    go true later = refl
    go false later = ap (λ (c : Copy). (e.0, e.1.values) ∷ c) later

pub makers_lookup : (test : EntityId → Bool) (database : Database)
    → option_map (λ (managed : Managed). managed.values) (lookup test database)
    ≡ lookup test (without_makers database)
makers_lookup test [] = refl
makers_lookup test (e ∷ es) = go (test e.0) (makers_lookup test es)
  where
    go : (b : Bool) → option_map (λ (managed : Managed). managed.values) (lookup test es)
        ≡ lookup test (without_makers es)
        → option_map (λ (managed : Managed). managed.values) (cond b (Some e.1) (lookup test es))
        ≡ cond b (Some e.1.values) (lookup test (without_makers es))
    go true later = refl
    go false later = later
