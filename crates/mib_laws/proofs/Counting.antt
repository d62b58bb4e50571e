-- The counter grows where a request has its effect, and the entities that the unit made stay.
use Rattle.std.proofs.Common.{◌≡◌, ◌≢◌, ℕ, Bool, true, false, cond, List, [], ◌∷◌, length, Option, Some, option_map, is_some, refl, sym, ap, ◌∙◌, arith}
use Rattle.std.specs.Prelude.{◌==◌, not, nat_le}
use Rattle.std.specs.Map.{lookup, set_value}
use Rattle.std.specs.Option.{option_map_or}
use Rattle.std.proofs.lemmas.Bool.{false≢true}
use Rattle.omci_types.specs.declared.EntityId.{EntityId}
use Rattle.class_spec.specs.declared.TheConstants.{ONU_DATA}
use Rattle.class_spec.specs.Classes.{class_row, class_table}
use Rattle.mib_spec.specs.declared.TheConstants.{MOST_ENTITIES}
use Rattle.mib_spec.specs.Database.{Database, Managed, Values, managed_of, is_held, with_entity, without_entity, values_of, zeros_of, value_at, with_value, byte_of, counter, with_counter, with_counter_grown, bump}
use Rattle.mib_spec.specs.Requests.{first_code, unless_refused, is_class, is_unit_made, new_entity, create_code, create_outcome, delete_code, delete_outcome}
use Rattle.mib_laws.proofs.Others.{other_with_entity, other_without_entity, here_with_values}
use Rattle.mib_laws.specs.Counted.{IsCounted, revalue}

pub counted_same : (after before : Database) → IsCounted before → managed_of ONU_DATA after ≡ managed_of ONU_DATA before → IsCounted after
counted_same after before is same = record { managed = is.managed; here = same ∙ is.here; value = is.value }

pub counter_same : (after before : Database) → managed_of ONU_DATA after ≡ managed_of ONU_DATA before → counter after ≡ counter before
unfolding counter values_of
counter_same after before same = ap (λ o. byte_of (value_at 1 (option_map_or (λ (managed : Managed). managed.values) o (zeros_of ONU_DATA.class)))) same

-- a value that is there has the one that is written
written_value : (number : ℕ) (bytes : List ℕ) (values : Values) → is_some (value_at number values) ≡ true → value_at number (with_value number bytes values) ≡ Some bytes
written_value number bytes [] h = absurd (false≢true h)
written_value number bytes (one ∷ rest) h = go (one.0 == number) refl h (written_value number bytes rest)
  where
    find : Values → Option (List ℕ)
    find = λ vs. lookup (λ key. key == number) vs

    go : (b : Bool) → (one.0 == number) ≡ b → is_some (cond (one.0 == number) (Some one.1) (find rest)) ≡ true
        → (is_some (find rest) ≡ true → find (set_value (λ key. key == number) rest bytes) ≡ Some bytes)
        → find (cond b ((one.0, bytes) ∷ rest) (one ∷ set_value (λ key. key == number) rest bytes)) ≡ Some bytes
    go true is h later = ap (λ b. cond b (Some bytes) (find rest)) is
    go false is h later =
        ap (λ b. cond b (Some one.1) (find (set_value (λ key. key == number) rest bytes))) is
        ∙ later (sym (ap is_some (ap (λ b. cond b (Some one.1) (find rest)) is)) ∙ h)

pub counter_written : (count : ℕ) (database : Database) → IsCounted database → counter (with_counter count database) ≡ count
unfolding counter with_counter values_of
counter_written count database is =
    let values : Values = option_map_or (λ (managed : Managed). managed.values) (managed_of ONU_DATA database) (zeros_of ONU_DATA.class) in
    let mine : values ≡ is.managed.values = ap (λ o. option_map_or (λ (managed : Managed). managed.values) o (zeros_of ONU_DATA.class)) is.here in
    let some : is_some (value_at 1 values) ≡ true = ap (λ (vs : Values). is_some (value_at 1 vs)) mine ∙ is.value in
    let after = here_with_values ONU_DATA (with_value 1 (count ∷ []) values) database ∙ ap (option_map (revalue (with_value 1 (count ∷ []) values))) is.here in
    ap (λ o. byte_of (value_at 1 (option_map_or (λ (managed : Managed). managed.values) o (zeros_of ONU_DATA.class)))) after
    ∙ ap byte_of (written_value 1 (count ∷ []) values some)

pub counter_grown : (database : Database) → IsCounted database → counter (with_counter_grown database) ≡ bump (counter database)
unfolding with_counter_grown
counter_grown database is = counter_written (bump (counter database)) database is

-- an entity of a class that the manager makes is none that the unit made
pub other_class : (one other : EntityId) → is_unit_made one.class ≡ false → is_unit_made other.class ≡ true → one ≢ other
other_class one other theirs ours same = false≢true (sym theirs ∙ ap (λ (e : EntityId). is_unit_made e.class) same ∙ ours)

onu_data_made : is_unit_made ONU_DATA.class ≡ true
unfolding class_row class_table
onu_data_made = refl

pub counter_with_entity : (one : EntityId) (managed : Managed) (database : Database) → is_unit_made one.class ≡ false → IsCounted database → counter (with_counter_grown (with_entity one managed database)) ≡ bump (counter database)
counter_with_entity one managed database theirs is =
    let same = other_with_entity one ONU_DATA (other_class one ONU_DATA theirs onu_data_made) managed database in
    counter_grown (with_entity one managed database) (counted_same (with_entity one managed database) database is same) ∙ ap bump (counter_same (with_entity one managed database) database same)

pub counter_without_entity : (one : EntityId) (database : Database) → is_unit_made one.class ≡ false → IsCounted database → counter (with_counter_grown (without_entity one database)) ≡ bump (counter database)
counter_without_entity one database theirs is =
    let same = other_without_entity one ONU_DATA (other_class one ONU_DATA theirs onu_data_made) database in
    counter_grown (without_entity one database) (counted_same (without_entity one database) database is same) ∙ ap bump (counter_same (without_entity one database) database same)

-- a code 0 says that the manager makes the class
pub by_manager_if_created : (unknown unit there full : Bool) → first_code ((unknown, 4) ∷ (unit, 2) ∷ (there, 7) ∷ (full, 1) ∷ []) ≡ 0 → unit ≡ false
by_manager_if_created true unit there full h = absurd (omega (arith, h))
by_manager_if_created false true there full h = absurd (omega (arith, h))
by_manager_if_created false false there full h = refl

pub by_manager_if_deleted : (unknown unit absent : Bool) → first_code ((unknown, 4) ∷ (unit, 2) ∷ (absent, 5) ∷ []) ≡ 0 → unit ≡ false
by_manager_if_deleted true unit absent h = absurd (omega (arith, h))
by_manager_if_deleted false true absent h = absurd (omega (arith, h))
by_manager_if_deleted false false absent h = refl

pub create_by_manager : (one : EntityId) (database : Database) → create_code one database ≡ 0 → is_unit_made one.class ≡ false
unfolding create_code
create_by_manager one database h = by_manager_if_created (not (is_class one.class)) (is_unit_made one.class) (is_held one database) (nat_le MOST_ENTITIES (length database)) h

pub delete_by_manager : (one : EntityId) (database : Database) → delete_code one database ≡ 0 → is_unit_made one.class ≡ false
unfolding delete_code
delete_by_manager one database h = by_manager_if_deleted (not (is_class one.class)) (is_unit_made one.class) (not (is_held one database)) h

pub create_counts : (one : EntityId) (given : List ℕ) (database : Database) → IsCounted database → (create_outcome one given database).0 ≡ 0 → counter (create_outcome one given database).1 ≡ bump (counter database)
unfolding create_outcome
create_counts one given database is h =
    ap (λ k. counter (unless_refused k (with_counter_grown (with_entity one (new_entity one.class given) database)) database)) h
    ∙ counter_with_entity one (new_entity one.class given) database (create_by_manager one database h) is

pub delete_counts : (one : EntityId) (database : Database) → IsCounted database → (delete_outcome one database).0 ≡ 0 → counter (delete_outcome one database).1 ≡ bump (counter database)
unfolding delete_outcome
delete_counts one database is h =
    ap (λ k. counter (unless_refused k (with_counter_grown (without_entity one database)) database)) h
    ∙ counter_without_entity one database (delete_by_manager one database h) is
