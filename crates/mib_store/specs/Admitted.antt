-- What it means that a request may be carried out, or not.
use Rattle.std.specs.Prelude.{◌≡◌, ℕ, ◌<◌, ◌==◌, true, false, List, length, Some}
use Rattle.omci_types.specs.declared.EntityId.{EntityId}
use Rattle.class_spec.specs.Classes.{Attribute, class_row, attribute_in}
use Rattle.entity_classes.specs.Rule.{IsRow}
use Rattle.mib_spec.specs.Database.{Database}
use Rattle.mib_spec.specs.declared.TheConstants.{MOST_ENTITIES}
use Rattle.mib_spec.specs.Requests.{is_unit_made, create_code, delete_code, set_code, get_code, may_sense}
use Rattle.mib_store.specs.declared.entry.Entry.{Entry}
use Rattle.mib_store.specs.declared.admit.Admitted.{Admitted}
use Rattle.mib_store.specs.Entries.{database_of, IsAt, IsGap}

-- a create may be carried out: the class, and the place where the entity would go
pub record AdmitsCreate (entries : List Entry) (one : EntityId) (admitted : Admitted) : Type 0 where
  pub code : create_code one (database_of entries) ≡ 0
  pub row : class_row one.class ≡ Some admitted.class
  pub rule : IsRow admitted.class
  pub by_manager : is_unit_made one.class ≡ false
  pub gap : IsGap entries one admitted.at
  pub few : length entries < MOST_ENTITIES

-- a delete may be carried out: the entity's place
pub record AdmitsDelete (entries : List Entry) (one : EntityId) (at : ℕ) : Type 0 where
  pub code : delete_code one (database_of entries) ≡ 0
  pub by_manager : is_unit_made one.class ≡ false
  pub there : IsAt entries one at

-- the entity is there: its class and its place
pub record Admits (entries : List Entry) (one : EntityId) (admitted : Admitted) : Type 0 where
  pub row : class_row one.class ≡ Some admitted.class
  pub rule : IsRow admitted.class
  pub there : IsAt entries one admitted.at

-- a set and a get of the entity are answered by this code, which is neither 0 nor 9
pub record IsRefused (database : Database) (one : EntityId) (code : ℕ) : Type 0 where
  pub set : (mask : ℕ) (given : List ℕ) → set_code one mask given database ≡ code
  pub get : (room mask : ℕ) → get_code room one mask database ≡ code
  pub fails : (code == 0) ≡ false
  pub no_mask : (code == 9) ≡ false

-- the attribute may be measured: the entity's class and its place
pub record AdmitsSense (entries : List Entry) (one : EntityId) (number : ℕ) (value : List ℕ)
    (admitted : Admitted) : Type 0 where
  pub allowed : may_sense one number value (database_of entries) ≡ true
  pub row : class_row one.class ≡ Some admitted.class
  pub rule : IsRow admitted.class
  pub there : IsAt entries one admitted.at
  pub attribute : Attribute
  pub found : attribute_in admitted.class.attributes number ≡ Some attribute
  pub width : attribute.width ≡ length value
