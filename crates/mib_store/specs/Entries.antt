-- The table of the code as a database.
use Rattle.std.specs.Prelude.{◌≡◌, ℕ, ◌+◌, ◌<◌, ◌≤◌, Bool, true, if◌then◌else◌, List, [], ◌∷◌, length, map, slice_index_or, Some, None}
use Rattle.std.specs.Option.{option_map_or}
use Rattle.std.specs.declared.cmp.Ordering.TheVariants.{Less, Greater}
use Rattle.omci_types.specs.declared.EntityId.{EntityId}
use Rattle.class_spec.specs.declared.Maker.{Maker}
use Rattle.class_spec.specs.declared.Maker.TheVariants.{Manager as by_manager}
use Rattle.class_spec.specs.Classes.{class_row}
use Rattle.entity_classes.specs.Rule.{whole_width}
use Rattle.mib_spec.specs.Database.{Database, Managed, Values, entity_cmp, flag, managed_of, with_entity, without_entity, has_unit_entities}
use Rattle.mib_spec.specs.declared.TheConstants.{MOST_ENTITIES, UNIT_ENTITIES}
use Rattle.mib_spec.specs.Requests.{is_unit_made}
use Rattle.mib_store.specs.declared.entry.Entry.{Entry}
use Rattle.mib_store.specs.Layout.{cut}

-- the values that an entity of the class has in these bytes
unfoldable pub values_in : ℕ → List ℕ → Values
values_in class bytes = option_map_or (λ row. cut row.attributes bytes) (class_row class) []

unfoldable pub maker_of : ℕ → Maker
maker_of class = option_map_or (λ row. row.maker) (class_row class) by_manager

-- an entity of the maker of its class, whose values stand in these bytes
abbrev pub held_in : EntityId → List ℕ → EntityId × Managed
held_in one bytes = (one, record { maker = maker_of one.class; values = values_in one.class bytes })

-- the bytes that the values of a class have together, none for an unknown class
abbrev pub width_in : ℕ → ℕ
width_in class = option_map_or (λ row. whole_width row.attributes) (class_row class) 0

-- an entry as the database has it
abbrev pub held_of : Entry → EntityId × Managed
held_of entry = (
  entry.entity,
  record {
    maker = maker_of entry.entity.class;
    values = values_in entry.entity.class entry.values;
  },
)

-- the table as a database
abbrev pub database_of : List Entry → Database
database_of entries = map held_of entries

abbrev pub keys_of : List Entry → List EntityId
keys_of entries = map (λ entry. entry.entity) entries

-- the entity comes before all of these
abbrev pub IsBefore : EntityId → List EntityId → Type 0
IsBefore one [] = Unit {0}
IsBefore one (key ∷ keys) = (entity_cmp one key ≡ Less) × IsBefore one keys

abbrev pub IsAscending : List EntityId → Type 0
IsAscending [] = Unit {0}
IsAscending (key ∷ keys) = IsBefore key keys × IsAscending keys

-- how many of the entities the unit makes
abbrev pub unit_made : List EntityId → ℕ
unit_made [] = 0
unit_made (key ∷ keys) = (if is_unit_made key.class then 1 else 0) + unit_made keys

-- what is true of every table: its entities ascend, eleven are of classes that the unit makes, and
-- it has at most 4,096
pub record IsTable (keys : List EntityId) : Type 0 where
  pub ascending : IsAscending keys
  pub made : unit_made keys ≡ UNIT_ENTITIES
  pub few : length keys ≤ MOST_ENTITIES

-- what is true of every database: each of the eleven entities that the unit makes is there, made by
-- the unit
pub record IsMib (entries : List Entry) : Type 0 where
  pub table : IsTable (keys_of entries)
  pub whole : has_unit_entities (database_of entries) ≡ true

-- a software image with this version, committed or not, active or not, valid or not
abbrev pub image_by : List ℕ → Bool → Bool → Bool → Values
image_by version committed active valid = (1, version) ∷ (2, flag committed) ∷ (3, flag active)
    ∷ (4, flag valid) ∷ []

-- an entry for reading past the end
abbrev pub no_entry : Entry
no_entry = record { entity = record { class = 0; instance = 0 }; values = [] }

abbrev pub entry_at : List Entry → ℕ → Entry
entry_at entries at = slice_index_or entries at no_entry

-- the entity stands in this place: those before it are less
pub record IsAt (entries : List Entry) (one : EntityId) (at : ℕ) : Type 0 where
  pub in_range : at < length entries
  pub here : (entry_at entries at).entity ≡ one
  pub before : (k : ℕ) → k < at → entity_cmp (entry_at entries k).entity one ≡ Less
  pub is_held : managed_of one (database_of entries) ≡ Some record {
    maker = maker_of one.class;
    values = values_in one.class (entry_at entries at).values;
  }

-- the entity isn't there and would go to this place
pub record IsGap (entries : List Entry) (one : EntityId) (at : ℕ) : Type 0 where
  pub in_range : at ≤ length entries
  pub before : (k : ℕ) → k < at → entity_cmp (entry_at entries k).entity one ≡ Less
  pub after : (k : ℕ) → at ≤ k → k < length entries → entity_cmp (entry_at entries k).entity one
      ≡ Greater
  pub not_held : managed_of one (database_of entries) ≡ None

-- the table has an entry more
pub record Inserts (old new : List Entry) (entry : Entry) : Type 0 where
  pub map : database_of new ≡ with_entity entry.entity (held_of entry).1 (database_of old)
  pub ascending : IsAscending (keys_of new)
  pub made : unit_made (keys_of new)
      ≡ (if is_unit_made entry.entity.class then 1 else 0) + unit_made (keys_of old)
  pub count : length (keys_of new) ≡ length (keys_of old) + 1

-- the table has an entity less
pub record Removes (old new : List Entry) (one : EntityId) : Type 0 where
  pub map : database_of new ≡ without_entity one (database_of old)
  pub ascending : IsAscending (keys_of new)
  pub made : (if is_unit_made one.class then 1 else 0) + unit_made (keys_of new)
      ≡ unit_made (keys_of old)
  pub count : length (keys_of new) + 1 ≡ length (keys_of old)
