-- The unit's database (ITU-T G.988, clause 9.1.3): a finite map from entity to its maker and to a
-- finite map from attribute number to bytes.
use Rattle.std.specs.Prelude.{ℕ, ◌+◌, ◌==◌, List, [], ◌∷◌, ◌++◌, Option, Some, None, if◌then◌else◌, replicate, codes, map, Bool, true, false, is_some}
use Rattle.std.specs.List.{list_all}
use Rattle.std.specs.Option.{option_map_or}
use Rattle.std.specs.declared.cmp.Ordering.{Ordering}
use Rattle.std.specs.Ordering.{nat_cmp, ordering_then}
use Rattle.std.specs.Map.{lookup, set_value, remove_entry}
use Rattle.std.specs.BTreeMap.{insert_entry, is_at}
use Rattle.omci_types.specs.declared.EntityId.{EntityId}
use Rattle.omci_types.specs.declared.SlotView.{SlotView}
use Rattle.omci_types.specs.declared.Software.{Software}
use Rattle.class_spec.specs.declared.Maker.{Maker}
use Rattle.class_spec.specs.declared.Maker.TheVariants.{Unit as by_unit, Manager as by_manager}
use Rattle.class_spec.specs.declared.TheConstants.{ONU_DATA}
use Rattle.class_spec.specs.Classes.{Attribute, class_row}

-- from attribute number to bytes, in ascending order of the number
abbrev pub Values : Type 0
Values = List (ℕ × List ℕ)

-- who made an entity, and the values of its attributes
pub record Managed : Type 0 where
  pub maker : Maker
  pub values : Values

-- from entity to what is held of it, in ascending order of the entity
abbrev pub Database : Type 0
Database = List (EntityId × Managed)

-- entities are in order by class, then instance
abbrev pub entity_cmp : EntityId → EntityId → Ordering
entity_cmp a b = ordering_then (nat_cmp a.class b.class) (nat_cmp a.instance b.instance)

abbrev pub entity : ℕ → ℕ → EntityId
entity class instance = record { class = class; instance = instance }

-- what the database has of an entity
unfoldable pub managed_of : EntityId → Database → Option Managed
managed_of one database = lookup (is_at (entity_cmp one)) database

abbrev pub is_held : EntityId → Database → Bool
is_held one database = is_some (managed_of one database)

-- the database with an entity more, every other as it was
unfoldable pub with_entity : EntityId → Managed → Database → Database
with_entity one managed database = insert_entry entity_cmp database one managed

-- the database without an entity, every other as it was
unfoldable pub without_entity : EntityId → Database → Database
without_entity one database = remove_entry (is_at (entity_cmp one)) database

-- a value of zeros for each attribute
abbrev pub zeros : List Attribute → Values
zeros attributes = map (λ one. (one.number, replicate one.width 0)) attributes

-- the values of a class when all are zero
unfoldable pub zeros_of : ℕ → Values
zeros_of class = option_map_or (λ row. zeros row.attributes) (class_row class) []

-- the values of an entity, and zeros for one that isn't there
unfoldable pub values_of : EntityId → Database → Values
values_of one database = option_map_or (λ managed. managed.values) (managed_of one database)
    (zeros_of one.class)

-- the database with other values of an entity that is there, every other as it was
unfoldable pub with_values : EntityId → Values → Database → Database
with_values one values database =
    option_map_or (λ managed. set_value (is_at (entity_cmp one)) database
    (record managed { values = values })) (managed_of one database) database

-- the bytes of all values, one after the other in attribute order
abbrev pub bytes_of : Values → List ℕ
bytes_of [] = []
bytes_of (one ∷ rest) = one.1 ++ bytes_of rest

-- the value of an attribute, where there is one
abbrev pub value_at : ℕ → Values → Option (List ℕ)
value_at number values = lookup (λ key. key == number) values

-- another value of an attribute that is there, every other as it was
abbrev pub with_value : ℕ → List ℕ → Values → Values
with_value number bytes values = set_value (λ key. key == number) values bytes

-- the first byte of a value, 0 where there is none
abbrev pub byte_of : Option (List ℕ) → ℕ
byte_of None = 0
byte_of (Some []) = 0
byte_of (Some (byte ∷ rest)) = byte

-- the counter: the value of attribute 1 of ONU data
unfoldable pub counter : Database → ℕ
counter database = byte_of (value_at 1 (values_of ONU_DATA database))

-- the database with this counter, and else as it was
unfoldable pub with_counter : ℕ → Database → Database
with_counter count database =
    with_values ONU_DATA (with_value 1 (count ∷ []) (values_of ONU_DATA database)) database

-- the counter is one more, and 1 after 255
abbrev pub bump : ℕ → ℕ
bump count = if count == 255 then 1 else count + 1

-- the database whose counter has grown
unfoldable pub with_counter_grown : Database → Database
with_counter_grown database = with_counter (bump (counter database)) database

-- the slot's image, where it is valid
abbrev pub slot : ℕ → Software → Option SlotView
slot number software = if number == 0 then software.first else software.second

abbrev pub flag : Bool → List ℕ
flag on = (if on then 1 else 0) ∷ []

-- a software image's version, whether it is committed, whether it is active, and whether it is
-- valid
unfoldable pub image_values : ℕ → Software → Values
image_values number software =
    (1, option_map_or (λ view. view.version) (slot number software) (replicate 14 0)) ∷
    (2, flag (software.committed == number)) ∷
    (3, flag (software.active == number)) ∷
    (4, flag (is_some (slot number software))) ∷
    []

abbrev pub image_entity : ℕ → EntityId
image_entity number = entity 7 number

-- the database with the software's values in both software images
unfoldable pub with_software : Software → Database → Database
with_software software database =
    with_values (image_entity 1) (image_values 1 software)
    (with_values (image_entity 0) (image_values 0 software) database)

-- an entity that the unit makes, with these values
abbrev pub unit_entity : ℕ → ℕ → Values → EntityId × Managed
unit_entity class instance values = (
  entity class instance,
  record {
    maker = by_unit;
    values = values;
  },
)

-- a PPTP Ethernet UNI at first: frames of at most 1518 bytes
unfoldable pub ethernet : Values
ethernet = with_value 8 (5 ∷ 238 ∷ []) (zeros_of 11)

-- the ONU-G at first: its vendor and its serial number
unfoldable pub onu_g : Values
onu_g = with_value 1 (codes "OMC1") (with_value 3 (codes "OMC1" ++ (0 ∷ 0 ∷ 0 ∷ 1 ∷ []))
    (zeros_of 256))

-- the ONU2-G at first
unfoldable pub onu2_g : Values
onu2_g = with_value 2 (160 ∷ []) (with_value 4 (1 ∷ []) (with_value 5 (1 ∷ []) (zeros_of 257)))

-- a T-CONT at first: no allocation identifier, strict priority
unfoldable pub t_cont : Values
t_cont = with_value 1 (0 ∷ 255 ∷ []) (with_value 3 (1 ∷ []) (zeros_of 262))

-- the eleven entities that the unit makes when it starts, in ascending order
abbrev pub unit_entities : List EntityId
unit_entities =
    ONU_DATA ∷
    image_entity 0 ∷
    image_entity 1 ∷
    entity 11 257 ∷
    entity 11 258 ∷
    entity 11 259 ∷
    entity 11 260 ∷
    entity 256 0 ∷
    entity 257 0 ∷
    entity 262 32769 ∷
    entity 262 32770 ∷
    []

abbrev pub is_by_unit : Maker → Bool
is_by_unit by_unit = true
is_by_unit by_manager = false

-- whether the entity is there and the unit has made it
abbrev pub is_made_by_unit : Database → EntityId → Bool
is_made_by_unit database one = option_map_or (λ managed. is_by_unit managed.maker)
    (managed_of one database) false

-- whether the database has each of the eleven, made by the unit
unfoldable pub has_unit_entities : Database → Bool
has_unit_entities database = list_all (is_made_by_unit database) unit_entities

-- the first database, with these values of the two software images
unfoldable pub first_with : Values → Values → Database
first_with image image' =
    unit_entity 2 0 (zeros_of 2) ∷
    unit_entity 7 0 image ∷
    unit_entity 7 1 image' ∷
    unit_entity 11 257 ethernet ∷
    unit_entity 11 258 ethernet ∷
    unit_entity 11 259 ethernet ∷
    unit_entity 11 260 ethernet ∷
    unit_entity 256 0 onu_g ∷
    unit_entity 257 0 onu2_g ∷
    unit_entity 262 32769 t_cont ∷
    unit_entity 262 32770 t_cont ∷
    []

-- the first database
unfoldable pub first : Software → Database
first software = first_with (image_values 0 software) (image_values 1 software)
