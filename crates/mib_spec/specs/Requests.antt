-- What each request does to the database (ITU-T G.988, clause 11.2.5 and annex A, in this profile):
-- its conditions in order, then its effect.
use Rattle.std.specs.Prelude.{ℕ, ◌==◌, ◌&&◌, ◌||◌, not, Bool, true, false, nat_lt, nat_le, List, [], ◌∷◌, ◌++◌, length, take, drop, replicate, if◌then◌else◌, is_some, bytes_eq}
use Rattle.std.specs.Option.{option_map_or}
use Rattle.omci_types.specs.declared.EntityId.{EntityId}
use Rattle.frame_spec.specs.Widths.{filled}
use Rattle.omci_types.specs.declared.TheConstants.Code.{SUCCESS, PROCESSING_ERROR, NOT_SUPPORTED, PARAMETER_ERROR, UNKNOWN_CLASS, UNKNOWN_INSTANCE, INSTANCE_EXISTS, ATTRIBUTES_FAILED}
use Rattle.class_spec.specs.declared.Maker.TheVariants.{Manager as by_manager}
use Rattle.class_spec.specs.declared.TheConstants.{ONU_DATA, GET_ROOM}
use Rattle.class_spec.specs.Classes.{Row, Attribute, class_row, attribute_in}
use Rattle.class_spec.specs.Masks.{has, known_mask, unknown_mask, fixed_mask, width_of}
use Rattle.mib_spec.specs.declared.TheConstants.{MOST_ENTITIES}
use Rattle.mib_spec.specs.declared.Sensed.{Sensed}
use Rattle.mib_spec.specs.declared.Sensed.TheVariants.{NotAllowed, Same, Changed}
use Rattle.mib_spec.specs.Database.{Database, Values, Managed, is_by_unit, is_held, with_entity, without_entity, with_values, values_of, value_at, with_value, with_counter_grown, image_entity, first_with}

-- the code of the first condition that holds, 0 where none does
abbrev pub first_code : List (Bool × ℕ) → ℕ
first_code [] = SUCCESS.0
first_code (row ∷ rows) = if row.0 then row.1 else first_code rows

-- a request with code 0 has its effect, and any other changes nothing
abbrev pub unless_refused : ℕ → Database → Database → Database
unless_refused code after before = if code == SUCCESS.0 then after else before

abbrev pub is_class : ℕ → Bool
is_class number = is_some (class_row number)

-- whether the unit makes the instances of the class
abbrev pub is_unit_made : ℕ → Bool
is_unit_made number = option_map_or (λ row. is_by_unit row.maker) (class_row number) false

-- create: a value for each attribute, in attribute order. Those that a create sets are cut from the
-- given bytes, and the others are zero
abbrev pub create_values : List Attribute → List ℕ → Values
create_values [] given = []
create_values (one ∷ rest) given =
    if one.created then (one.number, take one.width given)
    ∷ create_values rest (drop one.width given)
    else (one.number, replicate one.width 0) ∷ create_values rest given

-- what a create makes
unfoldable pub new_entity : ℕ → List ℕ → Managed
new_entity class given =
    option_map_or (λ row. record { maker = row.maker; values = create_values row.attributes given })
    (class_row class) (record { maker = by_manager; values = [] })

unfoldable pub create_code : EntityId → Database → ℕ
create_code one database = first_code (
    (not (is_class one.class), UNKNOWN_CLASS.0) ∷
    (is_unit_made one.class, NOT_SUPPORTED.0) ∷
    (is_held one database, INSTANCE_EXISTS.0) ∷
    (nat_le MOST_ENTITIES (length database), PROCESSING_ERROR.0) ∷
    [])

-- the code, and the database afterwards
unfoldable pub create_outcome : EntityId → List ℕ → Database → ℕ × Database
create_outcome one given database =
    let code = create_code one database in (
      code,
      unless_refused code
          (with_counter_grown (with_entity one (new_entity one.class given) database)) database,
    )

unfoldable pub delete_code : EntityId → Database → ℕ
delete_code one database = first_code (
    (not (is_class one.class), UNKNOWN_CLASS.0) ∷
    (is_unit_made one.class, NOT_SUPPORTED.0) ∷
    (not (is_held one database), UNKNOWN_INSTANCE.0) ∷
    [])

-- the code, and the database afterwards
unfoldable pub delete_outcome : EntityId → Database → ℕ × Database
delete_outcome one database =
    let code = delete_code one database in
    (code, unless_refused code (with_counter_grown (without_entity one database)) database)

-- of a class and a mask: the known attributes, the unknown ones, those that may not be written, and
-- the bytes of the known ones
abbrev pub of_class : (Row → ℕ → ℕ) → ℕ → ℕ → ℕ
of_class f class mask = option_map_or (λ row. f row mask) (class_row class) 0

-- set: the named values are cut from the given bytes in attribute order, each as long as the one
-- that it replaces
abbrev pub set_values : ℕ → List ℕ → Values → Values
set_values mask given [] = []
set_values mask given (one ∷ rest) =
    if has mask one.0 then (one.0, take (length one.1) given)
    ∷ set_values mask (drop (length one.1) given) rest
    else one ∷ set_values mask given rest

unfoldable pub set_code : EntityId → ℕ → List ℕ → Database → ℕ
set_code one mask given database = first_code (
    (not (is_class one.class), UNKNOWN_CLASS.0) ∷
    (not (is_held one database), UNKNOWN_INSTANCE.0) ∷ (
      not (of_class unknown_mask one.class mask == 0 && of_class fixed_mask one.class mask == 0),
      ATTRIBUTES_FAILED.0,
    ) ∷
    (nat_lt (length given) (of_class width_of one.class mask), PARAMETER_ERROR.0) ∷
    [])

abbrev pub is_onu_data : EntityId → Bool
is_onu_data one = one.class == ONU_DATA.class && one.instance == ONU_DATA.instance

-- whether a set gives the counter a value
abbrev pub is_counter_set : EntityId → ℕ → Bool
is_counter_set one mask = is_onu_data one && has mask 1

-- the code, with code 9 the masks of the unknown attributes and of those that may not be written,
-- and the database afterwards
pub record SetOutcome : Type 0 where
  pub code : ℕ
  pub unsupported : ℕ
  pub failed : ℕ
  pub database : Database

-- the values are stored and the counter grows, but a set of the counter adds nothing
unfoldable pub set_effect : EntityId → ℕ → List ℕ → Database → Database
set_effect one mask given database =
    let after = with_values one (set_values mask given (values_of one database)) database in
    if is_counter_set one mask then after else with_counter_grown after

unfoldable pub set_outcome : EntityId → ℕ → List ℕ → Database → SetOutcome
set_outcome one mask given database =
    let code = set_code one mask given database in
    record {
      code = code;
      unsupported = if code == ATTRIBUTES_FAILED.0 then of_class unknown_mask one.class mask else 0;
      failed = if code == ATTRIBUTES_FAILED.0 then of_class fixed_mask one.class mask else 0;
      database = unless_refused code (set_effect one mask given database) database;
    }

-- get: the values of the named attributes, one after the other in attribute order
abbrev pub named_values : ℕ → Values → List ℕ
named_values mask [] = []
named_values mask (one ∷ rest) = if has mask one.0 then one.1 ++ named_values mask rest
    else named_values mask rest

unfoldable pub get_code : ℕ → EntityId → ℕ → Database → ℕ
get_code room one mask database = first_code (
    (not (is_class one.class), UNKNOWN_CLASS.0) ∷
    (not (is_held one database), UNKNOWN_INSTANCE.0) ∷
    (nat_lt room (of_class width_of one.class mask), PARAMETER_ERROR.0) ∷
    (not (of_class unknown_mask one.class mask == 0), ATTRIBUTES_FAILED.0) ∷
    [])

-- whether a get with this code answers values
abbrev pub is_answered : ℕ → Bool
is_answered code = code == SUCCESS.0 || code == ATTRIBUTES_FAILED.0

-- the code; with codes 0 and 9 the known attributes and their values, and with code 9 the unknown
-- attributes
pub record GetOutcome : Type 0 where
  pub code : ℕ
  pub mask : ℕ
  pub values : List ℕ
  pub unsupported : ℕ

-- a get whose reply has room for so many bytes of values
unfoldable pub get_outcome_in : ℕ → EntityId → ℕ → Database → GetOutcome
get_outcome_in room one mask database =
    let code = get_code room one mask database in
    record {
      code = code;
      mask = if is_answered code then of_class known_mask one.class mask else 0;
      values = filled room (if is_answered code then named_values mask (values_of one database)
          else []);
      unsupported = if code == ATTRIBUTES_FAILED.0 then of_class unknown_mask one.class mask else 0;
    }

-- a get by a baseline message
abbrev pub get_outcome : EntityId → ℕ → Database → GetOutcome
get_outcome one mask database = get_outcome_in GET_ROOM one mask database

unfoldable pub reset_code : EntityId → ℕ
reset_code one = first_code (
    (not (is_class one.class), UNKNOWN_CLASS.0) ∷
    (not (one.class == ONU_DATA.class), NOT_SUPPORTED.0) ∷
    (not (one.instance == ONU_DATA.instance), UNKNOWN_INSTANCE.0) ∷
    [])

-- the first database, its counter 0, with the software images as they stand
unfoldable pub reset : Database → Database
reset database = first_with (values_of (image_entity 0) database)
    (values_of (image_entity 1) database)

-- whether a measured value may be held there: the entity is there and of neither class 2 nor class
-- 7, and the attribute is there, may not be written, and has this width
unfoldable pub may_sense : EntityId → ℕ → List ℕ → Database → Bool
may_sense one number value database =
    is_held one database && not (one.class == 2) && not (one.class == 7)
    && option_map_or (λ row. option_map_or (λ attribute. not attribute.written
    && attribute.width == length value) (attribute_in row.attributes number) false)
    (class_row one.class) false

-- whether the attribute holds the value already
unfoldable pub is_sensed : EntityId → ℕ → List ℕ → Database → Bool
is_sensed one number value database = option_map_or (λ bytes. bytes_eq bytes value)
    (value_at number (values_of one database)) false

-- a value that the unit measured
unfoldable pub sense_outcome : EntityId → ℕ → List ℕ → Database → Sensed × Database
sense_outcome one number value database =
    if not (may_sense one number value database) then (NotAllowed, database)
    else if is_sensed one number value database then (Same, database)
    else (Changed, with_values one (with_value number value (values_of one database)) database)
