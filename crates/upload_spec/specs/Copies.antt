-- The manager's copy of a unit's database: what it gathers from pieces, and what its own commands
-- do to it.
use Rattle.std.specs.Prelude.{ℕ, ◌==◌, ◌&&◌, not, Bool, true, false, nat_lt, nat_le, List, [], ◌∷◌, ◌++◌, length, replicate, bytes_eq, Option, Some, None, if◌then◌else◌, is_some}
use Rattle.std.specs.Option.{option_map_or}
use Rattle.std.specs.Map.{lookup, remove_entry}
use Rattle.std.specs.BTreeMap.{insert_entry, is_at}
use Rattle.omci_types.specs.declared.EntityId.{EntityId}
use Rattle.class_spec.specs.declared.TheConstants.{ONU_DATA}
use Rattle.class_spec.specs.Classes.{Row, Attribute, class_row}
use Rattle.class_spec.specs.Masks.{has, unknown_mask, width_of}
use Rattle.mib_spec.specs.Database.{Values, entity_cmp, value_at, with_value, byte_of, bump}
use Rattle.mib_spec.specs.Requests.{is_class, is_onu_data, create_values, of_class}
use Rattle.upload_spec.specs.declared.TheConstants.{PIECE_ROOM, PIECE_BYTES}
use Rattle.upload_spec.specs.declared.PieceFault.{PieceFault}
use Rattle.upload_spec.specs.declared.PieceFault.TheVariants.{Empty, ClassUnknown, Truncated, Repeated}
use Rattle.upload_spec.specs.Pieces.{Copy, entity_in, mask_in, bytes_in, values_named}

-- what the copy has of an entity
unfoldable pub copied : EntityId → Copy → Option Values
copied one copy = lookup (is_at (entity_cmp one)) copy

abbrev pub is_copied : EntityId → Copy → Bool
is_copied one copy = is_some (copied one copy)

-- the values of an entity, none for one that isn't there
unfoldable pub copied_values : EntityId → Copy → Values
copied_values one copy = option_map_or (λ values. values) (copied one copy) []

-- the copy with these values of an entity, every other as it was
unfoldable pub with_copied : EntityId → Values → Copy → Copy
with_copied one values copy = insert_entry entity_cmp copy one values

unfoldable pub without_copied : EntityId → Copy → Copy
without_copied one copy = remove_entry (is_at (entity_cmp one)) copy

-- a value under its number, where there is one
abbrev pub numbered_value : ℕ → Option (List ℕ) → Values
numbered_value number None = []
numbered_value number (Some bytes) = (number, bytes) ∷ []

abbrev pub first_some : Option (List ℕ) → Option (List ℕ) → Option (List ℕ)
first_some (Some bytes) other = Some bytes
first_some None other = other

-- of each attribute the new value, else the old one, where there is one
abbrev pub overlay : List Attribute → Values → Values → Values
overlay [] old new = []
overlay (one ∷ rest) old new =
    numbered_value one.number (first_some (value_at one.number new) (value_at one.number old))
    ++ overlay rest old new

-- the class's attributes, none for an unknown class
abbrev pub attributes_of : ℕ → List Attribute
attributes_of class = option_map_or (λ row. row.attributes) (class_row class) []

-- the known values of a piece
abbrev pub piece_values : List ℕ → Values
piece_values piece = values_named (attributes_of (entity_in piece).class) (mask_in piece)
    (bytes_in piece)

-- the copy with an entity's values overlaid by these
abbrev pub with_overlay : EntityId → Values → Copy → Copy
with_overlay one values copy =
    with_copied one (overlay (attributes_of one.class) (copied_values one copy) values) copy

-- the copy with a piece more; one of an unknown class adds nothing
unfoldable pub with_piece : List ℕ → Copy → Copy
with_piece piece copy =
    if is_class (entity_in piece).class then with_overlay (entity_in piece) (piece_values piece)
    copy else copy

-- the copy with these pieces more, one after the other
abbrev pub joined_to : Copy → List (List ℕ) → Copy
joined_to copy [] = copy
joined_to copy (piece ∷ rest) = joined_to (with_piece piece copy) rest

-- the copy that the pieces make
unfoldable pub join : List (List ℕ) → Copy
join pieces = joined_to [] pieces

-- the least attribute that the mask names and that has a value already
abbrev pub first_repeated : List Attribute → ℕ → Values → Option ℕ
first_repeated [] mask values = None
first_repeated (one ∷ rest) mask values =
    if has mask one.number && is_some (value_at one.number values) then Some one.number
    else first_repeated rest mask values

abbrev pub repeated_fault : EntityId → Option ℕ → Option PieceFault
repeated_fault one None = None
repeated_fault one (Some number) = Some (Repeated one number)

-- the first fault of a piece that comes after those of the copy
unfoldable pub piece_fault : List ℕ → Copy → Option PieceFault
piece_fault piece copy =
    if bytes_eq piece (replicate PIECE_BYTES 0) then Some Empty
    else if not (is_class (entity_in piece).class) then Some (ClassUnknown (entity_in piece).class)
    else if nat_lt PIECE_ROOM (of_class width_of (entity_in piece).class (mask_in piece))
    then Some (Truncated (entity_in piece))
    else repeated_fault (entity_in piece) (first_repeated (attributes_of (entity_in piece).class)
    (mask_in piece) (copied_values (entity_in piece) copy))

-- the counter that the copy has: attribute 1 of ONU data, where a piece gave it
unfoldable pub copied_counter : Copy → Option (List ℕ)
copied_counter copy = value_at 1 (copied_values ONU_DATA copy)

unfoldable pub copy_counter : Copy → ℕ
copy_counter copy = byte_of (copied_counter copy)

-- after a create with code 0. ONU data stays, and an unknown class adds nothing
unfoldable pub after_create : EntityId → List ℕ → Copy → Copy
after_create one given copy =
    if is_class one.class
    && not (is_onu_data one) then with_copied one
    (create_values (attributes_of one.class) given) copy else copy

-- whether a set changes the copy: the entity is there, its class has each named attribute, and the
-- values are given
abbrev pub is_settable : EntityId → ℕ → List ℕ → Copy → Bool
is_settable one mask given copy =
    is_copied one copy && (of_class unknown_mask one.class mask == 0
    && nat_le (of_class width_of one.class mask) (length given))

-- after a set with code 0: the named values are stored
unfoldable pub after_set : EntityId → ℕ → List ℕ → Copy → Copy
after_set one mask given copy =
    if is_settable one mask given copy then with_overlay one
    (values_named (attributes_of one.class) mask given) copy else copy

-- after a delete with code 0. ONU data stays
unfoldable pub after_delete : EntityId → Copy → Copy
after_delete one copy = if is_onu_data one then copy else without_copied one copy

-- the copy whose counter has grown, where it has one
unfoldable pub copy_grown : Copy → Copy
copy_grown copy =
    if is_some (copied_counter copy) then with_copied ONU_DATA
    (with_value 1 (bump (copy_counter copy) ∷ []) (copied_values ONU_DATA copy)) copy
    else copy
