-- The pieces of an upload (ITU-T G.988, annex A, MIB upload next response, in this profile): the
-- values of each entity, cut greedily.
use Rattle.std.specs.Prelude.{ℕ, ◌+◌, Bool, true, false, nat_le, List, [], ◌∷◌, ◌++◌, length, take, drop, map, Option, if◌then◌else◌, slice_get}
use Rattle.std.specs.Int.{to_be_bytes, from_be_bytes, w16}
use Rattle.std.specs.List.{flat_map}
use Rattle.omci_types.specs.declared.EntityId.{EntityId}
use Rattle.class_spec.specs.Classes.{Attribute}
use Rattle.class_spec.specs.Masks.{has, bit_of}
use Rattle.mib_spec.specs.Database.{Database, Values, bytes_of, entity}
use Rattle.frame_spec.specs.Widths.{filled}
use Rattle.upload_spec.specs.declared.TheConstants.{PIECE_ROOM}

-- whether a value goes into the piece that these values are in
abbrev pub fits : Values → ℕ × List ℕ → Bool
fits group one = nat_le (length (bytes_of group) + length one.1) PIECE_ROOM

-- the values of the current piece after the next value: it is added, or it begins a piece of its
-- own
abbrev pub current : Bool → Values → ℕ × List ℕ → Values
current fitting group one = (if fitting then group else []) ++ one ∷ []

-- the values of the piece that the next value ends
abbrev pub ended : Bool → Values → List Values
ended fitting group = if fitting then [] else group ∷ []

-- the values, piece by piece, where the current piece has some already
abbrev pub groups_from : Values → Values → List Values
groups_from group [] = group ∷ []
groups_from group (one ∷ rest) = ended (fits group one) group
    ++ groups_from (current (fits group one) group one) rest

abbrev pub groups : Values → List Values
groups values = groups_from [] values

-- the mask that names these attributes
abbrev pub mask_of : Values → ℕ
mask_of [] = 0
mask_of (one ∷ rest) = bit_of one.0 + mask_of rest

-- a piece: class, instance, mask, and the values, with zeros after them
unfoldable pub piece_of : EntityId → Values → List ℕ
piece_of one group =
    to_be_bytes w16 one.class ++ to_be_bytes w16 one.instance ++ to_be_bytes w16 (mask_of group)
    ++ filled PIECE_ROOM (bytes_of group)

abbrev pub pieces_of : EntityId → Values → List (List ℕ)
pieces_of one values = map (piece_of one) (groups values)

-- from entity to the values of its attributes, both in ascending order
abbrev pub Copy : Type 0
Copy = List (EntityId × Values)

-- the database without what made each entity
abbrev pub without_makers : Database → Copy
without_makers database = map (λ one. (one.0, one.1.values)) database

-- the pieces of a copy, entity by entity in ascending order
unfoldable pub pieces : Copy → List (List ℕ)
pieces copy = flat_map (λ one. pieces_of one.0 one.1) copy

-- the piece of this number, counted from 0
unfoldable pub piece_at : ℕ → Copy → Option (List ℕ)
piece_at number copy = slice_get (pieces copy) number

-- what a piece says: its entity, its mask, and the bytes of its values
abbrev pub entity_in : List ℕ → EntityId
entity_in piece = entity (from_be_bytes w16 (take 2 piece))
    (from_be_bytes w16 (take 2 (drop 2 piece)))

abbrev pub mask_in : List ℕ → ℕ
mask_in piece = from_be_bytes w16 (take 2 (drop 4 piece))

abbrev pub bytes_in : List ℕ → List ℕ
bytes_in piece = drop 6 piece

-- the values of the named attributes, cut from the bytes in attribute order
abbrev pub values_named : List Attribute → ℕ → List ℕ → Values
values_named [] mask bytes = []
values_named (one ∷ rest) mask bytes =
    (if has mask one.number then (one.number, take one.width bytes) ∷ [] else [])
    ++ values_named rest mask (if has mask one.number then drop one.width bytes else bytes)
