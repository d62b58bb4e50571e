-- The groups into which the attributes of a class are cut, as the widths alone give them.
use Rattle.std.specs.Prelude.{◌≡◌, ℕ, ◌+◌, Bool, nat_le, List, [], ◌∷◌, ◌++◌, take, drop, if◌then◌else◌}
use Rattle.std.specs.Int.{to_be_bytes, w16}
use Rattle.omci_types.specs.declared.EntityId.{EntityId}
use Rattle.class_spec.specs.Classes.{Attribute as Listed}
use Rattle.class_spec.specs.Masks.{bit_of}
use Rattle.entity_classes.specs.declared.classes.Attribute.{Attribute}
use Rattle.entity_classes.specs.Rule.{attribute_of}
use Rattle.frame_spec.specs.Widths.{filled}
use Rattle.upload_spec.specs.declared.TheConstants.{PIECE_ROOM}
use Rattle.mib_upload.specs.declared.groups.Group.{Group}

-- the group before the first attribute
abbrev pub no_group : Group
no_group = record { start = 0; width = 0; mask = 0 }

abbrev pub has_room : Group → Attribute → Bool
has_room group one = nat_le (group.width + one.width) PIECE_ROOM

-- the group with the attribute more, where it fits, or else the one that begins with it
abbrev pub group_with : Bool → Group → Attribute → Group
group_with fits group one = record {
  start = if fits then group.start else group.start + group.width;
  width = if fits then group.width + one.width else one.width;
  mask = if fits then group.mask + bit_of one.number else bit_of one.number;
}

-- the group that ends before the attribute
abbrev pub group_ended : Bool → Group → List Group
group_ended fits group = if fits then [] else group ∷ []

-- this group, and those after it
abbrev pub groups_after : Group → List Listed → List Group
groups_after group [] = group ∷ []
groups_after group (one ∷ rest) =
    group_ended (has_room group (attribute_of one)) group
    ++ groups_after (group_with (has_room group (attribute_of one)) group (attribute_of one)) rest

abbrev pub groups_of : List Listed → List Group
groups_of attributes = groups_after no_group attributes

-- the piece of an entity that carries this group of its values
unfoldable pub piece_by : EntityId → List ℕ → Group → List ℕ
piece_by one bytes group =
    to_be_bytes w16 one.class ++ to_be_bytes w16 one.instance ++ to_be_bytes w16 group.mask
    ++ filled PIECE_ROOM (take group.width (drop group.start bytes))

-- the attribute in this place, as the code has it
pub record IsListed (attributes : List Listed) (place : ℕ) (attribute : Attribute) : Type 0 where
  pub one : Listed
  pub is : attribute ≡ attribute_of one
  pub rest : drop place attributes ≡ one ∷ drop (place + 1) attributes
  pub number : attribute.number ≡ place + 1
