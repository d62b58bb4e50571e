-- What is true of each class, and how the code has an attribute.
use Rattle.std.specs.Prelude.{◌≡◌, ℕ, ◌+◌, ◌≤◌, ◌==◌, Bool, bit_and, true, List, [], ◌∷◌, length, if◌then◌else◌}
use Rattle.class_spec.specs.Classes.{Row, Attribute as Listed}
use Rattle.class_spec.specs.Masks.{width_where}
use Rattle.class_spec.specs.declared.TheConstants.{MOST_ATTRIBUTES, WIDEST_ATTRIBUTE, WIDEST_CLASS, CREATE_ROOM}
use Rattle.entity_classes.specs.declared.access.Access.{Access}
use Rattle.entity_classes.specs.declared.classes.Attribute.{Attribute}

-- the manager's rights: read is 1, write is 2, set by create is 4
abbrev pub access_of : Listed → Access
access_of one = record { 0 = 1 + (if one.written then 2 else 0) + (if one.created then 4 else 0) }

-- whether the rights have this one
abbrev pub allows : Access → Access → Bool
allows access right = bit_and access.0 right.0 == right.0

-- an attribute as the code has it
abbrev pub attribute_of : Listed → Attribute
attribute_of one = record { number = one.number; width = one.width; access = access_of one }

-- an attribute as the code's table has it
abbrev pub listed_as : Listed → ℕ × Access
listed_as one = (one.width, access_of one)

-- the attributes are numbered from this number on, and each has 1 to 25 bytes
abbrev pub IsNumbered : ℕ → List Listed → Type 0
IsNumbered number [] = Unit {0}
IsNumbered number (one ∷ rest) = (one.number ≡ number) × (1 ≤ one.width)
    × (one.width ≤ WIDEST_ATTRIBUTE) × IsNumbered (number + 1) rest

-- the bytes of all attributes together
abbrev pub whole_width : List Listed → ℕ
whole_width attributes = width_where (λ _. true) attributes

-- the bytes of those attributes that a create sets
abbrev pub created_width : List Listed → ℕ
created_width attributes = width_where (λ one. one.created) attributes

-- what is true of each class
pub record IsRow (row : Row) : Type 0 where
  pub numbered : IsNumbered 1 row.attributes
  pub count : length row.attributes ≤ MOST_ATTRIBUTES
  pub created : created_width row.attributes ≤ CREATE_ROOM
  pub whole : whole_width row.attributes ≤ WIDEST_CLASS
