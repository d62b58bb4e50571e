-- A copy that has a value for each attribute, as that of a whole database has.
use Rattle.std.specs.Prelude.{◌≡◌, ℕ, ◌+◌, ◌<◌, ◌≤◌, ◌^◌, List, [], ◌∷◌, length, Some}
use Rattle.std.specs.declared.cmp.Ordering.TheVariants.{Less}
use Rattle.omci_types.specs.declared.EntityId.{EntityId}
use Rattle.class_spec.specs.Classes.{Attribute, Row, class_row}
use Rattle.mib_spec.specs.Database.{Values, entity_cmp}
use Rattle.upload_spec.specs.Pieces.{Copy}

-- a value for each attribute, as wide as it
abbrev pub IsShaped : List Attribute → Values → Type 0
IsShaped [] [] = Unit {0}
IsShaped [] (value ∷ values) = ⊥
IsShaped (one ∷ rest) [] = ⊥
IsShaped (one ∷ rest) (value ∷ values) = (value.0 ≡ one.number) × (length value.1 ≡ one.width)
    × IsShaped rest values

-- the attributes are numbered from this number on
abbrev pub IsNumberedFrom : ℕ → List Attribute → Type 0
IsNumberedFrom number [] = Unit {0}
IsNumberedFrom number (one ∷ rest) = (one.number ≡ number) × IsNumberedFrom (number + 1) rest

-- an entity of a class, with all of its values
pub record IsWholeEntry (one : EntityId) (values : Values) : Type 0 where
  pub row : Row
  pub is : class_row one.class ≡ Some row
  pub numbered : IsNumberedFrom 1 row.attributes
  pub few : length row.attributes ≤ 16
  pub shaped : IsShaped row.attributes values
  pub class : one.class < 2 ^ 16
  pub instance : one.instance < 2 ^ 16

-- the entity comes before all of these
abbrev pub ComesBefore : EntityId → Copy → Type 0
ComesBefore one [] = Unit {0}
ComesBefore one (other ∷ rest) = (entity_cmp one other.0 ≡ Less) × ComesBefore one rest

-- entities ascend, and each has all of its values
abbrev pub IsWhole : Copy → Type 0
IsWhole [] = Unit {0}
IsWhole (one ∷ rest) = IsWholeEntry one.0 one.1 × ComesBefore one.0 rest × IsWhole rest
