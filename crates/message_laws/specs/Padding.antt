-- Padding: the bytes of the contents that belong to no field.
use Rattle.std.specs.Prelude.{◌≡◌, ℕ, ◌+◌, ◌<◌, ◌≤◌, ◌⊎◌, List, [], ◌∷◌, slice_index}
use Rattle.message_spec.specs.Fields.{Field, width, place}

-- the byte at a place of the contents belongs to none of the fields
abbrev pub IsOutside : List Field → ℕ → Type 0
IsOutside [] at = Unit {0}
IsOutside (f ∷ fields) at = ((at < place f) ⊎ (place f + width f.form ≤ at)) × IsOutside fields at

-- the padding is zero
abbrev pub HasZeroPadding : List Field → List ℕ → Type 0
HasZeroPadding fields contents = (at : ℕ) → IsOutside fields at → slice_index contents at ≡ 0
