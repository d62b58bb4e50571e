-- The masks of attributes (ITU-T G.988, clause 11.2): attribute 1 is the most significant of 16
-- bits, attribute 16 the least.
use Rattle.std.specs.Prelude.{ℕ, ◌+◌, ◌-◌, ◌/◌, ◌%◌, ◌^◌, ◌==◌, ◌&&◌, not, Bool, nat_lt, List, [], ◌∷◌, if◌then◌else◌}
use Rattle.class_spec.specs.Classes.{Attribute, Row}

-- the mask that names this attribute alone
abbrev pub bit_of : ℕ → ℕ
bit_of number = 2 ^ (16 - number)

-- whether the mask names the attribute
abbrev pub has : ℕ → ℕ → Bool
has mask number = mask / bit_of number % 2 == 1

-- the mask of the attributes that pass
abbrev pub mask_where : (Attribute → Bool) → List Attribute → ℕ
mask_where passes [] = 0
mask_where passes (one ∷ rest) = (if passes one then bit_of one.number else 0)
    + mask_where passes rest

-- the sum of the widths of the attributes that pass
abbrev pub width_where : (Attribute → Bool) → List Attribute → ℕ
width_where passes [] = 0
width_where passes (one ∷ rest) = (if passes one then one.width else 0) + width_where passes rest

-- of the attributes that the mask names, those that the class has
unfoldable pub known_mask : Row → ℕ → ℕ
known_mask row mask = mask_where (λ one. has mask one.number) row.attributes

-- and those that it doesn't have
unfoldable pub unknown_mask : Row → ℕ → ℕ
unknown_mask row mask = mask - known_mask row mask

-- and those that it has and that may not be written
unfoldable pub fixed_mask : Row → ℕ → ℕ
fixed_mask row mask = mask_where (λ one. has mask one.number && not one.written) row.attributes

-- the bytes that the values of the named attributes need, one after the other in attribute order
unfoldable pub width_of : Row → ℕ → ℕ
width_of row mask = width_where (λ one. has mask one.number) row.attributes

-- the bytes before the value of this attribute
unfoldable pub place_of : Row → ℕ → ℕ → ℕ
place_of row mask number = width_where (λ one. has mask one.number && nat_lt one.number number)
    row.attributes
