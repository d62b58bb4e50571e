-- Where a named value begins, or why it has no place.
use Rattle.std.specs.Prelude.{ℕ, ◌+◌, Bool, not, ◌&&◌, nat_lt, if◌then◌else◌, is_some, Result, Ok, Err}
use Rattle.std.specs.Option.{option_map_or}
use Rattle.class_spec.specs.Classes.{Row, Attribute, attribute_in}
use Rattle.class_spec.specs.Masks.{has, place_of}
use Rattle.omci_attributes.specs.declared.mask.Mask.{Mask}
use Rattle.omci_attributes.specs.declared.widths.MaskFault.{MaskFault}
use Rattle.omci_attributes.specs.declared.widths.MaskFault.TheVariants.{Unknown, DoesNotFit}

-- whether the mask names the attribute
abbrev pub is_selected : Mask → Attribute → Bool
is_selected mask one = has mask.0 one.number

-- whether it names the attribute, and the attribute may not be written
abbrev pub is_fixed : Mask → Attribute → Bool
is_fixed mask one = has mask.0 one.number && not one.written

-- whether the class has the attribute and the mask names it
abbrev pub is_named : Row → Mask → ℕ → Bool
is_named row mask number = is_some (attribute_in row.attributes number) && has mask.0 number

-- where the attribute's value ends
abbrev pub end_of : Row → Mask → ℕ → ℕ
end_of row mask number = place_of row mask.0 number
    + option_map_or (λ one. one.width) (attribute_in row.attributes number) 0

-- the first fault that holds, else the place
unfoldable pub placed : Row → Mask → ℕ → ℕ → Result ℕ MaskFault
placed row mask number room =
    if not (is_named row mask number) then Err (Unknown mask)
    else if nat_lt room (end_of row mask number) then Err (DoesNotFit (end_of row mask number) room)
    else Ok (place_of row mask.0 number)
