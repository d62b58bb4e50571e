-- Slots and requests worked by hand.
use Rattle.std.specs.Prelude.{ℕ, List, [], ◌∷◌, replicate, Some, None}
use Rattle.slot_spec.specs.Slots.{SlotPair}

-- the one-byte image `ff` is committed in slot 0, and slot 1 has no image
abbrev pub flashed : SlotPair
flashed = record { first = Some (255 ∷ []); second = None; committed = 0 }

-- the image `ffff` was put into slot 1 and sealed
abbrev pub sealed : SlotPair
sealed = record { first = Some (255 ∷ []); second = Some (255 ∷ 255 ∷ []); committed = 0 }

-- slot 1 was committed then
abbrev pub recommitted : SlotPair
recommitted = record { first = Some (255 ∷ []); second = Some (255 ∷ 255 ∷ []); committed = 1 }

-- the entry of the image `ff`: length 1, check value 000000ff, version ff and 13 zeros
abbrev pub one_byte_entry : List ℕ
one_byte_entry = 0 ∷ 0 ∷ 0 ∷ 1 ∷ 0 ∷ 0 ∷ 0 ∷ 255 ∷ 255 ∷ replicate 13 0
