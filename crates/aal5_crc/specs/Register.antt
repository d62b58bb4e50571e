-- A register of 32 bits that takes the message's bits one by one, and the table that takes a byte
-- at once, also with zero bytes after it. The check value is defined without either.
use Rattle.std.specs.Prelude.{ℕ, ◌+◌, ◌*◌, ◌/◌, ◌%◌, ◌^◌, bit_xor, get_or, Bool, true, false, ◌&&◌, ◌==◌, List, [], ◌∷◌, ◌++◌, take, drop, replicate}
use Rattle.frame_spec.specs.Checksum.{bits_of, number_of, without_first}

-- The register after one more bit of the message.
unfoldable pub after_bit : List ℕ → ℕ → List ℕ
after_bit [] bit = []
after_bit (first ∷ rest) bit = without_first ((first + bit) % 2) (rest ++ 0 ∷ [])

-- The register after these bits of the message.
unfoldable pub after_bits : List ℕ → List ℕ → List ℕ
after_bits register [] = register
after_bits register (bit ∷ bits) = after_bits (after_bit register bit) bits

unfoldable pub zero_register : List ℕ
zero_register = replicate 32 0

-- What the byte and so many zero bytes leave in a register of zeros.
unfoldable pub entry_bits : ℕ → ℕ → List ℕ
entry_bits zeros byte = after_bits zero_register (bits_of 8 byte ++ replicate (8 * zeros) 0)

-- The entries are those of the bytes from `first` on, with no zero bytes after them.
unfoldable pub entries_are_right : ℕ → List ℕ → Bool
entries_are_right first [] = true
entries_are_right first (entry ∷ entries) = (entry == number_of (entry_bits 0 first))
    && entries_are_right (first + 1) entries

-- Each entry is the one before it, in its own place, one zero byte on.
unfoldable pub entries_follow : List ℕ → List ℕ → Bool
entries_follow before [] = true
entries_follow [] (entry ∷ entries) = false
entries_follow (old ∷ before) (entry ∷ entries) =
    (entry == number_of (after_bits (bits_of 32 old) (replicate 8 0)))
    && entries_follow before entries

-- The first 256 entries have no zero bytes, and each later one is that of 256 places before, one
-- zero byte on.
unfoldable pub table_is_right : List ℕ → Bool
table_is_right table = entries_are_right 0 (take 256 table) && entries_follow table (drop 256 table)

-- The four bytes of the register to which the first four of these are added.
abbrev pub mixed : ℕ → List ℕ → List ℕ
mixed register bytes =
    bit_xor (register / 2 ^ 24 % 256) (get_or bytes 0 0)
    ∷ bit_xor (register / 2 ^ 16 % 256) (get_or bytes 1 0)
    ∷ bit_xor (register / 2 ^ 8 % 256) (get_or bytes 2 0)
    ∷ bit_xor (register % 256) (get_or bytes 3 0)
    ∷ []
