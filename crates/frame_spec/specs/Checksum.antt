-- The check value of ITU-T I.363.5 (AAL5), as that standard writes it: long division on a list of
-- bits. A bit is 0 or 1, and a list of bits has the most significant one first.
use Rattle.std.specs.Prelude.{ℕ, zero, suc, ◌+◌, ◌-◌, ◌*◌, ◌%◌, ◌^◌, List, [], ◌∷◌, ◌++◌, length, take, drop, map, replicate}
use Rattle.std.specs.List.{flat_map}
use Rattle.std.specs.Int.{bit_at}

-- the lowest `count` bits of a number
unfoldable pub bits_of : ℕ → ℕ → List ℕ
bits_of zero number = []
bits_of (suc count) number = bit_at number count ∷ bits_of count number

-- the number whose bits these are
unfoldable pub number_of : List ℕ → ℕ
number_of [] = 0
number_of (bit ∷ bits) = bit * 2 ^ length bits + number_of bits

unfoldable pub inverted_bit : ℕ → ℕ
inverted_bit bit = 1 - bit

-- each bit of the list turned into the other one
unfoldable pub inverted : List ℕ → List ℕ
inverted bits = map inverted_bit bits

-- The first list added, without carry, to the bits that stand first in the second list.
unfoldable pub add_to_front : List ℕ → List ℕ → List ℕ
add_to_front [] bits = bits
add_to_front (a ∷ rest) [] = []
add_to_front (a ∷ rest) (bit ∷ bits) = (a + bit) % 2 ∷ add_to_front rest bits

-- The generator polynomial `04C11DB7` but for its first term.
unfoldable pub generator : List ℕ
generator = bits_of 32 0x04C11DB7

-- One step of the division: the first bit is dropped, and where it was 1, the generator is added to
-- the 32 bits that follow.
unfoldable pub without_first : ℕ → List ℕ → List ℕ
without_first zero bits = bits
without_first (suc _) bits = add_to_front generator bits

-- What so many steps of the division leave.
unfoldable pub divide : ℕ → List ℕ → List ℕ
divide zero bits = bits
divide (suc steps) [] = []
divide (suc steps) (bit ∷ bits) = divide steps (without_first bit bits)

-- the bits of a message, each byte's most significant bit first
unfoldable pub message_bits : List ℕ → List ℕ
message_bits bytes = flat_map (bits_of 8) bytes

-- The list that is divided: the message's bits and 32 zero bits after them, with the first 32 of
-- all these bits inverted.
unfoldable pub dividend : List ℕ → List ℕ
dividend bytes =
    let bits = message_bits bytes ++ replicate 32 0 in
    inverted (take 32 bits) ++ drop 32 bits

-- The check value: a step of the division for each bit of the message leaves 32 bits, whose
-- complement it is.
unfoldable pub crc : List ℕ → ℕ
crc bytes = number_of (inverted (divide (8 * length bytes) (dividend bytes)))
