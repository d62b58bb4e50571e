-- Check values that other implementations give, evaluated on the definition itself.
use Rattle.std.proofs.Common.{◌≡◌, [], ◌∷◌, ◌++◌, replicate, refl}
use Rattle.frame_spec.specs.Checksum.{crc, dividend, divide, without_first, generator, add_to_front, inverted, inverted_bit, bits_of, number_of, message_bits}

pub crc-digits : crc (49 ∷ 50 ∷ 51 ∷ 52 ∷ 53 ∷ 54 ∷ 55 ∷ 56 ∷ 57 ∷ []) ≡ 0xfc891918
unfolding crc dividend divide without_first generator add_to_front inverted inverted_bit bits_of number_of message_bits
crc-digits = refl

pub crc-ff : crc (255 ∷ []) ≡ 0x000000ff
unfolding crc dividend divide without_first generator add_to_front inverted inverted_bit bits_of number_of message_bits
crc-ff = refl

pub crc-ffffffff : crc (255 ∷ 255 ∷ 255 ∷ 255 ∷ []) ≡ 0xffffffff
unfolding crc dividend divide without_first generator add_to_front inverted inverted_bit bits_of number_of message_bits
crc-ffffffff = refl

pub crc-63-bytes : crc (replicate 4 255 ++ replicate 58 0 ++ 1 ∷ []) ≡ 0xfb3ee248
unfolding crc dividend divide without_first generator add_to_front inverted inverted_bit bits_of number_of message_bits
crc-63-bytes = refl
