-- The division's remainder of a message is a register of 32 bits that takes the message's bits one
-- by one.
use Rattle.std.proofs.Common.{◌≡◌, ℕ, zero, suc, ◌+◌, ◌*◌, ◌%◌, ◌≤◌, ◌<◌, List, [], ◌∷◌, ◌++◌, length, take, drop, get_or, replicate, refl, ap, sym, ◌∙◌, arith}
use Rattle.std.proofs.lemmas.List.{length-append, append-nil, length-replicate, take_more}
use Rattle.std.proofs.lemmas.Grind.{flat_map-append}
use Rattle.std.proofs.Math.Seq.{take-add}
use Rattle.std.specs.List.{flat_map}
use Rattle.frame_spec.specs.Checksum.{bits_of, number_of, inverted, add_to_front, generator, without_first, divide, message_bits, dividend, crc}
use Rattle.frame_laws.proofs.Lengths.{length-bits_of, length-without_first, length-message_bits}
use Rattle.aal5_crc.specs.Register.{after_bit, after_bits, zero_register}
use Rattle.aal5_crc.proofs.Bits.{IsBits, IsBits-append, IsBits-zeros, IsBits-ones, IsBits-without_first, IsBits-message_bits, add-assoc, add-zero_last, add-zeros, zeros-add, ones-add}

pub length-generator : length generator ≡ 32
unfolding generator
length-generator = length-bits_of 32 0x04C11DB7

-- One step of the division, where a shorter list was added to what is divided.
absorbed : (bit : ℕ) (rest bits : List ℕ) → IsBits bits → length rest < length bits → length generator ≤ suc (length rest) → without_first bit (add_to_front rest bits) ≡ add_to_front (without_first bit (rest ++ 0 ∷ [])) bits
unfolding without_first
absorbed zero rest bits are shorter wide = sym (add-zero_last rest bits are shorter)
absorbed (suc _) rest bits are shorter wide =
    ap (λ (l : List ℕ). add_to_front generator l) (sym (add-zero_last rest bits are shorter))
    ∙ add-assoc generator (rest ++ 0 ∷ []) bits (omega (arith, length-append rest (0 ∷ [])))

pub length-after_bit : (register : List ℕ) (bit : ℕ) → length (after_bit register bit) ≡ length register
unfolding after_bit
length-after_bit [] bit = refl
length-after_bit (first ∷ rest) bit =
    omega (arith, length-without_first ((first + bit) % 2) (rest ++ 0 ∷ []), length-append rest (0 ∷ []))

pub length-after_bits : (register bits : List ℕ) → length (after_bits register bits) ≡ length register
unfolding after_bits
length-after_bits register [] = refl
length-after_bits register (bit ∷ bits) = length-after_bits (after_bit register bit) bits ∙ length-after_bit register bit

IsBits-after_bit : (register : List ℕ) (bit : ℕ) → IsBits register → IsBits (after_bit register bit)
unfolding after_bit
IsBits-after_bit [] bit are = tt
IsBits-after_bit (first ∷ rest) bit are =
    IsBits-without_first ((first + bit) % 2) (rest ++ 0 ∷ []) (IsBits-append rest (0 ∷ []) are.1 (IsBits-zeros 1))

pub IsBits-after_bits : (register bits : List ℕ) → IsBits register → IsBits (after_bits register bits)
unfolding after_bits
IsBits-after_bits register [] are = are
IsBits-after_bits register (bit ∷ bits) are = IsBits-after_bits (after_bit register bit) bits (IsBits-after_bit register bit are)

pub after_bits-append : (register a b : List ℕ) → after_bits register (a ++ b) ≡ after_bits (after_bits register a) b
unfolding after_bits
after_bits-append register [] b = refl
after_bits-append register (bit ∷ a) b = after_bits-append (after_bit register bit) a b

-- A register that was added to the front of what is divided takes the bits in.
pub divide-register : (register bits tail : List ℕ) → length register ≡ 32 → IsBits bits → IsBits tail → 32 ≤ length tail → divide (length bits) (add_to_front register (bits ++ tail)) ≡ add_to_front (after_bits register bits) tail
unfolding divide add_to_front after_bits after_bit
divide-register register [] tail whole are tail_are long = refl
divide-register [] (bit ∷ bits) tail whole are tail_are long = absurd (omega arith)
divide-register (first ∷ rest) (bit ∷ bits) tail whole are tail_are long =
    ap (λ (l : List ℕ). divide (length bits) l)
    (absorbed ((first + bit) % 2) rest (bits ++ tail) (IsBits-append bits tail are.1 tail_are) (omega (arith, length-append bits tail)) (omega (arith, length-generator)))
    ∙ divide-register (without_first ((first + bit) % 2) (rest ++ 0 ∷ [])) bits tail
    (omega (arith, length-without_first ((first + bit) % 2) (rest ++ 0 ∷ []), length-append rest (0 ∷ [])))
    are.1 tail_are long

-- a register of 32 bits, added to as many zeros
pub register-zeros : (register : List ℕ) (width : ℕ) → IsBits register → length register ≡ width → add_to_front register (replicate width 0) ≡ register
register-zeros register width are whole = add-zeros register width 0 are (omega arith) ∙ append-nil register

pub length-zero_register : length zero_register ≡ 32
unfolding zero_register
length-zero_register = length-replicate {A = ℕ} 32 0

pub IsBits-zero_register : IsBits zero_register
unfolding zero_register
IsBits-zero_register = IsBits-zeros 32

pub zero_register-add : (bits : List ℕ) → IsBits bits → add_to_front zero_register bits ≡ bits
unfolding zero_register
zero_register-add bits are = zeros-add 32 bits are

pub add-zero_register : (register : List ℕ) → IsBits register → length register ≡ 32 → add_to_front register zero_register ≡ register
unfolding zero_register
add-zero_register register are whole = register-zeros register 32 are whole

-- What the division makes of bits and a tail is the sum of what the bits leave in a register of
-- zeros and of the tail.
pub divide-tail : (bits tail : List ℕ) → IsBits bits → IsBits tail → 32 ≤ length tail → divide (length bits) (bits ++ tail) ≡ add_to_front (after_bits zero_register bits) tail
divide-tail bits tail are tail_are long =
    ap (λ (l : List ℕ). divide (length bits) l) (sym (zero_register-add (bits ++ tail) (IsBits-append bits tail are tail_are)))
    ∙ divide-register zero_register bits tail length-zero_register are tail_are long

-- the register after all bytes of a message
unfoldable pub register_of : List ℕ → List ℕ
register_of bytes = after_bits (replicate 32 1) (message_bits bytes)

pub length-register_of : (bytes : List ℕ) → length (register_of bytes) ≡ 32
unfolding register_of
length-register_of bytes = length-after_bits (replicate 32 1) (message_bits bytes) ∙ length-replicate {A = ℕ} 32 1

pub IsBits-register_of : (bytes : List ℕ) → IsBits (register_of bytes)
unfolding register_of
IsBits-register_of bytes = IsBits-after_bits (replicate 32 1) (message_bits bytes) (IsBits-ones 32)

pub register_of-append : (a b : List ℕ) → register_of (a ++ b) ≡ after_bits (register_of a) (message_bits b)
unfolding register_of message_bits
register_of-append a b =
    ap (λ (l : List ℕ). after_bits (replicate 32 1) l) (flat_map-append (bits_of 8) a b)
    ∙ after_bits-append (replicate 32 1) (message_bits a) (message_bits b)

-- The check value is the number of the inverted register.
pub crc-register_of : (bytes : List ℕ) → crc bytes ≡ number_of (inverted (register_of bytes))
unfolding crc dividend register_of
crc-register_of bytes =
    let bits = message_bits bytes in
    let zeros : List ℕ = replicate 32 0 in
    let ones : List ℕ = replicate 32 1 in
    let divided : divide (8 * length bytes) (inverted (take 32 (bits ++ zeros)) ++ drop 32 (bits ++ zeros)) ≡ after_bits ones bits =
    ap (λ (n : ℕ). divide n (inverted (take 32 (bits ++ zeros)) ++ drop 32 (bits ++ zeros))) (sym (length-message_bits bytes))
    ∙ ap (λ (l : List ℕ). divide (length bits) l) (ones-add 32 (bits ++ zeros) (IsBits-append bits zeros (IsBits-message_bits bytes) (IsBits-zeros 32)))
    ∙ divide-register ones bits zeros (length-replicate {A = ℕ} 32 1) (IsBits-message_bits bytes) (IsBits-zeros 32) (omega (arith, length-replicate {A = ℕ} 32 0))
    ∙ register-zeros (after_bits ones bits) 32 (IsBits-after_bits ones bits (IsBits-ones 32)) (length-after_bits ones bits ∙ length-replicate {A = ℕ} 32 1) in
    ap (λ (l : List ℕ). number_of (inverted l)) divided

-- The register after one more byte.
pub after_bits-more : (register : List ℕ) (place : ℕ) (bytes : List ℕ) → place < length bytes → after_bits register (message_bits (take (place + 1) bytes)) ≡ after_bits (after_bits register (message_bits (take place bytes))) (bits_of 8 (get_or bytes place 0))
unfolding message_bits
after_bits-more register place bytes within =
    let byte = get_or bytes place 0 in
    ap (λ (l : List ℕ). after_bits register (flat_map (bits_of 8) l)) (take_more bytes place 0 within)
    ∙ ap (λ (l : List ℕ). after_bits register l) (flat_map-append (bits_of 8) (take place bytes) (byte ∷ []) ∙ ap (λ (l : List ℕ). flat_map (bits_of 8) (take place bytes) ++ l) (append-nil (bits_of 8 byte)))
    ∙ after_bits-append register (flat_map (bits_of 8) (take place bytes)) (bits_of 8 byte)

pub after_bits-none : (register : List ℕ) → after_bits register (message_bits []) ≡ register
unfolding after_bits message_bits
after_bits-none register = refl

-- The register after more bytes.
pub after_bits-several : (register : List ℕ) (place count : ℕ) (bytes : List ℕ) → after_bits register (message_bits (take (place + count) bytes)) ≡ after_bits (after_bits register (message_bits (take place bytes))) (message_bits (take count (drop place bytes)))
unfolding message_bits
after_bits-several register place count bytes =
    ap (λ (l : List ℕ). after_bits register (flat_map (bits_of 8) l)) (take-add place count bytes)
    ∙ ap (λ (l : List ℕ). after_bits register l) (flat_map-append (bits_of 8) (take place bytes) (take count (drop place bytes)))
    ∙ after_bits-append register (message_bits (take place bytes)) (message_bits (take count (drop place bytes)))
