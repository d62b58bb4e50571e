-- How long the lists of the division are, and that a check value fits 32 bits.
use Rattle.std.proofs.Common.{◌≡◌, ℕ, zero, suc, ◌+◌, ◌-◌, ◌*◌, ◌^◌, ◌<◌, List, [], ◌∷◌, ◌++◌, length, take, drop, replicate, refl, ap, subst, arith}
use Rattle.std.proofs.Math.Nat.{pow-suc}
use Rattle.std.proofs.lemmas.List.{length-map, length-take, length-drop, length-append, length-replicate}
use Rattle.std.specs.List.{flat_map}
use Rattle.frame_spec.specs.Checksum.{bits_of, number_of, inverted, inverted_bit, add_to_front, generator, without_first, divide, message_bits, dividend, crc}

pub length-bits_of : (count number : ℕ) → length (bits_of count number) ≡ count
unfolding bits_of
length-bits_of zero number = refl
length-bits_of (suc count) number = ap suc (length-bits_of count number)

pub length-inverted : (bits : List ℕ) → length (inverted bits) ≡ length bits
unfolding inverted
length-inverted bits = length-map bits inverted_bit

pub length-add_to_front : (added bits : List ℕ) → length (add_to_front added bits) ≡ length bits
unfolding add_to_front
length-add_to_front [] bits = refl
length-add_to_front (a ∷ rest) [] = refl
length-add_to_front (a ∷ rest) (bit ∷ bits) = ap suc (length-add_to_front rest bits)

pub length-without_first : (bit : ℕ) (bits : List ℕ) → length (without_first bit bits) ≡ length bits
unfolding without_first
length-without_first zero bits = refl
length-without_first (suc _) bits = length-add_to_front generator bits

pub length-divide : (steps : ℕ) (bits : List ℕ) → length (divide steps bits) ≡ length bits - steps
unfolding divide
length-divide zero bits = omega arith
length-divide (suc steps) [] = omega arith
length-divide (suc steps) (bit ∷ bits) =
    omega (arith, length-divide steps (without_first bit bits), length-without_first bit bits)

pub length-message_bits : (bytes : List ℕ) → length (message_bits bytes) ≡ 8 * length bytes
unfolding message_bits
length-message_bits [] = refl
length-message_bits (byte ∷ bytes) =
    omega (arith, length-append (bits_of 8 byte) (flat_map (bits_of 8) bytes), length-bits_of 8 byte, length-message_bits bytes)

pub length-dividend : (bytes : List ℕ) → length (dividend bytes) ≡ 8 * length bytes + 32
unfolding dividend
length-dividend bytes =
    let bits = message_bits bytes ++ replicate 32 0 in
    omega (arith, length-append (inverted (take 32 bits)) (drop 32 bits), length-inverted (take 32 bits), length-take 32 bits, length-drop 32 bits, length-append (message_bits bytes) (replicate 32 0), length-replicate {A = ℕ} 32 0, length-message_bits bytes)

number_of-inverted-lt : (bits : List ℕ) → number_of (inverted bits) < 2 ^ length bits
unfolding number_of inverted inverted_bit
number_of-inverted-lt [] = omega arith
number_of-inverted-lt (zero ∷ bits) =
    let power : 2 ^ suc (length bits) ≡ 2 ^ length bits * 2 = pow-suc 2 (length bits) in
    rw (length-map bits inverted_bit) (omega (arith, number_of-inverted-lt bits))
number_of-inverted-lt (suc bit ∷ bits) =
    let power : 2 ^ suc (length bits) ≡ 2 ^ length bits * 2 = pow-suc 2 (length bits) in
    let cleared : 1 - suc bit ≡ 0 = omega arith in
    rw cleared (omega (arith, number_of-inverted-lt bits))

-- a check value fits 32 bits
pub crc-lt : (bytes : List ℕ) → crc bytes < 2 ^ 32
unfolding crc
crc-lt bytes =
    let left = divide (8 * length bytes) (dividend bytes) in
    let whole : length left ≡ 32 = omega (arith, length-divide (8 * length bytes) (dividend bytes), length-dividend bytes) in
    subst (λ (n : ℕ). number_of (inverted left) < 2 ^ n) whole (number_of-inverted-lt left)
