-- The register as a number, and the check value that it stands for.
use Rattle.std.proofs.Common.{◌≡◌, ℕ, ◌+◌, ◌-◌, ◌^◌, ◌<◌, List, ◌++◌, ap, sym, ◌∙◌, subst, arith}
use Rattle.frame_spec.specs.Checksum.{bits_of, number_of, message_bits, crc}
use Rattle.aal5_crc.specs.Register.{after_bits}
use Rattle.aal5_crc.proofs.Numbers.{bits_of-number_of, number_of-bits_of, number_of-inverted}
use Rattle.aal5_crc.proofs.Steps.{register_of, length-register_of, IsBits-register_of, register_of-append, crc-register_of}

-- The number of the register and the check value are together the largest of 32 bits.
both-numbers : (bytes : List ℕ) → crc bytes + number_of (register_of bytes) + 1 ≡ 2 ^ 32
both-numbers bytes =
    let register = register_of bytes in
    ap (λ (n : ℕ). n + number_of register + 1) (crc-register_of bytes)
    ∙ number_of-inverted register (IsBits-register_of bytes)
    ∙ ap (λ (n : ℕ). 2 ^ n) (length-register_of bytes)

-- A register of this value has the register's bits.
pub bits-from_value : (register : ℕ) (bytes : List ℕ) → register < 2 ^ 32 → 2 ^ 32 - 1 - register ≡ crc bytes → bits_of 32 register ≡ register_of bytes
bits-from_value register bytes fits value =
    let same : register ≡ number_of (register_of bytes) = omega (arith, both-numbers bytes) in
    ap (λ (n : ℕ). bits_of 32 n) same
    ∙ subst (λ (n : ℕ). bits_of n (number_of (register_of bytes)) ≡ register_of bytes) (length-register_of bytes) (bits_of-number_of (register_of bytes) (IsBits-register_of bytes))

pub value-from_bits : (register : ℕ) (bytes : List ℕ) → register < 2 ^ 32 → bits_of 32 register ≡ register_of bytes → 2 ^ 32 - 1 - register ≡ crc bytes
value-from_bits register bytes fits same =
    let number : register ≡ number_of (register_of bytes) = sym (number_of-bits_of 32 register fits) ∙ ap number_of same in
    omega (arith, both-numbers bytes)

-- The check value after more bytes.
pub value-added : (old new : ℕ) (before bytes : List ℕ) → old < 2 ^ 32 → new < 2 ^ 32 → bits_of 32 new ≡ after_bits (bits_of 32 old) (message_bits bytes) → 2 ^ 32 - 1 - old ≡ crc before → 2 ^ 32 - 1 - new ≡ crc (before ++ bytes)
value-added old new before bytes old_fits new_fits after value =
    value-from_bits new (before ++ bytes) new_fits
    (after ∙ ap (λ (l : List ℕ). after_bits l (message_bits bytes)) (bits-from_value old before old_fits value) ∙ sym (register_of-append before bytes))
