-- The table's entries, and a byte taken in by one of them.
use Rattle.std.proofs.Common.{◌≡◌, ℕ, zero, suc, ◌+◌, ◌*◌, ◌/◌, ◌%◌, ◌^◌, ◌<◌, true, List, [], ◌∷◌, ◌++◌, length, take, drop, get_or, replicate, refl, ap, sym, ◌∙◌, subst, arith}
use Rattle.std.proofs.lemmas.Bool.{and_parts, eqb-true}
use Rattle.std.proofs.lemmas.List.{length-replicate, length-take, length-drop, get_or-take, get_or-drop, append-nil, append_assoc, replicate-append-replicate}
use Rattle.std.specs.Prelude.{bit_xor}
use Rattle.frame_spec.specs.Checksum.{bits_of, number_of, add_to_front, divide}
use Rattle.frame_laws.proofs.Lengths.{length-bits_of}
use Rattle.aal5_crc.specs.Register.{after_bits, zero_register, entry_bits, entries_are_right, entries_follow, table_is_right}
use Rattle.aal5_crc.proofs.Bits.{IsBits, IsBits-zeros, IsBits-bits_of, add-append, add-zeros}
use Rattle.aal5_crc.proofs.Numbers.{bits_of-xor, bits_of-cut, bits_of-mod, bits_of-shifted, bits_of-number_of}
use Rattle.aal5_crc.proofs.Steps.{length-after_bits, IsBits-after_bits, after_bits-append, divide-register, divide-tail, register-zeros, length-zero_register, IsBits-zero_register}

-- The number of a register has the register's bits.
bits-of_register : (register : List ℕ) → IsBits register → length register ≡ 32 → bits_of 32 (number_of register) ≡ register
bits-of_register register are whole = subst (λ (n : ℕ). bits_of n (number_of register) ≡ register) whole (bits_of-number_of register are)

length-entry_bits : (zeros byte : ℕ) → length (entry_bits zeros byte) ≡ 32
unfolding entry_bits
length-entry_bits zeros byte = length-after_bits zero_register (bits_of 8 byte ++ replicate (8 * zeros) 0) ∙ length-zero_register

IsBits-entry_bits : (zeros byte : ℕ) → IsBits (entry_bits zeros byte)
unfolding entry_bits
IsBits-entry_bits zeros byte = IsBits-after_bits zero_register (bits_of 8 byte ++ replicate (8 * zeros) 0) IsBits-zero_register

-- One zero byte more.
entry_bits-more : (zeros byte : ℕ) → entry_bits (zeros + 1) byte ≡ after_bits (entry_bits zeros byte) (replicate 8 0)
unfolding entry_bits
entry_bits-more zeros byte =
    let bits = bits_of 8 byte in
    let front : List ℕ = replicate (8 * zeros) 0 in
    let last : List ℕ = replicate 8 0 in
    let count : 8 * (zeros + 1) ≡ 8 * zeros + 8 = omega arith in
    let cut : replicate (8 * (zeros + 1)) 0 ≡ front ++ last = ap (λ (n : ℕ). replicate n 0) count ∙ sym (replicate-append-replicate {A = ℕ} (8 * zeros) 8 0) in
    ap (λ (l : List ℕ). after_bits zero_register (bits ++ l)) cut
    ∙ ap (λ (l : List ℕ). after_bits zero_register l) (sym (append_assoc bits front last))
    ∙ after_bits-append zero_register (bits ++ front) last

first_entry : (first place : ℕ) (entries : List ℕ) → entries_are_right first entries ≡ true → place < length entries → get_or entries place 0 ≡ number_of (entry_bits 0 (first + place))
unfolding entries_are_right
first_entry first place [] right within = absurd (omega arith)
first_entry first zero (entry ∷ entries) right within =
    let same : first ≡ first + 0 = omega arith in
    eqb-true entry (number_of (entry_bits 0 first)) (and_parts _ _ right).0 ∙ ap (λ (n : ℕ). number_of (entry_bits 0 n)) same
first_entry first (suc place) (entry ∷ entries) right within =
    let same : first + 1 + place ≡ first + suc place = omega arith in
    first_entry (first + 1) place entries (and_parts _ _ right).1 (omega arith) ∙ ap (λ (n : ℕ). number_of (entry_bits 0 n)) same

next_entry : (place : ℕ) (before entries : List ℕ) → entries_follow before entries ≡ true → place < length entries → get_or entries place 0 ≡ number_of (after_bits (bits_of 32 (get_or before place 0)) (replicate 8 0))
unfolding entries_follow
next_entry place before [] follow within = absurd (omega arith)
next_entry place [] (entry ∷ entries) follow within = absurd (cc)
next_entry zero (old ∷ before) (entry ∷ entries) follow within = eqb-true entry _ (and_parts _ _ follow).0
next_entry (suc place) (old ∷ before) (entry ∷ entries) follow within = next_entry place before entries (and_parts _ _ follow).1 (omega arith)

pub entry_at : (zeros byte : ℕ) (table : List ℕ) → table_is_right table ≡ true → byte < 256 → 256 * zeros + byte < length table → bits_of 32 (get_or table (256 * zeros + byte) 0) ≡ entry_bits zeros byte
unfolding table_is_right
entry_at zero byte table right fits within =
    let front = take 256 table in
    let there : byte < length front = omega (arith, length-take 256 table) in
    let place : 256 * 0 + byte ≡ byte = omega arith in
    ap (λ (n : ℕ). bits_of 32 (get_or table n 0)) place
    ∙ ap (λ (n : ℕ). bits_of 32 n) (sym (get_or-take 256 table byte 0 fits) ∙ first_entry 0 byte front (and_parts _ _ right).0 there)
    ∙ ap (λ (n : ℕ). bits_of 32 (number_of (entry_bits 0 n))) (omega arith)
    ∙ bits-of_register (entry_bits 0 byte) (IsBits-entry_bits 0 byte) (length-entry_bits 0 byte)
entry_at (suc zeros) byte table right fits within =
    let place = 256 * zeros + byte in
    let later = drop 256 table in
    let there : place < length later = omega (arith, length-drop 256 table) in
    let moved : 256 * suc zeros + byte ≡ 256 + place = omega arith in
    let old : bits_of 32 (get_or table place 0) ≡ entry_bits zeros byte = entry_at zeros byte table right fits (omega arith) in
    let next = after_bits (entry_bits zeros byte) (replicate 8 0) in
    let next_is : entry_bits (suc zeros) byte ≡ next = ap (λ (n : ℕ). entry_bits n byte) (omega arith) ∙ entry_bits-more zeros byte in
    ap (λ (n : ℕ). bits_of 32 (get_or table n 0)) moved
    ∙ ap (λ (n : ℕ). bits_of 32 n) (sym (get_or-drop 256 table place 0) ∙ next_entry place table later (and_parts _ _ right).1 there ∙ ap (λ (l : List ℕ). number_of (after_bits l (replicate 8 0))) old)
    ∙ bits-of_register next (IsBits-after_bits (entry_bits zeros byte) (replicate 8 0) (IsBits-entry_bits zeros byte)) (length-after_bits (entry_bits zeros byte) (replicate 8 0) ∙ length-entry_bits zeros byte)
    ∙ sym next_is

-- The low 24 bits of a register and eight zeros are the register moved by eight places.
moved : (register : ℕ) → bits_of 24 register ++ replicate 8 0 ≡ bits_of 32 (register * 2 ^ 8 % 2 ^ 32)
moved register =
    let back : register * 2 ^ 8 / 2 ^ 8 ≡ register = omega arith in
    sym (bits_of-mod 32 32 (register * 2 ^ 8) (omega arith)
    ∙ bits_of-cut 24 8 32 (register * 2 ^ 8) refl
    ∙ ap (λ (n : ℕ). bits_of 24 n ++ bits_of 8 (register * 2 ^ 8)) back
    ∙ ap (λ (l : List ℕ). bits_of 24 register ++ l) (bits_of-shifted 8 register))

entry_bits-none : (byte : ℕ) → entry_bits 0 byte ≡ after_bits zero_register (bits_of 8 byte)
unfolding entry_bits
entry_bits-none byte = ap (λ (l : List ℕ). after_bits zero_register l) (append-nil (bits_of 8 byte))

-- A byte taken in by its entry is its eight bits taken in.
pub after_byte-bits : (register byte entry : ℕ) → bits_of 32 entry ≡ entry_bits 0 (bit_xor (register / 2 ^ 24) byte) → bits_of 32 (bit_xor entry (register * 2 ^ 8 % 2 ^ 32)) ≡ after_bits (bits_of 32 register) (bits_of 8 byte)
after_byte-bits register byte entry is =
    let place = bit_xor (register / 2 ^ 24) byte in
    let shifted = register * 2 ^ 8 % 2 ^ 32 in
    let whole = bits_of 32 register in
    let high = bits_of 8 (register / 2 ^ 24) in
    let low = bits_of 24 register in
    let bits = bits_of 8 byte in
    let zeros : List ℕ = replicate 32 0 in
    let after = after_bits whole bits in
    let step : divide (length bits) (add_to_front whole (bits ++ zeros)) ≡ after =
    divide-register whole bits zeros (length-bits_of 32 register) (IsBits-bits_of 8 byte) (IsBits-zeros 32) (omega (arith, length-replicate {A = ℕ} 32 0))
    ∙ register-zeros after 32 (IsBits-after_bits whole bits (IsBits-bits_of 32 register)) (length-after_bits whole bits ∙ length-bits_of 32 register) in
    let added : add_to_front whole (bits ++ zeros) ≡ bits_of 8 place ++ bits_of 32 shifted =
    ap (λ (l : List ℕ). add_to_front l (bits ++ zeros)) (bits_of-cut 8 24 32 register refl)
    ∙ add-append high low bits zeros (length-bits_of 8 (register / 2 ^ 24) ∙ sym (length-bits_of 8 byte))
    ∙ ap (λ (l : List ℕ). l ++ add_to_front low zeros) (bits_of-xor 8 (register / 2 ^ 24) byte)
    ∙ ap (λ (l : List ℕ). bits_of 8 place ++ l) (add-zeros low 32 8 (IsBits-bits_of 24 register) (omega (arith, length-bits_of 24 register)) ∙ moved register) in
    let taken : divide (length (bits_of 8 place)) (bits_of 8 place ++ bits_of 32 shifted) ≡ add_to_front (bits_of 32 entry) (bits_of 32 shifted) =
    divide-tail (bits_of 8 place) (bits_of 32 shifted) (IsBits-bits_of 8 place) (IsBits-bits_of 32 shifted) (omega (arith, length-bits_of 32 shifted))
    ∙ ap (λ (l : List ℕ). add_to_front l (bits_of 32 shifted)) (sym (is ∙ entry_bits-none place)) in
    sym (bits_of-xor 32 entry shifted) ∙ sym taken
    ∙ ap (λ (n : ℕ). divide n (bits_of 8 place ++ bits_of 32 shifted)) (length-bits_of 8 place ∙ sym (length-bits_of 8 byte))
    ∙ ap (λ (l : List ℕ). divide (length bits) l) (sym added) ∙ step
