-- Eight bytes at once, or four: the register is added to the first four, and each byte then leaves
-- what it leaves with those after it as zeros.
use Rattle.std.proofs.Common.{◌≡◌, ℕ, ◌*◌, ◌/◌, ◌%◌, ◌^◌, List, [], ◌∷◌, ◌++◌, length, get_or, replicate, refl, ap, sym, ◌∙◌, arith}
use Rattle.std.specs.Prelude.{bit_xor}
use Rattle.frame_spec.specs.Checksum.{bits_of, add_to_front, message_bits}
use Rattle.frame_laws.proofs.Lengths.{length-bits_of, length-message_bits}
use Rattle.aal5_crc.specs.Register.{after_bits, zero_register, entry_bits}
use Rattle.aal5_crc.proofs.Bits.{IsBits-bits_of, IsBits-message_bits, add-assoc, add-append, add-front}
use Rattle.aal5_crc.proofs.Numbers.{bits_of-xor, bits_of-cut, bits_of-mod}
use Rattle.aal5_crc.proofs.Steps.{after_bits-append, after_bits-none, add-zero_register}
use Rattle.aal5_crc.proofs.Sums.{after_bits-zero_register, after_bits-apart}

message_bits-cons : (byte : ℕ) (bytes : List ℕ) → message_bits (byte ∷ bytes) ≡ bits_of 8 byte ++ message_bits bytes
unfolding message_bits
message_bits-cons byte bytes = refl

-- The first byte counts by itself.
peeled : (byte : ℕ) (bytes : List ℕ) → after_bits zero_register (message_bits (byte ∷ bytes)) ≡ add_to_front (entry_bits (length bytes) byte) (after_bits zero_register (message_bits bytes))
unfolding entry_bits
peeled byte bytes =
    let bits = bits_of 8 byte in
    let others = message_bits bytes in
    ap (λ (l : List ℕ). after_bits zero_register l) (message_bits-cons byte bytes)
    ∙ after_bits-append zero_register bits others
    ∙ after_bits-apart bits others (8 * length bytes) (IsBits-message_bits bytes) (sym (length-message_bits bytes))
    ∙ ap (λ (l : List ℕ). add_to_front l (after_bits zero_register others)) (sym (after_bits-append zero_register bits (replicate (8 * length bytes) 0)))

begun : (byte entry : ℕ) (bytes : List ℕ) → bits_of 32 entry ≡ entry_bits (length bytes) byte → after_bits zero_register (message_bits (byte ∷ bytes)) ≡ add_to_front (bits_of 32 entry) (after_bits zero_register (message_bits bytes))
begun byte entry bytes is = peeled byte bytes ∙ ap (λ (l : List ℕ). add_to_front l (after_bits zero_register (message_bits bytes))) (sym is)

-- One more byte's entry is added to the sum of those before.
taken : (sum byte entry : ℕ) (bytes : List ℕ) → bits_of 32 entry ≡ entry_bits (length bytes) byte → add_to_front (bits_of 32 sum) (after_bits zero_register (message_bits (byte ∷ bytes))) ≡ add_to_front (bits_of 32 (bit_xor sum entry)) (after_bits zero_register (message_bits bytes))
taken sum byte entry bytes is =
    let rest = after_bits zero_register (message_bits bytes) in
    ap (λ (l : List ℕ). add_to_front (bits_of 32 sum) l) (begun byte entry bytes is)
    ∙ add-assoc (bits_of 32 sum) (bits_of 32 entry) rest (omega (arith, length-bits_of 32 sum, length-bits_of 32 entry))
    ∙ ap (λ (l : List ℕ). add_to_front l rest) (bits_of-xor 32 sum entry)

ended : (sum : ℕ) → add_to_front (bits_of 32 sum) (after_bits zero_register (message_bits [])) ≡ bits_of 32 sum
ended sum =
    ap (λ (l : List ℕ). add_to_front (bits_of 32 sum) l) (after_bits-none zero_register)
    ∙ add-zero_register (bits_of 32 sum) (IsBits-bits_of 32 sum) (length-bits_of 32 sum)

-- A byte's bits added to a byte's bits, with more after both.
added_byte : (a b : ℕ) (more : List ℕ) (bytes : List ℕ) → add_to_front (bits_of 8 a ++ more) (message_bits (b ∷ bytes)) ≡ bits_of 8 (bit_xor a b) ++ add_to_front more (message_bits bytes)
added_byte a b more bytes =
    ap (λ (l : List ℕ). add_to_front (bits_of 8 a ++ more) l) (message_bits-cons b bytes)
    ∙ add-append (bits_of 8 a) more (bits_of 8 b) (message_bits bytes) (length-bits_of 8 a ∙ sym (length-bits_of 8 b))
    ∙ ap (λ (l : List ℕ). l ++ add_to_front more (message_bits bytes)) (bits_of-xor 8 a b)

last_added : (a b : ℕ) (bytes : List ℕ) → add_to_front (bits_of 8 a) (message_bits (b ∷ bytes)) ≡ message_bits (bit_xor a b ∷ bytes)
last_added a b bytes =
    ap (λ (l : List ℕ). add_to_front (bits_of 8 a) l) (message_bits-cons b bytes)
    ∙ add-front (bits_of 8 a) (bits_of 8 b) (message_bits bytes) (omega (arith, length-bits_of 8 a, length-bits_of 8 b))
    ∙ ap (λ (l : List ℕ). l ++ message_bits bytes) (bits_of-xor 8 a b)
    ∙ sym (message_bits-cons (bit_xor a b) bytes)

one_byte : (number : ℕ) → bits_of 8 number ≡ bits_of 8 (number % 256)
one_byte number = sym (bits_of-mod 8 8 number (omega arith))

-- The register's four bytes, added to four bytes of the message.
register_added : (register a b c d : ℕ) (bytes : List ℕ) → add_to_front (bits_of 32 register) (message_bits (a ∷ b ∷ c ∷ d ∷ bytes)) ≡ message_bits (bit_xor (register / 2 ^ 24 % 256) a ∷ bit_xor (register / 2 ^ 16 % 256) b ∷ bit_xor (register / 2 ^ 8 % 256) c ∷ bit_xor (register % 256) d ∷ bytes)
register_added register a b c d bytes =
    let r0 = register / 2 ^ 24 % 256 in
    let r1 = register / 2 ^ 16 % 256 in
    let r2 = register / 2 ^ 8 % 256 in
    let r3 = register % 256 in
    let parts : bits_of 32 register ≡ bits_of 8 r0 ++ (bits_of 8 r1 ++ (bits_of 8 r2 ++ bits_of 8 r3)) =
    bits_of-cut 8 24 32 register refl
    ∙ ap (λ (l : List ℕ). l ++ bits_of 24 register) (one_byte (register / 2 ^ 24))
    ∙ ap (λ (l : List ℕ). bits_of 8 r0 ++ l)
    (bits_of-cut 8 16 24 register refl
    ∙ ap (λ (l : List ℕ). l ++ bits_of 16 register) (one_byte (register / 2 ^ 16))
    ∙ ap (λ (l : List ℕ). bits_of 8 r1 ++ l)
    (bits_of-cut 8 8 16 register refl
    ∙ ap (λ (l : List ℕ). l ++ bits_of 8 register) (one_byte (register / 2 ^ 8))
    ∙ ap (λ (l : List ℕ). bits_of 8 r2 ++ l) (one_byte register))) in
    ap (λ (l : List ℕ). add_to_front l (message_bits (a ∷ b ∷ c ∷ d ∷ bytes))) parts
    ∙ added_byte r0 a (bits_of 8 r1 ++ (bits_of 8 r2 ++ bits_of 8 r3)) (b ∷ c ∷ d ∷ bytes)
    ∙ ap (λ (l : List ℕ). bits_of 8 (bit_xor r0 a) ++ l)
    (added_byte r1 b (bits_of 8 r2 ++ bits_of 8 r3) (c ∷ d ∷ bytes)
    ∙ ap (λ (l : List ℕ). bits_of 8 (bit_xor r1 b) ++ l)
    (added_byte r2 c (bits_of 8 r3) (d ∷ bytes)
    ∙ ap (λ (l : List ℕ). bits_of 8 (bit_xor r2 c) ++ l) (last_added r3 d bytes)
    ∙ sym (message_bits-cons (bit_xor r2 c) (bit_xor r3 d ∷ bytes)))
    ∙ sym (message_bits-cons (bit_xor r1 b) (bit_xor r2 c ∷ bit_xor r3 d ∷ bytes)))
    ∙ sym (message_bits-cons (bit_xor r0 a) (bit_xor r1 b ∷ bit_xor r2 c ∷ bit_xor r3 d ∷ bytes))

eight-cons : (block : List ℕ) → length block ≡ 8 → block ≡ get_or block 0 0 ∷ get_or block 1 0 ∷ get_or block 2 0 ∷ get_or block 3 0 ∷ get_or block 4 0 ∷ get_or block 5 0 ∷ get_or block 6 0 ∷ get_or block 7 0 ∷ []
eight-cons [] whole = absurd (omega arith)
eight-cons (a ∷ []) whole = absurd (omega arith)
eight-cons (a ∷ b ∷ []) whole = absurd (omega arith)
eight-cons (a ∷ b ∷ c ∷ []) whole = absurd (omega arith)
eight-cons (a ∷ b ∷ c ∷ d ∷ []) whole = absurd (omega arith)
eight-cons (a ∷ b ∷ c ∷ d ∷ e ∷ []) whole = absurd (omega arith)
eight-cons (a ∷ b ∷ c ∷ d ∷ e ∷ f ∷ []) whole = absurd (omega arith)
eight-cons (a ∷ b ∷ c ∷ d ∷ e ∷ f ∷ g ∷ []) whole = absurd (omega arith)
eight-cons (a ∷ b ∷ c ∷ d ∷ e ∷ f ∷ g ∷ h ∷ []) whole = refl
eight-cons (a ∷ b ∷ c ∷ d ∷ e ∷ f ∷ g ∷ h ∷ i ∷ rest) whole = absurd (omega arith)

-- Eight bytes taken in by their entries are their bits taken in.
pub after_block-bits : (register : ℕ) (block : List ℕ) (e7 e6 e5 e4 e3 e2 e1 e0 : ℕ) → length block ≡ 8 →
    bits_of 32 e7 ≡ entry_bits 7 (bit_xor (register / 2 ^ 24 % 256) (get_or block 0 0)) →
    bits_of 32 e6 ≡ entry_bits 6 (bit_xor (register / 2 ^ 16 % 256) (get_or block 1 0)) →
    bits_of 32 e5 ≡ entry_bits 5 (bit_xor (register / 2 ^ 8 % 256) (get_or block 2 0)) →
    bits_of 32 e4 ≡ entry_bits 4 (bit_xor (register % 256) (get_or block 3 0)) →
    bits_of 32 e3 ≡ entry_bits 3 (get_or block 4 0) →
    bits_of 32 e2 ≡ entry_bits 2 (get_or block 5 0) →
    bits_of 32 e1 ≡ entry_bits 1 (get_or block 6 0) →
    bits_of 32 e0 ≡ entry_bits 0 (get_or block 7 0) →
    bits_of 32 (bit_xor (bit_xor (bit_xor (bit_xor (bit_xor (bit_xor (bit_xor e7 e6) e5) e4) e3) e2) e1) e0) ≡ after_bits (bits_of 32 register) (message_bits block)
after_block-bits register block e7 e6 e5 e4 e3 e2 e1 e0 whole is7 is6 is5 is4 is3 is2 is1 is0 =
    let b0 = get_or block 0 0 in
    let b1 = get_or block 1 0 in
    let b2 = get_or block 2 0 in
    let b3 = get_or block 3 0 in
    let b4 = get_or block 4 0 in
    let b5 = get_or block 5 0 in
    let b6 = get_or block 6 0 in
    let b7 = get_or block 7 0 in
    let x0 = bit_xor (register / 2 ^ 24 % 256) b0 in
    let x1 = bit_xor (register / 2 ^ 16 % 256) b1 in
    let x2 = bit_xor (register / 2 ^ 8 % 256) b2 in
    let x3 = bit_xor (register % 256) b3 in
    let s6 = bit_xor e7 e6 in
    let s5 = bit_xor s6 e5 in
    let s4 = bit_xor s5 e4 in
    let s3 = bit_xor s4 e3 in
    let s2 = bit_xor s3 e2 in
    let s1 = bit_xor s2 e1 in
    sym (ap (λ (l : List ℕ). after_bits (bits_of 32 register) (message_bits l)) (eight-cons block whole)
    ∙ after_bits-zero_register (bits_of 32 register) (message_bits (b0 ∷ b1 ∷ b2 ∷ b3 ∷ b4 ∷ b5 ∷ b6 ∷ b7 ∷ [])) (IsBits-bits_of 32 register)
    (IsBits-message_bits (b0 ∷ b1 ∷ b2 ∷ b3 ∷ b4 ∷ b5 ∷ b6 ∷ b7 ∷ [])) (length-bits_of 32 register)
    (omega (arith, length-message_bits (b0 ∷ b1 ∷ b2 ∷ b3 ∷ b4 ∷ b5 ∷ b6 ∷ b7 ∷ [])))
    ∙ ap (λ (l : List ℕ). after_bits zero_register l) (register_added register b0 b1 b2 b3 (b4 ∷ b5 ∷ b6 ∷ b7 ∷ []))
    ∙ begun x0 e7 (x1 ∷ x2 ∷ x3 ∷ b4 ∷ b5 ∷ b6 ∷ b7 ∷ []) is7
    ∙ taken e7 x1 e6 (x2 ∷ x3 ∷ b4 ∷ b5 ∷ b6 ∷ b7 ∷ []) is6
    ∙ taken s6 x2 e5 (x3 ∷ b4 ∷ b5 ∷ b6 ∷ b7 ∷ []) is5
    ∙ taken s5 x3 e4 (b4 ∷ b5 ∷ b6 ∷ b7 ∷ []) is4
    ∙ taken s4 b4 e3 (b5 ∷ b6 ∷ b7 ∷ []) is3
    ∙ taken s3 b5 e2 (b6 ∷ b7 ∷ []) is2
    ∙ taken s2 b6 e1 (b7 ∷ []) is1
    ∙ taken s1 b7 e0 [] is0
    ∙ ended (bit_xor s1 e0))

four-cons : (half : List ℕ) → length half ≡ 4 → half ≡ get_or half 0 0 ∷ get_or half 1 0 ∷ get_or half 2 0 ∷ get_or half 3 0 ∷ []
four-cons [] whole = absurd (omega arith)
four-cons (a ∷ []) whole = absurd (omega arith)
four-cons (a ∷ b ∷ []) whole = absurd (omega arith)
four-cons (a ∷ b ∷ c ∷ []) whole = absurd (omega arith)
four-cons (a ∷ b ∷ c ∷ d ∷ []) whole = refl
four-cons (a ∷ b ∷ c ∷ d ∷ e ∷ rest) whole = absurd (omega arith)

-- Four bytes taken in by their entries are their bits taken in.
pub after_half-bits : (register : ℕ) (half : List ℕ) (e3 e2 e1 e0 : ℕ) → length half ≡ 4 →
    bits_of 32 e3 ≡ entry_bits 3 (bit_xor (register / 2 ^ 24 % 256) (get_or half 0 0)) →
    bits_of 32 e2 ≡ entry_bits 2 (bit_xor (register / 2 ^ 16 % 256) (get_or half 1 0)) →
    bits_of 32 e1 ≡ entry_bits 1 (bit_xor (register / 2 ^ 8 % 256) (get_or half 2 0)) →
    bits_of 32 e0 ≡ entry_bits 0 (bit_xor (register % 256) (get_or half 3 0)) →
    bits_of 32 (bit_xor (bit_xor (bit_xor e3 e2) e1) e0) ≡ after_bits (bits_of 32 register) (message_bits half)
after_half-bits register half e3 e2 e1 e0 whole is3 is2 is1 is0 =
    let b0 = get_or half 0 0 in
    let b1 = get_or half 1 0 in
    let b2 = get_or half 2 0 in
    let b3 = get_or half 3 0 in
    let x0 = bit_xor (register / 2 ^ 24 % 256) b0 in
    let x1 = bit_xor (register / 2 ^ 16 % 256) b1 in
    let x2 = bit_xor (register / 2 ^ 8 % 256) b2 in
    let x3 = bit_xor (register % 256) b3 in
    let s2 = bit_xor e3 e2 in
    let s1 = bit_xor s2 e1 in
    sym (ap (λ (l : List ℕ). after_bits (bits_of 32 register) (message_bits l)) (four-cons half whole)
    ∙ after_bits-zero_register (bits_of 32 register) (message_bits (b0 ∷ b1 ∷ b2 ∷ b3 ∷ [])) (IsBits-bits_of 32 register)
    (IsBits-message_bits (b0 ∷ b1 ∷ b2 ∷ b3 ∷ [])) (length-bits_of 32 register)
    (omega (arith, length-message_bits (b0 ∷ b1 ∷ b2 ∷ b3 ∷ [])))
    ∙ ap (λ (l : List ℕ). after_bits zero_register l) (register_added register b0 b1 b2 b3 [])
    ∙ begun x0 e3 (x1 ∷ x2 ∷ x3 ∷ []) is3
    ∙ taken e3 x1 e2 (x2 ∷ x3 ∷ []) is2
    ∙ taken s2 x2 e1 (x3 ∷ []) is1
    ∙ taken s1 x3 e0 [] is0
    ∙ ended (bit_xor s1 e0))
