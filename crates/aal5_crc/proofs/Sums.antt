-- What a sum of registers and messages leaves is the sum of what each leaves.
use Rattle.std.proofs.Common.{◌≡◌, ℕ, zero, suc, ◌+◌, ◌%◌, ◌≤◌, ◌<◌, List, [], ◌∷◌, ◌++◌, length, replicate, refl, ap, sym, ◌∙◌, arith}
use Rattle.std.proofs.lemmas.List.{length-append, length-replicate}
use Rattle.frame_spec.specs.Checksum.{add_to_front, generator, without_first, divide}
use Rattle.frame_laws.proofs.Lengths.{length-add_to_front}
use Rattle.aal5_crc.specs.Register.{after_bit, after_bits, zero_register}
use Rattle.aal5_crc.proofs.Bits.{IsBits, IsBits-append, IsBits-add, add-assoc, add-append, add-swap, add-twice, add-front, zeros-add}
use Rattle.aal5_crc.proofs.Steps.{length-generator, length-after_bit, length-after_bits, IsBits-after_bits, divide-register, length-zero_register, IsBits-zero_register, zero_register-add, add-zero_register}

without_first-add : (b c : ℕ) (xs ys : List ℕ) → b < 2 → c < 2 → length xs ≡ 32 → length ys ≡ 32 → without_first ((b + c) % 2) (add_to_front xs ys) ≡ add_to_front (without_first b xs) (without_first c ys)
unfolding without_first
without_first-add zero zero xs ys b_bit c_bit xs_whole ys_whole = refl
without_first-add zero (suc zero) xs ys b_bit c_bit xs_whole ys_whole =
    add-swap generator xs ys (length-generator ∙ sym xs_whole) (xs_whole ∙ sym ys_whole)
without_first-add (suc zero) zero xs ys b_bit c_bit xs_whole ys_whole =
    add-assoc generator xs ys (omega (arith, length-generator))
without_first-add (suc zero) (suc zero) xs ys b_bit c_bit xs_whole ys_whole =
    sym (add-twice generator xs ys (length-generator ∙ sym xs_whole) (xs_whole ∙ sym ys_whole))
without_first-add zero (suc (suc c)) xs ys b_bit c_bit xs_whole ys_whole = absurd (omega arith)
without_first-add (suc zero) (suc (suc c)) xs ys b_bit c_bit xs_whole ys_whole = absurd (omega arith)
without_first-add (suc (suc b)) c xs ys b_bit c_bit xs_whole ys_whole = absurd (omega arith)

after_bit-add : (r s : List ℕ) (m n : ℕ) → length r ≡ 32 → length s ≡ 32 → after_bit (add_to_front r s) ((m + n) % 2) ≡ add_to_front (after_bit r m) (after_bit s n)
unfolding after_bit add_to_front
after_bit-add [] s m n r_whole s_whole = absurd (omega arith)
after_bit-add (x ∷ r) [] m n r_whole s_whole = absurd (omega arith)
after_bit-add (x ∷ r) (y ∷ s) m n r_whole s_whole =
    let order : ((x + y) % 2 + (m + n) % 2) % 2 ≡ ((x + m) % 2 + (y + n) % 2) % 2 = omega arith in
    ap (λ (b : ℕ). without_first b (add_to_front r s ++ 0 ∷ [])) order
    ∙ ap (λ (l : List ℕ). without_first (((x + m) % 2 + (y + n) % 2) % 2) l) (sym (add-append r (0 ∷ []) s (0 ∷ []) (omega arith)))
    ∙ without_first-add ((x + m) % 2) ((y + n) % 2) (r ++ 0 ∷ []) (s ++ 0 ∷ []) (omega arith) (omega arith) (omega (arith, length-append r (0 ∷ []))) (omega (arith, length-append s (0 ∷ [])))

pub after_bits-add : (r s ms ns : List ℕ) → length r ≡ 32 → length s ≡ 32 → length ms ≡ length ns → after_bits (add_to_front r s) (add_to_front ms ns) ≡ add_to_front (after_bits r ms) (after_bits s ns)
unfolding after_bits add_to_front
after_bits-add r s [] [] r_whole s_whole same = refl
after_bits-add r s [] (n ∷ ns) r_whole s_whole same = absurd (omega arith)
after_bits-add r s (m ∷ ms) [] r_whole s_whole same = absurd (omega arith)
after_bits-add r s (m ∷ ms) (n ∷ ns) r_whole s_whole same =
    ap (λ (l : List ℕ). after_bits l (add_to_front ms ns)) (after_bit-add r s m n r_whole s_whole)
    ∙ after_bits-add (after_bit r m) (after_bit s n) ms ns (length-after_bit r m ∙ r_whole) (length-after_bit s n ∙ s_whole) (omega arith)

-- A register may be added to the front of the message in place of standing before it.
pub after_bits-zero_register : (register bits : List ℕ) → IsBits register → IsBits bits → length register ≡ 32 → 32 ≤ length bits → after_bits register bits ≡ after_bits zero_register (add_to_front register bits)
after_bits-zero_register register bits register_are are whole long =
    let zeros = zero_register in
    let added = add_to_front register bits in
    let added_are : IsBits added = IsBits-add register bits are in
    let one = add-zero_register (after_bits register bits) (IsBits-after_bits register bits register_are) (length-after_bits register bits ∙ whole) in
    let other = add-zero_register (after_bits zeros added) (IsBits-after_bits zeros added IsBits-zero_register) (length-after_bits zeros added ∙ length-zero_register) in
    let long_zeros : 32 ≤ length zeros = omega (arith, length-zero_register) in
    sym one
    ∙ sym (divide-register register bits zeros whole are IsBits-zero_register long_zeros)
    ∙ ap (λ (l : List ℕ). divide (length bits) l) (add-front register bits zeros (omega arith) ∙ sym (zero_register-add (added ++ zeros) (IsBits-append added zeros added_are IsBits-zero_register)))
    ∙ ap (λ (n : ℕ). divide n (add_to_front zeros (added ++ zeros))) (sym (length-add_to_front register bits))
    ∙ divide-register zeros added zeros length-zero_register added_are IsBits-zero_register long_zeros
    ∙ other

-- What bits leave, with others after them, is what they leave with zeros after them and what the
-- others leave, added.
pub after_bits-apart : (bits others : List ℕ) (width : ℕ) → IsBits others → width ≡ length others → after_bits (after_bits zero_register bits) others ≡ add_to_front (after_bits (after_bits zero_register bits) (replicate width 0)) (after_bits zero_register others)
after_bits-apart bits others width are same =
    let register = after_bits zero_register bits in
    let zeros : List ℕ = replicate width 0 in
    let whole : length register ≡ 32 = length-after_bits zero_register bits ∙ length-zero_register in
    ap (λ (l : List ℕ). after_bits l others) (sym (add-zero_register register (IsBits-after_bits zero_register bits IsBits-zero_register) whole))
    ∙ ap (λ (l : List ℕ). after_bits (add_to_front register zero_register) l) (sym (zeros-add width others are))
    ∙ after_bits-add register zero_register zeros others whole length-zero_register (length-replicate {A = ℕ} width 0 ∙ same)
