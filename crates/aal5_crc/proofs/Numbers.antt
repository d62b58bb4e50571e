-- Numbers and their bits.
use Rattle.std.proofs.Common.{◌≡◌, ℕ, zero, suc, ◌+◌, ◌-◌, ◌*◌, ◌/◌, ◌%◌, ◌^◌, ◌≤◌, ◌<◌, List, [], ◌∷◌, ◌++◌, length, replicate, refl, ap, sym, ◌∙◌, arith}
use Rattle.std.proofs.Math.Nat.{pow-suc, mod-eq_of_lt, div-div-eq-div-mul}
use Rattle.std.proofs.lemmas.List.{length-map}
use Rattle.std.proofs.lemmas.Nat.{pow-add, mod-pow-add, div-add-mod'}
use Rattle.std.proofs.lemmas.Nat.Bits.{bit_at_xor, bit_at_cat_low, bit_at_cat_high, bit_at-zero, bit_at_lowest}
use Rattle.std.specs.Int.{bit_at}
use Rattle.std.specs.Prelude.{bit_xor}
use Rattle.frame_spec.specs.Checksum.{bits_of, number_of, inverted, inverted_bit, add_to_front}
use Rattle.frame_laws.proofs.Lengths.{length-bits_of}
use Rattle.aal5_crc.proofs.Bits.{IsBits}

same_cons : (x y : ℕ) (xs ys : List ℕ) → x ≡ y → xs ≡ ys → x ∷ xs ≡ y ∷ ys
same_cons x y xs ys head tail = cc

pub bits_of-xor : (count a b : ℕ) → add_to_front (bits_of count a) (bits_of count b) ≡ bits_of count (bit_xor a b)
unfolding add_to_front bits_of
bits_of-xor zero a b = refl
bits_of-xor (suc count) a b = same_cons _ _ _ _ (sym (bit_at_xor a b count)) (bits_of-xor count a b)

-- The high bits stand before the low ones.
pub bits_of-cut : (high low count number : ℕ) → count ≡ high + low → bits_of count number ≡ bits_of high (number / 2 ^ low) ++ bits_of low number
unfolding bits_of
bits_of-cut zero low count number same = let e : count ≡ low = omega arith in ap (λ (n : ℕ). bits_of n number) e
bits_of-cut (suc high) low zero number same = absurd (omega arith)
bits_of-cut (suc high) low (suc count) number same =
    let place : count ≡ low + high = omega arith in
    let power : 2 ^ count ≡ 2 ^ low * 2 ^ high = ap (λ (n : ℕ). 2 ^ n) place ∙ pow-add 2 low high in
    let head : number / 2 ^ count ≡ number / 2 ^ low / 2 ^ high = ap (λ (n : ℕ). number / n) power ∙ sym (div-div-eq-div-mul number (2 ^ low) (2 ^ high)) in
    same_cons _ _ _ _ (ap (λ (n : ℕ). n % 2) head) (bits_of-cut high low count number (omega arith))

-- What stands above the bits changes none of them.
pub bits_of-low : (count width high low : ℕ) → count ≤ width → bits_of count (high * 2 ^ width + low) ≡ bits_of count low
unfolding bits_of
bits_of-low zero width high low within = refl
bits_of-low (suc count) width high low within =
    same_cons _ _ _ _ (bit_at_cat_low high width low count (omega arith)) (bits_of-low count width high low (omega arith))

pub bits_of-mod : (count width number : ℕ) → count ≤ width → bits_of count (number % 2 ^ width) ≡ bits_of count number
bits_of-mod count width number within =
    sym (bits_of-low count width (number / 2 ^ width) (number % 2 ^ width) within)
    ∙ ap (λ (n : ℕ). bits_of count n) (div-add-mod' number (2 ^ width))

pub bits_of-zero : (count : ℕ) → bits_of count 0 ≡ replicate count 0
unfolding bits_of
bits_of-zero zero = refl
bits_of-zero (suc count) = same_cons _ _ _ _ (bit_at-zero count) (bits_of-zero count)

pub bits_of-shifted : (count number : ℕ) → bits_of count (number * 2 ^ count) ≡ replicate count 0
bits_of-shifted count number =
    let whole : number * 2 ^ count ≡ number * 2 ^ count + 0 = omega arith in
    ap (λ (n : ℕ). bits_of count n) whole ∙ bits_of-low count count number 0 (omega arith) ∙ bits_of-zero count

pub number_of-lt : (bits : List ℕ) → IsBits bits → number_of bits < 2 ^ length bits
unfolding number_of
number_of-lt [] are = omega arith
number_of-lt (zero ∷ bits) are =
    let power : 2 ^ suc (length bits) ≡ 2 ^ length bits * 2 = pow-suc 2 (length bits) in
    omega (arith, number_of-lt bits are.1)
number_of-lt (suc zero ∷ bits) are =
    let power : 2 ^ suc (length bits) ≡ 2 ^ length bits * 2 = pow-suc 2 (length bits) in
    omega (arith, number_of-lt bits are.1)
number_of-lt (suc (suc bit) ∷ bits) are = absurd (omega (arith, are.0))

pub bits_of-number_of : (bits : List ℕ) → IsBits bits → bits_of (length bits) (number_of bits) ≡ bits
unfolding number_of bits_of
bits_of-number_of [] are = refl
bits_of-number_of (bit ∷ bits) are =
    let none : length bits - length bits ≡ 0 = omega arith in
    same_cons _ _ _ _
    (bit_at_cat_high bit (length bits) (number_of bits) (length bits) (number_of-lt bits are.1) (omega arith)
    ∙ ap (λ (n : ℕ). bit_at bit n) none ∙ bit_at_lowest bit ∙ omega (arith, are.0))
    (bits_of-low (length bits) (length bits) bit (number_of bits) (omega arith) ∙ bits_of-number_of bits are.1)

number_of-bits_of-mod : (count number : ℕ) → number_of (bits_of count number) ≡ number % 2 ^ count
unfolding number_of bits_of
number_of-bits_of-mod zero number = omega arith
number_of-bits_of-mod (suc count) number =
    let width : 1 + count ≡ suc count = omega arith in
    let cut : number % 2 ^ (1 + count) ≡ (number / 2 ^ count % 2) * 2 ^ count + number % 2 ^ count = mod-pow-add number 1 count in
    ap (λ (n : ℕ). bit_at number count * 2 ^ n + number_of (bits_of count number)) (length-bits_of count number)
    ∙ ap (λ (n : ℕ). bit_at number count * 2 ^ count + n) (number_of-bits_of-mod count number)
    ∙ sym cut ∙ ap (λ (n : ℕ). number % 2 ^ n) width

pub number_of-bits_of : (count number : ℕ) → number < 2 ^ count → number_of (bits_of count number) ≡ number
number_of-bits_of count number fits = number_of-bits_of-mod count number ∙ mod-eq_of_lt fits

-- A number and that of the inverted bits are together the largest of their width.
pub number_of-inverted : (bits : List ℕ) → IsBits bits → number_of (inverted bits) + number_of bits + 1 ≡ 2 ^ length bits
unfolding number_of inverted inverted_bit
number_of-inverted [] are = omega arith
number_of-inverted (zero ∷ bits) are =
    let power : 2 ^ suc (length bits) ≡ 2 ^ length bits * 2 = pow-suc 2 (length bits) in
    rw (length-map bits inverted_bit) (omega (arith, number_of-inverted bits are.1))
number_of-inverted (suc zero ∷ bits) are =
    let power : 2 ^ suc (length bits) ≡ 2 ^ length bits * 2 = pow-suc 2 (length bits) in
    rw (length-map bits inverted_bit) (omega (arith, number_of-inverted bits are.1))
number_of-inverted (suc (suc bit) ∷ bits) are = absurd (omega (arith, are.0))
