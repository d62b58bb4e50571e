-- Lists of bits, and their addition without carry.
use Rattle.std.proofs.Common.{◌≡◌, ℕ, zero, suc, ◌+◌, ◌-◌, ◌%◌, ◌≤◌, ◌<◌, List, [], ◌∷◌, ◌++◌, length, take, drop, replicate, refl, ap, arith}
use Rattle.std.proofs.lemmas.Nat.Bits.{bit_at-lt}
use Rattle.std.specs.List.{flat_map}
use Rattle.frame_spec.specs.Checksum.{bits_of, inverted, inverted_bit, add_to_front, generator, without_first, message_bits}

abbrev pub IsBits : List ℕ → Type 0
IsBits [] = Unit {0}
IsBits (bit ∷ bits) = (bit < 2) × IsBits bits

pub IsBits-bits_of : (count number : ℕ) → IsBits (bits_of count number)
unfolding bits_of
IsBits-bits_of zero number = tt
IsBits-bits_of (suc count) number = (bit_at-lt number count, IsBits-bits_of count number)

pub IsBits-append : (a b : List ℕ) → IsBits a → IsBits b → IsBits (a ++ b)
IsBits-append [] b is_a is_b = is_b
IsBits-append (x ∷ a) b is_a is_b = (is_a.0, IsBits-append a b is_a.1 is_b)

pub IsBits-zeros : (count : ℕ) → IsBits (replicate count 0)
IsBits-zeros zero = tt
IsBits-zeros (suc count) = (omega arith, IsBits-zeros count)

pub IsBits-ones : (count : ℕ) → IsBits (replicate count 1)
IsBits-ones zero = tt
IsBits-ones (suc count) = (omega arith, IsBits-ones count)

pub IsBits-add : (added bits : List ℕ) → IsBits bits → IsBits (add_to_front added bits)
unfolding add_to_front
IsBits-add [] bits are = are
IsBits-add (a ∷ rest) [] are = tt
IsBits-add (a ∷ rest) (bit ∷ bits) are = (omega arith, IsBits-add rest bits are.1)

pub IsBits-without_first : (bit : ℕ) (bits : List ℕ) → IsBits bits → IsBits (without_first bit bits)
unfolding without_first
IsBits-without_first zero bits are = are
IsBits-without_first (suc _) bits are = IsBits-add generator bits are

pub IsBits-message_bits : (bytes : List ℕ) → IsBits (message_bits bytes)
unfolding message_bits
IsBits-message_bits [] = tt
IsBits-message_bits (byte ∷ bytes) = IsBits-append (bits_of 8 byte) (flat_map (bits_of 8) bytes) (IsBits-bits_of 8 byte) (IsBits-message_bits bytes)

-- ---- addition

same_cons : (x y : ℕ) (xs ys : List ℕ) → x ≡ y → xs ≡ ys → x ∷ xs ≡ y ∷ ys
same_cons x y xs ys head tail = cc

pub add-assoc : (a b bits : List ℕ) → length a ≤ length b → add_to_front a (add_to_front b bits) ≡ add_to_front (add_to_front a b) bits
unfolding add_to_front
add-assoc [] b bits shorter = refl
add-assoc (x ∷ a) [] bits shorter = absurd (omega arith)
add-assoc (x ∷ a) (y ∷ b) [] shorter = refl
add-assoc (x ∷ a) (y ∷ b) (bit ∷ bits) shorter =
    same_cons ((x + (y + bit) % 2) % 2) (((x + y) % 2 + bit) % 2) _ _ (omega arith) (add-assoc a b bits (omega arith))

-- A zero bit more at the end of what is added changes nothing.
pub add-zero_last : (added bits : List ℕ) → IsBits bits → length added < length bits → add_to_front (added ++ 0 ∷ []) bits ≡ add_to_front added bits
unfolding add_to_front
add-zero_last [] [] are shorter = absurd (omega arith)
add-zero_last [] (bit ∷ bits) are shorter = same_cons ((0 + bit) % 2) bit bits bits (omega (arith, are.0)) refl
add-zero_last (a ∷ rest) [] are shorter = absurd (omega arith)
add-zero_last (a ∷ rest) (bit ∷ bits) are shorter = ap (λ (l : List ℕ). (a + bit) % 2 ∷ l) (add-zero_last rest bits are.1 (omega arith))

pub add-append : (a b xs ys : List ℕ) → length a ≡ length xs → add_to_front (a ++ b) (xs ++ ys) ≡ add_to_front a xs ++ add_to_front b ys
unfolding add_to_front
add-append [] b [] ys same = refl
add-append [] b (x ∷ xs) ys same = absurd (omega arith)
add-append (y ∷ a) b [] ys same = absurd (omega arith)
add-append (y ∷ a) b (x ∷ xs) ys same = ap (λ (l : List ℕ). (y + x) % 2 ∷ l) (add-append a b xs ys (omega arith))

-- bits added to zeros
pub add-zeros : (bits : List ℕ) (count more : ℕ) → IsBits bits → count ≡ length bits + more → add_to_front bits (replicate count 0) ≡ bits ++ replicate more 0
unfolding add_to_front
add-zeros [] count more are same = let e : count ≡ more = omega arith in ap (λ (n : ℕ). replicate n 0) e
add-zeros (bit ∷ bits) zero more are same = absurd (omega arith)
add-zeros (bit ∷ bits) (suc count) more are same =
    same_cons ((bit + 0) % 2) bit _ _ (omega (arith, are.0)) (add-zeros bits count more are.1 (omega arith))

-- zeros added to bits
pub zeros-add : (count : ℕ) (bits : List ℕ) → IsBits bits → add_to_front (replicate count 0) bits ≡ bits
unfolding add_to_front
zeros-add zero bits are = refl
zeros-add (suc count) [] are = refl
zeros-add (suc count) (bit ∷ bits) are = same_cons ((0 + bit) % 2) bit _ _ (omega (arith, are.0)) (zeros-add count bits are.1)

-- To invert the first bits is to add ones to them.
pub ones-add : (count : ℕ) (bits : List ℕ) → IsBits bits → inverted (take count bits) ++ drop count bits ≡ add_to_front (replicate count 1) bits
unfolding add_to_front inverted inverted_bit
ones-add zero bits are = refl
ones-add (suc count) [] are = refl
ones-add (suc count) (bit ∷ bits) are = same_cons (1 - bit) ((1 + bit) % 2) _ _ (omega (arith, are.0)) (ones-add count bits are.1)

-- What is added reaches no further than its length.
pub add-front : (added bits more : List ℕ) → length added ≤ length bits → add_to_front added (bits ++ more) ≡ add_to_front added bits ++ more
unfolding add_to_front
add-front [] bits more shorter = refl
add-front (a ∷ rest) [] more shorter = absurd (omega arith)
add-front (a ∷ rest) (bit ∷ bits) more shorter = ap (λ (l : List ℕ). (a + bit) % 2 ∷ l) (add-front rest bits more (omega arith))

-- Three lists of one length may be added in any order.
pub add-swap : (a b c : List ℕ) → length a ≡ length b → length b ≡ length c → add_to_front a (add_to_front b c) ≡ add_to_front b (add_to_front a c)
unfolding add_to_front
add-swap [] [] c first second = refl
add-swap [] (y ∷ b) c first second = absurd (omega arith)
add-swap (x ∷ a) [] c first second = absurd (omega arith)
add-swap (x ∷ a) (y ∷ b) [] first second = refl
add-swap (x ∷ a) (y ∷ b) (z ∷ c) first second =
    same_cons ((x + (y + z) % 2) % 2) ((y + (x + z) % 2) % 2) _ _ (omega arith) (add-swap a b c (omega arith) (omega arith))

-- What is added twice is not there.
pub add-twice : (a b c : List ℕ) → length a ≡ length b → length b ≡ length c → add_to_front (add_to_front a b) (add_to_front a c) ≡ add_to_front b c
unfolding add_to_front
add-twice [] b c first second = refl
add-twice (x ∷ a) [] c first second = absurd (omega arith)
add-twice (x ∷ a) (y ∷ b) [] first second = absurd (omega arith)
add-twice (x ∷ a) (y ∷ b) (z ∷ c) first second =
    same_cons (((x + y) % 2 + (x + z) % 2) % 2) ((y + z) % 2) _ _ (omega arith) (add-twice a b c (omega arith) (omega arith))
