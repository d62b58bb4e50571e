-- Bytes that are compared a vector at a time: where the first one with a value stands, and how many have it.
use Rattle.std.proofs.Common.{◌≡◌, ℕ, ◌+◌, ◌-◌, ◌*◌, ◌<◌, ◌≤◌, ◌==◌, Bool, true, false, not, cond, List, [], ◌∷◌, ◌++◌}
use Rattle.std.proofs.Common.{map, length, take, drop, Some, None, refl, sym, ap, ◌∙◌, arith}
use Rattle.std.proofs.lemmas.Bool.{eq-eqb, ne_eqb, lt-ltb}
use Rattle.std.proofs.lemmas.Simd.{chunk-drop, length-chunk, leading_from_mask_l, trailing_mask_l, ones-mask_l}
use Rattle.std.proofs.lemmas.List.{length-drop, take_all, take-append-drop}
use Rattle.std.proofs.lemmas.List.Folds.{prefix_len-append}
use Rattle.std.specs.List.{position, position_or_len, prefix_len, count_by}
use Rattle.std.specs.Prelude.{nat_lt, count_ones}
use Rattle.std.proofs.lemmas.List.Sums.{prefix_len-le-length, sum_by-append, count_by-le-length}
use lib.Lanes.{chunk, mask_l}
use lib.Count.{count_trailing_zeros}

-- ---- the first place

step : (b : Bool) (n l m : ℕ) → cond (not b) (1 + n) 0 ≡ 1 + l → (n ≡ l → m ≡ 0)
    → cond b 1 0 + 2 * m ≡ 0
step true n l m e more = absurd (omega arith)
step false n l m e more = let z = more (omega arith) in omega arith

-- where nothing passes, no bit is set
no_mark : (p : ℕ → Bool) (xs : List ℕ) → position_or_len p xs ≡ length xs → mask_l (map p xs) ≡ 0
no_mark p [] e = refl
no_mark p (x ∷ xs) e =
    step (p x) (position_or_len p xs) (length xs) (mask_l (map p xs)) (omega (arith, e)) (no_mark p xs)

in_parts : (p : ℕ → Bool) (xs : List ℕ) (i n : ℕ) → position_or_len p (drop i xs)
    ≡ cond (position_or_len p (chunk i n xs) == length (chunk i n xs))
    (length (chunk i n xs) + position_or_len p (drop (i + n) xs)) (position_or_len p (chunk i n xs))
in_parts p xs i n =
    ap (position_or_len p) (chunk-drop i n xs)
    ∙ prefix_len-append (λ x. not (p x)) (chunk i n xs) (drop (i + n) xs)

-- a vector without a mark is passed
pub passes_on : (p : ℕ → Bool) (xs : List ℕ) (i n : ℕ) → i + n ≤ length xs
    → mask_l (map p (chunk i n xs)) ≡ 0
    → position_or_len p (drop i xs) ≡ n + position_or_len p (drop (i + n) xs)
passes_on p xs i n room none =
    let c = chunk i n xs in
    in_parts p xs i n
    ∙ ap (λ b. cond b (length c + position_or_len p (drop (i + n) xs)) (position_or_len p c))
    (eq-eqb _ _ (leading_from_mask_l p c none))
    ∙ ap (λ k. k + position_or_len p (drop (i + n) xs)) (length-chunk i n xs room)

-- the lowest mark of a vector is the first place
pub stops_at : (p : ℕ → Bool) (xs : List ℕ) (i n : ℕ) → i + n ≤ length xs → n ≤ 64
    → 0 < mask_l (map p (chunk i n xs))
    → position_or_len p (drop i xs) ≡ count_trailing_zeros 64 (mask_l (map p (chunk i n xs)))
stops_at p xs i n room few some =
    let c = chunk i n xs in
    in_parts p xs i n
    ∙ ap (λ b. cond b (length c + position_or_len p (drop (i + n) xs)) (position_or_len p c))
    (ne_eqb _ _ (λ (e : position_or_len p c ≡ length c). omega (arith, no_mark p c e)))
    ∙ sym (trailing_mask_l p 64 c (omega (arith, length-chunk i n xs room)) some)

stops_within : (p : ℕ → Bool) (xs : List ℕ) (i n : ℕ) → i + n ≤ length xs → n ≤ 64
    → 0 < mask_l (map p (chunk i n xs))
    → count_trailing_zeros 64 (mask_l (map p (chunk i n xs))) < n
stops_within p xs i n room few some =
    let c = chunk i n xs in
    let long = length-chunk i n xs room in
    let is = trailing_mask_l p 64 c (omega (arith, long)) some in
    let most = prefix_len-le-length (λ x. not (p x)) c in
    let before = below (position_or_len p c) (length c) most (λ e. omega (arith, no_mark p c e)) in
    omega (arith, long, is, before)
  where
    below : (a b : ℕ) → a ≤ b → (a ≡ b → ⊥) → a < b
    below a b le apart = omega (arith, le, apart)

-- ---- the place itself

pub place_is : (p : ℕ → Bool) (xs : List ℕ) (n : ℕ) → position_or_len p xs ≡ n → n < length xs
    → position p xs ≡ Some n
place_is p xs n is within =
    ap (λ k. cond (nat_lt k (length xs)) (Some k) None) is
    ∙ ap (λ b. cond b (Some n) None) (lt-ltb n (length xs) within)

-- the first place is that of the lowest mark of the first vector that has one
pub found_at : (p : ℕ → Bool) (xs : List ℕ) (i n marks : ℕ) → i + n ≤ length xs → n ≤ 64
    → marks ≡ mask_l (map p (chunk i n xs)) → 0 < marks
    → position_or_len p xs ≡ i + position_or_len p (drop i xs)
    → position p xs ≡ Some (i + count_trailing_zeros 64 marks)
found_at p xs i n marks room few are some so_far =
    let there : 0 < mask_l (map p (chunk i n xs)) = omega (arith, are, some) in
    let stops = stops_at p xs i n room few there in
    let within = stops_within p xs i n room few there in
    let same : count_trailing_zeros 64 marks ≡ count_trailing_zeros 64 (mask_l (map p (chunk i n xs))) =
    ap (count_trailing_zeros 64) are in
    place_is p xs (i + count_trailing_zeros 64 marks) (omega (arith, so_far, stops, same))
    (omega (arith, room, within, same))

-- the first vector has no mark
pub goes_on : (p : ℕ → Bool) (xs : List ℕ) (i n marks : ℕ) → i + n ≤ length xs
    → marks ≡ mask_l (map p (chunk i n xs)) → marks ≡ 0
    → position_or_len p xs ≡ i + position_or_len p (drop i xs)
    → position_or_len p xs ≡ i + n + position_or_len p (drop (i + n) xs)
goes_on p xs i n marks room are none so_far =
    let passed = passes_on p xs i n room (sym are ∙ none) in
    omega (arith, so_far, passed)

-- ---- how many

counted_both : (p : ℕ → Bool) (xs ys : List ℕ)
    → count_by p (xs ++ ys) ≡ count_by p xs + count_by p ys
counted_both p xs ys = sum_by-append (λ x. cond (p x) 1 0) xs ys

-- those of a vector, and those of what is left
counted_on : (p : ℕ → Bool) (xs : List ℕ) (n marks : ℕ) → marks ≡ mask_l (map p (chunk 0 n xs))
    → count_ones marks + count_by p (drop n xs) ≡ count_by p xs
counted_on p xs n marks are =
    ap (λ k. k + count_by p (drop n xs)) (ap count_ones are ∙ ones-mask_l p (chunk 0 n xs))
    ∙ sym (counted_both p (chunk 0 n xs) (drop n xs))
    ∙ ap (count_by p) (take-append-drop n xs)

rest_is : (xs : List ℕ) (n : ℕ) → take (length xs - n) (drop n xs) ≡ drop n xs
rest_is xs n = take_all (length xs - n) (drop n xs) (omega (arith, length-drop n xs))

pub counts_on : (p : ℕ → Bool) (xs : List ℕ) (n count marks all : ℕ) → n ≤ length xs
    → marks ≡ mask_l (map p (chunk 0 n xs)) → count + count_by p xs ≡ all
    → count + count_ones marks + count_by p (take (length xs - n) (drop n xs)) ≡ all
counts_on p xs n count marks all room are so_far =
    let more = counted_on p xs n marks are in
    let rest = ap (count_by p) (rest_is xs n) in
    omega (arith, more, rest, so_far)

pub counts_within : (p : ℕ → Bool) (xs : List ℕ) (n count marks most : ℕ) → n ≤ length xs
    → marks ≡ mask_l (map p (chunk 0 n xs)) → count + length xs ≤ most
    → count + count_ones marks + length (take (length xs - n) (drop n xs)) ≤ most
counts_within p xs n count marks most room are so_far =
    let ones = ap count_ones are ∙ ones-mask_l p (chunk 0 n xs) in
    let few = count_by-le-length p (chunk 0 n xs) in
    let long = length-chunk 0 n xs (omega (arith, room)) in
    let rest = ap length (rest_is xs n) in
    omega (arith, ones, few, long, rest, length-drop n xs, so_far)
