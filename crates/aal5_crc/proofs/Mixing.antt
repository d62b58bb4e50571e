-- The register to which four bytes are added as one number, byte by byte.
use Rattle.std.proofs.Common.{◌≡◌, ℕ, ◌/◌, ◌%◌, ◌^◌, ◌<◌, List, [], ◌∷◌, length, get_or, ap, ◌∙◌, refl}
use Rattle.std.specs.Prelude.{bit_xor}
use Rattle.std.specs.Int.{from_be_bytes, to_be_bytes, w32}
use Rattle.std.proofs.lemmas.Nat.{xor_shr, xor_mod, be_bytes_4}

-- one byte of the sum
byte_of_sum : (register word k w : ℕ) → word / 2 ^ k % 256 ≡ w → bit_xor register word / 2 ^ k % 256 ≡ bit_xor (register / 2 ^ k % 256) w
byte_of_sum register word k w is =
    ap (λ (n : ℕ). n % 256) (xor_shr register word k)
    ∙ xor_mod (register / 2 ^ k) (word / 2 ^ k) 8
    ∙ ap (λ (n : ℕ). bit_xor (register / 2 ^ k % 256) n) is

last_of_sum : (register word w : ℕ) → word % 256 ≡ w → bit_xor register word % 256 ≡ bit_xor (register % 256) w
last_of_sum register word w is =
    xor_mod register word 8 ∙ ap (λ (n : ℕ). bit_xor (register % 256) n) is

pub sum_is : (register word : ℕ) (row : List ℕ) → length row ≡ 4 → ((i : ℕ) → get_or row i 0 < 256) → word ≡ from_be_bytes w32 row
    → to_be_bytes w32 (bit_xor register word)
    ≡ bit_xor (register / 2 ^ 24 % 256) (get_or row 0 0) ∷ bit_xor (register / 2 ^ 16 % 256) (get_or row 1 0)
    ∷ bit_xor (register / 2 ^ 8 % 256) (get_or row 2 0) ∷ bit_xor (register % 256) (get_or row 3 0) ∷ []
sum_is register word row whole are is =
    let same : to_be_bytes w32 word ≡ row = be_bytes_4 row word whole are is in
    let first = byte_of_sum register word 24 (get_or row 0 0) (ap (λ (l : List ℕ). get_or l 0 0) same) in
    let second = byte_of_sum register word 16 (get_or row 1 0) (ap (λ (l : List ℕ). get_or l 1 0) same) in
    let third = byte_of_sum register word 8 (get_or row 2 0) (ap (λ (l : List ℕ). get_or l 2 0) same) in
    let last = last_of_sum register word (get_or row 3 0) (ap (λ (l : List ℕ). get_or l 3 0) same) in
    (λ i. first i ∷ second i ∷ third i ∷ last i ∷ [])
