-- Zeros at the end are cut one by one, and the first other byte from the end stays.
use Rattle.std.proofs.Common.{◌≡◌, ℕ, zero, suc, ◌+◌, ◌-◌, ◌<◌, ◌≤◌, List, [], ◌∷◌, ◌++◌, length, take, drop, get_or, refl, sym, ap, subst, ◌∙◌, inl, inr, eq-zero-or-pos, arith}
use Rattle.std.specs.Int.{from_be_bytes, w32, w64}
use Rattle.std.proofs.Math.ListN.{get_or-eq_default}
use Rattle.std.proofs.lemmas.Nat.{be_bytes_4, be_bytes_8}
use Rattle.std.proofs.Math.Seq.{take-add}
use Rattle.std.proofs.lemmas.List.{take_more, length-take, length-drop, get_or-take, get_or-drop}
use Rattle.message_spec.specs.Text.{cut, before_cut}

cut_zero : (bytes : List ℕ) → cut (bytes ++ 0 ∷ []) ≡ cut bytes
unfolding cut
cut_zero [] = refl
cut_zero (byte ∷ bytes) = ap (before_cut byte) (cut_zero bytes)

before_some : (byte next : ℕ) (rest : List ℕ) → before_cut byte (next ∷ rest) ≡ byte ∷ next ∷ rest
before_some zero next rest = refl
before_some (suc byte) next rest = refl

before_last : (byte : ℕ) (bytes : List ℕ) (last : ℕ) → before_cut byte (bytes ++ last ∷ []) ≡ byte ∷ (bytes ++ last ∷ [])
before_last byte [] last = before_some byte last []
before_last byte (next ∷ bytes) last = before_some byte next (bytes ++ last ∷ [])

row_byte : (bytes : List ℕ) (size place i : ℕ) → ((k : ℕ) → get_or bytes k 0 < 256) → get_or (take size (drop place bytes)) i 0 < 256
row_byte bytes size place i are =
    let row = take size (drop place bytes) in
    elim (eq-zero-or-pos (size - i)) [
      | inl past ↦
          let none : length row ≤ i = omega (arith, length-take size (drop place bytes)) in
          let zero_there : get_or row i 0 ≡ 0 = get_or-eq_default row 0 none in
          omega (arith, zero_there)
      | inr within ↦
          let there : get_or row i 0 ≡ get_or bytes (place + i) 0 = get_or-take size (drop place bytes) i 0 (omega arith) ∙ get_or-drop place bytes i 0 in
          omega (arith, there, are (place + i))
    ]

-- four zeros, and eight
abbrev pub four_zeros : List ℕ
four_zeros = 0 ∷ 0 ∷ 0 ∷ 0 ∷ []

abbrev pub eight_zeros : List ℕ
eight_zeros = 0 ∷ 0 ∷ 0 ∷ 0 ∷ 0 ∷ 0 ∷ 0 ∷ 0 ∷ []

cut_four : (bytes : List ℕ) → cut (bytes ++ four_zeros) ≡ cut bytes
unfolding cut
cut_four [] = refl
cut_four (byte ∷ bytes) = ap (before_cut byte) (cut_four bytes)

cut_eight : (bytes : List ℕ) → cut (bytes ++ eight_zeros) ≡ cut bytes
unfolding cut
cut_eight [] = refl
cut_eight (byte ∷ bytes) = ap (before_cut byte) (cut_eight bytes)

-- four bytes that are the number 0 are zeros, and so are eight
pub four_of : (bytes : List ℕ) (place : ℕ) → place + 4 ≤ length bytes → ((i : ℕ) → get_or bytes i 0 < 256) → 0 ≡ from_be_bytes w32 (take 4 (drop place bytes)) → take 4 (drop place bytes) ≡ four_zeros
four_of bytes place within are none =
    let row = take 4 (drop place bytes) in
    sym (be_bytes_4 row 0 (omega (arith, length-take 4 (drop place bytes), length-drop place bytes)) (λ i. row_byte bytes 4 place i are) none)

pub eight_of : (bytes : List ℕ) (place : ℕ) → place + 8 ≤ length bytes → ((i : ℕ) → get_or bytes i 0 < 256) → 0 ≡ from_be_bytes w64 (take 8 (drop place bytes)) → take 8 (drop place bytes) ≡ eight_zeros
eight_of bytes place within are none =
    let row = take 8 (drop place bytes) in
    sym (be_bytes_8 row 0 (omega (arith, length-take 8 (drop place bytes), length-drop place bytes)) (λ i. row_byte bytes 8 place i are) none)

-- zeros that end the first n bytes are cut
cut_row : (bytes zeros : List ℕ) (size n : ℕ) → size ≤ n → ((front : List ℕ) → cut (front ++ zeros) ≡ cut front) → take size (drop (n - size) bytes) ≡ zeros → cut (take (n - size) bytes) ≡ cut (take n bytes)
cut_row bytes zeros size n some cuts are =
    let whole : n - size + size ≡ n = omega arith in
    sym (ap (λ (k : ℕ). cut (take k bytes)) (sym whole)
    ∙ ap cut (take-add (n - size) size bytes ∙ ap (λ (row : List ℕ). take (n - size) bytes ++ row) are)
    ∙ cuts (take (n - size) bytes))

pub cut_fours : (bytes : List ℕ) (n : ℕ) → 4 ≤ n → take 4 (drop (n - 4) bytes) ≡ four_zeros → cut (take (n - 4) bytes) ≡ cut (take n bytes)
cut_fours bytes n some zeros = cut_row bytes four_zeros 4 n some cut_four zeros

pub cut_eights : (bytes : List ℕ) (n : ℕ) → 8 ≤ n → take 8 (drop (n - 8) bytes) ≡ eight_zeros → cut (take (n - 8) bytes) ≡ cut (take n bytes)
cut_eights bytes n some zeros = cut_row bytes eight_zeros 8 n some cut_eight zeros

cut_other : (bytes : List ℕ) (last : ℕ) → cut (bytes ++ suc last ∷ []) ≡ bytes ++ suc last ∷ []
unfolding cut
cut_other [] last = refl
cut_other (byte ∷ bytes) last = ap (before_cut byte) (cut_other bytes last) ∙ before_last byte bytes (suc last)

last_taken : (bytes : List ℕ) (n : ℕ) → 0 < n → n ≤ length bytes → take n bytes ≡ take (n - 1) bytes ++ get_or bytes (n - 1) 0 ∷ []
last_taken bytes n some within =
    let below : n - 1 < length bytes = omega arith in
    let whole : n - 1 + 1 ≡ n = omega arith in
    subst (λ (k : ℕ). take k bytes ≡ take (n - 1) bytes ++ get_or bytes (n - 1) 0 ∷ []) whole (take_more bytes (n - 1) 0 below)

-- a zero at the end of the first n bytes is cut
pub cut_shorter : (bytes : List ℕ) (n : ℕ) → 0 < n → n ≤ length bytes → get_or bytes (n - 1) 0 ≡ 0 → cut (take (n - 1) bytes) ≡ cut (take n bytes)
cut_shorter bytes n some within zero_there =
    let split : take n bytes ≡ take (n - 1) bytes ++ 0 ∷ [] = subst (λ (b : ℕ). take n bytes ≡ take (n - 1) bytes ++ b ∷ []) zero_there (last_taken bytes n some within) in
    sym (ap cut split ∙ cut_zero (take (n - 1) bytes))

other : (front : List ℕ) (last : ℕ) → (last ≡ 0 → ⊥) → cut (front ++ last ∷ []) ≡ front ++ last ∷ []
other front zero differs = absurd (differs refl)
other front (suc last) differs = cut_other front last

-- the first n bytes stay where the last of them is no zero
pub cut_whole : (bytes : List ℕ) (n : ℕ) → 0 < n → n ≤ length bytes → (get_or bytes (n - 1) 0 ≡ 0 → ⊥) → cut (take n bytes) ≡ take n bytes
cut_whole bytes n some within differs =
    let split = last_taken bytes n some within in
    ap cut split ∙ other (take (n - 1) bytes) (get_or bytes (n - 1) 0) differs ∙ sym split

taken_none : (bytes : List ℕ) → cut (take 0 bytes) ≡ take 0 bytes
unfolding cut
taken_none [] = refl
taken_none (byte ∷ bytes) = refl

-- of no bytes nothing is left
pub cut_none : (bytes : List ℕ) (n : ℕ) → n ≡ 0 → cut (take n bytes) ≡ take n bytes
cut_none bytes n none = subst (λ (k : ℕ). cut (take k bytes) ≡ take k bytes) (sym none) (taken_none bytes)
