-- The hex digits of bytes that come in rows.
use Rattle.std.proofs.Common.{◌≡◌, ℕ, ◌+◌, ◌≤◌, ◌/◌, ◌%◌, List, [], ◌∷◌, ◌++◌, length, take, drop, refl, sym, ap, ◌∙◌, append_assoc}
use Rattle.std.specs.Prelude.{slice_index, Result, Ok, Err, OnOk}
use Rattle.std.proofs.lemmas.List.{take_all}
use Rattle.std.proofs.Math.Seq.{take-add}
use Rattle.hex.specs.Hex.{encode_with, encode_lower, lower_digits}
use Rattle.omci_contents.specs.Front.{IsFront}

encode-append : (t xs ys : List ℕ) → encode_with t (xs ++ ys) ≡ encode_with t xs ++ encode_with t ys
unfolding encode_with
encode-append t [] ys = refl
encode-append t (x ∷ xs) ys = ap (λ (z : List ℕ). slice_index t (x / 16) ∷ slice_index t (x % 16) ∷ z) (encode-append t xs ys)

-- no digits
pub no_row : (before bytes : List ℕ) → before ≡ before ++ encode_lower (take 0 bytes)
unfolding encode_with
no_row [] bytes = refl
no_row (x ∷ before) bytes = ap (λ (z : List ℕ). x ∷ z) (no_row before bytes)

rows_joined : (before middle after first second : List ℕ) → middle ≡ before ++ encode_lower first → after ≡ middle ++ encode_lower second → after ≡ before ++ encode_lower (first ++ second)
rows_joined before middle after first second so_far last =
    last
    ∙ ap (λ (z : List ℕ). z ++ encode_lower second) so_far
    ∙ append_assoc before (encode_lower first) (encode_lower second)
    ∙ ap (λ (z : List ℕ). before ++ z) (sym (encode-append lower_digits first second))

-- a further row, which has as many bytes as the place goes on
pub row_after : (before middle after bytes : List ℕ) (place more count : ℕ) → count ≡ more →
    middle ≡ before ++ encode_lower (take place bytes) → after ≡ middle ++ encode_lower (take count (drop place bytes)) →
    after ≡ before ++ encode_lower (take (place + more) bytes)
row_after before middle after bytes place more count same so_far last =
    rows_joined before middle after (take place bytes) (take count (drop place bytes)) so_far last
    ∙ ap (λ (n : ℕ). before ++ encode_lower (take place bytes ++ take n (drop place bytes))) same
    ∙ ap (λ (z : List ℕ). before ++ encode_lower z) (sym (take-add place more bytes))

-- the last row, which has what is left
pub rest_if_ok : (T : Type 0) (result : Result Unit T) (before middle after bytes : List ℕ) (place count : ℕ) → length bytes ≤ place + count →
    middle ≡ before ++ encode_lower (take place bytes) → OnOk result (after ≡ middle ++ encode_lower (take count (drop place bytes))) →
    OnOk result (after ≡ before ++ encode_lower bytes)
rest_if_ok T (Ok x) before middle after bytes place count all so_far last =
    row_after before middle after bytes place count count refl so_far last
    ∙ ap (λ (z : List ℕ). before ++ encode_lower z) (take_all (place + count) bytes all)
rest_if_ok T (Err e) before middle after bytes place count all so_far last = tt

take_whole : (bytes : List ℕ) → take (length bytes) bytes ≡ bytes
take_whole [] = refl
take_whole (byte ∷ bytes) = ap (λ (z : List ℕ). byte ∷ z) (take_whole bytes)

take_front : (bytes more : List ℕ) → take (length bytes) (bytes ++ more) ≡ bytes
take_front [] more = refl
take_front (byte ∷ bytes) more = ap (λ (z : List ℕ). byte ∷ z) (take_front bytes more)

-- bytes begin with themselves
pub IsFront-same : (bytes : List ℕ) → IsFront bytes bytes
IsFront-same bytes = record { kept = take_whole bytes }

-- what is appended leaves what was there
pub IsFront-append : (before after more : List ℕ) → after ≡ before ++ more → IsFront before after
IsFront-append before after more is = record { kept = ap (take (length before)) is ∙ take_front before more }
