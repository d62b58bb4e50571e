-- A row as it is written.
use Rattle.std.proofs.Common.{◌≡◌, ℕ, ◌+◌, List, [], ◌∷◌, ◌++◌, length, take, drop, replicate, ap, ◌∙◌, arith}
use Rattle.std.specs.Int.{to_be_bytes, w16}
use Rattle.std.proofs.lemmas.List.{append-nil, take_all, length-drop}
use Rattle.frame_spec.specs.Widths.{with_bytes_at}

written_row : (c c' i i' : ℕ) (bitmap : List ℕ) → length bitmap ≡ 28 → with_bytes_at 4 bitmap (with_bytes_at 2 (i ∷ i' ∷ []) (with_bytes_at 0 (c ∷ c' ∷ []) (replicate 32 0))) ≡ c ∷ c' ∷ i ∷ i' ∷ bitmap
written_row c c' i i' bitmap bytes =
    ap (λ n. c ∷ c' ∷ i ∷ i' ∷ (bitmap ++ drop n (c ∷ c' ∷ i ∷ i' ∷ replicate 28 0))) {x = 4 + length bitmap} {y = 32} (omega (arith, bytes))
    ∙ ap (λ (l : List ℕ). c ∷ c' ∷ i ∷ i' ∷ l) (append-nil bitmap)

pub row_written : (class instance : ℕ) (bitmap : List ℕ) → length bitmap ≡ 28 → with_bytes_at 4 bitmap (with_bytes_at 2 (to_be_bytes w16 instance) (with_bytes_at 0 (to_be_bytes w16 class) (replicate 32 0))) ≡ to_be_bytes w16 class ++ (to_be_bytes w16 instance ++ bitmap)
row_written class instance bitmap bytes = written_row _ _ _ _ bitmap bytes

pub bitmap_read : (row : List ℕ) → length row ≡ 32 → take 28 (drop 4 row) ≡ drop 4 row
bitmap_read row bytes = take_all 28 (drop 4 row) (omega (arith, bytes, length-drop 4 row))
