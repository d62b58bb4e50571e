-- A list cut at the places of a baseline frame's fields.
use Rattle.std.proofs.Common.{◌≡◌, ℕ, ◌+◌, ◌-◌, ◌≤◌, List, [], ◌∷◌, ◌++◌, length, take, drop, get_or, ap, ◌∙◌, arith}
use Rattle.std.proofs.Math.Seq.{take-add}
use Rattle.std.proofs.lemmas.List.{take-take, drop-take, drop_more}

-- what stands within the front of a list
pub within_front : (front place count : ℕ) (bytes : List ℕ) → place + count ≤ front → take count (drop place (take front bytes)) ≡ take count (drop place bytes)
within_front front place count bytes fits =
    let split : front ≡ place + (front - place) = omega arith in
    ap (λ (n : ℕ). take count (drop place (take n bytes))) split
    ∙ ap (λ (l : List ℕ). take count l) (drop-take place (front - place) bytes)
    ∙ take-take count (front - place) (drop place bytes) (omega arith)

pub pair_at : (place : ℕ) (bytes : List ℕ) → place + 2 ≤ length bytes → take 2 (drop place bytes) ≡ get_or bytes place 0 ∷ get_or bytes (place + 1) 0 ∷ []
pair_at place bytes fits =
    let first : drop place bytes ≡ get_or bytes place 0 ∷ drop (place + 1) bytes = drop_more bytes place 0 (omega arith) in
    let second : drop (place + 1) bytes ≡ get_or bytes (place + 1) 0 ∷ drop (place + 1 + 1) bytes = drop_more bytes (place + 1) 0 (omega arith) in
    ap (λ (l : List ℕ). take 2 l) first ∙ ap (λ (l : List ℕ). get_or bytes place 0 ∷ take 1 l) second

-- six pieces one after the other
unfoldable pub laid_out : List ℕ → List ℕ → List ℕ → List ℕ → List ℕ → List ℕ → List ℕ
laid_out a b c d e f = a ++ b ++ c ++ d ++ e ++ f

-- the first 44 bytes of a list are its fields, one after the other
pub fields-of-front : (bytes : List ℕ) → 44 ≤ length bytes → take 44 bytes ≡ laid_out (take 2 bytes) (get_or bytes 2 0 ∷ get_or bytes 3 0 ∷ []) (take 2 (drop 4 bytes)) (take 2 (drop 6 bytes)) (take 32 (drop 8 bytes)) (take 4 (drop 40 bytes))
unfolding laid_out
fields-of-front bytes whole =
    take-add 40 4 bytes
    ∙ ap (λ (l : List ℕ). l ++ take 4 (drop 40 bytes))
    (take-add 8 32 bytes
    ∙ ap (λ (l : List ℕ). l ++ take 32 (drop 8 bytes))
    (take-add 6 2 bytes
    ∙ ap (λ (l : List ℕ). l ++ take 2 (drop 6 bytes))
    (take-add 4 2 bytes
    ∙ ap (λ (l : List ℕ). l ++ take 2 (drop 4 bytes))
    (take-add 2 2 bytes ∙ ap (λ (l : List ℕ). take 2 bytes ++ l) (pair_at 2 bytes (omega arith))))))
