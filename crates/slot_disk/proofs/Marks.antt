-- Marks of the bytes that were written, and what a cut gives to those bytes.
use Rattle.std.proofs.Common.{◌≡◌, ◌⊎◌, inl, inr, ℕ, zero, suc, ◌+◌, ◌-◌, ◌≤◌, ◌<◌, Bool, true, false, cond, if◌then◌else◌, set, List, [], ◌∷◌, ◌++◌, length, get_or, take, drop, replicate, refl, sym, ◌∙◌, ap, subst, arith}
use Rattle.std.proofs.lemmas.List.{length-replicate, get_or-replicate}
use Rattle.std.proofs.lemmas.Grind.{same_number_lists}
use Rattle.std.proofs.lemmas.Bool.{cases_lt, true≢false}
use Rattle.slot_spec.specs.Rig.{with_bytes}
use Rattle.slot_laws.proofs.Splice.{over, length-over, over_before, over_behind, over_inside, over_elsewhere, over_field}
use Rattle.slot_disk.specs.Memory.{with_byte, with_marks}

get_or-with_byte : (b : ℕ) (dirty : List Bool) (bytes : List ℕ) (k : ℕ) → length dirty ≡ length bytes → k < length bytes → get_or (with_byte b dirty bytes) k 0 ≡ cond (get_or dirty k false) b (get_or bytes k 0)
get_or-with_byte b [] [] k long below = absurd (omega arith)
get_or-with_byte b [] (x ∷ bytes) k long below = absurd (omega arith)
get_or-with_byte b (d ∷ dirty) [] k long below = absurd (omega arith)
get_or-with_byte b (d ∷ dirty) (x ∷ bytes) zero long below = refl
get_or-with_byte b (d ∷ dirty) (x ∷ bytes) (suc k) long below = get_or-with_byte b dirty bytes k (omega arith) (omega arith)

pub length-with_byte : (b : ℕ) (dirty : List Bool) (bytes : List ℕ) → length (with_byte b dirty bytes) ≡ length bytes
length-with_byte b [] bytes = refl
length-with_byte b (d ∷ dirty) [] = refl
length-with_byte b (d ∷ dirty) (x ∷ bytes) = omega (arith, length-with_byte b dirty bytes)

-- marks are a list of so many in the place of others
pub marked_over : (at count : ℕ) (dirty : List Bool) → with_marks at count dirty ≡ over at (replicate count true) dirty
marked_over at count dirty = ap (λ (n : ℕ). take at dirty ++ (replicate count true ++ drop (at + n) dirty)) (sym (length-replicate count true))

-- a mark that isn't there was not there before, and stands elsewhere
pub clean_before : (at count : ℕ) (dirty : List Bool) (k : ℕ) → at + count ≤ length dirty → get_or (with_marks at count dirty) k false ≡ false → (get_or dirty k false ≡ false) × ((k < at) ⊎ (at + count ≤ k))
clean_before at count dirty k within clean =
    let many : length (replicate count true) ≡ count = length-replicate count true in
    let fits : at + length (replicate count true) ≤ length dirty = omega (arith, many, within) in
    let is : get_or (over at (replicate count true) dirty) k false ≡ false = ap (λ (l : List Bool). get_or l k false) (sym (marked_over at count dirty)) ∙ clean in
    elim (cases_lt k at) [
      | inl before ↦ (sym (over_before at (replicate count true) dirty fits k false before) ∙ is, inl before)
      | inr from ↦ elim (cases_lt k (at + count)) [
        | inl to ↦
            let marked_here : get_or (replicate count true) (k - at) false ≡ true = get_or-replicate count (k - at) true false (omega arith) in
            let here = over_inside at (replicate count true) dirty fits k false from (omega (arith, many, to)) in
            absurd (true≢false (sym (here ∙ marked_here) ∙ is))
        | inr behind ↦ (sym (over_behind at (replicate count true) dirty fits k false (omega (arith, many, behind))) ∙ is, inr behind)
      ]
    ]

pub length-with_marks : (at count : ℕ) (dirty : List Bool) → at + count ≤ length dirty → length (with_marks at count dirty) ≡ length dirty
length-with_marks at count dirty within =
    let many : length (replicate count true) ≡ count = length-replicate count true in
    ap (λ (l : List Bool). length l) (marked_over at count dirty) ∙ length-over at (replicate count true) dirty (omega (arith, many, within))

pub field-with_marks : (at count : ℕ) (dirty : List Bool) → at + count ≤ length dirty → take count (drop at (with_marks at count dirty)) ≡ replicate count true
field-with_marks at count dirty within =
    let many : length (replicate count true) ≡ count = length-replicate count true in
    ap (λ (l : List Bool). take count (drop at l)) (marked_over at count dirty)
    ∙ ap (λ (n : ℕ). take n (drop at (over at (replicate count true) dirty))) (sym many)
    ∙ over_field at (replicate count true) dirty (omega (arith, many, within))

-- a cut by one byte, once a write was after_begin
pub with_byte-with_marks : (b at count : ℕ) (dirty : List Bool) (bytes : List ℕ) → length dirty ≡ length bytes → at + count ≤ length bytes → with_byte b (with_marks at count dirty) bytes ≡ with_bytes at (replicate count b) (with_byte b dirty bytes)
with_byte-with_marks b at count dirty bytes long within =
    let many : length (replicate count true) ≡ count = length-replicate count true in
    let some : length (replicate count b) ≡ count = length-replicate count b in
    let whole : length (with_byte b dirty bytes) ≡ length bytes = length-with_byte b dirty bytes in
    let fits : at + length (replicate count b) ≤ length (with_byte b dirty bytes) = omega (arith, some, whole, within) in
    let marks : at + length (replicate count true) ≤ length dirty = omega (arith, many, long, within) in
    let dirty_long : length (with_marks at count dirty) ≡ length bytes = length-with_marks at count dirty (omega (arith, long, within)) ∙ long in
    same_number_lists (with_byte b (with_marks at count dirty) bytes) (with_bytes at (replicate count b) (with_byte b dirty bytes))
    (length-with_byte b (with_marks at count dirty) bytes ∙ sym (length-over at (replicate count b) (with_byte b dirty bytes) fits ∙ whole))
    (λ k below.
    let inside : k < length bytes = omega (arith, length-with_byte b (with_marks at count dirty) bytes) in
    let left = get_or-with_byte b (with_marks at count dirty) bytes k dirty_long inside ∙ ap (λ (l : List Bool). cond (get_or l k false) b (get_or bytes k 0)) (marked_over at count dirty) in
    let old = get_or-with_byte b dirty bytes k long inside in
    elim (cases_lt k at) [
      | inl before ↦ left ∙ ap (λ (d : Bool). cond d b (get_or bytes k 0)) (over_before at (replicate count true) dirty marks k false before) ∙ sym old ∙ sym (over_before at (replicate count b) (with_byte b dirty bytes) fits k 0 before)
      | inr from ↦ elim (cases_lt k (at + count)) [
        | inl to ↦ left ∙ ap (λ (d : Bool). cond d b (get_or bytes k 0)) (over_inside at (replicate count true) dirty marks k false from (omega (arith, many, to)) ∙ get_or-replicate count (k - at) true false (omega arith))
            ∙ sym (over_inside at (replicate count b) (with_byte b dirty bytes) fits k 0 from (omega (arith, some, to)) ∙ get_or-replicate count (k - at) b 0 (omega arith))
        | inr behind ↦ left ∙ ap (λ (d : Bool). cond d b (get_or bytes k 0)) (over_behind at (replicate count true) dirty marks k false (omega (arith, many, behind))) ∙ sym old ∙ sym (over_behind at (replicate count b) (with_byte b dirty bytes) fits k 0 (omega (arith, some, behind)))
      ]
    ])

pub marked_elsewhere : (at count : ℕ) (dirty : List Bool) (k : ℕ) → at + count ≤ length dirty → (k < at) ⊎ (at + count ≤ k) → get_or (with_marks at count dirty) k false ≡ get_or dirty k false
marked_elsewhere at count dirty k within apart =
    let many : length (replicate count true) ≡ count = length-replicate count true in
    ap (λ (l : List Bool). get_or l k false) (marked_over at count dirty)
    ∙ over_elsewhere at (replicate count true) dirty (omega (arith, many, within)) k false (subst (λ (n : ℕ). (k < at) ⊎ (at + n ≤ k)) (sym many) apart)

-- one more mark is looked at
pub filled_next : (b : ℕ) (dirty : List Bool) (bytes : List ℕ) (i : ℕ) → length dirty ≡ length bytes → i < length dirty → cond (get_or dirty i false) (set (with_byte b (take i dirty) bytes) i b) (with_byte b (take i dirty) bytes) ≡ with_byte b (take (suc i) dirty) bytes
filled_next b [] bytes i long below = absurd (omega arith)
filled_next b (d ∷ dirty) [] i long below = absurd (omega arith)
filled_next b (true ∷ dirty) (x ∷ bytes) zero long below = refl
filled_next b (false ∷ dirty) (x ∷ bytes) zero long below = refl
filled_next b (d ∷ dirty) (x ∷ bytes) (suc i) long below = cond_cons (get_or dirty i false) (if d then b else x) (with_byte b (take i dirty) bytes) ∙ ap (λ (l : List ℕ). (if d then b else x) ∷ l) (filled_next b dirty bytes i (omega arith) (omega arith))
  where
    cond_cons : (c : Bool) (y : ℕ) (l : List ℕ) → cond c (y ∷ set l i b) (y ∷ l) ≡ y ∷ cond c (set l i b) l
    cond_cons true y l = refl
    cond_cons false y l = refl
