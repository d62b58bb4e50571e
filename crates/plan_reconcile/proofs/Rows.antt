-- Rows of bytes that zeros fill, and the attributes of a class one after the other.
use Rattle.std.proofs.Common.{◌≡◌, ℕ, zero, suc, ◌+◌, ◌-◌, ◌≤◌, List, [], ◌∷◌, ◌++◌, length, take, drop, replicate, sym, ap, subst, ◌∙◌, arith}
use Rattle.std.proofs.lemmas.List.{take_at, drop_at, drop-drop, take-append-drop, length-append}
use Rattle.frame_spec.specs.Widths.{filled}
use Rattle.class_spec.specs.Classes.{Attribute}
use Rattle.entity_classes.specs.Rule.{IsNumbered}
use Rattle.mib_store.proofs.Counter.{drop_zeros}

pub row_put : (n at : ℕ) (before bytes old new : List ℕ) → length before ≡ at → old ≡ filled n before → at + length bytes ≤ n → take (at + length bytes) new ≡ take at old ++ bytes → drop (at + length bytes) new ≡ drop (at + length bytes) old → new ≡ filled n (before ++ bytes)
row_put n at before bytes old new len is fit front back =
    let k : ℕ = at + length bytes in
    let zeros : List ℕ = replicate (n - length before) 0 in
    let first : take at old ≡ before = ap (take at) is ∙ take_at before zeros at len in
    let rest : drop at old ≡ zeros = ap (drop at) is ∙ drop_at before zeros at len in
    let left : drop (length bytes) zeros ≡ replicate (n - length before - length bytes) 0 = drop_zeros (n - length before) (length bytes) (omega (arith, len, fit)) in
    let same : n - length before - length bytes ≡ n - length (before ++ bytes) = omega (arith, length-append before bytes) in
    let tail : drop k new ≡ replicate (n - length (before ++ bytes)) 0 = back ∙ sym (drop-drop (length bytes) at old) ∙ ap (drop (length bytes)) rest ∙ left ∙ ap (λ m. replicate m 0) same in
    sym (take-append-drop k new) ∙ ap (λ x. x ++ drop k new) (front ∙ ap (λ x. x ++ bytes) first) ∙ ap (λ x. (before ++ bytes) ++ x) tail

pub numbered_drop : (attributes : List Attribute) (first n : ℕ) → IsNumbered first attributes → IsNumbered (first + n) (drop n attributes)
numbered_drop attributes first zero h = subst (λ k. IsNumbered k attributes) {x = first} {y = first + 0} (omega arith) h
numbered_drop [] first (suc n) h = tt
numbered_drop (one ∷ rest) first (suc n) h = subst (λ k. IsNumbered k (drop n rest)) {x = first + 1 + n} {y = first + suc n} (omega arith) (numbered_drop rest (first + 1) n h.3)

-- the attribute in a place, and those after it
pub numbered_at : (attributes : List Attribute) (n : ℕ) (one : Attribute) → IsNumbered 1 attributes → drop n attributes ≡ one ∷ drop (n + 1) attributes → IsNumbered (1 + n) (one ∷ drop (n + 1) attributes)
numbered_at attributes n one h rest = subst (λ l. IsNumbered (1 + n) l) rest (numbered_drop attributes 1 n h)
