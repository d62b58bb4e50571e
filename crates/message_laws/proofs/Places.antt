-- Bytes that are put into the contents stand in their place, and leave the others as they are.
use Rattle.std.proofs.Common.{◌≡◌, ℕ, ◌+◌, ◌-◌, ◌≤◌, List, ◌++◌, length, take, drop, refl, sym, ap, ◌∙◌, append_assoc, arith, inl, inr, length-append, length-drop}
use Rattle.std.proofs.lemmas.List.{length-take, length-take-le, take-append-le, take-take, take_at, drop_at, drop-take, get_or-take, get_or-drop, get_or_past, get_or_append_left, get_or-append_right}
use Rattle.std.proofs.lemmas.Bool.{cases_lt}
use Rattle.message_spec.specs.Fields.{put, AreBytes}

pub length-put : (at : ℕ) (bytes contents : List ℕ) → at + length bytes ≤ length contents → length (put at bytes contents) ≡ length contents
unfolding put
length-put at bytes contents within =
    simp (length-append, length-append, length-take, length-drop) (omega arith)

-- the first bytes, up to where some are put
front_kept : (n at : ℕ) (bytes contents : List ℕ) → n ≤ at → at ≤ length contents → take n (put at bytes contents) ≡ take n contents
unfolding put
front_kept n at bytes contents before within =
    let whole : length (take at contents) ≡ at = length-take-le at contents within in
    let front : n ≤ length (take at contents) = omega arith in
    let rest : List ℕ = drop (at + length bytes) contents in
    ap (take n) (append_assoc (take at contents) bytes rest)
    ∙ take-append-le n (take at contents) (bytes ++ rest) front
    ∙ take-take n at contents before

-- a place before those bytes
pub kept_before : (place width at : ℕ) (bytes contents : List ℕ) → place + width ≤ at → at ≤ length contents → take width (drop place (put at bytes contents)) ≡ take width (drop place contents)
kept_before place width at bytes contents before within =
    sym (drop-take place width (put at bytes contents))
    ∙ ap (drop place) (front_kept (place + width) at bytes contents before within)
    ∙ drop-take place width contents

-- the place itself
pub stands_there : (at : ℕ) (bytes contents : List ℕ) → at ≤ length contents → take (length bytes) (drop at (put at bytes contents)) ≡ bytes
unfolding put
stands_there at bytes contents within =
    let whole : length (take at contents) ≡ at = length-take-le at contents within in
    let rest : List ℕ = drop (at + length bytes) contents in
    ap (λ (x : List ℕ). take (length bytes) (drop at x)) (append_assoc (take at contents) bytes rest)
    ∙ ap (take (length bytes)) (drop_at (take at contents) (bytes ++ rest) at whole)
    ∙ take_at bytes rest (length bytes) refl

-- ---- bytes

pub AreBytes-drop : (n : ℕ) (bytes : List ℕ) → AreBytes bytes → AreBytes (drop n bytes)
AreBytes-drop n bytes h i = rw get_or-drop (h (n + i))

pub AreBytes-take : (n : ℕ) (bytes : List ℕ) → AreBytes bytes → AreBytes (take n bytes)
AreBytes-take n bytes h i =
    elim (cases_lt i n) [
      | inl lt ↦ rw (get_or-take n bytes i 0 lt) (h i)
      | inr le ↦ rw (get_or_past (take n bytes) i 0 (omega (arith, length-take n bytes))) (omega arith)
    ]

AreBytes-append : (front rest : List ℕ) → AreBytes front → AreBytes rest → AreBytes (front ++ rest)
AreBytes-append front rest h k i =
    elim (cases_lt i (length front)) [
      | inl lt ↦ rw (get_or_append_left front rest 0 i lt) (h i)
      | inr le ↦ rw (get_or-append_right front rest (length front) i 0 refl le) (k (i - length front))
    ]

pub AreBytes-put : (at : ℕ) (bytes contents : List ℕ) → AreBytes bytes → AreBytes contents → AreBytes (put at bytes contents)
unfolding put
AreBytes-put at bytes contents h k =
    AreBytes-append (take at contents ++ bytes) (drop (at + length bytes) contents)
    (AreBytes-append (take at contents) bytes (AreBytes-take at contents k) h)
    (AreBytes-drop (at + length bytes) contents k)
