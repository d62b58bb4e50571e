-- Bytes in the place of others, element by element.
use Rattle.std.proofs.Common.{◌≡◌, ◌⊎◌, inl, inr, ℕ, ◌+◌, ◌-◌, ◌≤◌, ◌<◌, List, ◌++◌, length, get_or, take, drop, refl, ◌∙◌, ap, arith, length-append, length-drop, length-take-le}
use Rattle.std.proofs.lemmas.List.{get_or_append_left, get_or-append_right, get_or-take, get_or-drop, take_at, drop_at}
use Rattle.slot_spec.specs.Crash.{Written}
use Rattle.slot_spec.specs.Rig.{with_bytes}

-- a list with another one in the place of a part
abbrev pub over : {A : Type 0} → ℕ → List A → List A → List A
over at new l = take at l ++ (new ++ drop (at + length new) l)

module _ {A : Type 0} (at : ℕ) (new l : List A) (within : at + length new ≤ length l) where
  front : length (take at l) ≡ at
  front = length-take-le at l (omega arith)

  pub length-over : length (over at new l) ≡ length l
  length-over = omega (arith, front, length-append (take at l) (new ++ drop (at + length new) l), length-append new (drop (at + length new) l), length-drop (at + length new) l)

  pub over_before : (k : ℕ) (d : A) → k < at → get_or (over at new l) k d ≡ get_or l k d
  over_before k d before = get_or_append_left (take at l) (new ++ drop (at + length new) l) d k (omega (arith, front)) ∙ get_or-take at l k d before

  pub over_behind : (k : ℕ) (d : A) → at + length new ≤ k → get_or (over at new l) k d ≡ get_or l k d
  over_behind k d behind =
      get_or-append_right (take at l) (new ++ drop (at + length new) l) at k d front (omega arith)
      ∙ get_or-append_right new (drop (at + length new) l) (length new) (k - at) d refl (omega arith)
      ∙ get_or-drop (at + length new) l (k - at - length new) d
      ∙ ap (λ (n : ℕ). get_or l n d) (omega arith)

  pub over_inside : (k : ℕ) (d : A) → at ≤ k → k < at + length new → get_or (over at new l) k d ≡ get_or new (k - at) d
  over_inside k d from to =
      get_or-append_right (take at l) (new ++ drop (at + length new) l) at k d front from
      ∙ get_or_append_left new (drop (at + length new) l) d (k - at) (omega arith)

  pub over_elsewhere : (k : ℕ) (d : A) → (k < at) ⊎ (at + length new ≤ k) → get_or (over at new l) k d ≡ get_or l k d
  over_elsewhere k d (inl before) = over_before k d before
  over_elsewhere k d (inr behind) = over_behind k d behind

  pub over_field : take (length new) (drop at (over at new l)) ≡ new
  over_field = ap (λ (x : List A). take (length new) x) (drop_at (take at l) (new ++ drop (at + length new) l) at front) ∙ take_at new (drop (at + length new) l) (length new) refl

-- a write that is done is one
pub with_bytes_written : (at : ℕ) (new l : List ℕ) → at + length new ≤ length l → Written at new l (with_bytes at new l)
with_bytes_written at new l within = record {
  torn = record {
    elsewhere = λ k below apart. over_elsewhere at new l within k 0 apart;
    no_shorter = omega (arith, length-over at new l within);
    no_longer = omega (arith, length-over at new l within);
  };
  there = over_field at new l within;
}
