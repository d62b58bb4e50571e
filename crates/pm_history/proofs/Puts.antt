-- Bytes put behind what was written, and values that fit.
use Rattle.std.proofs.Common.{◌≡◌, ℕ, zero, suc, ◌+◌, ◌-◌, ◌<◌, ◌≤◌, List, [], ◌∷◌, ◌++◌, length, take, drop, replicate, refl, sym, ap, subst, inl, inr, ◌∙◌, add-one, length-append, length-take, arith}
use Rattle.std.proofs.lemmas.List.{drop-drop, drop_at, drop-replicate}
use Rattle.std.proofs.lemmas.Bool.{cases_lt}
use Rattle.std.proofs.lemmas.Grind.{common_steps}
use Rattle.std.specs.Prelude.{if◌then◌else◌, nat_le, Some, None}
use Rattle.meter_spec.specs.declared.Monitor.{Monitor}
use Rattle.class_spec.specs.Masks.{has}
use Rattle.meter_spec.specs.Replies.{values_of, attribute_bytes}

pub zeros_behind : (whole bytes : List ℕ) (at : ℕ) → at + length bytes ≤ 32 → length whole ≡ 32 → drop at whole ≡ replicate (32 - at) 0 → drop (at + length bytes) (take at whole ++ bytes ++ drop (at + length bytes) whole) ≡ replicate (32 - (at + length bytes)) 0
zeros_behind whole bytes at le len zeros =
    drop_at (take at whole ++ bytes) (drop (at + length bytes) whole) (at + length bytes) (simp (length-append, length-take) (omega arith))
    ∙ sym (drop-drop (length bytes) at whole)
    ∙ ap (drop (length bytes)) zeros
    ∙ drop-replicate (length bytes) (32 - at) 0
    ∙ ap (λ n. replicate n 0) (omega arith)

values_longer : (m : Monitor) (row : List ℕ) (mask a : ℕ) → length (values_of m row mask a) ≤ length (values_of m row mask (suc a))
unfolding values_of
values_longer m row mask a = simp length-append (omega arith)

same_length : (m : Monitor) (row : List ℕ) (mask a b : ℕ) → a ≡ b → length (values_of m row mask a) ≤ length (values_of m row mask b)
same_length m row mask a b same = subst (λ n. length (values_of m row mask a) ≤ length (values_of m row mask n)) same (omega arith)

pub values_le : (m : Monitor) (row : List ℕ) (mask a b : ℕ) → a ≤ b → length (values_of m row mask a) ≤ length (values_of m row mask b)
values_le m row mask a zero le = same_length m row mask a 0 (omega arith)
values_le m row mask a (suc b) le =
    elim (cases_lt a (suc b)) as (λ _. length (values_of m row mask a) ≤ length (values_of m row mask (suc b))) [
      | inl lt ↦ omega (arith, values_le m row mask a b (omega arith), values_longer m row mask b)
      | inr ge ↦ same_length m row mask a (suc b) (omega arith)
    ]

values_suc : (m : Monitor) (row : List ℕ) (mask a : ℕ) → values_of m row mask (suc a) ≡ values_of m row mask a ++ (if has mask (suc a) then attribute_bytes m row (suc a) else [])
unfolding values_of
values_suc m row mask a = refl

pub values_next : (m : Monitor) (row : List ℕ) (mask a : ℕ) → values_of m row mask (a + 1) ≡ values_of m row mask a ++ (if has mask (a + 1) then attribute_bytes m row (a + 1) else [])
values_next m row mask a = subst (λ n. values_of m row mask n ≡ values_of m row mask a ++ (if has mask n then attribute_bytes m row n else [])) (sym (add-one a)) (values_suc m row mask a)

too_many : (n : ℕ) (whole : List ℕ) → 25 < n → (if nat_le n 25 then Some whole else None) ≡ None
too_many n whole lt = grind (arith, common_steps)

-- values that need too many bytes before all are written
pub too_wide : (m : Monitor) (row : List ℕ) (mask a : ℕ) (contents now : List ℕ) (x y z : ℕ)
    → contents ≡ x ∷ y ∷ z ∷ values_of m row mask a
    → now ≡ contents ++ (if has mask (a + 1) then attribute_bytes m row (a + 1) else [])
    → a < 16 → 28 < length now
    → None ≡ (if nat_le (length (values_of m row mask 16)) 25 then Some (x ∷ y ∷ z ∷ values_of m row mask 16) else None)
too_wide m row mask a contents now x y z before is lt wide =
    let written : now ≡ x ∷ y ∷ z ∷ values_of m row mask (a + 1) = is ∙ ap (λ (xs : List ℕ). xs ++ (if has mask (a + 1) then attribute_bytes m row (a + 1) else [])) before ∙ ap (λ (xs : List ℕ). x ∷ y ∷ z ∷ xs) (sym (values_next m row mask a)) in
    let long : length now ≡ 3 + length (values_of m row mask (a + 1)) = ap length written ∙ omega arith in
    sym (too_many (length (values_of m row mask 16)) (x ∷ y ∷ z ∷ values_of m row mask 16) (omega (arith, wide, long, values_le m row mask (a + 1) 16 (omega arith))))
