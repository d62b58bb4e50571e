-- Masks made of the attributes that pass.
use Rattle.std.proofs.Common.{◌≡◌, ℕ, zero, suc, ◌+◌, ◌-◌, ◌*◌, ◌/◌, ◌%◌, ◌^◌, ◌<◌, ◌≤◌, Bool, true, false, cond, List, [], ◌∷◌, length, Some, refl, sym, ap, subst, ◌∙◌, arith, pow-suc}
use Rattle.std.specs.Prelude.{◌==◌}
use Rattle.std.specs.Option.{option_map_or}
use Rattle.std.proofs.lemmas.Nat.{div-mul-add}
use Rattle.class_spec.specs.Classes.{Attribute, Row, class_row}
use Rattle.class_spec.specs.Masks.{bit_of, has, mask_where, known_mask}
use Rattle.entity_classes.specs.Rule.{IsNumbered}
use Rattle.mib_spec.specs.Requests.{of_class}
use Rattle.omci_attributes.proofs.Sums.{mask-lt}

-- the mask names just the attributes that pass
abbrev pub Agrees : (Attribute → Bool) → ℕ → List Attribute → Type 0
Agrees passes mask [] = Unit {0}
Agrees passes mask (one ∷ rest) = (has mask one.number ≡ passes one) × Agrees passes mask rest

odd : (t : ℕ) (b : Bool) → ((t * 2 + cond b 1 0) % 2 == 1) ≡ b
odd t true = ap (λ n. n == 1) {x = (t * 2 + 1) % 2} {y = 1} (omega arith)
odd t false = ap (λ n. n == 1) {x = (t * 2 + 0) % 2} {y = 0} (omega arith)

-- a bit with higher and lower ones beside it
bit_read : (k t low : ℕ) (b : Bool) → low < 2 ^ k → (((t * 2 + cond b 1 0) * 2 ^ k + low) / 2 ^ k % 2 == 1) ≡ b
bit_read k t low b less = ap (λ n. n % 2 == 1) (div-mul-add (t * 2 + cond b 1 0) (2 ^ k) low less) ∙ odd t b

bit_up : (k t : ℕ) (b : Bool) (n : ℕ) → n ≡ 2 ^ k → t * 2 ^ suc k + (cond b n 0) ≡ (t * 2 + cond b 1 0) * 2 ^ k
bit_up k t true n is = ap (λ p. t * p + n) (pow-suc 2 k) ∙ ap (λ m. t * (2 ^ k * 2) + m) is ∙ grind arith
bit_up k t false n is = ap (λ p. t * p + 0) (pow-suc 2 k) ∙ grind arith

agrees_above : (passes : Attribute → Bool) (attributes : List Attribute) (first k t : ℕ) → IsNumbered first attributes → length attributes ≤ k → first + k ≡ 17 → Agrees passes (t * 2 ^ k + mask_where passes attributes) attributes
agrees_above passes [] first k t h short sum = tt
agrees_above passes (one ∷ rest) first zero t h short sum = absurd (omega arith)
agrees_above passes (one ∷ rest) first (suc k) t h short sum =
    let place : 16 - one.number ≡ k = omega (arith, h.0, sum) in
    let bit : bit_of one.number ≡ 2 ^ k = ap (λ x. 2 ^ x) place in
    let up : t * 2 ^ suc k + cond (passes one) (bit_of one.number) 0 ≡ (t * 2 + cond (passes one) 1 0) * 2 ^ k = bit_up k t (passes one) (bit_of one.number) bit in
    let low : ℕ = mask_where passes rest in
    let small : low < 2 ^ k = mask-lt passes rest (first + 1) k h.3 (omega arith) (omega (arith, sum)) in
    let mask : t * 2 ^ suc k + (cond (passes one) (bit_of one.number) 0 + low) ≡ (t * 2 + cond (passes one) 1 0) * 2 ^ k + low = omega (arith, up) in (
      ap (λ m. m / bit_of one.number % 2 == 1) mask ∙ ap (λ n. ((t * 2 + cond (passes one) 1 0) * 2 ^ k + low) / n % 2 == 1) bit ∙ bit_read k t low (passes one) small,
      subst (λ m. Agrees passes m rest) (sym mask) (agrees_above passes rest (first + 1) k (t * 2 + cond (passes one) 1 0) h.3 (omega arith) (omega (arith, sum))),
    )

pub agrees : (passes : Attribute → Bool) (attributes : List Attribute) → IsNumbered 1 attributes → length attributes ≤ 13 → Agrees passes (mask_where passes attributes) attributes
agrees passes attributes h few =
    let none : 0 * 2 ^ 16 + mask_where passes attributes ≡ mask_where passes attributes = omega arith in
    subst (λ m. Agrees passes m attributes) none (agrees_above passes attributes 1 16 0 h (omega (arith, few)) refl)

known_again : (passes : Attribute → Bool) (attributes : List Attribute) (mask : ℕ) → Agrees passes mask attributes → mask_where (λ one. has mask one.number) attributes ≡ mask_where passes attributes
known_again passes [] mask h = refl
known_again passes (one ∷ rest) mask h = ap (λ b. cond b (bit_of one.number) 0 + mask_where (λ one. has mask one.number) rest) h.0 ∙ ap (λ n. cond (passes one) (bit_of one.number) 0 + n) (known_again passes rest mask h.1)

-- such a mask names known attributes alone
pub all_known : (class : ℕ) (row : Row) (passes : Attribute → Bool) (mask : ℕ) → class_row class ≡ Some row → IsNumbered 1 row.attributes → length row.attributes ≤ 13 → mask ≡ mask_where passes row.attributes → of_class known_mask class mask ≡ mask
unfolding known_mask
all_known class row passes mask is h few mask_is =
    ap (λ o. option_map_or (λ (r : Row). mask_where (λ one. has mask one.number) r.attributes) o 0) is
    ∙ known_again passes row.attributes mask (subst (λ m. Agrees passes m row.attributes) (sym mask_is) (agrees passes row.attributes h few)) ∙ sym mask_is
