-- The sums over a class's attributes, attribute by attribute.
use Rattle.std.proofs.Common.{◌≡◌, ℕ, zero, suc, ◌+◌, ◌-◌, ◌*◌, ◌/◌, ◌%◌, ◌^◌, ◌<◌, ◌≤◌, Bool, true, false, cond, eqb, List, [], ◌∷◌, length, drop, slice_get, Some, option_map, refl, sym, ap, subst, ◌∙◌, arith, pow-suc}
use Rattle.std.specs.Int.RustNames.{bit_and}
use Rattle.std.specs.Prelude.{◌&&◌, not, nat_lt, ◌==◌}
use Rattle.std.proofs.lemmas.Bool.Decides.{nat_tests}
use Rattle.std.proofs.lemmas.Nat.{mod-pow-add}
use Rattle.class_spec.specs.Classes.{Attribute as Listed}
use Rattle.class_spec.specs.Masks.{bit_of, has, mask_where, width_where}
use Rattle.entity_classes.specs.declared.classes.Attribute.{Attribute}
use Rattle.omci_attributes.specs.declared.mask.Mask.{Mask}
use Rattle.omci_attributes.specs.Placed.{is_selected, is_fixed}
use Rattle.entity_classes.specs.Rule.{IsNumbered, whole_width, attribute_of}

-- the attribute that the code reads stands there in the table
pub record Opened (attributes : List Listed) (n : ℕ) (attribute : Attribute) : Type 0 where
  pub one : Listed
  pub is : attribute ≡ attribute_of one
  pub rest : drop n attributes ≡ one ∷ drop (n + 1) attributes

pub opened : (attributes : List Listed) (n : ℕ) (attribute : Attribute) → Some attribute ≡ option_map attribute_of (slice_get attributes n) → Opened attributes n attribute
opened [] n attribute e = absurd cc
opened (one ∷ rest) zero attribute e = record { one = one; is = cc; rest = refl }
opened (one ∷ rest) (suc n) attribute e =
    let later = opened rest n attribute e in
    let next : suc n + 1 ≡ suc (n + 1) = omega arith in
    record { one = later.one; is = later.is; rest = later.rest ∙ ap (λ k. later.one ∷ drop k (one ∷ rest)) (sym next) }

pub opened_next : (attributes : List Listed) (n : ℕ) (attribute : Attribute) → Some attribute ≡ option_map attribute_of (slice_get attributes (n + 1 - 1)) → Opened attributes n attribute
opened_next attributes n attribute e =
    let same : n + 1 - 1 ≡ n = omega arith in
    opened attributes n attribute (subst (λ k. Some attribute ≡ option_map attribute_of (slice_get attributes k)) same e)

write_bit : (written created : Bool) → (bit_and (1 + cond written 2 0 + cond created 4 0) 2 == 2) ≡ written
write_bit true true = refl
write_bit true false = refl
write_bit false true = refl
write_bit false false = refl

create_bit : (written created : Bool) → (bit_and (1 + cond written 2 0 + cond created 4 0) 4 == 4) ≡ created
create_bit true true = refl
create_bit true false = refl
create_bit false true = refl
create_bit false false = refl

-- what the bits of an attribute's access say
pub is_written : (attribute : Attribute) (one : Listed) → attribute ≡ attribute_of one → (bit_and attribute.access.0 2 == 2) ≡ one.written
is_written attribute one is = ap (λ (a : Attribute). bit_and a.access.0 2 == 2) is ∙ write_bit one.written one.created

pub is_created : (attribute : Attribute) (one : Listed) → attribute ≡ attribute_of one → (bit_and attribute.access.0 4 == 4) ≡ one.created
is_created attribute one is = ap (λ (a : Attribute). bit_and a.access.0 4 == 4) is ∙ create_bit one.written one.created

-- past the last attribute nothing is left
pub none_left : {A : Type 0} (xs : List A) (n : ℕ) → length xs ≤ n → drop n xs ≡ []
none_left [] zero le = refl
none_left [] (suc n) le = refl
none_left (x ∷ xs) zero le = absurd (omega arith)
none_left (x ∷ xs) (suc n) le = none_left xs n (omega arith)

pub mask-all : (passes : Listed → Bool) (attributes : List Listed) (n sum total : ℕ) → length attributes ≤ n → sum + mask_where passes (drop n attributes) ≡ total → sum ≡ total
mask-all passes attributes n sum total le is = omega (arith, is, ap (mask_where passes) (none_left attributes n le))

pub width-all : (passes : Listed → Bool) (attributes : List Listed) (n sum total : ℕ) → length attributes ≤ n → sum + width_where passes (drop n attributes) ≡ total → sum ≡ total
width-all passes attributes n sum total le is = omega (arith, is, ap (width_where passes) (none_left attributes n le))

-- one attribute's part of a sum
pub mask-step : (passes : Listed → Bool) (attributes : List Listed) (n : ℕ) (one : Listed) (b : Bool) → drop n attributes ≡ one ∷ drop (n + 1) attributes → passes one ≡ b → mask_where passes (drop n attributes) ≡ cond b (bit_of one.number) 0 + mask_where passes (drop (n + 1) attributes)
mask-step passes attributes n one b rest is = ap (mask_where passes) rest ∙ ap (λ v. cond v (bit_of one.number) 0 + mask_where passes (drop (n + 1) attributes)) is

pub width-step : (passes : Listed → Bool) (attributes : List Listed) (n : ℕ) (one : Listed) (b : Bool) → drop n attributes ≡ one ∷ drop (n + 1) attributes → passes one ≡ b → width_where passes (drop n attributes) ≡ cond b one.width 0 + width_where passes (drop (n + 1) attributes)
width-step passes attributes n one b rest is = ap (width_where passes) rest ∙ ap (λ v. cond v one.width 0 + width_where passes (drop (n + 1) attributes)) is

-- a sum of widths is at most that of all
pub width-le : (passes : Listed → Bool) (attributes : List Listed) → width_where passes attributes ≤ whole_width attributes
width-le passes [] = omega arith
width-le passes (one ∷ rest) = elim (passes one) as (λ b. cond b one.width 0 + width_where passes rest ≤ one.width + whole_width rest) [ true ↦ omega (arith, width-le passes rest) | false ↦ omega (arith, width-le passes rest) ]

pow_positive : (k : ℕ) → 0 < 2 ^ k
pow_positive zero = omega arith
pow_positive (suc k) =
    let power : 2 ^ suc k ≡ 2 ^ k * 2 = pow-suc 2 k in
    omega (arith, pow_positive k)

-- a mask of attributes from one on has its bit and lower ones alone
pub mask-lt : (passes : Listed → Bool) (attributes : List Listed) (first k : ℕ) → IsNumbered first attributes → length attributes ≤ k → first + k ≡ 17 → mask_where passes attributes < 2 ^ k
mask-lt passes [] first k h short sum = pow_positive k
mask-lt passes (one ∷ rest) first zero h short sum = absurd (omega arith)
mask-lt passes (one ∷ rest) first (suc k) h short sum =
    let power : 2 ^ suc k ≡ 2 ^ k * 2 = pow-suc 2 k in
    let place : 16 - one.number ≡ k = omega (arith, h.0) in
    let bit : bit_of one.number ≡ 2 ^ k = ap (λ x. 2 ^ x) place in
    let later : mask_where passes rest < 2 ^ k = mask-lt passes rest (first + 1) k h.3 (omega arith) (omega arith) in
    elim (passes one) as (λ b. cond b (bit_of one.number) 0 + mask_where passes rest < 2 ^ suc k) [ true ↦ omega (arith, power, bit, later) | false ↦ omega (arith, power, bit, later) ]

bit-le : (d p rest low : ℕ) → d < 2 → rest ≤ low → cond (eqb d 1) p 0 + rest ≤ d * p + low
bit-le zero p rest low small le = omega arith
bit-le (suc zero) p rest low small le = omega arith
bit-le (suc (suc d)) p rest low small le = absurd (omega arith)

-- the named attributes of a class are part of the mask
pub mask-le : (mask : ℕ) (attributes : List Listed) (first k : ℕ) → IsNumbered first attributes → length attributes ≤ k → first + k ≡ 17 → mask_where (λ one. has mask one.number) attributes ≤ mask % 2 ^ k
mask-le mask [] first k h short sum = omega arith
mask-le mask (one ∷ rest) first zero h short sum = absurd (omega arith)
mask-le mask (one ∷ rest) first (suc k) h short sum =
    let place : 16 - one.number ≡ k = omega (arith, h.0) in
    let part : cond (has mask one.number) (bit_of one.number) 0 ≡ cond (eqb (mask / 2 ^ k % 2) 1) (2 ^ k) 0 = ap (λ x. cond (eqb (mask / 2 ^ x % 2) 1) (2 ^ x) 0) place in
    let later : mask_where (λ one. has mask one.number) rest ≤ mask % 2 ^ k = mask-le mask rest (first + 1) k h.3 (omega arith) (omega arith) in
    let next : suc k ≡ 1 + k = omega arith in
    let low : mask % 2 ^ suc k ≡ mask / 2 ^ k % 2 * 2 ^ k + mask % 2 ^ k = ap (λ x. mask % 2 ^ x) next ∙ mod-pow-add mask 1 k in
    let small : mask / 2 ^ k % 2 < 2 = omega arith in
    omega (arith, part, low, bit-le (mask / 2 ^ k % 2) (2 ^ k) _ _ small later)

and_true : (a b : Bool) → b ≡ true → (a && b) ≡ a
and_true true b is = is
and_true false b is = refl

and_false : (a b : Bool) → b ≡ false → (a && b) ≡ false
and_false true b is = is
and_false false b is = refl

-- nothing stands before the first
width-none : (named : Listed → Bool) (attributes : List Listed) (first bound : ℕ) → IsNumbered first attributes → bound ≤ first → width_where (λ one. named one && nat_lt one.number bound) attributes ≡ 0
width-none named [] first bound h le = refl
width-none named (one ∷ rest) first bound h le =
    let not_before : nat_lt one.number bound ≡ false = grind (arith, nat_tests, h.0) in
    let part : cond (named one && nat_lt one.number bound) one.width 0 ≡ 0 = ap (λ b. cond b one.width 0) (and_false (named one) (nat_lt one.number bound) not_before) in
    omega (arith, part, width-none named rest (first + 1) bound h.3 (omega arith))

-- the values before an attribute, and those from it on
pub width-split : (named : Listed → Bool) (attributes : List Listed) (first n bound : ℕ) → IsNumbered first attributes → bound ≡ first + n → width_where (λ one. named one && nat_lt one.number bound) attributes + width_where named (drop n attributes) ≡ width_where named attributes
width-split named [] first zero bound h is = refl
width-split named [] first (suc n) bound h is = refl
width-split named (one ∷ rest) first zero bound h is = omega (arith, width-none named (one ∷ rest) first bound h (omega arith))
width-split named (one ∷ rest) first (suc n) bound h is =
    let before : nat_lt one.number bound ≡ true = grind (arith, nat_tests, h.0) in
    let part : cond (named one && nat_lt one.number bound) one.width 0 ≡ cond (named one) one.width 0 = ap (λ b. cond b one.width 0) (and_true (named one) (nat_lt one.number bound) before) in
    omega (arith, part, width-split named rest (first + 1) n bound h.3 (omega arith))

-- what the code's attribute in a place adds to each sum
module _ (mask : Mask) (attributes : List Listed) (n : ℕ) (attribute : Attribute) (read : Some attribute ≡ option_map attribute_of (slice_get attributes (n + 1 - 1))) where
  here : Opened attributes n attribute
  here = opened_next attributes n attribute read

  pub known_part : (named : Bool) → named ≡ has mask.0 attribute.number → mask_where (is_selected mask) (drop n attributes) ≡ cond named (bit_of attribute.number) 0 + mask_where (is_selected mask) (drop (n + 1) attributes)
  known_part named is =
      mask-step (is_selected mask) attributes n here.one named here.rest (sym (is ∙ ap (λ (a : Attribute). has mask.0 a.number) here.is))
      ∙ ap (λ (a : Attribute). cond named (bit_of a.number) 0 + mask_where (is_selected mask) (drop (n + 1) attributes)) (sym here.is)

  pub fixed_part : (named written : Bool) → named ≡ has mask.0 attribute.number → written ≡ (bit_and attribute.access.0 2 == 2) → mask_where (is_fixed mask) (drop n attributes) ≡ cond (named && not written) (bit_of attribute.number) 0 + mask_where (is_fixed mask) (drop (n + 1) attributes)
  fixed_part named written is may =
      mask-step (is_fixed mask) attributes n here.one (named && not written) here.rest
      (sym (ap (λ b. b && not written) (is ∙ ap (λ (a : Attribute). has mask.0 a.number) here.is) ∙ ap (λ b. has mask.0 here.one.number && not b) (may ∙ is_written attribute here.one here.is)))
      ∙ ap (λ (a : Attribute). cond (named && not written) (bit_of a.number) 0 + mask_where (is_fixed mask) (drop (n + 1) attributes)) (sym here.is)

  pub width_part : (named : Bool) → named ≡ has mask.0 attribute.number → width_where (is_selected mask) (drop n attributes) ≡ cond named attribute.width 0 + width_where (is_selected mask) (drop (n + 1) attributes)
  width_part named is =
      width-step (is_selected mask) attributes n here.one named here.rest (sym (is ∙ ap (λ (a : Attribute). has mask.0 a.number) here.is))
      ∙ ap (λ (a : Attribute). cond named a.width 0 + width_where (is_selected mask) (drop (n + 1) attributes)) (sym here.is)
