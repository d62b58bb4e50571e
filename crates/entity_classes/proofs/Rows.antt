-- The rule of each class, and an attribute by its number.
use Rattle.std.proofs.Common.{◌≡◌, ℕ, zero, suc, ◌+◌, ◌-◌, ◌<◌, ◌≤◌, Bool, true, false, cond, List, [], ◌∷◌, map, length, slice_get, Option, Some, None, option_map, IsSome, ◌↔◌, refl, sym, ap, subst, ◌∙◌, arith}
use Rattle.std.specs.Prelude.{◌&&◌, nat_le, ◌==◌, bit_and, is_some}
use Rattle.std.specs.List.{list_all}
use Rattle.std.proofs.lemmas.List.{length-map}
use Rattle.std.proofs.lemmas.Bool.{false≢true}
use Rattle.std.proofs.lemmas.Bool.Decides.{nat_tests}
use Rattle.class_spec.specs.Classes.{Row, Attribute as Listed, class_row, class_table, row_in, attribute_in}
use Rattle.entity_classes.specs.Kinds.{row_of, found_row, number_of}
use Rattle.entity_classes.specs.declared.kinds.Kind.{Kind}
use Rattle.entity_classes.specs.declared.access.Access.{Access}
use Rattle.entity_classes.specs.declared.classes.Attribute.{Attribute}
use Rattle.entity_classes.specs.declared.access.TheConstants.Access.{READ, WRITE, SET_BY_CREATE}
use Rattle.entity_classes.specs.Rule.{IsRow, IsNumbered, created_width, whole_width, listed_as, attribute_of, access_of, allows}

-- the rule as a test
abbrev is_numbered : ℕ → List Listed → Bool
is_numbered number [] = true
is_numbered number (one ∷ rest) = (one.number == number) && (nat_le 1 one.width && (nat_le one.width 25 && is_numbered (number + 1) rest))

abbrev is_row : Row → Bool
is_row row = is_numbered 1 row.attributes && (nat_le (length row.attributes) 13 && (nat_le (created_width row.attributes) 32 && nat_le (whole_width row.attributes) 45))

-- the test over the whole table
table_passes : list_all is_row class_table ≡ true
unfolding class_table
table_passes = refl

all_of : (a b c d : Bool) → (a && (b && (c && d))) ≡ true → (a ≡ true) × (b ≡ true) × (c ≡ true) × (d ≡ true)
all_of true true true d h = (refl, refl, refl, h)
all_of true true false d h = absurd (false≢true h)
all_of true false c d h = absurd (false≢true h)
all_of false b c d h = absurd (false≢true h)

both : (a b : Bool) → (a && b) ≡ true → (a ≡ true) × (b ≡ true)
both true b h = (refl, h)
both false b h = absurd (false≢true h)

numbered_from_test : (number : ℕ) (attributes : List Listed) → is_numbered number attributes ≡ true → IsNumbered number attributes
numbered_from_test number [] h = tt
numbered_from_test number (one ∷ rest) h =
    let p = all_of (one.number == number) (nat_le 1 one.width) (nat_le one.width 25) (is_numbered (number + 1) rest) h in
    (grind (arith, nat_tests, p.0), grind (arith, nat_tests, p.1), grind (arith, nat_tests, p.2), numbered_from_test (number + 1) rest p.3)

rule_from_test : (row : Row) → is_row row ≡ true → IsRow row
rule_from_test row h =
    let p = all_of (is_numbered 1 row.attributes) (nat_le (length row.attributes) 13) (nat_le (created_width row.attributes) 32) (nat_le (whole_width row.attributes) 45) h in
    record {
      numbered = numbered_from_test 1 row.attributes p.0;
      count = grind (arith, nat_tests, p.1);
      created = grind (arith, nat_tests, p.2);
      whole = grind (arith, nat_tests, p.3);
    }

-- what passes at each row passes at the one that is found
found_passes : (rows : List Row) (number : ℕ) → list_all is_row rows ≡ true → is_row (found_row (row_in rows number)) ≡ true
found_passes [] number h = refl
found_passes (one ∷ rows) number h =
    let p = both (is_row one) (list_all is_row rows) h in
    elim (one.number == number) as (λ b. is_row (found_row (cond b (Some one) (row_in rows number))) ≡ true) [ true ↦ p.0 | false ↦ found_passes rows number p.1 ]

pub row_rule : (kind : Kind) → IsRow (row_of kind)
unfolding row_of class_row
row_rule kind = rule_from_test _ (found_passes class_table (number_of kind) table_passes)

-- the attribute of a number stands in its place
attribute_in-place : (attributes : List Listed) (first n number : ℕ) → IsNumbered first attributes → number ≡ first + n → attribute_in attributes number ≡ slice_get attributes n
attribute_in-place [] first n number h e = refl
attribute_in-place (one ∷ rest) first zero number h e = grind (arith, nat_tests, h.0)
attribute_in-place (one ∷ rest) first (suc n) number h e =
    grind (arith, nat_tests, h.0, attribute_in-place rest (first + 1) n number h.3 (omega arith))

attribute_in-below : (attributes : List Listed) (first number : ℕ) → IsNumbered first attributes → number < first → attribute_in attributes number ≡ None
attribute_in-below [] first number h below = refl
attribute_in-below (one ∷ rest) first number h below =
    grind (arith, nat_tests, h.0, attribute_in-below rest (first + 1) number h.3 (omega arith))

-- the attribute that the code makes of a number and of what its table says
abbrev pub made : ℕ → ℕ × Access → Attribute
made number shape = record { number = number; width = shape.0; access = shape.1 }

made-place : (attributes : List Listed) (first n number : ℕ) → IsNumbered first attributes → number ≡ first + n → option_map (made number) (slice_get (map listed_as attributes) n) ≡ option_map attribute_of (slice_get attributes n)
made-place [] first n number h e = refl
made-place (one ∷ rest) first zero number h e =
    let same : number ≡ one.number = omega (arith, h.0) in
    ap (λ (k : ℕ). Some (made k (listed_as one))) same
made-place (one ∷ rest) first (suc n) number h e = made-place rest (first + 1) n number h.3 (omega arith)

within : {A : Type 0} (xs : List A) (n : ℕ) → IsSome (slice_get xs n) → n < length xs
within [] n h = absurd (false≢true h)
within (x ∷ xs) zero h = omega arith
within (x ∷ xs) (suc n) h = omega (arith, within xs n h)

inside : {A : Type 0} (xs : List A) (n : ℕ) → n < length xs → IsSome (slice_get xs n)
inside [] n h = absurd (omega arith)
inside (x ∷ xs) zero h = refl
inside (x ∷ xs) (suc n) h = inside xs n (omega arith)

-- what the code reads of an attribute's number
module _ (kind : Kind) (row : Row) (view : row_of kind ≡ row) (shapes : List (ℕ × Access)) (table : shapes ≡ map listed_as (row_of kind).attributes)
    (number : ℕ) (positive : 0 < number) (read : Option (ℕ × Access)) (found : read ≡ slice_get shapes (number - 1)) where
  rule : IsRow row
  rule = subst IsRow view (row_rule kind)

  is : read ≡ slice_get (map listed_as row.attributes) (number - 1)
  is = found ∙ ap (λ (ss : List (ℕ × Access)). slice_get ss (number - 1)) table ∙ ap (λ (one : Row). slice_get (map listed_as one.attributes) (number - 1)) view

  pub read_place : option_map (made number) read ≡ option_map attribute_of (slice_get row.attributes (number - 1))
  read_place = ap (option_map (made number)) is ∙ made-place row.attributes 1 (number - 1) number rule.numbered (omega arith)

  pub read_value : option_map (made number) read ≡ option_map attribute_of (attribute_in row.attributes number)
  read_value = read_place ∙ ap (option_map attribute_of) (sym (attribute_in-place row.attributes 1 (number - 1) number rule.numbered (omega arith)))

  pub read_there : IsSome read ↔ ((0 < number) × (number ≤ length row.attributes))
  read_there = (
    λ some. (positive, omega (arith, length-map row.attributes listed_as, within _ (number - 1) (subst (λ o. IsSome o) is some))),
    λ h. subst (λ o. IsSome o) (sym is) (inside _ (number - 1) (omega (arith, length-map row.attributes listed_as, h.1))),
  )

-- the class has no attribute 0
pub none_at_zero : (kind : Kind) (row : Row) → row_of kind ≡ row → (number : ℕ) → number ≡ 0 → attribute_in row.attributes number ≡ None
none_at_zero kind row view number zero_is = attribute_in-below row.attributes 1 number (subst IsRow view (row_rule kind)).numbered (omega arith)

-- what the bits of the rights say
read_bit : (written created : Bool) → (bit_and (1 + cond written 2 0 + cond created 4 0) 1 == 1) ≡ true
read_bit true true = refl
read_bit true false = refl
read_bit false true = refl
read_bit false false = refl

write_bit : (written created : Bool) → (bit_and (1 + cond written 2 0 + cond created 4 0) 2 == 2) ≡ written
write_bit true true = refl
write_bit true false = refl
write_bit false true = refl
write_bit false false = refl

create_bit : (written created : Bool) → (bit_and (1 + cond written 2 0 + cond created 4 0) 4 == 4) ≡ created
create_bit true true = refl
create_bit true false = refl
create_bit false true = refl
create_bit false false = refl

abbrev attribute_or : Attribute → Option Attribute → Attribute
attribute_or default None = default
attribute_or default (Some attribute) = attribute

module _ (found : Option Listed) (attribute : Attribute) (is : Some attribute ≡ option_map attribute_of found) where
  rights_as : (one : Listed) → found ≡ Some one → attribute.access ≡ access_of one
  rights_as one here = ap (λ o. (attribute_or attribute o).access) (is ∙ ap (option_map attribute_of) here)

  pub may_write : (one : Listed) → found ≡ Some one → allows attribute.access WRITE ≡ one.written
  may_write one here = ap (λ (a : Access). allows a WRITE) (rights_as one here) ∙ write_bit one.written one.created

  pub may_create : (one : Listed) → found ≡ Some one → allows attribute.access SET_BY_CREATE ≡ one.created
  may_create one here = ap (λ (a : Access). allows a SET_BY_CREATE) (rights_as one here) ∙ create_bit one.written one.created

pub may_read : (found : Option Listed) (attribute : Attribute) → Some attribute ≡ option_map attribute_of found → allows attribute.access READ ≡ true
may_read None attribute is = absurd (false≢true (sym (ap is_some is)))
may_read (Some one) attribute is = ap (λ (a : Access). allows a READ) (rights_as (Some one) attribute is one refl) ∙ read_bit one.written one.created
