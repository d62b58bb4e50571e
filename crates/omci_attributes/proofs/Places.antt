-- Where a value has its place, by the tests of the code.
use Rattle.std.proofs.Common.{◌≡◌, ℕ, ◌+◌, ◌<◌, ◌≤◌, Bool, true, false, cond, Option, Some, None, option_map, is_some, Result, Ok, Err, refl, sym, ap, ◌∙◌, arith}
use Rattle.std.specs.Prelude.{◌&&◌, not, nat_lt}
use Rattle.std.specs.Option.{option_map_or}
use Rattle.std.proofs.lemmas.Bool.Decides.{nat_tests}
use Rattle.class_spec.specs.Classes.{Row, Attribute as Listed, attribute_in}
use Rattle.class_spec.specs.Masks.{has, place_of}
use Rattle.entity_classes.specs.declared.classes.Attribute.{Attribute}
use Rattle.entity_classes.specs.Rule.{attribute_of}
use Rattle.omci_attributes.specs.declared.mask.Mask.{Mask}
use Rattle.omci_attributes.specs.declared.widths.MaskFault.{MaskFault}
use Rattle.omci_attributes.specs.declared.widths.MaskFault.TheVariants.{Unknown, DoesNotFit}
use Rattle.omci_attributes.specs.Placed.{end_of, placed}

no_attribute : (o : Option Listed) → None ≡ option_map attribute_of o → is_some o ≡ false
no_attribute None e = refl
no_attribute (Some one) e = absurd cc

an_attribute : (o : Option Listed) (attribute : Attribute) → Some attribute ≡ option_map attribute_of o → (is_some o ≡ true) × (option_map_or (λ one. one.width) o 0 ≡ attribute.width)
an_attribute None attribute e = absurd cc
an_attribute (Some one) attribute e =
    let same : attribute ≡ attribute_of one = cc in
    (refl, ap (λ (a : Attribute). a.width) (sym same))

module _ (row : Row) (mask : Mask) (number room : ℕ) where
  tested : (named late : Bool) → Result ℕ MaskFault
  tested named late = cond (not named) (Err (Unknown mask)) (cond late (Err (DoesNotFit (end_of row mask number) room)) (Ok (place_of row mask.0 number)))

  pub placed_absent : None ≡ option_map attribute_of (attribute_in row.attributes number) → Err (Unknown mask) ≡ placed row mask number room
  unfolding placed tested
  placed_absent none = sym (ap (λ b. tested (b && has mask.0 number) (nat_lt room (end_of row mask number))) (no_attribute _ none))

  module _ (attribute : Attribute) (some : Some attribute ≡ option_map attribute_of (attribute_in row.attributes number)) where
    pub placed_unnamed : has mask.0 number ≡ false → Err (Unknown mask) ≡ placed row mask number room
    unfolding placed tested
    placed_unnamed unnamed =
        sym (ap (λ b. tested (b && has mask.0 number) (nat_lt room (end_of row mask number))) (an_attribute _ attribute some).0
        ∙ ap (λ b. tested b (nat_lt room (end_of row mask number))) unnamed)

    named_so : has mask.0 number ≡ true → placed row mask number room ≡ tested true (nat_lt room (end_of row mask number))
    unfolding placed tested
    named_so named =
        ap (λ b. tested (b && has mask.0 number) (nat_lt room (end_of row mask number))) (an_attribute _ attribute some).0
        ∙ ap (λ b. tested b (nat_lt room (end_of row mask number))) named

    ends : (place : ℕ) → place ≡ place_of row mask.0 number → place + attribute.width ≡ end_of row mask number
    ends place is = omega (arith, is, (an_attribute _ attribute some).1)

    pub placed_late : has mask.0 number ≡ true → (place : ℕ) → place ≡ place_of row mask.0 number → room < place + attribute.width → Err (DoesNotFit (place + attribute.width) room) ≡ placed row mask number room
    unfolding tested
    placed_late named place is late =
        let past : nat_lt room (end_of row mask number) ≡ true = grind (arith, nat_tests, ends place is) in
        ap (λ need. Err (DoesNotFit need room)) (ends place is) ∙ sym (named_so named ∙ ap (tested true) past)

    pub placed_there : has mask.0 number ≡ true → (place : ℕ) → place ≡ place_of row mask.0 number → place + attribute.width ≤ room → Ok place ≡ placed row mask number room
    unfolding tested
    placed_there named place is fits =
        let before : nat_lt room (end_of row mask number) ≡ false = grind (arith, nat_tests, ends place is) in
        ap (λ p. Ok p) is ∙ sym (named_so named ∙ ap (tested true) before)
