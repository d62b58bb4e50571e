-- The values in the bytes of an entity, as the requests read and write them.
use Rattle.std.proofs.Common.{◌≡◌, ℕ, ◌+◌, ◌-◌, ◌<◌, ◌≤◌, Bool, true, false, cond, List, [], ◌∷◌, ◌++◌, length, take, drop, Some, refl, sym, ap, subst, ◌∙◌, length-drop, arith}
use Rattle.std.specs.Prelude.{◌==◌}
use Rattle.std.proofs.lemmas.Bool.Decides.{nat_tests}
use Rattle.std.proofs.lemmas.List.{take-append-drop, append-nil, length-replicate, length-take-le, take_at, drop_at, take_all}
use Rattle.class_spec.specs.Classes.{Attribute, attribute_in}
use Rattle.class_spec.specs.Masks.{has, width_where}
use Rattle.entity_classes.specs.Rule.{IsNumbered, whole_width, created_width}
use Rattle.omci_attributes.specs.declared.mask.Mask.{Mask}
use Rattle.mib_spec.specs.Database.{Values, value_at, with_value}
use Rattle.mib_spec.specs.Requests.{create_values, set_values, named_values}
use Rattle.mib_store.specs.declared.layout.Chosen.TheVariants.{Created, Named, Only}
use Rattle.mib_store.specs.Layout.{picks, cut, chosen_bytes, with_chosen}
use Rattle.mib_store.proofs.Counter.{blank, take_zeros, drop_zeros}

-- a value and what follows it
cut_front : (one : Attribute) (rest : List Attribute) (head tail : List ℕ) → length head ≡ one.width → cut (one ∷ rest) (head ++ tail) ≡ (one.number, head) ∷ cut rest tail
cut_front one rest head tail len =
    ap (λ (v : List ℕ). (one.number, v) ∷ cut rest (drop one.width (head ++ tail))) (take_at head tail one.width len)
    ∙ ap (λ (v : List ℕ). (one.number, head) ∷ cut rest v) (drop_at head tail one.width len)

-- a set stores the named values
pub stored_is : (mask : Mask) (attributes : List Attribute) (given bytes : List ℕ) → width_where (picks (Named mask)) attributes ≤ length given → whole_width attributes ≤ length bytes → cut attributes (with_chosen (picks (Named mask)) attributes given bytes) ≡ set_values mask.0 given (cut attributes bytes)
stored_is mask [] given bytes room wide = refl
stored_is mask (one ∷ rest) given bytes room wide =
    let width : length (take one.width bytes) ≡ one.width = length-take-le one.width bytes (omega arith) in
    let less : whole_width rest ≤ length (drop one.width bytes) = omega (arith, length-drop one.width bytes) in
    elim (has mask.0 one.number) as (λ b. cond b one.width 0 + width_where (picks (Named mask)) rest ≤ length given
    → cut (one ∷ rest) (cond b (take one.width given) (take one.width bytes) ++ with_chosen (picks (Named mask)) rest (cond b (drop one.width given) given) (drop one.width bytes))
    ≡ cond b ((one.number, take (length (take one.width bytes)) given) ∷ set_values mask.0 (drop (length (take one.width bytes)) given) (cut rest (drop one.width bytes)))
    ((one.number, take one.width bytes) ∷ set_values mask.0 given (cut rest (drop one.width bytes)))) [
      | true ↦ λ room.
          let head : length (take one.width given) ≡ one.width = length-take-le one.width given (omega arith) in
          cut_front one rest (take one.width given) _ head
          ∙ ap (λ (vs : Values). (one.number, take one.width given) ∷ vs) (stored_is mask rest (drop one.width given) (drop one.width bytes) (omega (arith, length-drop one.width given)) less)
          ∙ ap (λ n. (one.number, take n given) ∷ set_values mask.0 (drop n given) (cut rest (drop one.width bytes))) (sym width)
      | false ↦ λ room.
          cut_front one rest (take one.width bytes) _ width
          ∙ ap (λ (vs : Values). (one.number, take one.width bytes) ∷ vs) (stored_is mask rest given (drop one.width bytes) (omega arith) less)
    ] room

-- a create lays its values out
pub laid_is : (attributes : List Attribute) (given : List ℕ) (k : ℕ) → created_width attributes ≤ length given → whole_width attributes ≤ k → cut attributes (with_chosen (picks Created) attributes given (blank k)) ≡ create_values attributes given
laid_is [] given k room wide = refl
laid_is (one ∷ rest) given k room wide =
    let zeros : take one.width (blank k) ≡ blank one.width = take_zeros k one.width (omega arith) in
    let later : drop one.width (blank k) ≡ blank (k - one.width) = drop_zeros k one.width (omega arith) in
    let width : length (take one.width (blank k)) ≡ one.width = length-take-le one.width (blank k) (omega (arith, length-replicate {A = ℕ} k 0)) in
    let less : whole_width rest ≤ k - one.width = omega arith in
    elim one.created as (λ b. cond b one.width 0 + created_width rest ≤ length given
    → cut (one ∷ rest) (cond b (take one.width given) (take one.width (blank k)) ++ with_chosen (picks Created) rest (cond b (drop one.width given) given) (drop one.width (blank k)))
    ≡ cond b ((one.number, take one.width given) ∷ create_values rest (drop one.width given)) ((one.number, blank one.width) ∷ create_values rest given)) [
      | true ↦ λ room.
          let head : length (take one.width given) ≡ one.width = length-take-le one.width given (omega arith) in
          cut_front one rest (take one.width given) _ head
          ∙ ap (λ (z : List ℕ). (one.number, take one.width given) ∷ cut rest (with_chosen (picks Created) rest (drop one.width given) z)) later
          ∙ ap (λ (vs : Values). (one.number, take one.width given) ∷ vs) (laid_is rest (drop one.width given) (k - one.width) (omega (arith, length-drop one.width given)) less)
      | false ↦ λ room.
          cut_front one rest (take one.width (blank k)) _ width
          ∙ ap (λ (z : List ℕ). (one.number, take one.width (blank k)) ∷ cut rest (with_chosen (picks Created) rest given z)) later
          ∙ ap (λ (v : List ℕ). (one.number, v) ∷ cut rest (with_chosen (picks Created) rest given (blank (k - one.width)))) zeros
          ∙ ap (λ (vs : Values). (one.number, blank one.width) ∷ vs) (laid_is rest given (k - one.width) (omega arith) less)
    ] room

-- a get answers the named values
pub named_is : (mask : Mask) (attributes : List Attribute) (bytes : List ℕ) → chosen_bytes (picks (Named mask)) attributes bytes ≡ named_values mask.0 (cut attributes bytes)
named_is mask [] bytes = refl
named_is mask (one ∷ rest) bytes =
    elim (has mask.0 one.number) as (λ b. cond b (take one.width bytes) [] ++ chosen_bytes (picks (Named mask)) rest (drop one.width bytes)
    ≡ cond b (take one.width bytes ++ named_values mask.0 (cut rest (drop one.width bytes))) (named_values mask.0 (cut rest (drop one.width bytes)))) [
      | true ↦ ap (λ (v : List ℕ). take one.width bytes ++ v) (named_is mask rest (drop one.width bytes))
      | false ↦ named_is mask rest (drop one.width bytes)
    ]

-- an attribute below all of these is none of them
module _ (number : ℕ) where
  abbrev P : Attribute → Bool
  P = picks (Only number)

  unmatched : (one : Attribute) (first : ℕ) → one.number ≡ first → number < first → (one.number == number) ≡ false
  unmatched one first is below = grind (arith, nat_tests)

  only_width-none : (attributes : List Attribute) (first : ℕ) → IsNumbered first attributes → number < first → width_where P attributes ≡ 0
  only_width-none [] first h below = refl
  only_width-none (one ∷ rest) first h below =
      ap (λ b. cond b one.width 0 + width_where P rest) (unmatched one first h.0 below) ∙ omega (arith, only_width-none rest (first + 1) h.3 (omega arith))

  overwritten-none : (attributes : List Attribute) (first : ℕ) (given bytes : List ℕ) → IsNumbered first attributes → number < first → with_chosen P attributes given bytes ≡ bytes
  overwritten-none [] first given bytes h below = refl
  overwritten-none (one ∷ rest) first given bytes h below =
      ap (λ b. cond b (take one.width given) (take one.width bytes) ++ with_chosen P rest (cond b (drop one.width given) given) (drop one.width bytes)) (unmatched one first h.0 below)
      ∙ ap (λ (v : List ℕ). take one.width bytes ++ v) (overwritten-none rest (first + 1) given (drop one.width bytes) h.3 (omega arith))
      ∙ take-append-drop one.width bytes

  picked-none : (attributes : List Attribute) (first : ℕ) (bytes : List ℕ) → IsNumbered first attributes → number < first → chosen_bytes P attributes bytes ≡ []
  picked-none [] first bytes h below = refl
  picked-none (one ∷ rest) first bytes h below =
      ap (λ b. cond b (take one.width bytes) [] ++ chosen_bytes P rest (drop one.width bytes)) (unmatched one first h.0 below) ∙ picked-none rest (first + 1) (drop one.width bytes) h.3 (omega arith)

  -- the one that is found
  pub only_width : (attributes : List Attribute) (first : ℕ) (found : Attribute) → IsNumbered first attributes → attribute_in attributes number ≡ Some found → width_where P attributes ≡ found.width
  only_width [] first found h is = absurd cc
  only_width (one ∷ rest) first found h is =
      elim (one.number == number) as (λ b. (one.number == number) ≡ b → cond b (Some one) (attribute_in rest number) ≡ Some found → cond b one.width 0 + width_where P rest ≡ found.width) [
        | true ↦ λ t e.
            let below : number < first + 1 = grind (arith, nat_tests, h.0) in
            let same : one ≡ found = cc in
            omega (arith, ap (λ (a : Attribute). a.width) same, only_width-none rest (first + 1) h.3 below)
        | false ↦ λ t e. omega (arith, only_width rest (first + 1) found h.3 e)
      ] refl is

  pub found_width : (attributes : List Attribute) (first : ℕ) (found : Attribute) → IsNumbered first attributes → attribute_in attributes number ≡ Some found → found.width ≤ 25
  found_width [] first found h is = absurd cc
  found_width (one ∷ rest) first found h is =
      elim (one.number == number) as (λ b. cond b (Some one) (attribute_in rest number) ≡ Some found → found.width ≤ 25) [
        | true ↦ λ e. let same : one ≡ found = cc in subst (λ (a : Attribute). a.width ≤ 25) same h.2
        | false ↦ λ e. found_width rest (first + 1) found h.3 e
      ] is

  pub only_stored : (attributes : List Attribute) (first : ℕ) (found : Attribute) (value bytes : List ℕ) → IsNumbered first attributes → attribute_in attributes number ≡ Some found → found.width ≡ length value → whole_width attributes ≤ length bytes → cut attributes (with_chosen P attributes value bytes) ≡ with_value number value (cut attributes bytes)
  only_stored [] first found value bytes h is width wide = absurd cc
  only_stored (one ∷ rest) first found value bytes h is width wide =
      let held : length (take one.width bytes) ≡ one.width = length-take-le one.width bytes (omega arith) in
      let less : whole_width rest ≤ length (drop one.width bytes) = omega (arith, length-drop one.width bytes) in
      elim (one.number == number) as (λ b. (one.number == number) ≡ b → cond b (Some one) (attribute_in rest number) ≡ Some found
      → cut (one ∷ rest) (cond b (take one.width value) (take one.width bytes) ++ with_chosen P rest (cond b (drop one.width value) value) (drop one.width bytes))
      ≡ cond b ((one.number, value) ∷ cut rest (drop one.width bytes)) ((one.number, take one.width bytes) ∷ with_value number value (cut rest (drop one.width bytes)))) [
        | true ↦ λ t e.
            let below : number < first + 1 = grind (arith, nat_tests, h.0) in
            let same : one ≡ found = cc in
            let wide_as : one.width ≡ length value = ap (λ (a : Attribute). a.width) same ∙ width in
            let whole : take one.width value ≡ value = take_all one.width value (omega (arith, wide_as)) in
            cut_front one rest (take one.width value) _ (length-take-le one.width value (omega (arith, wide_as)))
            ∙ ap (λ (v : List ℕ). (one.number, v) ∷ cut rest (with_chosen P rest (drop one.width value) (drop one.width bytes))) whole
            ∙ ap (λ (v : List ℕ). (one.number, value) ∷ cut rest v) (overwritten-none rest (first + 1) (drop one.width value) (drop one.width bytes) h.3 below)
        | false ↦ λ t e.
            cut_front one rest (take one.width bytes) _ held
            ∙ ap (λ (vs : Values). (one.number, take one.width bytes) ∷ vs) (only_stored rest (first + 1) found value (drop one.width bytes) h.3 e width less)
      ] refl is

  pub only_value : (attributes : List Attribute) (first : ℕ) (found : Attribute) (bytes : List ℕ) → IsNumbered first attributes → attribute_in attributes number ≡ Some found → value_at number (cut attributes bytes) ≡ Some (chosen_bytes P attributes bytes)
  only_value [] first found bytes h is = absurd cc
  only_value (one ∷ rest) first found bytes h is =
      elim (one.number == number) as (λ b. (one.number == number) ≡ b → cond b (Some one) (attribute_in rest number) ≡ Some found
      → cond b (Some (take one.width bytes)) (value_at number (cut rest (drop one.width bytes))) ≡ Some (cond b (take one.width bytes) [] ++ chosen_bytes P rest (drop one.width bytes))) [
        | true ↦ λ t e.
            let below : number < first + 1 = grind (arith, nat_tests, h.0) in
            ap (λ (v : List ℕ). Some v) (sym (append-nil (take one.width bytes)) ∙ ap (λ (v : List ℕ). take one.width bytes ++ v) (sym (picked-none rest (first + 1) (drop one.width bytes) h.3 below)))
        | false ↦ λ t e. only_value rest (first + 1) found (drop one.width bytes) h.3 e
      ] refl is

  pub only_length : (attributes : List Attribute) (first : ℕ) (found : Attribute) (bytes : List ℕ) → IsNumbered first attributes → attribute_in attributes number ≡ Some found → whole_width attributes ≤ length bytes → length (chosen_bytes P attributes bytes) ≡ found.width
  only_length [] first found bytes h is wide = absurd cc
  only_length (one ∷ rest) first found bytes h is wide =
      let held : length (take one.width bytes) ≡ one.width = length-take-le one.width bytes (omega arith) in
      let less : whole_width rest ≤ length (drop one.width bytes) = omega (arith, length-drop one.width bytes) in
      elim (one.number == number) as (λ b. (one.number == number) ≡ b → cond b (Some one) (attribute_in rest number) ≡ Some found → length (cond b (take one.width bytes) [] ++ chosen_bytes P rest (drop one.width bytes)) ≡ found.width) [
        | true ↦ λ t e.
            let below : number < first + 1 = grind (arith, nat_tests, h.0) in
            let same : one ≡ found = cc in
            ap length (ap (λ (v : List ℕ). take one.width bytes ++ v) (picked-none rest (first + 1) (drop one.width bytes) h.3 below) ∙ append-nil (take one.width bytes))
            ∙ held ∙ ap (λ (a : Attribute). a.width) same
        | false ↦ λ t e. only_length rest (first + 1) found (drop one.width bytes) h.3 e less
      ] refl is
