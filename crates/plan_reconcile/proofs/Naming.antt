-- Values that a mask names, attribute by attribute.
use Rattle.std.proofs.Common.{◌≡◌, ℕ, ◌+◌, ◌<◌, Bool, true, false, cond, List, [], ◌∷◌, ◌++◌, take, drop, replicate, Option, Some, None, refl, sym, ap, ◌∙◌, arith}
use Rattle.std.specs.Prelude.{◌==◌, ◌&&◌, ◌||◌, not, bytes_eq}
use Rattle.std.specs.Option.{option_map_or}
use Rattle.std.proofs.lemmas.Bool.Decides.{nat_tests}
use Rattle.std.proofs.lemmas.List.{drop-drop}
use Rattle.class_spec.specs.Classes.{Attribute}
use Rattle.class_spec.specs.Masks.{has}
use Rattle.entity_classes.specs.Rule.{IsNumbered}
use Rattle.mib_spec.specs.Database.{Values, value_at}
use Rattle.upload_spec.specs.Pieces.{values_named}
use Rattle.plan_spec.specs.Steps.{create_bytes, wanted_or_zeros, differing, differing_one, is_value, unless}
use Rattle.plan_reconcile.specs.Made.{made_bytes}

abbrev pub one_value : Bool → ℕ → List ℕ → Values
one_value there number bytes = cond there ((number, bytes) ∷ []) []

abbrev pub bytes_after : Bool → ℕ → List ℕ → List ℕ
bytes_after named width bytes = cond named (drop width bytes) bytes

pub none_named : (attributes : List Attribute) (first number mask : ℕ) (bytes : List ℕ) → IsNumbered first attributes → number < first → value_at number (values_named attributes mask bytes) ≡ None
none_named [] first number mask bytes h lt = refl
none_named (one ∷ rest) first number mask bytes h lt =
    let other : (one.number == number) ≡ false = grind (arith, nat_tests, h.0, lt) in
    let later : (b : List ℕ) → value_at number (values_named rest mask b) ≡ None = λ b. none_named rest (first + 1) number mask b h.3 (omega (arith, lt)) in
    elim (has mask one.number) as (λ b. value_at number (one_value b one.number (take one.width bytes) ++ values_named rest mask (cond b (drop one.width bytes) bytes)) ≡ None) [
      | true ↦ ap (λ b. cond b (Some (take one.width bytes)) (value_at number (values_named rest mask (drop one.width bytes)))) other ∙ later (drop one.width bytes)
      | false ↦ later bytes
    ]

first_value : (there : Bool) (number : ℕ) (bytes : List ℕ) (rest : Values) → value_at number rest ≡ None → value_at number (one_value there number bytes ++ rest) ≡ cond there (Some bytes) None
first_value true number bytes rest none =
    let same : (number == number) ≡ true = grind (arith, nat_tests) in
    ap (λ b. cond b (Some bytes) (value_at number rest)) same
first_value false number bytes rest none = none

-- the value of the first attribute
pub value_first : (one : Attribute) (rest : List Attribute) (first mask : ℕ) (bytes : List ℕ) → IsNumbered first (one ∷ rest) → value_at one.number (values_named (one ∷ rest) mask bytes) ≡ cond (has mask one.number) (Some (take one.width bytes)) None
value_first one rest first mask bytes h =
    let after : List ℕ = bytes_after (has mask one.number) one.width bytes in
    first_value (has mask one.number) one.number (take one.width bytes) (values_named rest mask after) (none_named rest (first + 1) one.number mask after h.3 (omega (arith, h.0)))

-- a value before the attributes isn't looked at
create_skip : (attributes : List Attribute) (first : ℕ) (x : ℕ × List ℕ) (want : Values) → IsNumbered first attributes → x.0 < first → create_bytes attributes (x ∷ want) ≡ create_bytes attributes want
create_skip [] first x want h lt = refl
create_skip (one ∷ rest) first x want h lt =
    let other : (x.0 == one.number) ≡ false = grind (arith, nat_tests, h.0, lt) in
    ap (λ b. cond one.created (option_map_or (λ (v : List ℕ). v) (cond b (Some x.1) (value_at one.number want)) (replicate one.width 0)) [] ++ create_bytes rest (x ∷ want)) other
    ∙ ap (λ (l : List ℕ). cond one.created (wanted_or_zeros one want) [] ++ l) (create_skip rest (first + 1) x want h.3 (omega (arith, lt)))

create_skip_if : (b : Bool) (attributes : List Attribute) (first number : ℕ) (bytes : List ℕ) (want : Values) → IsNumbered first attributes → number < first → create_bytes attributes (one_value b number bytes ++ want) ≡ create_bytes attributes want
create_skip_if true attributes first number bytes want h lt = create_skip attributes first (number, bytes) want h lt
create_skip_if false attributes first number bytes want h lt = refl

or_zeros : (b : Bool) (x zeros : List ℕ) → option_map_or (λ (v : List ℕ). v) (cond b (Some x) None) zeros ≡ cond b x zeros
or_zeros true x zeros = refl
or_zeros false x zeros = refl

-- the bytes that the code makes for a create are those of the rule
pub made_is : (attributes : List Attribute) (first mask : ℕ) (bytes : List ℕ) → IsNumbered first attributes → made_bytes attributes mask bytes ≡ create_bytes attributes (values_named attributes mask bytes)
made_is [] first mask bytes h = refl
made_is (one ∷ rest) first mask bytes h =
    let b : Bool = has mask one.number in
    let x : List ℕ = take one.width bytes in
    let zeros : List ℕ = replicate one.width 0 in
    let after : List ℕ = bytes_after b one.width bytes in
    let N : Values = values_named rest mask after in
    let W : Values = one_value b one.number x ++ N in
    let made : made_bytes rest mask after ≡ create_bytes rest W =
    made_is rest (first + 1) mask after h.3 ∙ sym (create_skip_if b rest (first + 1) one.number x N h.3 (omega (arith, h.0))) in
    let value : cond b x zeros ≡ option_map_or (λ (v : List ℕ). v) (value_at one.number W) zeros =
    sym (or_zeros b x zeros) ∙ ap (λ (o : Option (List ℕ)). option_map_or (λ (v : List ℕ). v) o zeros) (sym (value_first one rest first mask bytes h)) in
    ap (λ (l : List ℕ). cond one.created (cond b x zeros) [] ++ l) made ∙ ap (λ (l : List ℕ). cond one.created l [] ++ create_bytes rest W) value

-- ---- what still differs

diff_skip_want : (held : Option Values) (attributes : List Attribute) (first : ℕ) (x : ℕ × List ℕ) (want : Values) → IsNumbered first attributes → x.0 < first → differing held (x ∷ want) attributes ≡ differing held want attributes
diff_skip_want held [] first x want h lt = refl
diff_skip_want held (one ∷ rest) first x want h lt =
    let other : (x.0 == one.number) ≡ false = grind (arith, nat_tests, h.0, lt) in
    ap (λ b. differing_one held one (cond b (Some x.1) (value_at one.number want)) ++ differing held (x ∷ want) rest) other
    ∙ ap (λ (l : Values). differing_one held one (value_at one.number want) ++ l) (diff_skip_want held rest (first + 1) x want h.3 (omega (arith, lt)))

same_already : (one : Attribute) (held held' : Values) (o : Option (List ℕ)) → value_at one.number held ≡ value_at one.number held' → differing_one (Some held) one o ≡ differing_one (Some held') one o
same_already one held held' None e = refl
same_already one held held' (Some v) e = ap (λ (y : Option (List ℕ)). unless (is_value v y) one.number v) e

diff_skip_held : (want : Values) (attributes : List Attribute) (first : ℕ) (x : ℕ × List ℕ) (held : Values) → IsNumbered first attributes → x.0 < first → differing (Some (x ∷ held)) want attributes ≡ differing (Some held) want attributes
diff_skip_held want [] first x held h lt = refl
diff_skip_held want (one ∷ rest) first x held h lt =
    let other : (x.0 == one.number) ≡ false = grind (arith, nat_tests, h.0, lt) in
    let same : value_at one.number (x ∷ held) ≡ value_at one.number held = ap (λ b. cond b (Some x.1) (value_at one.number held)) other in
    ap (λ (l : Values). l ++ differing (Some (x ∷ held)) want rest) (same_already one (x ∷ held) held (value_at one.number want) same)
    ∙ ap (λ (l : Values). differing_one (Some held) one (value_at one.number want) ++ l) (diff_skip_held want rest (first + 1) x held h.3 (omega (arith, lt)))

skip_want : (b : Bool) (held : Option Values) (attributes : List Attribute) (first number : ℕ) (bytes : List ℕ) (want : Values) → IsNumbered first attributes → number < first → differing held (one_value b number bytes ++ want) attributes ≡ differing held want attributes
skip_want true held attributes first number bytes want h lt = diff_skip_want held attributes first (number, bytes) want h lt
skip_want false held attributes first number bytes want h lt = refl

skip_held : (b : Bool) (want : Values) (attributes : List Attribute) (first number : ℕ) (bytes : List ℕ) (held : Values) → IsNumbered first attributes → number < first → differing (Some (one_value b number bytes ++ held)) want attributes ≡ differing (Some held) want attributes
skip_held true want attributes first number bytes held h lt = diff_skip_held want attributes first (number, bytes) held h lt
skip_held false want attributes first number bytes held h lt = refl

flip : (a : Bool) (x y : Values) → cond a x y ≡ cond (not a) y x
flip true x y = refl
flip false x y = refl

one_new : (b : Bool) (one : Attribute) (v : List ℕ) → differing_one None one (cond b (Some v) None) ≡ one_value (b && not (one.created || bytes_eq (replicate one.width 0) v)) one.number v
one_new true one v = flip (one.created || bytes_eq (replicate one.width 0) v) [] ((one.number, v) ∷ [])
one_new false one v = refl

one_held : (b c : Bool) (one : Attribute) (held : Values) (v y : List ℕ) → value_at one.number held ≡ cond c (Some y) None → differing_one (Some held) one (cond b (Some v) None) ≡ one_value (b && not (c && bytes_eq y v)) one.number v
one_held false c one held v y e = refl
one_held true true one held v y e = ap (λ (o : Option (List ℕ)). unless (is_value v o) one.number v) e ∙ flip (bytes_eq y v) [] ((one.number, v) ∷ [])
one_held true false one held v y e = ap (λ (o : Option (List ℕ)). unless (is_value v o) one.number v) e

module _ (one : Attribute) (rest : List Attribute) (first mask : ℕ) (bytes : List ℕ) (h : IsNumbered first (one ∷ rest)) where
  abbrev pub v : List ℕ
  v = take one.width bytes

  abbrev pub b : Bool
  b = has mask one.number

  abbrev pub N : Values
  N = values_named rest mask (bytes_after b one.width bytes)

  -- what differs from the first attribute on, in a new entity
  pub next_new : differing None (values_named (one ∷ rest) mask bytes) (one ∷ rest) ≡ one_value (b && not (one.created || bytes_eq (replicate one.width 0) v)) one.number v ++ differing None N rest
  next_new =
      ap (λ (o : Option (List ℕ)). differing_one None one o ++ differing None (one_value b one.number v ++ N) rest) (value_first one rest first mask bytes h)
      ∙ ap (λ (l : Values). l ++ differing None (one_value b one.number v ++ N) rest) (one_new b one v)
      ∙ ap (λ (l : Values). one_value (b && not (one.created || bytes_eq (replicate one.width 0) v)) one.number v ++ l) (skip_want b None rest (first + 1) one.number v N h.3 (omega (arith, h.0)))

  module _ (holds : ℕ) (held : List ℕ) where
    abbrev pub y : List ℕ
    y = take one.width held

    abbrev pub c : Bool
    c = has holds one.number

    abbrev pub H : Values
    H = values_named rest holds (bytes_after c one.width held)

    -- and in one that is there
    pub next_held : differing (Some (values_named (one ∷ rest) holds held)) (values_named (one ∷ rest) mask bytes) (one ∷ rest) ≡ one_value (b && not (c && bytes_eq y v)) one.number v ++ differing (Some H) N rest
    next_held =
        let all : Values = one_value c one.number y ++ H in
        ap (λ (o : Option (List ℕ)). differing_one (Some all) one o ++ differing (Some all) (one_value b one.number v ++ N) rest) (value_first one rest first mask bytes h)
        ∙ ap (λ (l : Values). l ++ differing (Some all) (one_value b one.number v ++ N) rest) (one_held b c one all v y (value_first one rest first holds held h))
        ∙ ap (λ (l : Values). one_value (b && not (c && bytes_eq y v)) one.number v ++ l)
        (skip_want b (Some all) rest (first + 1) one.number v N h.3 (omega (arith, h.0)) ∙ skip_held c N rest (first + 1) one.number y H h.3 (omega (arith, h.0)))

-- the bytes from the next value on
pub bytes_turned : (named : Bool) (width from from' : ℕ) (bytes : List ℕ) → from' ≡ from + cond named width 0 → bytes_after named width (drop from bytes) ≡ drop from' bytes
bytes_turned true width from from' bytes is = drop-drop width from bytes ∙ ap (λ k. drop k bytes) (sym is)
bytes_turned false width from from' bytes is = ap (λ k. drop k bytes) {x = from} {y = from'} (omega (arith, is))
