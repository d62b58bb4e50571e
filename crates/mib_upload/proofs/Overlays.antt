-- A part with other values laid over it.
use Rattle.std.proofs.Common.{◌≡◌, ℕ, zero, suc, ◌+◌, ◌-◌, ◌<◌, ◌≤◌, Bool, true, false, cond, List, [], ◌∷◌, ◌++◌, length, take, drop, replicate, Option, Some, None, is_some, refl, sym, ap, subst, ◌∙◌, append_assoc, length-drop, arith}
use Rattle.std.specs.Prelude.{◌==◌, ◌&&◌, ◌||◌}
use Rattle.std.proofs.lemmas.Bool.Decides.{nat_tests}
use Rattle.std.proofs.lemmas.List.{append-nil, length-take-le, take_at, drop_at, drop-drop, take-append-drop}
use Rattle.class_spec.specs.Classes.{Attribute}
use Rattle.class_spec.specs.Masks.{has, mask_where, width_where}
use Rattle.entity_classes.specs.Rule.{IsNumbered, whole_width}
use Rattle.mib_spec.specs.Database.{Values, value_at}
use Rattle.mib_spec.specs.Requests.{create_values}
use Rattle.upload_spec.specs.Pieces.{values_named}
use Rattle.upload_spec.specs.Copies.{overlay, numbered_value, first_some, first_repeated}
use Rattle.upload_laws.specs.Shaped.{IsNumberedFrom}
use Rattle.upload_laws.proofs.Masks.{in_run, has_run}
use Rattle.upload_laws.proofs.Runs.{overlay_skip, overlay_skip_new}
use Rattle.omci_attributes.proofs.Sums.{none_left, mask-all, mask-lt, mask-step, width-le, width-step}
use Rattle.mib_store.proofs.Counter.{take_zeros, drop_zeros}
use Rattle.entity_classes.specs.declared.classes.Attribute.{Attribute as Told}
use Rattle.mib_upload.specs.Groups.{IsListed}
use Rattle.mib_upload.specs.declared.part.Step.{Step}
use Rattle.mib_upload.specs.Merged.{value_of, merged_bytes, merged_values, IsStep}
use Rattle.mib_upload.proofs.Bits.{Agrees, agrees}
use Rattle.mib_upload.proofs.Cutting.{found}

pub numbered_from : (attributes : List Attribute) (first : ℕ) → IsNumbered first attributes → IsNumberedFrom first attributes
numbered_from [] first h = tt
numbered_from (one ∷ rest) first h = (h.0, numbered_from rest (first + 1) h.3)

-- a value, where there is one, before values of later attributes
abbrev one_value : Bool → ℕ → List ℕ → Values
one_value there number bytes = cond there ((number, bytes) ∷ []) []

none_named : (attributes : List Attribute) (first number mask : ℕ) (bytes : List ℕ) → IsNumbered first attributes → number < first → value_at number (values_named attributes mask bytes) ≡ None
none_named [] first number mask bytes h lt = refl
none_named (one ∷ rest) first number mask bytes h lt =
    let other : (one.number == number) ≡ false = grind (arith, nat_tests, h.0, lt) in
    let later : (b : List ℕ) → value_at number (values_named rest mask b) ≡ None = λ b. none_named rest (first + 1) number mask b h.3 (omega (arith, lt)) in
    elim (has mask one.number) as (λ b. value_at number (one_value b one.number (take one.width bytes) ++ values_named rest mask (cond b (drop one.width bytes) bytes)) ≡ None) [
      | true ↦ ap (λ b. cond b (Some (take one.width bytes)) (value_at number (values_named rest mask (drop one.width bytes)))) other ∙ later (drop one.width bytes)
      | false ↦ later bytes
    ]

first_value : (there : Bool) (number : ℕ) (bytes : List ℕ) (rest : Values) → value_at number rest ≡ None → value_at number (one_value there number bytes ++ rest) ≡ cond there (Some bytes) None
first_value true number bytes rest none =
    let same : (number == number) ≡ true = grind (arith, nat_tests) in
    ap (λ b. cond b (Some bytes) (value_at number rest)) same
first_value false number bytes rest none = none

skip_old : (there : Bool) (attributes : List Attribute) (first number : ℕ) (bytes : List ℕ) (old new : Values) → IsNumberedFrom first attributes → number < first → overlay attributes (one_value there number bytes ++ old) new ≡ overlay attributes old new
skip_old true attributes first number bytes old new h lt = overlay_skip attributes first (number, bytes) old new h lt
skip_old false attributes first number bytes old new h lt = refl

skip_new : (there : Bool) (attributes : List Attribute) (first number : ℕ) (bytes : List ℕ) (old new : Values) → IsNumberedFrom first attributes → number < first → overlay attributes old (one_value there number bytes ++ new) ≡ overlay attributes old new
skip_new true attributes first number bytes old new h lt = overlay_skip_new attributes first (number, bytes) old new h lt
skip_new false attributes first number bytes old new h lt = refl

choice : (picked had : Bool) (number width : ℕ) (given old : List ℕ) → numbered_value number (first_some (cond picked (Some (take width given)) None) (cond had (Some (take width old)) None)) ≡ one_value (picked || had) number (value_of picked had width given old)
choice true had number width given old = refl
choice false true number width given old = refl
choice false false number width given old = refl

-- values that a mask names, laid over those that another names
pub overlaid_named : (attributes : List Attribute) (first mask held : ℕ) (given old : List ℕ) → IsNumbered first attributes
    → merged_values (λ one. has mask one.number) attributes given held old ≡ overlay attributes (values_named attributes held old) (values_named attributes mask given)
overlaid_named [] first mask held given old h = refl
overlaid_named (one ∷ rest) first mask held given old h =
    let number : ℕ = one.number in
    let picked : Bool = has mask number in
    let had : Bool = has held number in
    let given' : List ℕ = cond picked (drop one.width given) given in
    let old' : List ℕ = cond had (drop one.width old) old in
    let N : Values = values_named rest mask given' in
    let O : Values = values_named rest held old' in
    let new_head : Values = one_value picked number (take one.width given) in
    let old_head : Values = one_value had number (take one.width old) in
    let before : number < first + 1 = omega (arith, h.0) in
    let from : IsNumberedFrom (first + 1) rest = numbered_from rest (first + 1) h.3 in
    let new_is : value_at number (new_head ++ N) ≡ cond picked (Some (take one.width given)) None = first_value picked number (take one.width given) N (none_named rest (first + 1) number mask given' h.3 before) in
    let old_is : value_at number (old_head ++ O) ≡ cond had (Some (take one.width old)) None = first_value had number (take one.width old) O (none_named rest (first + 1) number held old' h.3 before) in
    let tail : overlay rest (old_head ++ O) (new_head ++ N) ≡ overlay rest O N = skip_old had rest (first + 1) number (take one.width old) O (new_head ++ N) from before ∙ skip_new picked rest (first + 1) number (take one.width given) O N from before in
    ap (λ (v : Values). one_value (picked || had) number (value_of picked had one.width given old) ++ v) (overlaid_named rest (first + 1) mask held given' old' h.3)
    ∙ ap (λ (v : Values). v ++ overlay rest O N) (sym (choice picked had number one.width given old))
    ∙ sym (ap (λ (o : Option (List ℕ)). numbered_value number (first_some o (value_at number (old_head ++ O))) ++ overlay rest (old_head ++ O) (new_head ++ N)) new_is
    ∙ ap (λ (o : Option (List ℕ)). numbered_value number (first_some (cond picked (Some (take one.width given)) None) o) ++ overlay rest (old_head ++ O) (new_head ++ N)) old_is
    ∙ ap (λ (v : Values). numbered_value number (first_some (cond picked (Some (take one.width given)) None) (cond had (Some (take one.width old)) None)) ++ v) tail)

-- the values that a create makes, laid over zeros for all
all_named : (number : ℕ) → 1 ≤ number → number ≤ 16 → has 65535 number ≡ true
all_named zero low high = absurd (omega (arith, low))
all_named (suc n) low high =
    let next : suc n ≡ n + 1 = omega arith in
    let inside : in_run 1 16 (n + 1) ≡ true = grind (arith, nat_tests, high) in
    ap (λ k. has 65535 k) next ∙ has_run 0 16 n (omega arith) (omega (arith, high)) ∙ inside

pub created_over : (attributes : List Attribute) (first : ℕ) (given : List ℕ) (k : ℕ) → IsNumbered first attributes → 1 ≤ first → first + length attributes ≤ 17 → whole_width attributes ≤ k
    → merged_values (λ one. one.created) attributes given 65535 (replicate k 0) ≡ create_values attributes given
created_over [] first given k h low few wide = refl
created_over (one ∷ rest) first given k h low few wide =
    let zeros : List ℕ = replicate k 0 in
    let had : has 65535 one.number ≡ true = all_named one.number (omega (arith, h.0, low)) (omega (arith, h.0, few)) in
    let head : take {A = ℕ} one.width (replicate k 0) ≡ replicate one.width 0 = take_zeros k one.width (omega (arith, wide)) in
    let left : drop {A = ℕ} one.width (replicate k 0) ≡ replicate (k - one.width) 0 = drop_zeros k one.width (omega (arith, wide)) in
    let later : (g : List ℕ) → merged_values (λ one. one.created) rest g 65535 (drop one.width zeros) ≡ create_values rest g = λ g.
    ap (merged_values (λ one. one.created) rest g 65535) left ∙ created_over rest (first + 1) g (k - one.width) h.3 (omega arith) (omega (arith, few)) (omega (arith, wide)) in
    ap (λ b. one_value (one.created || b) one.number (value_of one.created b one.width given zeros) ++ merged_values (λ one. one.created) rest (cond one.created (drop one.width given) given) 65535 (cond b (drop one.width zeros) zeros)) had
    ∙ elim one.created as (λ b. one_value (b || true) one.number (value_of b true one.width given zeros) ++ merged_values (λ one. one.created) rest (cond b (drop one.width given) given) 65535 (drop one.width zeros) ≡ cond b ((one.number, take one.width given) ∷ create_values rest (drop one.width given)) ((one.number, replicate one.width 0) ∷ create_values rest given)) [
      | true ↦ ap (λ (v : Values). (one.number, take one.width given) ∷ v) (later (drop one.width given))
      | false ↦ ap (λ (v : Values). (one.number, take one.width zeros) ∷ v) (later given) ∙ ap (λ (b : List ℕ). (one.number, b) ∷ create_values rest given) head
    ]

-- the bytes of such a part are read as its values
value_read : (attributes : List Attribute) (mask number width : ℕ) (value later tail : List ℕ) → length value ≡ width
    → (number, take width ((value ++ later) ++ tail)) ∷ values_named attributes mask (drop width ((value ++ later) ++ tail)) ≡ (number, value) ∷ values_named attributes mask (later ++ tail)
value_read attributes mask number width value later tail len =
    let split : (value ++ later) ++ tail ≡ value ++ (later ++ tail) = append_assoc value later tail in
    ap (λ (b : List ℕ). (number, b) ∷ values_named attributes mask (drop width ((value ++ later) ++ tail))) (ap (take width) split ∙ take_at value (later ++ tail) width len)
    ∙ ap (λ (b : List ℕ). (number, value) ∷ values_named attributes mask b) (ap (drop width) split ∙ drop_at value (later ++ tail) width len)

pub value_length : (picked had : Bool) (width : ℕ) (given old : List ℕ) → (picked ≡ true → width ≤ length given) → (had ≡ true → width ≤ length old) → length (value_of picked had width given old) ≡ cond (picked || had) width 0
value_length true had width given old g o = length-take-le width given (g refl)
value_length false true width given old g o = length-take-le width old (o refl)
value_length false false width given old g o = refl

enough : (b : Bool) (width more room : ℕ) → cond b width 0 + more ≤ room → b ≡ true → width ≤ room
enough b width more room le on = omega (arith, le, ap (λ x. cond x width 0) on)

after_drop : (b : Bool) (width more : ℕ) (bytes : List ℕ) → cond b width 0 + more ≤ length bytes → more ≤ length (cond b (drop width bytes) bytes)
after_drop true width more bytes le = omega (arith, le, length-drop width bytes)
after_drop false width more bytes le = omega (arith, le)

pub merged_read : (passes : Attribute → Bool) (attributes : List Attribute) (mask held : ℕ) (given old tail : List ℕ) → Agrees (λ one. passes one || has held one.number) mask attributes
    → width_where passes attributes ≤ length given → width_where (λ one. has held one.number) attributes ≤ length old
    → values_named attributes mask (merged_bytes passes attributes given held old ++ tail) ≡ merged_values passes attributes given held old
merged_read passes [] mask held given old tail h g o = refl
merged_read passes (one ∷ rest) mask held given old tail h g o =
    let p : Bool = passes one in
    let d : Bool = has held one.number in
    let given' : List ℕ = cond p (drop one.width given) given in
    let old' : List ℕ = cond d (drop one.width old) old in
    let value : List ℕ = value_of p d one.width given old in
    let later : List ℕ = merged_bytes passes rest given' held old' in
    let more : values_named rest mask (later ++ tail) ≡ merged_values passes rest given' held old' =
    merged_read passes rest mask held given' old' tail h.1 (after_drop p one.width (width_where passes rest) given g) (after_drop d one.width (width_where (λ one. has held one.number) rest) old o) in
    let len : length value ≡ cond (p || d) one.width 0 = value_length p d one.width given old (enough p one.width (width_where passes rest) (length given) g) (enough d one.width (width_where (λ one. has held one.number) rest) (length old) o) in
    ap (λ b. one_value b one.number (take one.width ((value ++ later) ++ tail)) ++ values_named rest mask (cond b (drop one.width ((value ++ later) ++ tail)) ((value ++ later) ++ tail))) h.0
    ∙ go (p || d) one.width value later len more
  where
    go : (b : Bool) (width : ℕ) (value later : List ℕ) → length value ≡ cond b width 0 → {values : Values} → values_named rest mask (later ++ tail) ≡ values
        → one_value b one.number (take width ((value ++ later) ++ tail)) ++ values_named rest mask (cond b (drop width ((value ++ later) ++ tail)) ((value ++ later) ++ tail)) ≡ one_value b one.number value ++ values
    go true width value later len more = value_read rest mask one.number width value later tail len ∙ ap (λ (v : Values). (one.number, value) ∷ v) more
    go false width [] later len more = more
    go false width (x ∷ xs) later len more = absurd (omega (arith, len))

-- a loop over the attributes
pub record MergedSoFar (passes : Attribute → Bool) (attributes : List Attribute) (given : List ℕ) (held : ℕ) (old : List ℕ) (place mask to from from_old : ℕ) (values : List ℕ) : Type 0 where
  pub bytes : take to values ++ merged_bytes passes (drop place attributes) (drop from given) held (drop from_old old) ≡ merged_bytes passes attributes given held old
  pub bits : mask + mask_where (λ one. passes one || has held one.number) (drop place attributes) ≡ mask_where (λ one. passes one || has held one.number) attributes
  pub room : to + whole_width (drop place attributes) ≤ 45
  pub given_room : from + width_where passes (drop place attributes) ≤ length given
  pub old_room : from_old + width_where (λ one. has held one.number) (drop place attributes) ≤ length old

pub merged_start : (passes : Attribute → Bool) (attributes : List Attribute) (given : List ℕ) (held : ℕ) (old values : List ℕ) → whole_width attributes ≤ 45 → width_where passes attributes ≤ length given → length old ≡ 45 → MergedSoFar passes attributes given held old 0 0 0 0 0 values
merged_start passes attributes given held old values wide g o = record {
  bytes = refl;
  bits = omega arith;
  room = omega (arith, wide);
  given_room = omega (arith, g);
  old_room = omega (arith, wide, o, width-le (λ one. has held one.number) attributes);
}

module _ (passes : Attribute → Bool) (attributes : List Attribute) (held place : ℕ) (step : Step) (is : IsStep attributes passes held place step) where
  whole_goes : whole_width (drop place attributes) ≡ step.width + whole_width (drop (place + 1) attributes)
  whole_goes = ap whole_width is.rest ∙ ap (λ w. w + whole_width (drop (place + 1) attributes)) (sym is.width)

  given_goes : width_where passes (drop place attributes) ≡ cond step.picked step.width 0 + width_where passes (drop (place + 1) attributes)
  given_goes = width-step passes attributes place is.one step.picked is.rest (sym is.picked) ∙ ap (λ w. cond step.picked w 0 + width_where passes (drop (place + 1) attributes)) (sym is.width)

  old_goes : width_where (λ one. has held one.number) (drop place attributes) ≡ cond step.had step.width 0 + width_where (λ one. has held one.number) (drop (place + 1) attributes)
  old_goes = width-step (λ one. has held one.number) attributes place is.one step.had is.rest (sym is.had) ∙ ap (λ w. cond step.had w 0 + width_where (λ one. has held one.number) (drop (place + 1) attributes)) (sym is.width)

  there : passes is.one || has held is.one.number ≡ (step.picked || step.had)
  there = ap (λ b. b || has held is.one.number) (sym is.picked) ∙ ap (λ b. step.picked || b) (sym is.had)

  bits_go : mask_where (λ one. passes one || has held one.number) (drop place attributes) ≡ cond (step.picked || step.had) step.bit 0 + mask_where (λ one. passes one || has held one.number) (drop (place + 1) attributes)
  bits_go = mask-step (λ one. passes one || has held one.number) attributes place is.one (step.picked || step.had) is.rest there ∙ ap (λ n. cond (step.picked || step.had) n 0 + mask_where (λ one. passes one || has held one.number) (drop (place + 1) attributes)) (sym is.bit)

  bytes_go : (given old : List ℕ) → merged_bytes passes (drop place attributes) given held old
      ≡ value_of step.picked step.had step.width given old ++ merged_bytes passes (drop (place + 1) attributes) (cond step.picked (drop step.width given) given) held (cond step.had (drop step.width old) old)
  bytes_go given old =
      ap (λ (l : List Attribute). merged_bytes passes l given held old) is.rest
      ∙ ap (λ b. value_of b (has held is.one.number) is.one.width given old ++ merged_bytes passes (drop (place + 1) attributes) (cond b (drop is.one.width given) given) held (cond (has held is.one.number) (drop is.one.width old) old)) (sym is.picked)
      ∙ ap (λ b. value_of step.picked b is.one.width given old ++ merged_bytes passes (drop (place + 1) attributes) (cond step.picked (drop is.one.width given) given) held (cond b (drop is.one.width old) old)) (sym is.had)
      ∙ ap (λ w. value_of step.picked step.had w given old ++ merged_bytes passes (drop (place + 1) attributes) (cond step.picked (drop w given) given) held (cond step.had (drop w old) old)) (sym is.width)

  pub value_long : (given old : List ℕ) (mask to from from_old : ℕ) (values : List ℕ) → MergedSoFar passes attributes given held old place mask to from from_old values
      → length (value_of step.picked step.had step.width (drop from given) (drop from_old old)) ≡ cond (step.picked || step.had) step.width 0
  value_long given old mask to from from_old values so =
      value_length step.picked step.had step.width (drop from given) (drop from_old old)
      (λ on. omega (arith, so.given_room, given_goes, ap (λ b. cond b step.width 0) on, length-drop from given))
      (λ on. omega (arith, so.old_room, old_goes, ap (λ b. cond b step.width 0) on, length-drop from_old old))

  pub value_fits : (given old : List ℕ) (mask to from from_old : ℕ) (values value : List ℕ) → MergedSoFar passes attributes given held old place mask to from from_old values
      → value ≡ value_of step.picked step.had step.width (drop from given) (drop from_old old) → to + length value ≤ 45
  value_fits given old mask to from from_old values value so value_is =
      omega (arith, ap length value_is, value_long given old mask to from from_old values so, so.room, whole_goes, at_most (step.picked || step.had))
    where
      at_most : (b : Bool) → cond b step.width 0 ≤ step.width
      at_most true = omega arith
      at_most false = omega arith

  pub bit_small : (given old : List ℕ) (mask to from from_old : ℕ) (values : List ℕ) → IsNumbered 1 attributes → length attributes ≤ 13 → MergedSoFar passes attributes given held old place mask to from from_old values
      → mask + cond (step.picked || step.had) step.bit 0 < 65536
  bit_small given old mask to from from_old values h few so =
      omega (arith, so.bits, bits_go, mask-lt (λ one. passes one || has held one.number) attributes 1 16 h (omega (arith, few)) refl)

  pub merged_next : (given old : List ℕ) (mask to from from_old : ℕ) (values after value : List ℕ) → MergedSoFar passes attributes given held old place mask to from from_old values
      → value ≡ value_of step.picked step.had step.width (drop from given) (drop from_old old) → take (to + length value) after ≡ take to values ++ value
      → (bit more read read_old : ℕ) → bit ≡ cond (step.picked || step.had) step.bit 0 → more ≡ cond (step.picked || step.had) step.width 0 → read ≡ cond step.picked step.width 0 → read_old ≡ cond step.had step.width 0
      → MergedSoFar passes attributes given held old (place + 1) (mask + bit) (to + more) (from + read) (from_old + read_old) after
  merged_next given old mask to from from_old values after value so value_is front bit more read read_old bit_is more_is read_is read_old_is =
      let rest : List ℕ → List ℕ → List ℕ = λ g o. merged_bytes passes (drop (place + 1) attributes) g held o in
      let len : to + more ≡ to + length value = omega (arith, ap length value_is, value_long given old mask to from from_old values so, more_is) in
      record {
        bytes =
            ap (λ k. take k after ++ rest (drop (from + read) given) (drop (from_old + read_old) old)) len
            ∙ ap (λ v. v ++ rest (drop (from + read) given) (drop (from_old + read_old) old)) front
            ∙ append_assoc (take to values) value _
            ∙ ap (λ v. take to values ++ (v ++ rest (drop (from + read) given) (drop (from_old + read_old) old))) value_is
            ∙ ap (λ g. take to values ++ (value_of step.picked step.had step.width (drop from given) (drop from_old old) ++ rest g (drop (from_old + read_old) old))) (goes_by step.picked from read given read_is)
            ∙ ap (λ o. take to values ++ (value_of step.picked step.had step.width (drop from given) (drop from_old old) ++ rest (cond step.picked (drop step.width (drop from given)) (drop from given)) o)) (goes_by step.had from_old read_old old read_old_is)
            ∙ ap (λ v. take to values ++ v) (sym (bytes_go (drop from given) (drop from_old old)))
            ∙ so.bytes;
        bits = omega (arith, so.bits, bits_go, bit_is);
        room = omega (arith, so.room, whole_goes, more_is, at_most (step.picked || step.had));
        given_room = omega (arith, so.given_room, given_goes, read_is);
        old_room = omega (arith, so.old_room, old_goes, read_old_is);
      }
    where
      at_most : (b : Bool) → cond b step.width 0 ≤ step.width
      at_most true = omega arith
      at_most false = omega arith

      goes_by : (b : Bool) (from read : ℕ) (bytes : List ℕ) → read ≡ cond b step.width 0 → drop (from + read) bytes ≡ cond b (drop step.width (drop from bytes)) (drop from bytes)
      goes_by true from read bytes is = ap (λ k. drop (from + k) bytes) is ∙ sym (drop-drop step.width from bytes)
      goes_by false from read bytes is =
          let none : from + read ≡ from = omega (arith, is) in
          ap (λ k. drop k bytes) none

pub merged_end : (passes : Attribute → Bool) (attributes : List Attribute) (given : List ℕ) (held : ℕ) (old : List ℕ) (place mask to from from_old : ℕ) (values : List ℕ) → length attributes ≤ place → IsNumbered 1 attributes → length attributes ≤ 13
    → width_where passes attributes ≤ length given → whole_width attributes ≤ length old → MergedSoFar passes attributes given held old place mask to from from_old values
    → values_named attributes mask values ≡ merged_values passes attributes given held old
merged_end passes attributes given held old place mask to from from_old values le h few g o so =
    let all : mask ≡ mask_where (λ one. passes one || has held one.number) attributes = mask-all (λ one. passes one || has held one.number) attributes place mask _ le so.bits in
    let front : take to values ≡ merged_bytes passes attributes given held old =
    sym (append-nil (take to values)) ∙ ap (λ (l : List Attribute). take to values ++ merged_bytes passes l (drop from given) held (drop from_old old)) (sym (none_left attributes place le)) ∙ so.bytes in
    let whole : values ≡ merged_bytes passes attributes given held old ++ drop to values = sym (take-append-drop to values) ∙ ap (λ v. v ++ drop to values) front in
    ap (values_named attributes mask) whole
    ∙ merged_read passes attributes mask held given old (drop to values) (subst (λ m. Agrees (λ one. passes one || has held one.number) m attributes) (sym all) (agrees (λ one. passes one || has held one.number) attributes h few)) g (omega (arith, o, width-le (λ one. has held one.number) attributes))

-- the least attribute of a mask that has a value already
named_there : (attributes : List Attribute) (first place held : ℕ) (old : List ℕ) (one : Attribute) (rest : List Attribute) → IsNumbered first attributes → drop place attributes ≡ one ∷ rest → is_some (value_at one.number (values_named attributes held old)) ≡ has held one.number
named_there [] first zero held old one rest h is = absurd cc
named_there [] first (suc place) held old one rest h is = absurd cc
named_there (a ∷ later) first zero held old one rest h is =
    let here : a ≡ one = cc in
    let b : Bool = has held a.number in
    subst (λ (x : Attribute). is_some (value_at x.number (values_named (a ∷ later) held old)) ≡ has held x.number) here
    (ap is_some (first_value b a.number (take a.width old) (values_named later held (cond b (drop a.width old) old)) (none_named later (first + 1) a.number held (cond b (drop a.width old) old) h.3 (omega (arith, h.0)))) ∙ some_is b)
  where
    some_is : (b : Bool) → is_some (cond b (Some (take a.width old)) None) ≡ b
    some_is true = refl
    some_is false = refl
named_there (a ∷ later) first (suc place) held old one rest h is =
    let above : one.number ≡ first + 1 + place = (found later (first + 1) place one rest h.3 is).is in
    let other : (a.number == one.number) ≡ false = grind (arith, nat_tests, h.0, above) in
    let b : Bool = has held a.number in
    past b (values_named later held (cond b (drop a.width old) old)) other ∙ ap is_some refl ∙ named_there later (first + 1) place held (cond b (drop a.width old) old) one rest h.3 is
  where
    past : (b : Bool) (values : Values) → (a.number == one.number) ≡ false → is_some (value_at one.number (one_value b a.number (take a.width old) ++ values)) ≡ is_some (value_at one.number values)
    past true values other = ap (λ t. is_some (cond t (Some (take a.width old)) (value_at one.number values))) other
    past false values other = refl

module _ (attributes : List Attribute) (place mask held : ℕ) (old : List ℕ) (attribute : Told) (h : IsNumbered 1 attributes) (at : IsListed attributes place attribute) where
  repeats_by : first_repeated (drop place attributes) mask (values_named attributes held old)
      ≡ cond (has mask attribute.number && has held attribute.number) (Some attribute.number) (first_repeated (drop (place + 1) attributes) mask (values_named attributes held old))
  repeats_by =
      ap (λ (l : List Attribute). first_repeated l mask (values_named attributes held old)) at.rest
      ∙ ap (λ b. cond (has mask at.one.number && b) (Some at.one.number) (first_repeated (drop (place + 1) attributes) mask (values_named attributes held old))) (named_there attributes 1 place held old at.one (drop (place + 1) attributes) h at.rest)
      ∙ ap (λ (a : Told). cond (has mask a.number && has held a.number) (Some a.number) (first_repeated (drop (place + 1) attributes) mask (values_named attributes held old))) (sym at.is)

  pub repeats_here : (has mask attribute.number && has held attribute.number) ≡ true → Some attribute.number ≡ first_repeated (drop place attributes) mask (values_named attributes held old)
  repeats_here on = sym (repeats_by ∙ ap (λ b. cond b (Some attribute.number) (first_repeated (drop (place + 1) attributes) mask (values_named attributes held old))) on)

  pub repeats_later : (has mask attribute.number && has held attribute.number) ≡ false → first_repeated (drop (place + 1) attributes) mask (values_named attributes held old) ≡ first_repeated (drop place attributes) mask (values_named attributes held old)
  repeats_later off = sym (repeats_by ∙ ap (λ b. cond b (Some attribute.number) (first_repeated (drop (place + 1) attributes) mask (values_named attributes held old))) off)
