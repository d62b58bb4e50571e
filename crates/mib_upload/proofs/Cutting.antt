-- The groups of a class's attributes, attribute by attribute, and the pieces that carry them.
use Rattle.std.proofs.Common.{◌≡◌, ℕ, zero, suc, ◌+◌, ◌-◌, ◌*◌, ◌^◌, ◌<◌, ◌≤◌, Bool, true, false, cond, List, [], ◌∷◌, ◌++◌, length, drop, slice_get, Some, None, refl, sym, ap, subst, ◌∙◌, arith, pow-suc}
use Rattle.std.specs.Prelude.{◌==◌, ◌&&◌, not, nat_le}
use Rattle.std.specs.List.{list_all}
use Rattle.std.specs.Option.{option_map_or}
use Rattle.std.proofs.lemmas.Bool.{false≢true}
use Rattle.std.proofs.lemmas.Bool.Decides.{nat_tests}
use Rattle.class_spec.specs.Classes.{Attribute as Listed, Row, class_row, class_table, row_in}
use Rattle.class_spec.specs.Masks.{bit_of}
use Rattle.entity_classes.specs.declared.classes.Attribute.{Attribute}
use Rattle.entity_classes.specs.Rule.{IsNumbered, whole_width, attribute_of}
use Rattle.upload_spec.specs.declared.TheConstants.{PIECE_ROOM}
use Rattle.upload_spec.specs.Copies.{attributes_of}
use Rattle.omci_attributes.proofs.Sums.{none_left}
use Rattle.mib_upload.specs.declared.groups.Group.{Group}
use Rattle.mib_upload.specs.Groups.{no_group, has_room, group_with, group_ended, groups_after, groups_of, IsListed}

pub pow_positive : (k : ℕ) → 0 < 2 ^ k
pow_positive zero = omega arith
pow_positive (suc k) =
    let power : 2 ^ suc k ≡ 2 ^ k * 2 = pow-suc 2 k in
    omega (arith, pow_positive k)

-- a bit more goes into a mask that has higher ones alone
pub bit_goes : (mask number : ℕ) → 1 ≤ number → number ≤ 16 → mask + 2 ^ (17 - number) ≤ 65536 → mask + 2 ^ (16 - number) + 2 ^ (16 - number) ≤ 65536
bit_goes mask number low high room =
    let next : 17 - number ≡ suc (16 - number) = omega (arith, low, high) in
    let power : 2 ^ (17 - number) ≡ 2 ^ (16 - number) * 2 = ap (λ k. 2 ^ k) next ∙ pow-suc 2 (16 - number) in
    omega (arith, power, room)

pub bit_fits : (mask number : ℕ) → 1 ≤ number → number ≤ 16 → mask + 2 ^ (17 - number) ≤ 65536 → mask + 2 ^ (16 - number) < 65536
bit_fits mask number low high room = omega (arith, bit_goes mask number low high room, pow_positive (16 - number))

-- the attribute in a place has its number and its width, and those after it go on
pub record Found (number : ℕ) (one : Listed) (rest : List Listed) : Type 0 where
  pub is : one.number ≡ number
  pub some : 1 ≤ one.width
  pub most : one.width ≤ 25
  pub later : IsNumbered (number + 1) rest

pub found : (attributes : List Listed) (first place : ℕ) (one : Listed) (rest : List Listed) → IsNumbered first attributes → drop place attributes ≡ one ∷ rest → Found (first + place) one rest
found [] first zero one rest h is = absurd cc
found [] first (suc place) one rest h is = absurd cc
found (a ∷ later) first zero one rest h is =
    let here : a ≡ one = cc in
    let tail : later ≡ rest = cc in
    let number : first ≡ first + 0 = omega arith in
    record {
      is = ap (λ (l : Listed). l.number) (sym here) ∙ h.0 ∙ number;
      some = subst (λ (l : Listed). 1 ≤ l.width) here h.1;
      most = subst (λ (l : Listed). l.width ≤ 25) here h.2;
      later = subst (λ n. IsNumbered (n + 1) rest) number (subst (λ (l : List Listed). IsNumbered (first + 1) l) tail h.3);
    }
found (a ∷ later) first (suc place) one rest h is =
    let number : first + 1 + place ≡ first + suc place = omega arith in
    subst (λ n. Found n one rest) number (found later (first + 1) place one rest h.3 is)

-- of a listed attribute, as the code has it
pub listed_width : (attributes : List Listed) (place : ℕ) (attribute : Attribute) → IsNumbered 1 attributes → IsListed attributes place attribute → (1 ≤ attribute.width) × (attribute.width ≤ 25)
listed_width attributes place attribute h at =
    let f = found attributes 1 place at.one (drop (place + 1) attributes) h at.rest in
    let width : attribute.width ≡ at.one.width = ap (λ (a : Attribute). a.width) at.is in
    (omega (arith, width, f.some), omega (arith, width, f.most))

pub whole_goes : (attributes : List Listed) (place : ℕ) (attribute : Attribute) → IsListed attributes place attribute → whole_width (drop place attributes) ≡ attribute.width + whole_width (drop (place + 1) attributes)
whole_goes attributes place attribute at = ap whole_width at.rest ∙ ap (λ (a : Attribute). a.width + whole_width (drop (place + 1) attributes)) (sym at.is)

pub groups_go : (attributes : List Listed) (place : ℕ) (attribute : Attribute) (group : Group) (fit : Bool) → IsListed attributes place attribute → fit ≡ has_room group attribute
    → groups_after group (drop place attributes) ≡ group_ended fit group ++ groups_after (group_with fit group attribute) (drop (place + 1) attributes)
groups_go attributes place attribute group fit at is =
    ap (groups_after group) at.rest
    ∙ ap (λ (a : Attribute). group_ended (has_room group a) group ++ groups_after (group_with (has_room group a) group a) (drop (place + 1) attributes)) (sym at.is)
    ∙ ap (λ b. group_ended b group ++ groups_after (group_with b group attribute) (drop (place + 1) attributes)) (sym is)

-- what a loop over the attributes keeps of its group
pub record IsGroup (attributes : List Listed) (place : ℕ) (group : Group) : Type 0 where
  pub width : group.width ≤ PIECE_ROOM
  pub bytes : group.start + group.width + whole_width (drop place attributes) ≤ 45
  pub mask : group.mask + 2 ^ (16 - place) ≤ 65536

pub starts : (attributes : List Listed) → whole_width attributes ≤ 45 → IsGroup attributes 0 no_group
starts attributes wide = record { width = omega arith; bytes = omega (arith, wide); mask = omega arith }

-- what the next step may rest on
pub record MayGo (group : Group) (attribute : Attribute) : Type 0 where
  pub from_one : 1 ≤ attribute.number
  pub to_sixteen : attribute.number ≤ 16
  pub bytes : group.start + group.width + attribute.width ≤ 45
  pub mask : group.mask + 2 ^ (17 - attribute.number) ≤ 65536

pub may_go : (attributes : List Listed) (place : ℕ) (attribute : Attribute) (group : Group) → length attributes ≤ 13 → place < length attributes → IsListed attributes place attribute → IsGroup attributes place group → MayGo group attribute
may_go attributes place attribute group few lt at is =
    let back : 16 - place ≡ 17 - attribute.number = omega (arith, at.number, few, lt) in
    record {
      from_one = omega (arith, at.number);
      to_sixteen = omega (arith, at.number, few, lt);
      bytes = omega (arith, is.bytes, whole_goes attributes place attribute at);
      mask = subst (λ k. group.mask + 2 ^ k ≤ 65536) back is.mask;
    }

pub goes_on : (attributes : List Listed) (place : ℕ) (attribute : Attribute) (group : Group) (fit : Bool) → IsNumbered 1 attributes → length attributes ≤ 13 → place < length attributes → IsListed attributes place attribute → fit ≡ has_room group attribute
    → IsGroup attributes place group → IsGroup attributes (place + 1) (group_with fit group attribute)
goes_on attributes place attribute group fit h few lt at fit_is is = go fit fit_is
  where
    may : MayGo group attribute
    may = may_go attributes place attribute group few lt at is

    whole : whole_width (drop place attributes) ≡ attribute.width + whole_width (drop (place + 1) attributes)
    whole = whole_goes attributes place attribute at

    next : 16 - (place + 1) ≡ 16 - attribute.number
    next = omega (arith, at.number)

    go : (b : Bool) → b ≡ has_room group attribute → IsGroup attributes (place + 1) (group_with b group attribute)
    go true b_is = record {
      width = grind (arith, nat_tests, b_is);
      bytes = omega (arith, is.bytes, whole);
      mask = subst (λ k. group.mask + bit_of attribute.number + 2 ^ k ≤ 65536) (sym next) (bit_goes group.mask attribute.number may.from_one may.to_sixteen may.mask);
    }
    go false b_is = record {
      width = omega (arith, listed_width attributes place attribute h at);
      bytes = omega (arith, is.bytes, whole);
      mask = subst (λ k. bit_of attribute.number + 2 ^ k ≤ 65536) (sym next) (omega (arith, bit_goes group.mask attribute.number may.from_one may.to_sixteen may.mask));
    }

-- there are at most so many groups
groups_few : (group : Group) (attributes : List Listed) → length (groups_after group attributes) ≤ length attributes + 1
groups_few group [] = omega arith
groups_few group (one ∷ rest) =
    elim (has_room group (attribute_of one)) as (λ b. length (group_ended b group ++ groups_after (group_with b group (attribute_of one)) rest) ≤ suc (length rest) + 1) [
      | true ↦ omega (arith, groups_few (group_with true group (attribute_of one)) rest)
      | false ↦ omega (arith, groups_few (group_with false group (attribute_of one)) rest)
    ]

pub group_some : (group : Group) (attributes : List Listed) → 1 ≤ length (groups_after group attributes)
group_some group [] = omega arith
group_some group (one ∷ rest) =
    elim (has_room group (attribute_of one)) as (λ b. 1 ≤ length (group_ended b group ++ groups_after (group_with b group (attribute_of one)) rest)) [
      | true ↦ group_some (group_with true group (attribute_of one)) rest
      | false ↦ omega arith
    ]

-- a count of the groups
pub counted_next : (attributes : List Listed) (place : ℕ) (attribute : Attribute) (group : Group) (fit : Bool) (count more all : ℕ) → IsListed attributes place attribute → fit ≡ has_room group attribute → more ≡ cond fit 0 1
    → count + length (groups_after group (drop place attributes)) ≡ all → count + more + length (groups_after (group_with fit group attribute) (drop (place + 1) attributes)) ≡ all
counted_next attributes place attribute group fit count more all at fit_is more_is is =
    let step : count + length (group_ended fit group ++ groups_after (group_with fit group attribute) (drop (place + 1) attributes)) ≡ all = ap (λ (l : List Group). count + length l) (sym (groups_go attributes place attribute group fit at fit_is)) ∙ is in
    go fit more_is step
  where
    go : (b : Bool) → more ≡ cond b 0 1 → count + length (group_ended b group ++ groups_after (group_with fit group attribute) (drop (place + 1) attributes)) ≡ all → count + more + length (groups_after (group_with fit group attribute) (drop (place + 1) attributes)) ≡ all
    go true m s = omega (arith, m, s)
    go false m s = omega (arith, m, s)

pub counted_small : (attributes : List Listed) (group : Group) (place count : ℕ) → length attributes ≤ 13 → count + length (groups_after group (drop place attributes)) ≡ length (groups_of attributes) + 1 → count ≤ 14
counted_small attributes group place count few is = omega (arith, is, groups_few no_group attributes, group_some group (drop place attributes))

pub counted_all : (attributes : List Listed) (group : Group) (place count : ℕ) → length attributes ≤ place → count + length (groups_after group (drop place attributes)) ≡ length (groups_of attributes) + 1 → count ≡ length (groups_of attributes)
counted_all attributes group place count le is = omega (arith, is, ap (λ (l : List Listed). length (groups_after group l)) (none_left attributes place le))

pub one_at_most : (fit : Bool) → cond fit 0 1 ≤ 1
one_at_most true = omega arith
one_at_most false = omega arith

-- a search for a group
pub not_sought : (fit : Bool) (left : ℕ) → (not fit && (left == 0)) ≡ false → fit ≡ false → 0 < left
not_sought true left h e = absurd (false≢true (sym e))
not_sought false zero h e = absurd (false≢true (sym h))
not_sought false (suc left) h e = omega arith

pub enough_left : (fit : Bool) (left : ℕ) → (not fit && (left == 0)) ≡ false → cond fit 0 1 ≤ left
enough_left true left h = omega arith
enough_left false left h = omega (arith, not_sought false left h refl)

pub sought_next : (attributes : List Listed) (place : ℕ) (attribute : Attribute) (group : Group) (fit : Bool) (left less : ℕ) → IsListed attributes place attribute → fit ≡ has_room group attribute → less ≡ cond fit 0 1 → (fit ≡ false → 0 < left)
    → slice_get (groups_after (group_with fit group attribute) (drop (place + 1) attributes)) (left - less) ≡ slice_get (groups_after group (drop place attributes)) left
sought_next attributes place attribute group fit left less at fit_is less_is some =
    go fit less_is some ∙ sym (ap (λ (l : List Group). slice_get l left) (groups_go attributes place attribute group fit at fit_is))
  where
    rest : List Group
    rest = groups_after (group_with fit group attribute) (drop (place + 1) attributes)

    go : (b : Bool) → less ≡ cond b 0 1 → (b ≡ false → 0 < left) → slice_get rest (left - less) ≡ slice_get (group_ended b group ++ rest) left
    go true l s = ap (λ k. slice_get rest k) (omega (arith, l))
    go false l s =
        let up : left ≡ suc (left - less) = omega (arith, l, s refl) in
        sym (ap (λ k. slice_get (group ∷ rest) k) up)

-- what is true of every class is true of the attributes of each number
abbrev attributes_in : List Row → ℕ → List Listed
attributes_in rows number = option_map_or (λ row. row.attributes) (row_in rows number) []

both : (a b : Bool) → (a && b) ≡ true → (a ≡ true) × (b ≡ true)
both true b h = (refl, h)
both false b h = absurd (false≢true h)

holds_in : (p : List Listed → Bool) (rows : List Row) (number : ℕ) → p [] ≡ true → list_all (λ (row : Row). p row.attributes) rows ≡ true → p (attributes_in rows number) ≡ true
holds_in p [] number none all = none
holds_in p (row ∷ rows) number none all =
    let parts = both (p row.attributes) (list_all (λ (row : Row). p row.attributes) rows) all in
    elim (row.number == number) as (λ b. p (option_map_or (λ row. row.attributes) (cond b (Some row) (row_in rows number)) []) ≡ true) [
      | true ↦ parts.0
      | false ↦ holds_in p rows number none parts.1
    ]

pub holds_always : (p : List Listed → Bool) (number : ℕ) → p [] ≡ true → list_all (λ (row : Row). p row.attributes) class_table ≡ true → p (attributes_of number) ≡ true
unfolding class_row
holds_always p number none all = holds_in p class_table number none all

pub few_groups : (number : ℕ) → length (groups_of (attributes_of number)) ≤ 2
unfolding class_table
few_groups number =
    let test : nat_le (length (groups_of (attributes_of number))) 2 ≡ true = holds_always (λ attributes. nat_le (length (groups_of attributes)) 2) number refl refl in
    grind (arith, nat_tests, test)

pub narrow : (number : ℕ) → whole_width (attributes_of number) ≤ 45
unfolding class_table
narrow number =
    let test : nat_le (whole_width (attributes_of number)) 45 ≡ true = holds_always (λ attributes. nat_le (whole_width attributes) 45) number refl refl in
    grind (arith, nat_tests, test)

pub row_attributes : (number : ℕ) (row : Row) → Some row ≡ class_row number → row.attributes ≡ attributes_of number
row_attributes number row is = ap (λ o. option_map_or (λ (r : Row). r.attributes) o []) is

pub no_attributes : (number : ℕ) → None ≡ class_row number → [] ≡ attributes_of number
no_attributes number is = ap (λ o. option_map_or (λ (r : Row). r.attributes) o []) is
