-- Pieces, creates and sets, as the code lays their values over a part.
use Rattle.std.proofs.Common.{◌≡◌, ℕ, ◌+◌, ◌<◌, ◌≤◌, Bool, true, false, cond, List, [], length, take, replicate, set, Option, Some, None, is_some, Result, Ok, Err, OnOk, refl, sym, ap, subst, ◌∙◌, arith}
use Rattle.std.specs.Prelude.{◌==◌, ◌&&◌, not, nat_le, nat_lt, bytes_eq, slice_index_or}
use Rattle.std.specs.Option.{option_map_or}
use Rattle.std.proofs.lemmas.Bool.{false≢true}
use Rattle.std.proofs.lemmas.Bool.Decides.{nat_tests}
use Rattle.std.proofs.lemmas.List.{get_or-map}
use Rattle.omci_types.specs.declared.EntityId.{EntityId}
use Rattle.class_spec.specs.Classes.{Attribute, Row, class_row}
use Rattle.class_spec.specs.Masks.{has, mask_where, width_of, unknown_mask, known_mask}
use Rattle.entity_classes.specs.Rule.{IsRow}
use Rattle.mib_spec.specs.Database.{Values, bytes_of}
use Rattle.mib_spec.specs.Requests.{is_class, is_onu_data, of_class, create_values}
use Rattle.upload_spec.specs.declared.PieceFault.{PieceFault}
use Rattle.upload_spec.specs.declared.PieceFault.TheVariants.{Empty, ClassUnknown, Truncated}
use Rattle.upload_spec.specs.Pieces.{Copy, mask_of, values_named, entity_in, mask_in, bytes_in}
use Rattle.upload_spec.specs.Copies.{attributes_of, is_copied, copied_values, with_copied, overlay, with_overlay, with_piece, piece_fault, repeated_fault, first_repeated, after_create, after_set, is_settable}
use Rattle.mib_store.specs.Entries.{IsAscending}
use Rattle.mib_upload.specs.declared.part.Part.{Part}
use Rattle.mib_upload.specs.Parts.{part_as, part_at, no_part, copy_of, AreKnown, IsKnown, IsParts, IsAt, IsGap}
use Rattle.mib_upload.specs.Merged.{merged_values}
use Rattle.mib_upload.proofs.Bits.{all_known}
use Rattle.mib_upload.proofs.Overlays.{overlaid_named, created_over}
use Rattle.mib_upload.proofs.Places.{values_there, bytes_named, mask_named, replaced, replaced_keys, known_at, known_put}

-- what a class's row says of its number
pub attributes_are : (class : ℕ) (row : Row) → class_row class ≡ Some row → row.attributes ≡ attributes_of class
attributes_are class row is = ap (λ o. option_map_or (λ (r : Row). r.attributes) o []) (sym is)

pub is_there : (class : ℕ) (row : Row) → class_row class ≡ Some row → is_class class ≡ true
is_there class row is = ap (λ (o : Option Row). is_some o) is

pub is_not_there : (class : ℕ) → class_row class ≡ None → is_class class ≡ false
is_not_there class is = ap (λ (o : Option Row). is_some o) is

pub width_is : (class mask : ℕ) (row : Row) → class_row class ≡ Some row → of_class width_of class mask ≡ width_of row mask
width_is class mask row is = ap (λ o. option_map_or (λ (r : Row). width_of r mask) o 0) is

pub unknown_is : (class mask : ℕ) (row : Row) → class_row class ≡ Some row → of_class unknown_mask class mask ≡ unknown_mask row mask
unknown_is class mask row is = ap (λ o. option_map_or (λ (r : Row). unknown_mask r mask) o 0) is

pub known_part : (part : Part) (row : Row) (passes : Attribute → Bool) → class_row part.entity.class ≡ Some row → IsRow row → part.mask.0 ≡ mask_where passes row.attributes → IsKnown part
known_part part row passes is rule mask = record {
  class = is_there part.entity.class row is;
  attributes = all_known part.entity.class row passes part.mask.0 is rule.numbered rule.count mask;
}

-- a part with other values laid over it, as the copy has it
pub laid : (copy : Copy) (entity : EntityId) (row : Row) (mask : ℕ) (given : List ℕ) (old part : Part) → class_row entity.class ≡ Some row → IsRow row → old.entity ≡ entity → (part_as old).1 ≡ copied_values entity copy → part.entity ≡ old.entity
    → values_named row.attributes part.mask.0 part.values ≡ merged_values (λ one. has mask one.number) row.attributes given old.mask.0 old.values
    → (part_as part).1 ≡ overlay (attributes_of entity.class) (copied_values entity copy) (values_named (attributes_of entity.class) mask given)
laid copy entity row mask given old part is rule old_here old_is here values =
    let same : row.attributes ≡ attributes_of entity.class = attributes_are entity.class row is in
    let held : values_named row.attributes old.mask.0 old.values ≡ copied_values entity copy =
    ap (λ (l : List Attribute). values_named l old.mask.0 old.values) same ∙ ap (λ (e : EntityId). values_named (attributes_of e.class) old.mask.0 old.values) (sym old_here) ∙ old_is in
    ap (λ (e : EntityId). values_named (attributes_of e.class) part.mask.0 part.values) (here ∙ old_here)
    ∙ ap (λ (l : List Attribute). values_named l part.mask.0 part.values) (sym same)
    ∙ values
    ∙ overlaid_named row.attributes 1 mask old.mask.0 given old.values rule.numbered
    ∙ ap (λ (v : Values). overlay row.attributes v (values_named row.attributes mask given)) held
    ∙ ap (λ (l : List Attribute). overlay l (copied_values entity copy) (values_named l mask given)) same

-- a piece's faults in their order
abbrev chain : Bool → Bool → Bool → EntityId → Option ℕ → Option PieceFault
chain empty known long entity repeated = cond empty (Some Empty) (cond (not known) (Some (ClassUnknown entity.class)) (cond long (Some (Truncated entity)) (repeated_fault entity repeated)))

module _ (piece : List ℕ) (copy : Copy) (entity : EntityId) (mask : ℕ) (entity_is : entity ≡ entity_in piece) (mask_is : mask ≡ mask_in piece) where
  faults : piece_fault piece copy ≡ chain (bytes_eq piece (replicate 32 0)) (is_class entity.class) (nat_lt 26 (of_class width_of entity.class mask)) entity (first_repeated (attributes_of entity.class) mask (copied_values entity copy))
  unfolding piece_fault
  faults =
      ap (λ (e : EntityId). chain (bytes_eq piece (replicate 32 0)) (is_class e.class) (nat_lt 26 (of_class width_of e.class (mask_in piece))) e (first_repeated (attributes_of e.class) (mask_in piece) (copied_values e copy))) (sym entity_is)
      ∙ ap (λ m. chain (bytes_eq piece (replicate 32 0)) (is_class entity.class) (nat_lt 26 (of_class width_of entity.class m)) entity (first_repeated (attributes_of entity.class) m (copied_values entity copy))) (sym mask_is)

  pub unknown_fault : bytes_eq piece (replicate 32 0) ≡ false → is_class entity.class ≡ false → piece_fault piece copy ≡ Some (ClassUnknown entity.class)
  unknown_fault filled none =
      faults ∙ ap (λ b. chain b (is_class entity.class) (nat_lt 26 (of_class width_of entity.class mask)) entity (first_repeated (attributes_of entity.class) mask (copied_values entity copy))) filled
      ∙ ap (λ b. chain false b (nat_lt 26 (of_class width_of entity.class mask)) entity (first_repeated (attributes_of entity.class) mask (copied_values entity copy))) none

  known_fault : bytes_eq piece (replicate 32 0) ≡ false → is_class entity.class ≡ true → piece_fault piece copy ≡ chain false true (nat_lt 26 (of_class width_of entity.class mask)) entity (first_repeated (attributes_of entity.class) mask (copied_values entity copy))
  known_fault filled there =
      faults ∙ ap (λ b. chain b (is_class entity.class) (nat_lt 26 (of_class width_of entity.class mask)) entity (first_repeated (attributes_of entity.class) mask (copied_values entity copy))) filled
      ∙ ap (λ b. chain false b (nat_lt 26 (of_class width_of entity.class mask)) entity (first_repeated (attributes_of entity.class) mask (copied_values entity copy))) there

  pub truncated_fault : bytes_eq piece (replicate 32 0) ≡ false → is_class entity.class ≡ true → 26 < of_class width_of entity.class mask → piece_fault piece copy ≡ Some (Truncated entity)
  truncated_fault filled there long =
      let test : nat_lt 26 (of_class width_of entity.class mask) ≡ true = grind (arith, nat_tests, long) in
      known_fault filled there ∙ ap (λ b. chain false true b entity (first_repeated (attributes_of entity.class) mask (copied_values entity copy))) test

  pub last_fault : bytes_eq piece (replicate 32 0) ≡ false → is_class entity.class ≡ true → of_class width_of entity.class mask ≤ 26 → (o : Option ℕ) → o ≡ first_repeated (attributes_of entity.class) mask (copied_values entity copy) → piece_fault piece copy ≡ repeated_fault entity o
  last_fault filled there short o o_is =
      let test : nat_lt 26 (of_class width_of entity.class mask) ≡ false = grind (arith, nat_tests, short) in
      known_fault filled there ∙ ap (λ b. chain false true b entity (first_repeated (attributes_of entity.class) mask (copied_values entity copy))) test ∙ ap (repeated_fault entity) (sym o_is)

  pub joined : (row : Row) (given : List ℕ) (old part : Part) → given ≡ bytes_in piece → class_row entity.class ≡ Some row → IsRow row → old.entity ≡ entity → (part_as old).1 ≡ copied_values entity copy → part.entity ≡ old.entity
      → values_named row.attributes part.mask.0 part.values ≡ merged_values (λ one. has mask one.number) row.attributes given old.mask.0 old.values
      → with_copied part.entity (part_as part).1 copy ≡ with_piece piece copy
  unfolding with_piece
  joined row given old part given_is is rule old_here old_is here values =
      let test : is_class (entity_in piece).class ≡ true = ap (λ (e : EntityId). is_class e.class) (sym entity_is) ∙ is_there entity.class row is in
      ap (λ (e : EntityId). with_copied e (part_as part).1 copy) (here ∙ old_here)
      ∙ ap (λ (v : Values). with_copied entity v copy) (laid copy entity row mask given old part is rule old_here old_is here values)
      ∙ ap (λ m. with_overlay entity (values_named (attributes_of entity.class) m given) copy) mask_is
      ∙ ap (λ b. with_overlay entity (values_named (attributes_of entity.class) (mask_in piece) b) copy) given_is
      ∙ ap (λ (e : EntityId). with_overlay e (values_named (attributes_of e.class) (mask_in piece) (bytes_in piece)) copy) entity_is
      ∙ sym (ap (λ b. cond b (with_overlay (entity_in piece) (values_named (attributes_of (entity_in piece).class) (mask_in piece) (bytes_in piece)) copy) copy) test)

pub empty_fault : (piece : List ℕ) (copy : Copy) → bytes_eq piece (replicate 32 0) ≡ true → piece_fault piece copy ≡ Some Empty
empty_fault piece copy all =
    faults piece copy (entity_in piece) (mask_in piece) refl refl
    ∙ ap (λ b. chain b (is_class (entity_in piece).class) (nat_lt 26 (of_class width_of (entity_in piece).class (mask_in piece))) (entity_in piece) (first_repeated (attributes_of (entity_in piece).class) (mask_in piece) (copied_values (entity_in piece) copy))) all

-- what the part had already, as the search for a repeated attribute has it
pub repeated_is : (copy : Copy) (entity : EntityId) (row : Row) (mask : ℕ) (old : Part) (o : Option ℕ) → class_row entity.class ≡ Some row → old.entity ≡ entity → (part_as old).1 ≡ copied_values entity copy
    → o ≡ first_repeated row.attributes mask (values_named row.attributes old.mask.0 old.values) → o ≡ first_repeated (attributes_of entity.class) mask (copied_values entity copy)
repeated_is copy entity row mask old o is old_here old_is o_is =
    let same : row.attributes ≡ attributes_of entity.class = attributes_are entity.class row is in
    o_is ∙ ap (λ (l : List Attribute). first_repeated l mask (values_named l old.mask.0 old.values)) same
    ∙ ap (λ (e : EntityId). first_repeated (attributes_of entity.class) mask (values_named (attributes_of e.class) old.mask.0 old.values)) (sym old_here)
    ∙ ap (λ (v : Values). first_repeated (attributes_of entity.class) mask v) old_is

-- a create
pub create_nothing : (entity : EntityId) (given : List ℕ) (copy : Copy) → (is_class entity.class && not (is_onu_data entity)) ≡ false → copy ≡ after_create entity given copy
unfolding after_create
create_nothing entity given copy off = sym (ap (λ b. cond b (with_copied entity (create_values (attributes_of entity.class) given) copy) copy) off)

pub create_some : (entity : EntityId) (given : List ℕ) (copy : Copy) → (is_class entity.class && not (is_onu_data entity)) ≡ true → with_copied entity (create_values (attributes_of entity.class) given) copy ≡ after_create entity given copy
unfolding after_create
create_some entity given copy on = sym (ap (λ b. cond b (with_copied entity (create_values (attributes_of entity.class) given) copy) copy) on)

pub and_off_left : (a b : Bool) → a ≡ false → (a && b) ≡ false
and_off_left a b is = ap (λ x. x && b) is

pub and_off_right : (a b : Bool) → b ≡ false → (a && b) ≡ false
and_off_right true b is = is
and_off_right false b is = refl

pub and_on : (a b : Bool) → a ≡ true → b ≡ true → (a && b) ≡ true
and_on a b left right = ap (λ x. x && b) left ∙ right

pub created_part : (entity : EntityId) (row : Row) (given : List ℕ) (part : Part) → class_row entity.class ≡ Some row → IsRow row → part.entity ≡ entity
    → values_named row.attributes part.mask.0 part.values ≡ merged_values (λ one. one.created) row.attributes given 65535 (replicate 45 0)
    → part_as part ≡ (entity, create_values (attributes_of entity.class) given)
created_part entity row given part is rule here values =
    let same : row.attributes ≡ attributes_of entity.class = attributes_are entity.class row is in
    let few : 1 + length row.attributes ≤ 17 = omega (arith, rule.count) in
    ap (λ (e : EntityId). (e, values_named (attributes_of e.class) part.mask.0 part.values)) here
    ∙ ap (λ (l : List Attribute). (entity, values_named l part.mask.0 part.values)) (sym same)
    ∙ ap (λ (v : Values). (entity, v)) (values ∙ created_over row.attributes 1 given 45 rule.numbered (omega arith) few rule.whole)
    ∙ ap (λ (l : List Attribute). (entity, create_values l given)) same

pub created_ok : {T E : Type 0} (result : Result T E) (entity : EntityId) (given : List ℕ) (part : Part) (old new : Copy) → OnOk result (new ≡ with_copied part.entity (part_as part).1 old) → part_as part ≡ (entity, create_values (attributes_of entity.class) given)
    → (is_class entity.class && not (is_onu_data entity)) ≡ true → OnOk result (new ≡ after_create entity given old)
created_ok (Ok x) entity given part old new ok part_is on = ok ∙ ap (λ (p : EntityId × Values). with_copied p.0 p.1 old) part_is ∙ create_some entity given old on
created_ok (Err e) entity given part old new ok part_is on = tt

-- a set
pub set_nothing : (entity : EntityId) (mask : ℕ) (given : List ℕ) (copy : Copy) → is_settable entity mask given copy ≡ false → copy ≡ after_set entity mask given copy
unfolding after_set
set_nothing entity mask given copy off = sym (ap (λ b. cond b (with_overlay entity (values_named (attributes_of entity.class) mask given) copy) copy) off)

pub set_some : (entity : EntityId) (mask : ℕ) (given : List ℕ) (copy : Copy) → is_settable entity mask given copy ≡ true → with_overlay entity (values_named (attributes_of entity.class) mask given) copy ≡ after_set entity mask given copy
unfolding after_set
set_some entity mask given copy on = sym (ap (λ b. cond b (with_overlay entity (values_named (attributes_of entity.class) mask given) copy) copy) on)

-- whether a set's values are carried, as the code tests it
pub settable_is : (entity : EntityId) (mask : ℕ) (given : List ℕ) (copy : Copy) (row : Row) (unknown width : ℕ) (settable : Bool) → class_row entity.class ≡ Some row → unknown ≡ unknown_mask row mask → width ≡ width_of row mask → length given ≡ 30
    → settable ≡ (unknown == 0 && nat_le width 30) → is_copied entity copy ≡ true → is_settable entity mask given copy ≡ settable
settable_is entity mask given copy row unknown width settable is unknown_same width_same len test there =
    ap (λ b. b && (of_class unknown_mask entity.class mask == 0 && nat_le (of_class width_of entity.class mask) (length given))) there
    ∙ ap (λ n. n == 0 && nat_le (of_class width_of entity.class mask) (length given)) (unknown_is entity.class mask row is ∙ sym unknown_same)
    ∙ ap (λ n. unknown == 0 && nat_le n (length given)) (width_is entity.class mask row is ∙ sym width_same)
    ∙ ap (λ n. unknown == 0 && nat_le width n) len ∙ sym test

pub fits_where : (unknown width : ℕ) → (unknown == 0 && nat_le width 30) ≡ true → width ≤ 30
fits_where unknown width on = go (unknown == 0) (nat_le width 30) refl on
  where
    go : (a b : Bool) → nat_le width 30 ≡ b → (a && b) ≡ true → width ≤ 30
    go true true is on = grind (arith, nat_tests, is)
    go true false is on = absurd (false≢true on)
    go false b is on = absurd (false≢true on)

pub at_copied : (parts : List Part) (entity : EntityId) (at : ℕ) → IsAt parts entity at → is_copied entity (copy_of parts) ≡ true
at_copied parts entity at is = ap (λ (o : Option Values). is_some o) is.is_copied

pub gap_copied : (parts : List Part) (entity : EntityId) (at mask : ℕ) (given : List ℕ) → IsGap parts entity at → is_settable entity mask given (copy_of parts) ≡ false
gap_copied parts entity at mask given gap =
    ap (λ (o : Option Values). is_some o && (of_class unknown_mask entity.class mask == 0 && nat_le (of_class width_of entity.class mask) (length given))) gap.not_copied

pub at_known : (parts : List Part) (entity : EntityId) (at : ℕ) → IsAt parts entity at → AreKnown parts → is_class entity.class ≡ true
at_known parts entity at is known = ap (λ (e : EntityId). is_class e.class) (sym is.here) ∙ (known_at parts at is.in_range known).class

pub set_part : (parts : List Part) (entity : EntityId) (row : Row) (mask : ℕ) (given : List ℕ) (at : ℕ) (old part : Part) → IsAt parts entity at → class_row entity.class ≡ Some row → IsRow row → old ≡ part_at parts at → part.entity ≡ old.entity
    → values_named row.attributes part.mask.0 part.values ≡ merged_values (λ one. has mask one.number) row.attributes given old.mask.0 old.values
    → is_settable entity mask given (copy_of parts) ≡ true → copy_of (set parts at part) ≡ after_set entity mask given (copy_of parts)
set_part parts entity row mask given at old part is row_is rule old_is here values settable =
    let copy : Copy = copy_of parts in
    let old_here : old.entity ≡ entity = ap (λ (p : Part). p.entity) old_is ∙ is.here in
    let held : (part_as old).1 ≡ copied_values entity copy = ap (λ (p : Part). (part_as p).1) old_is ∙ values_there parts entity at is in
    let there : IsAt parts part.entity at = subst (λ (e : EntityId). IsAt parts e at) (sym (here ∙ old_here)) is in
    replaced parts at part there ∙ ap (λ (e : EntityId). with_copied e (part_as part).1 copy) (here ∙ old_here)
    ∙ ap (λ (v : Values). with_copied entity v copy) (laid copy entity row mask given old part row_is rule old_here held here values)
    ∙ set_some entity mask given copy settable

pub set_parts : (parts : List Part) (entity : EntityId) (row : Row) (at : ℕ) (old part : Part) (passes : Attribute → Bool) → IsAt parts entity at → class_row entity.class ≡ Some row → IsRow row → old ≡ part_at parts at → part.entity ≡ old.entity
    → part.mask.0 ≡ mask_where passes row.attributes → IsParts parts → IsParts (set parts at part)
set_parts parts entity row at old part passes is row_is rule old_is here mask ok =
    let entity_is : part.entity ≡ entity = here ∙ ap (λ (p : Part). p.entity) old_is ∙ is.here in
    let there : IsAt parts part.entity at = subst (λ (e : EntityId). IsAt parts e at) (sym entity_is) is in
    record {
      ascending = subst IsAscending (sym (replaced_keys parts at part there)) ok.ascending;
      known = known_put parts at part (known_part part row passes (ap (λ (e : EntityId). class_row e.class) entity_is ∙ row_is) rule mask) is.in_range ok.known;
    }

-- an entry of the copy
entry_width : (class mask : ℕ) (bytes : List ℕ) → take (of_class width_of class mask) bytes ≡ bytes_of (values_named (attributes_of class) mask bytes)
unfolding width_of
entry_width class mask bytes = go (class_row class)
  where
    go : (o : Option Row) → take (option_map_or (λ (r : Row). width_of r mask) o 0) bytes ≡ bytes_of (values_named (option_map_or (λ (r : Row). r.attributes) o []) mask bytes)
    go None = refl
    go (Some r) = bytes_named r.attributes mask bytes

pub entry_values : (parts : List Part) (at : ℕ) (part : Part) (other : EntityId × Values) → at < length parts → part ≡ part_at parts at → take (of_class width_of part.entity.class part.mask.0) part.values ≡ bytes_of (slice_index_or (copy_of parts) at other).1
entry_values parts at part other lt is =
    entry_width part.entity.class part.mask.0 part.values ∙ ap (λ (p : Part). bytes_of (part_as p).1) is ∙ ap (λ (x : EntityId × Values). bytes_of x.1) (sym (get_or-map part_as parts at no_part other lt))

entry_known : (class mask : ℕ) (bytes : List ℕ) → of_class known_mask class mask ≡ mask_of (values_named (attributes_of class) mask bytes)
unfolding known_mask
entry_known class mask bytes = go (class_row class)
  where
    go : (o : Option Row) → option_map_or (λ (r : Row). known_mask r mask) o 0 ≡ mask_of (values_named (option_map_or (λ (r : Row). r.attributes) o []) mask bytes)
    go None = refl
    go (Some r) = sym (mask_named r.attributes mask bytes)

pub entry_mask : (parts : List Part) (at : ℕ) (part : Part) (other : EntityId × Values) → at < length parts → part ≡ part_at parts at → IsKnown part → part.mask.0 ≡ mask_of (slice_index_or (copy_of parts) at other).1
entry_mask parts at part other lt is known =
    sym known.attributes ∙ entry_known part.entity.class part.mask.0 part.values ∙ ap (λ (p : Part). mask_of (part_as p).1) is ∙ ap (λ (x : EntityId × Values). mask_of x.1) (sym (get_or-map part_as parts at no_part other lt))
