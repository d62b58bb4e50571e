-- What stands in a place of the parts, and what an edit there does to the copy.
use Rattle.std.proofs.Common.{◌≡◌, ℕ, zero, suc, ◌+◌, ◌<◌, ◌≤◌, ◌%◌, Bool, true, false, cond, List, [], ◌∷◌, ◌++◌, length, take, drop, set, get_or, is_some, Option, Some, None, refl, sym, ap, subst, ◌∙◌, inl, inr, arith}
use Rattle.std.specs.Prelude.{◌==◌}
use Rattle.std.specs.List.{insert, remove}
use Rattle.std.specs.declared.cmp.Ordering.TheVariants.{Less, Equal, Greater}
use Rattle.std.specs.Ordering.{is_eq, match_ordering}
use Rattle.std.specs.Cmp.{tied_itself}
use Rattle.std.specs.Option.{option_map_or}
use Rattle.std.proofs.Math.Nat.{zero-div}
use Rattle.std.proofs.Math.Seq.{map-set_same, take-add}
use Rattle.omci_attributes.specs.declared.mask.Mask.{Mask}
use Rattle.std.specs.Map.{lookup, set_value, remove_entry}
use Rattle.std.specs.BTreeMap.{insert_entry, is_at}
use Rattle.std.proofs.lemmas.Bool.{cases_lt}
use Rattle.omci_types.specs.declared.EntityId.{EntityId}
use Rattle.mib_spec.specs.Database.{Values, entity_cmp, value_at, with_value, byte_of, bytes_of, bump}
use Rattle.mib_spec.specs.Requests.{is_class, of_class}
use Rattle.std.proofs.lemmas.Bool.{false≢true}
use Rattle.class_spec.specs.declared.TheConstants.{ONU_DATA}
use Rattle.class_spec.specs.Classes.{Attribute, class_row, class_table}
use Rattle.class_spec.specs.Masks.{has, bit_of, mask_where, width_where, known_mask}
use Rattle.upload_spec.specs.Pieces.{Copy, mask_of, values_named}
use Rattle.upload_spec.specs.Copies.{attributes_of, copied, copied_values, copied_counter, copy_counter, copy_grown, with_copied, without_copied}
use Rattle.mib_upload.specs.declared.part.Part.{Part}
use Rattle.mib_store.specs.Entries.{IsBefore, IsAscending}
use Rattle.mib_upload.specs.Parts.{AreKnown, IsKnown, part_as, copy_of, keys_of, IsAt, IsGap, part_at, no_part}
use Rattle.mib_laws.proofs.Others.{entity_total}
use Rattle.mib_store.proofs.Order.{turned, turned_back, Narrows, Finds}

-- those before a place are less than the entity, as the index says
abbrev pub Below : List Part → EntityId → ℕ → Type 0
Below entries q at = (k : ℕ) → k < at → entity_cmp (part_at entries k).entity q ≡ Less

abbrev pub Above : List Part → EntityId → ℕ → Type 0
Above entries q at = (k : ℕ) → at ≤ k → k < length entries → entity_cmp (part_at entries k).entity q ≡ Greater

below_tail : (e : Part) (es : List Part) (q : EntityId) (at : ℕ) → Below (e ∷ es) q (suc at) → Below es q at
below_tail e es q at h k lt = h (suc k) (omega arith)

above_tail : (e : Part) (es : List Part) (q : EntityId) (at : ℕ) → Above (e ∷ es) q (suc at) → Above es q at
above_tail e es q at h k le lt = h (suc k) (omega arith) (omega arith)

-- the first entry is less
passed : (e : Part) (es : List Part) (q : EntityId) (at : ℕ) → Below (e ∷ es) q (suc at) → entity_cmp q e.entity ≡ Greater
passed e es q at h = turned e.entity q (h 0 (omega arith))

tied : (e : Part) (q : EntityId) → e.entity ≡ q → entity_cmp q e.entity ≡ Equal
tied e q h = ap (entity_cmp q) h ∙ tied_itself entity_total q

lookup_at : (es : List Part) (at : ℕ) (q : EntityId) → at < length es → Below es q at → (part_at es at).entity ≡ q → lookup (is_at (entity_cmp q)) (copy_of es) ≡ Some (part_as (part_at es at)).1
lookup_at [] at q lt below here = absurd (omega arith)
lookup_at (e ∷ es) zero q lt below here = ap (λ r. cond (is_eq r) (Some (part_as e).1) (lookup (is_at (entity_cmp q)) (copy_of es))) (tied e q here)
lookup_at (e ∷ es) (suc at) q lt below here =
    ap (λ r. cond (is_eq r) (Some (part_as e).1) (lookup (is_at (entity_cmp q)) (copy_of es))) (passed e es q at below)
    ∙ lookup_at es at q (omega arith) (below_tail e es q at below) here

lookup_none : (es : List Part) (q : EntityId) → ((k : ℕ) → k < length es → is_eq (entity_cmp q (part_at es k).entity) ≡ false) → lookup (is_at (entity_cmp q)) (copy_of es) ≡ None
lookup_none [] q h = refl
lookup_none (e ∷ es) q h = ap (λ b. cond b (Some (part_as e).1) (lookup (is_at (entity_cmp q)) (copy_of es))) (h 0 (omega arith)) ∙ lookup_none es q (λ k lt. h (suc k) (omega arith))

none_in_gap : (es : List Part) (at : ℕ) (q : EntityId) → Below es q at → Above es q at → lookup (is_at (entity_cmp q)) (copy_of es) ≡ None
none_in_gap es at q below above = lookup_none es q (λ k lt. elim (cases_lt k at) as (λ _. is_eq (entity_cmp q (part_at es k).entity) ≡ false) [
  | inl less ↦ ap is_eq (turned (part_at es k).entity q (below k less))
  | inr more ↦ ap is_eq (turned_back (part_at es k).entity q (above k more lt))
])

set_at : (es : List Part) (at : ℕ) (q : EntityId) (entry : Part) (managed : Values) → at < length es → Below es q at → (part_at es at).entity ≡ q → part_as entry ≡ (q, managed) → set_value (is_at (entity_cmp q)) (copy_of es) managed ≡ copy_of (set es at entry)
set_at [] at q entry managed lt below here is = absurd (omega arith)
set_at (e ∷ es) zero q entry managed lt below here is =
    ap (λ r. cond (is_eq r) ((e.entity, managed) ∷ copy_of es) (part_as e ∷ set_value (is_at (entity_cmp q)) (copy_of es) managed)) (tied e q here)
    ∙ ap (λ (k : EntityId). (k, managed) ∷ copy_of es) here ∙ ap (λ (x : EntityId × Values). x ∷ copy_of es) (sym is)
set_at (e ∷ es) (suc at) q entry managed lt below here is =
    ap (λ r. cond (is_eq r) ((e.entity, managed) ∷ copy_of es) (part_as e ∷ set_value (is_at (entity_cmp q)) (copy_of es) managed)) (passed e es q at below)
    ∙ ap (λ (xs : Copy). part_as e ∷ xs) (set_at es at q entry managed (omega arith) (below_tail e es q at below) here is)

insert_at : (es : List Part) (at : ℕ) (entry : Part) → at ≤ length es → Below es entry.entity at → Above es entry.entity at → insert_entry entity_cmp (copy_of es) entry.entity (part_as entry).1 ≡ copy_of (insert es at entry)
insert_at [] zero entry le below above = refl
insert_at [] (suc at) entry le below above = absurd (omega arith)
insert_at (e ∷ es) zero entry le below above =
    ap (λ r. match_ordering r (part_as entry ∷ part_as e ∷ copy_of es) ((e.entity, (part_as entry).1) ∷ copy_of es) (part_as e ∷ insert_entry entity_cmp (copy_of es) entry.entity (part_as entry).1)) (turned_back e.entity entry.entity (above 0 (omega arith) (omega arith)))
insert_at (e ∷ es) (suc at) entry le below above =
    ap (λ r. match_ordering r (part_as entry ∷ part_as e ∷ copy_of es) ((e.entity, (part_as entry).1) ∷ copy_of es) (part_as e ∷ insert_entry entity_cmp (copy_of es) entry.entity (part_as entry).1)) (passed e es entry.entity at below)
    ∙ ap (λ (xs : Copy). part_as e ∷ xs) (insert_at es at entry (omega arith) (below_tail e es entry.entity at below) (above_tail e es entry.entity at above))

remove_at : (es : List Part) (at : ℕ) (q : EntityId) → at < length es → Below es q at → (part_at es at).entity ≡ q → remove_entry (is_at (entity_cmp q)) (copy_of es) ≡ copy_of (remove es at)
remove_at [] at q lt below here = absurd (omega arith)
remove_at (e ∷ es) zero q lt below here = ap (λ r. cond (is_eq r) (copy_of es) (part_as e ∷ remove_entry (is_at (entity_cmp q)) (copy_of es))) (tied e q here)
remove_at (e ∷ es) (suc at) q lt below here =
    ap (λ r. cond (is_eq r) (copy_of es) (part_as e ∷ remove_entry (is_at (entity_cmp q)) (copy_of es))) (passed e es q at below)
    ∙ ap (λ (xs : Copy). part_as e ∷ xs) (remove_at es at q (omega arith) (below_tail e es q at below) here)

-- the order stays
before_all : (q : EntityId) (es : List Part) → ((k : ℕ) → k < length es → entity_cmp (part_at es k).entity q ≡ Greater) → IsBefore q (keys_of es)
before_all q [] h = tt
before_all q (e ∷ es) h = (turned_back e.entity q (h 0 (omega arith)), before_all q es (λ k lt. h (suc k) (omega arith)))

before_insert : (one : EntityId) (es : List Part) (at : ℕ) (entry : Part) → IsBefore one (keys_of es) → entity_cmp one entry.entity ≡ Less → IsBefore one (keys_of (insert es at entry))
before_insert one es zero entry h less = (less, h)
before_insert one [] (suc at) entry h less = (less, tt)
before_insert one (e ∷ es) (suc at) entry h less = (h.0, before_insert one es at entry h.1 less)

ascending_insert : (es : List Part) (at : ℕ) (entry : Part) → IsAscending (keys_of es) → Below es entry.entity at → Above es entry.entity at → at ≤ length es → IsAscending (keys_of (insert es at entry))
ascending_insert es zero entry h below above le = (before_all entry.entity es (λ k lt. above k (omega arith) lt), h)
ascending_insert [] (suc at) entry h below above le = absurd (omega arith)
ascending_insert (e ∷ es) (suc at) entry h below above le = (
  before_insert e.entity es at entry h.0 (below 0 (omega arith)),
  ascending_insert es at entry h.1 (below_tail e es entry.entity at below) (above_tail e es entry.entity at above) (omega arith),
)

before_remove : (one : EntityId) (es : List Part) (at : ℕ) → IsBefore one (keys_of es) → IsBefore one (keys_of (remove es at))
before_remove one [] zero h = tt
before_remove one [] (suc at) h = tt
before_remove one (e ∷ es) zero h = h.1
before_remove one (e ∷ es) (suc at) h = (h.0, before_remove one es at h.1)

ascending_remove : (es : List Part) (at : ℕ) → IsAscending (keys_of es) → IsAscending (keys_of (remove es at))
ascending_remove [] zero h = tt
ascending_remove [] (suc at) h = tt
ascending_remove (e ∷ es) zero h = h.1
ascending_remove (e ∷ es) (suc at) h = (before_remove e.entity es at h.0, ascending_remove es at h.1)

-- what a search ends at
pub found_at : (es : List Part) (q : EntityId) (at : ℕ) → Finds (λ (p : Part). p.entity) no_part es q at → IsAt es q at
unfolding copied
found_at es q at f = record { in_range = f.in_range; here = f.here; before = f.before; is_copied = lookup_at es at q f.in_range f.before f.here }

pub gap_at : (es : List Part) (q : EntityId) (low high : ℕ) → Narrows (λ (p : Part). p.entity) no_part es q low high → high ≤ low → IsGap es q low
unfolding copied
gap_at es q low high n le =
    let above : Above es q low = λ k from lt. n.above k (omega (arith, from, n.ordered, le)) lt in
    record { in_range = omega (arith, n.ordered, n.in_range); before = n.below; after = above; not_copied = none_in_gap es low q n.below above }

-- a part in place of one that is there
replaced_at : (es : List Part) (at : ℕ) (part : Part) → at < length es → Below es part.entity at → (part_at es at).entity ≡ part.entity → insert_entry entity_cmp (copy_of es) part.entity (part_as part).1 ≡ copy_of (set es at part)
replaced_at [] at part lt below here = absurd (omega arith)
replaced_at (e ∷ es) zero part lt below here =
    ap (λ r. match_ordering r (part_as part ∷ part_as e ∷ copy_of es) ((e.entity, (part_as part).1) ∷ copy_of es) (part_as e ∷ insert_entry entity_cmp (copy_of es) part.entity (part_as part).1)) (tied e part.entity here)
    ∙ ap (λ (k : EntityId). (k, (part_as part).1) ∷ copy_of es) here
replaced_at (e ∷ es) (suc at) part lt below here =
    ap (λ r. match_ordering r (part_as part ∷ part_as e ∷ copy_of es) ((e.entity, (part_as part).1) ∷ copy_of es) (part_as e ∷ insert_entry entity_cmp (copy_of es) part.entity (part_as part).1)) (passed e es part.entity at below)
    ∙ ap (λ (xs : Copy). part_as e ∷ xs) (replaced_at es at part (omega arith) (below_tail e es part.entity at below) here)

pub replaced : (es : List Part) (at : ℕ) (part : Part) → IsAt es part.entity at → copy_of (set es at part) ≡ with_copied part.entity (part_as part).1 (copy_of es)
unfolding with_copied
replaced es at part is = sym (replaced_at es at part is.in_range is.before is.here)

pub replaced_keys : (es : List Part) (at : ℕ) (part : Part) → IsAt es part.entity at → keys_of (set es at part) ≡ keys_of es
replaced_keys es at part is = map-set_same (λ (p : Part). p.entity) es at part no_part (sym is.here)

pub inserted : (es : List Part) (at : ℕ) (part : Part) → IsGap es part.entity at → copy_of (insert es at part) ≡ with_copied part.entity (part_as part).1 (copy_of es)
unfolding with_copied
inserted es at part gap = sym (insert_at es at part gap.in_range gap.before gap.after)

pub inserted_keys : (es : List Part) (at : ℕ) (part : Part) → IsAscending (keys_of es) → IsGap es part.entity at → IsAscending (keys_of (insert es at part))
inserted_keys es at part h gap = ascending_insert es at part h gap.before gap.after gap.in_range

pub removed : (es : List Part) (at : ℕ) (q : EntityId) → IsAt es q at → copy_of (remove es at) ≡ without_copied q (copy_of es)
unfolding without_copied
removed es at q is = sym (remove_at es at q is.in_range is.before is.here)

pub removed_keys : (es : List Part) (at : ℕ) → IsAscending (keys_of es) → IsAscending (keys_of (remove es at))
removed_keys es at h = ascending_remove es at h

-- an entity that isn't there is removed already
pub absent : (es : List Part) (at : ℕ) (q : EntityId) → IsGap es q at → copy_of es ≡ without_copied q (copy_of es)
unfolding without_copied
absent es at q gap = sym (absent_at es q (λ k lt. elim (cases_lt k at) as (λ _. is_eq (entity_cmp q (part_at es k).entity) ≡ false) [
  | inl less ↦ ap is_eq (turned (part_at es k).entity q (gap.before k less))
  | inr more ↦ ap is_eq (turned_back (part_at es k).entity q (gap.after k more lt))
]))
  where
    absent_at : (es : List Part) (q : EntityId) → ((k : ℕ) → k < length es → is_eq (entity_cmp q (part_at es k).entity) ≡ false) → remove_entry (is_at (entity_cmp q)) (copy_of es) ≡ copy_of es
    absent_at [] q h = refl
    absent_at (e ∷ es) q h = ap (λ b. cond b (copy_of es) (part_as e ∷ remove_entry (is_at (entity_cmp q)) (copy_of es))) (h 0 (omega arith)) ∙ ap (λ (xs : Copy). part_as e ∷ xs) (absent_at es q (λ k lt. h (suc k) (omega arith)))

-- what the parts have of an entity
pub values_there : (es : List Part) (q : EntityId) (at : ℕ) → IsAt es q at → (part_as (part_at es at)).1 ≡ copied_values q (copy_of es)
unfolding copied_values
values_there es q at is = sym (ap (λ o. option_map_or (λ (values : Values). values) o []) is.is_copied)

unnamed : (attributes : List Attribute) (bytes : List ℕ) → values_named attributes 0 bytes ≡ []
unnamed [] bytes = refl
unnamed (one ∷ rest) bytes =
    let off : has 0 one.number ≡ false = ap (λ n. n % 2 == 1) (zero-div (bit_of one.number)) in
    ap (λ b. cond b ((one.number, take one.width bytes) ∷ []) [] ++ values_named rest 0 (cond b (drop one.width bytes) bytes)) off ∙ unnamed rest bytes

pub values_absent : (es : List Part) (q : EntityId) (at : ℕ) (bytes : List ℕ) → IsGap es q at → values_named (attributes_of q.class) 0 bytes ≡ copied_values q (copy_of es)
unfolding copied_values
values_absent es q at bytes gap = unnamed (attributes_of q.class) bytes ∙ sym (ap (λ o. option_map_or (λ (values : Values). values) o []) gap.not_copied)

-- the counter in the part of ONU data
pub counter_named : (mask : ℕ) (bytes : List ℕ) → is_some (value_at 1 (values_named (attributes_of ONU_DATA.class) mask bytes)) ≡ has mask 1
unfolding class_row class_table
counter_named mask bytes = elim (has mask 1) as (λ b. is_some (value_at 1 (cond b ((1, take 1 bytes) ∷ []) [] ++ [])) ≡ b) [ true ↦ refl | false ↦ refl ]

pub counter_there : (part : Part) (copy : Copy) (named : Bool) → part.entity ≡ ONU_DATA → (part_as part).1 ≡ copied_values ONU_DATA copy → named ≡ has part.mask.0 1 → named ≡ is_some (copied_counter copy)
unfolding copied_counter
counter_there part copy named here is has_is =
    has_is ∙ sym (counter_named part.mask.0 part.values) ∙ ap (λ (e : EntityId). is_some (value_at 1 (values_named (attributes_of e.class) part.mask.0 part.values))) (sym here) ∙ ap (λ (v : Values). is_some (value_at 1 v)) is

counter_byte : (mask : ℕ) (bytes : List ℕ) → has mask 1 ≡ true → byte_of (value_at 1 (values_named (attributes_of ONU_DATA.class) mask bytes)) ≡ get_or bytes 0 0
unfolding class_row class_table
counter_byte mask [] h = ap (λ b. byte_of (value_at 1 (cond b ((1, []) ∷ []) [] ++ []))) h
counter_byte mask (x ∷ xs) h = ap (λ b. byte_of (value_at 1 (cond b ((1, x ∷ []) ∷ []) [] ++ []))) h

pub counter_read : (part : Part) (copy : Copy) → part.entity ≡ ONU_DATA → (part_as part).1 ≡ copied_values ONU_DATA copy → is_some (copied_counter copy) ≡ true → get_or part.values 0 0 ≡ copy_counter copy
unfolding copy_counter copied_counter
counter_read part copy here is some =
    let named : has part.mask.0 1 ≡ true = counter_there part copy (has part.mask.0 1) here is refl ∙ some in
    sym (counter_byte part.mask.0 part.values named) ∙ ap (λ (e : EntityId). byte_of (value_at 1 (values_named (attributes_of e.class) part.mask.0 part.values))) (sym here) ∙ ap (λ (v : Values). byte_of (value_at 1 v)) is

no_counter : (o : Option (List ℕ)) → is_some o ≡ false → byte_of o ≡ 0
no_counter None h = refl
no_counter (Some bytes) h = absurd (false≢true (sym h))

pub counter_absent : (copy : Copy) → is_some (copied_counter copy) ≡ false → 0 ≡ copy_counter copy
unfolding copy_counter
counter_absent copy h = sym (no_counter (copied_counter copy) h)

-- the parts stay known
pub known_removed : (es : List Part) (at : ℕ) → AreKnown es → AreKnown (remove es at)
known_removed [] zero h = tt
known_removed [] (suc at) h = tt
known_removed (e ∷ es) zero h = h.1
known_removed (e ∷ es) (suc at) h = (h.0, known_removed es at h.1)

pub known_put : (es : List Part) (at : ℕ) (part : Part) → IsKnown part → at < length es → AreKnown es → AreKnown (set es at part)
known_put [] at part known lt h = absurd (omega arith)
known_put (e ∷ es) zero part known lt h = (known, h.1)
known_put (e ∷ es) (suc at) part known lt h = (h.0, known_put es at part known (omega arith) h.1)

pub known_at : (es : List Part) (at : ℕ) → at < length es → AreKnown es → IsKnown (part_at es at)
known_at [] at lt h = absurd (omega arith)
known_at (e ∷ es) zero lt h = h.0
known_at (e ∷ es) (suc at) lt h = known_at es at (omega arith) h.1

pub known_inserted : (es : List Part) (at : ℕ) (part : Part) → IsKnown part → AreKnown es → AreKnown (insert es at part)
known_inserted es zero part known h = (known, h)
known_inserted [] (suc at) part known h = (known, tt)
known_inserted (e ∷ es) (suc at) part known h = (h.0, known_inserted es at part known h.1)

pub known_set : (es : List Part) (at : ℕ) (part : Part) → part.entity ≡ (part_at es at).entity → part.mask ≡ (part_at es at).mask → at < length es → AreKnown es → AreKnown (set es at part)
known_set es at part here same lt h =
    let k : IsKnown (part_at es at) = known_at es at lt h in
    known_put es at part record {
      class = ap (λ (x : EntityId). is_class x.class) here ∙ k.class;
      attributes = ap (λ (x : EntityId). of_class known_mask x.class part.mask.0) here ∙ ap (λ (m : Mask). of_class known_mask (part_at es at).entity.class m.0) same ∙ k.attributes ∙ ap (λ (m : Mask). m.0) (sym same);
    } lt h

-- the values of ONU data with another first byte
counted_values : (mask count : ℕ) (bytes : List ℕ) → 0 < length bytes → has mask 1 ≡ true → values_named (attributes_of ONU_DATA.class) mask (set bytes 0 count) ≡ with_value 1 (count ∷ []) (values_named (attributes_of ONU_DATA.class) mask bytes)
unfolding class_row class_table
counted_values mask count [] lt h = absurd (omega arith)
counted_values mask count (x ∷ xs) lt h =
    ap (λ b. let v : Values = cond b ((1, count ∷ []) ∷ []) [] ++ [] in v) h ∙ sym (ap (λ b. with_value 1 (count ∷ []) (cond b ((1, x ∷ []) ∷ []) [] ++ [])) h)

pub grown_parts : (es : List Part) (at : ℕ) (before after : Part) → IsAt es ONU_DATA at → before ≡ part_at es at → 0 < length before.values → after.entity ≡ before.entity → after.mask ≡ before.mask → after.values ≡ set before.values 0 (bump (get_or before.values 0 0))
    → is_some (copied_counter (copy_of es)) ≡ true → copy_of (set es at after) ≡ copy_grown (copy_of es)
unfolding copy_grown
grown_parts es at before after is same wide here mask values some =
    let copy : Copy = copy_of es in
    let e : before.entity ≡ ONU_DATA = ap (λ (p : Part). p.entity) same ∙ is.here in
    let held : (part_as before).1 ≡ copied_values ONU_DATA copy = ap (λ (p : Part). (part_as p).1) same ∙ values_there es ONU_DATA at is in
    let named : has before.mask.0 1 ≡ true = counter_there before copy (has before.mask.0 1) e held refl ∙ some in
    let read : get_or before.values 0 0 ≡ copy_counter copy = counter_read before copy e held some in
    let onu : values_named (attributes_of ONU_DATA.class) before.mask.0 before.values ≡ copied_values ONU_DATA copy = ap (λ (x : EntityId). values_named (attributes_of x.class) before.mask.0 before.values) (sym e) ∙ held in
    let new : (part_as after).1 ≡ with_value 1 (bump (copy_counter copy) ∷ []) (copied_values ONU_DATA copy) =
    ap (λ (x : EntityId). values_named (attributes_of x.class) after.mask.0 after.values) (here ∙ e)
    ∙ ap (λ (m : Mask). values_named (attributes_of ONU_DATA.class) m.0 after.values) mask
    ∙ ap (values_named (attributes_of ONU_DATA.class) before.mask.0) values
    ∙ counted_values before.mask.0 (bump (get_or before.values 0 0)) before.values wide named
    ∙ ap (λ n. with_value 1 (bump n ∷ []) (values_named (attributes_of ONU_DATA.class) before.mask.0 before.values)) read
    ∙ ap (with_value 1 (bump (copy_counter copy) ∷ [])) onu in
    let there : IsAt es after.entity at = subst (λ (x : EntityId). IsAt es x at) (sym (here ∙ e)) is in
    replaced es at after there ∙ ap (λ (x : EntityId). with_copied x (part_as after).1 copy) (here ∙ e) ∙ ap (λ (v : Values). with_copied ONU_DATA v copy) new
    ∙ sym (ap (λ b. cond b (with_copied ONU_DATA (with_value 1 (bump (copy_counter copy) ∷ []) (copied_values ONU_DATA copy)) copy) copy) some)

pub not_grown : (copy : Copy) → is_some (copied_counter copy) ≡ false → copy ≡ copy_grown copy
unfolding copy_grown
not_grown copy none = sym (ap (λ b. cond b (with_copied ONU_DATA (with_value 1 (bump (copy_counter copy) ∷ []) (copied_values ONU_DATA copy)) copy) copy) none)

-- a counter that is there has a place
pub counter_has_place : (es : List Part) (at : ℕ) → IsGap es ONU_DATA at → is_some (copied_counter (copy_of es)) ≡ true → ⊥
unfolding copied_counter copied_values
counter_has_place es at gap some = false≢true (sym (ap (λ o. is_some (value_at 1 (option_map_or (λ (values : Values). values) o []))) gap.not_copied) ∙ some)

-- what an entry says of its part
pub mask_named : (attributes : List Attribute) (mask : ℕ) (bytes : List ℕ) → mask_of (values_named attributes mask bytes) ≡ mask_where (λ one. has mask one.number) attributes
mask_named [] mask bytes = refl
mask_named (one ∷ rest) mask bytes =
    elim (has mask one.number) as (λ b. mask_of (cond b ((one.number, take one.width bytes) ∷ []) [] ++ values_named rest mask (cond b (drop one.width bytes) bytes)) ≡ cond b (bit_of one.number) 0 + mask_where (λ one. has mask one.number) rest) [
      | true ↦ ap (λ m. bit_of one.number + m) (mask_named rest mask (drop one.width bytes))
      | false ↦ omega (arith, mask_named rest mask bytes)
    ]

pub bytes_named : (attributes : List Attribute) (mask : ℕ) (bytes : List ℕ) → take (width_where (λ one. has mask one.number) attributes) bytes ≡ bytes_of (values_named attributes mask bytes)
bytes_named [] mask bytes = refl
bytes_named (one ∷ rest) mask bytes =
    elim (has mask one.number) as (λ b. take (cond b one.width 0 + width_where (λ one. has mask one.number) rest) bytes ≡ bytes_of (cond b ((one.number, take one.width bytes) ∷ []) [] ++ values_named rest mask (cond b (drop one.width bytes) bytes))) [
      | true ↦ take-add one.width (width_where (λ one. has mask one.number) rest) bytes ∙ ap (λ v. take one.width bytes ++ v) (bytes_named rest mask (drop one.width bytes))
      | false ↦ ap (λ n. take n bytes) {x = 0 + width_where (λ one. has mask one.number) rest} {y = width_where (λ one. has mask one.number) rest} (omega arith) ∙ bytes_named rest mask bytes
    ]
