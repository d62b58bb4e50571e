-- What stands in a place of the table, and what an edit there does to the map.
use Rattle.std.proofs.Common.{◌≡◌, ℕ, zero, suc, ◌+◌, ◌<◌, ◌≤◌, false, cond, List, [], ◌∷◌, ◌++◌, length, take, set, Some, None, Result, Ok, Err, OnOk, refl, sym, ap, subst, ◌∙◌, inl, inr, arith}
use Rattle.std.specs.List.{insert, remove}
use Rattle.std.specs.declared.cmp.Ordering.TheVariants.{Less, Equal, Greater}
use Rattle.std.specs.Ordering.{is_eq, match_ordering}
use Rattle.std.specs.Cmp.{tied_itself}
use Rattle.std.specs.Option.{option_map_or}
use Rattle.std.proofs.Math.Seq.{map-set_same, take-suc}
use Rattle.std.specs.Map.{lookup, set_value, remove_entry}
use Rattle.std.specs.BTreeMap.{insert_entry, is_at}
use Rattle.std.proofs.lemmas.Bool.{cases_lt}
use Rattle.omci_types.specs.declared.EntityId.{EntityId}
use Rattle.mib_spec.specs.Database.{Database, Managed, entity_cmp, managed_of, Values, with_entity, without_entity, with_values, values_of, zeros_of}
use Rattle.mib_spec.specs.Requests.{is_unit_made}
use Rattle.mib_store.specs.declared.entry.Entry.{Entry}
use Rattle.mib_store.specs.Entries.{held_of, database_of, keys_of, maker_of, values_in, IsBefore, IsAscending, IsAt, IsGap, unit_made, Inserts, Removes, entry_at, no_entry}
use Rattle.mib_laws.proofs.Others.{entity_total}
use Rattle.mib_store.proofs.Order.{turned, turned_back, Narrows, Finds}

-- those before a place are less than the entity, as the index says
abbrev pub Below : List Entry → EntityId → ℕ → Type 0
Below entries q at = (k : ℕ) → k < at → entity_cmp (entry_at entries k).entity q ≡ Less

abbrev pub Above : List Entry → EntityId → ℕ → Type 0
Above entries q at = (k : ℕ) → at ≤ k → k < length entries → entity_cmp (entry_at entries k).entity q ≡ Greater

below_tail : (e : Entry) (es : List Entry) (q : EntityId) (at : ℕ) → Below (e ∷ es) q (suc at) → Below es q at
below_tail e es q at h k lt = h (suc k) (omega arith)

above_tail : (e : Entry) (es : List Entry) (q : EntityId) (at : ℕ) → Above (e ∷ es) q (suc at) → Above es q at
above_tail e es q at h k le lt = h (suc k) (omega arith) (omega arith)

-- the first entry is less
passed : (e : Entry) (es : List Entry) (q : EntityId) (at : ℕ) → Below (e ∷ es) q (suc at) → entity_cmp q e.entity ≡ Greater
passed e es q at h = turned e.entity q (h 0 (omega arith))

tied : (e : Entry) (q : EntityId) → e.entity ≡ q → entity_cmp q e.entity ≡ Equal
tied e q h = ap (entity_cmp q) h ∙ tied_itself entity_total q

lookup_at : (es : List Entry) (at : ℕ) (q : EntityId) → at < length es → Below es q at → (entry_at es at).entity ≡ q → lookup (is_at (entity_cmp q)) (database_of es) ≡ Some (held_of (entry_at es at)).1
lookup_at [] at q lt below here = absurd (omega arith)
lookup_at (e ∷ es) zero q lt below here = ap (λ r. cond (is_eq r) (Some (held_of e).1) (lookup (is_at (entity_cmp q)) (database_of es))) (tied e q here)
lookup_at (e ∷ es) (suc at) q lt below here =
    ap (λ r. cond (is_eq r) (Some (held_of e).1) (lookup (is_at (entity_cmp q)) (database_of es))) (passed e es q at below)
    ∙ lookup_at es at q (omega arith) (below_tail e es q at below) here

lookup_none : (es : List Entry) (q : EntityId) → ((k : ℕ) → k < length es → is_eq (entity_cmp q (entry_at es k).entity) ≡ false) → lookup (is_at (entity_cmp q)) (database_of es) ≡ None
lookup_none [] q h = refl
lookup_none (e ∷ es) q h = ap (λ b. cond b (Some (held_of e).1) (lookup (is_at (entity_cmp q)) (database_of es))) (h 0 (omega arith)) ∙ lookup_none es q (λ k lt. h (suc k) (omega arith))

none_in_gap : (es : List Entry) (at : ℕ) (q : EntityId) → Below es q at → Above es q at → lookup (is_at (entity_cmp q)) (database_of es) ≡ None
none_in_gap es at q below above = lookup_none es q (λ k lt. elim (cases_lt k at) as (λ _. is_eq (entity_cmp q (entry_at es k).entity) ≡ false) [
  | inl less ↦ ap is_eq (turned (entry_at es k).entity q (below k less))
  | inr more ↦ ap is_eq (turned_back (entry_at es k).entity q (above k more lt))
])

set_at : (es : List Entry) (at : ℕ) (q : EntityId) (entry : Entry) (managed : Managed) → at < length es → Below es q at → (entry_at es at).entity ≡ q → held_of entry ≡ (q, managed) → set_value (is_at (entity_cmp q)) (database_of es) managed ≡ database_of (set es at entry)
set_at [] at q entry managed lt below here is = absurd (omega arith)
set_at (e ∷ es) zero q entry managed lt below here is =
    ap (λ r. cond (is_eq r) ((e.entity, managed) ∷ database_of es) (held_of e ∷ set_value (is_at (entity_cmp q)) (database_of es) managed)) (tied e q here)
    ∙ ap (λ (k : EntityId). (k, managed) ∷ database_of es) here ∙ ap (λ (x : EntityId × Managed). x ∷ database_of es) (sym is)
set_at (e ∷ es) (suc at) q entry managed lt below here is =
    ap (λ r. cond (is_eq r) ((e.entity, managed) ∷ database_of es) (held_of e ∷ set_value (is_at (entity_cmp q)) (database_of es) managed)) (passed e es q at below)
    ∙ ap (λ (xs : Database). held_of e ∷ xs) (set_at es at q entry managed (omega arith) (below_tail e es q at below) here is)

insert_at : (es : List Entry) (at : ℕ) (entry : Entry) → at ≤ length es → Below es entry.entity at → Above es entry.entity at → insert_entry entity_cmp (database_of es) entry.entity (held_of entry).1 ≡ database_of (insert es at entry)
insert_at [] zero entry le below above = refl
insert_at [] (suc at) entry le below above = absurd (omega arith)
insert_at (e ∷ es) zero entry le below above =
    ap (λ r. match_ordering r (held_of entry ∷ held_of e ∷ database_of es) ((e.entity, (held_of entry).1) ∷ database_of es) (held_of e ∷ insert_entry entity_cmp (database_of es) entry.entity (held_of entry).1)) (turned_back e.entity entry.entity (above 0 (omega arith) (omega arith)))
insert_at (e ∷ es) (suc at) entry le below above =
    ap (λ r. match_ordering r (held_of entry ∷ held_of e ∷ database_of es) ((e.entity, (held_of entry).1) ∷ database_of es) (held_of e ∷ insert_entry entity_cmp (database_of es) entry.entity (held_of entry).1)) (passed e es entry.entity at below)
    ∙ ap (λ (xs : Database). held_of e ∷ xs) (insert_at es at entry (omega arith) (below_tail e es entry.entity at below) (above_tail e es entry.entity at above))

remove_at : (es : List Entry) (at : ℕ) (q : EntityId) → at < length es → Below es q at → (entry_at es at).entity ≡ q → remove_entry (is_at (entity_cmp q)) (database_of es) ≡ database_of (remove es at)
remove_at [] at q lt below here = absurd (omega arith)
remove_at (e ∷ es) zero q lt below here = ap (λ r. cond (is_eq r) (database_of es) (held_of e ∷ remove_entry (is_at (entity_cmp q)) (database_of es))) (tied e q here)
remove_at (e ∷ es) (suc at) q lt below here =
    ap (λ r. cond (is_eq r) (database_of es) (held_of e ∷ remove_entry (is_at (entity_cmp q)) (database_of es))) (passed e es q at below)
    ∙ ap (λ (xs : Database). held_of e ∷ xs) (remove_at es at q (omega arith) (below_tail e es q at below) here)

-- the order stays
before_all : (q : EntityId) (es : List Entry) → ((k : ℕ) → k < length es → entity_cmp (entry_at es k).entity q ≡ Greater) → IsBefore q (keys_of es)
before_all q [] h = tt
before_all q (e ∷ es) h = (turned_back e.entity q (h 0 (omega arith)), before_all q es (λ k lt. h (suc k) (omega arith)))

before_insert : (one : EntityId) (es : List Entry) (at : ℕ) (entry : Entry) → IsBefore one (keys_of es) → entity_cmp one entry.entity ≡ Less → IsBefore one (keys_of (insert es at entry))
before_insert one es zero entry h less = (less, h)
before_insert one [] (suc at) entry h less = (less, tt)
before_insert one (e ∷ es) (suc at) entry h less = (h.0, before_insert one es at entry h.1 less)

ascending_insert : (es : List Entry) (at : ℕ) (entry : Entry) → IsAscending (keys_of es) → Below es entry.entity at → Above es entry.entity at → at ≤ length es → IsAscending (keys_of (insert es at entry))
ascending_insert es zero entry h below above le = (before_all entry.entity es (λ k lt. above k (omega arith) lt), h)
ascending_insert [] (suc at) entry h below above le = absurd (omega arith)
ascending_insert (e ∷ es) (suc at) entry h below above le = (
  before_insert e.entity es at entry h.0 (below 0 (omega arith)),
  ascending_insert es at entry h.1 (below_tail e es entry.entity at below) (above_tail e es entry.entity at above) (omega arith),
)

before_remove : (one : EntityId) (es : List Entry) (at : ℕ) → IsBefore one (keys_of es) → IsBefore one (keys_of (remove es at))
before_remove one [] zero h = tt
before_remove one [] (suc at) h = tt
before_remove one (e ∷ es) zero h = h.1
before_remove one (e ∷ es) (suc at) h = (h.0, before_remove one es at h.1)

ascending_remove : (es : List Entry) (at : ℕ) → IsAscending (keys_of es) → IsAscending (keys_of (remove es at))
ascending_remove [] zero h = tt
ascending_remove [] (suc at) h = tt
ascending_remove (e ∷ es) zero h = h.1
ascending_remove (e ∷ es) (suc at) h = (before_remove e.entity es at h.0, ascending_remove es at h.1)

-- counts
count_insert : (es : List Entry) (at : ℕ) (entry : Entry) → at ≤ length es → unit_made (keys_of (insert es at entry)) ≡ cond (is_unit_made entry.entity.class) 1 0 + unit_made (keys_of es)
count_insert es zero entry le = refl
count_insert [] (suc at) entry le = absurd (omega arith)
count_insert (e ∷ es) (suc at) entry le = omega (arith, count_insert es at entry (omega arith))

count_remove : (es : List Entry) (at : ℕ) → at < length es → cond (is_unit_made (entry_at es at).entity.class) 1 0 + unit_made (keys_of (remove es at)) ≡ unit_made (keys_of es)
count_remove [] at lt = absurd (omega arith)
count_remove (e ∷ es) zero lt = refl
count_remove (e ∷ es) (suc at) lt = omega (arith, count_remove es at (omega arith))

length_insert : (es : List Entry) (at : ℕ) (entry : Entry) → at ≤ length es → length (keys_of (insert es at entry)) ≡ length (keys_of es) + 1
length_insert es zero entry le = omega arith
length_insert [] (suc at) entry le = absurd (omega arith)
length_insert (e ∷ es) (suc at) entry le = omega (arith, length_insert es at entry (omega arith))

length_remove : (es : List Entry) (at : ℕ) → at < length es → length (keys_of (remove es at)) + 1 ≡ length (keys_of es)
length_remove [] at lt = absurd (omega arith)
length_remove (e ∷ es) zero lt = omega arith
length_remove (e ∷ es) (suc at) lt = omega (arith, length_remove es at (omega arith))

-- what a search ends at
pub found_at : (es : List Entry) (q : EntityId) (at : ℕ) → Finds (λ (e : Entry). e.entity) no_entry es q at → IsAt es q at
unfolding managed_of
found_at es q at f = record {
  in_range = f.in_range;
  here = f.here;
  before = f.before;
  is_held = lookup_at es at q f.in_range f.before f.here ∙ ap (λ (k : EntityId). Some (let m : Managed = record { maker = maker_of k.class; values = values_in k.class (entry_at es at).values } in m)) f.here;
}

pub gap_at : (es : List Entry) (q : EntityId) (low high : ℕ) → Narrows (λ (e : Entry). e.entity) no_entry es q low high → high ≤ low → IsGap es q low
unfolding managed_of
gap_at es q low high n le =
    let above : Above es q low = λ k from lt. n.above k (omega (arith, from, n.ordered, le)) lt in
    record { in_range = omega (arith, n.ordered, n.in_range); before = n.below; after = above; not_held = none_in_gap es low q n.below above }

-- entries put in one after the other
insert_end : (es : List Entry) (k : ℕ) (e : Entry) → k < length es → insert (take k es) k e ≡ take k es ++ e ∷ []
insert_end es zero e lt = refl
insert_end [] (suc k) e lt = absurd (omega arith)
insert_end (x ∷ xs) (suc k) e lt = ap (λ (l : List Entry). x ∷ l) (insert_end xs k e (omega arith))

set_end : (es : List Entry) (k : ℕ) (e : Entry) → k < length es → take (suc k) (set es k e) ≡ take k es ++ e ∷ []
set_end [] k e lt = absurd (omega arith)
set_end (x ∷ xs) zero e lt = refl
set_end (x ∷ xs) (suc k) e lt = ap (λ (l : List Entry). x ∷ l) (set_end xs k e (omega arith))

one_more : (es : List Entry) (k : ℕ) (e : Entry) → k < length es → e ≡ entry_at es k → take k es ++ e ∷ [] ≡ take (k + 1) es
one_more es k e lt is =
    let next : suc k ≡ k + 1 = omega arith in
    ap (λ (x : Entry). take k es ++ x ∷ []) is ∙ sym (take-suc es k no_entry lt) ∙ ap (λ n. take n es) next

pub filled_next : (list entries : List Entry) (at : ℕ) (e : Entry) → at < length entries → e ≡ entry_at entries at → list ≡ take at entries → insert list at e ≡ take (at + 1) entries
filled_next list entries at e lt is so_far = ap (λ (l : List Entry). insert l at e) so_far ∙ insert_end entries at e lt ∙ one_more entries at e lt is

pub written_next : (list entries : List Entry) (at : ℕ) (e : Entry) → at < length entries → at < length list → e ≡ entry_at entries at → take at list ≡ take at entries → take (at + 1) (set list at e) ≡ take (at + 1) entries
written_next list entries at e lt lt' is so_far =
    let next : at + 1 ≡ suc at = omega arith in
    ap (λ n. take n (set list at e)) next ∙ set_end list at e lt' ∙ ap (λ (l : List Entry). l ++ e ∷ []) so_far ∙ one_more entries at e lt is

pub inserts : (es : List Entry) (at : ℕ) (entry : Entry) → IsAscending (keys_of es) → IsGap es entry.entity at → Inserts es (insert es at entry) entry
unfolding with_entity
inserts es at entry h gap = record {
  map = sym (insert_at es at entry gap.in_range gap.before gap.after);
  ascending = ascending_insert es at entry h gap.before gap.after gap.in_range;
  made = count_insert es at entry gap.in_range;
  count = length_insert es at entry gap.in_range;
}

pub inserts_as : {F : Type 0} (r : Result (Unit {0}) F) (inside es new : List Entry) (at : ℕ) (entry : Entry) → inside ≡ es → OnOk r (new ≡ insert inside at entry) → IsAscending (keys_of es) → IsGap es entry.entity at → OnOk r (Inserts es new entry)
inserts_as (Err f) inside es new at entry same is h gap = tt
inserts_as (Ok u) inside es new at entry same is h gap =
    subst (λ (l : List Entry). Inserts es l entry) (sym (is ∙ ap (λ (l : List Entry). insert l at entry) same)) (inserts es at entry h gap)

pub removes : (es : List Entry) (at : ℕ) (q : EntityId) → IsAscending (keys_of es) → IsAt es q at → Removes es (remove es at) q
unfolding without_entity
removes es at q h is = record {
  map = sym (remove_at es at q is.in_range is.before is.here);
  ascending = ascending_remove es at h;
  made = subst (λ (k : EntityId). cond (is_unit_made k.class) 1 0 + unit_made (keys_of (remove es at)) ≡ unit_made (keys_of es)) is.here (count_remove es at is.in_range);
  count = length_remove es at is.in_range;
}

-- to write the values of an entity that is there
pub written_at : (es : List Entry) (at : ℕ) (q : EntityId) (values : List ℕ) → IsAt es q at → database_of (set es at record { entity = q; values = values }) ≡ with_values q (values_in q.class values) (database_of es)
unfolding with_values
written_at es at q values is =
    sym (ap (λ o. option_map_or (λ (managed : Managed). set_value (is_at (entity_cmp q)) (database_of es) (record managed { values = values_in q.class values })) o (database_of es)) is.is_held
    ∙ set_at es at q (record { entity = q; values = values }) (record { maker = maker_of q.class; values = values_in q.class values }) is.in_range is.before is.here refl)

pub written_keys : (es : List Entry) (at : ℕ) (q : EntityId) (values : List ℕ) → IsAt es q at → keys_of (set es at record { entity = q; values = values }) ≡ keys_of es
written_keys es at q values is = map-set_same (λ (entry : Entry). entry.entity) es at (record { entity = q; values = values }) no_entry (sym is.here)

-- an entity that isn't there has no values to write
pub unwritten : (es : List Entry) (q : EntityId) (values : Values) → managed_of q (database_of es) ≡ None → database_of es ≡ with_values q values (database_of es)
unfolding with_values
unwritten es q values none = sym (ap (λ o. option_map_or (λ (managed : Managed). set_value (is_at (entity_cmp q)) (database_of es) (record managed { values = values })) o (database_of es)) none)

-- the values of an entity that is there, and of one that isn't
pub values_at : (es : List Entry) (at : ℕ) (q : EntityId) → IsAt es q at → values_in q.class (entry_at es at).values ≡ values_of q (database_of es)
unfolding values_of
values_at es at q is = sym (ap (λ o. option_map_or (λ (managed : Managed). managed.values) o (zeros_of q.class)) is.is_held)

pub values_absent : (es : List Entry) (q : EntityId) → managed_of q (database_of es) ≡ None → zeros_of q.class ≡ values_of q (database_of es)
unfolding values_of
values_absent es q none = sym (ap (λ o. option_map_or (λ (managed : Managed). managed.values) o (zeros_of q.class)) none)
