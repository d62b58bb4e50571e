-- What stands in a place of the items, and what an insert there does to what is wanted.
use Rattle.std.proofs.Common.{◌≡◌, ℕ, zero, suc, ◌<◌, ◌≤◌, false, cond, List, [], ◌∷◌, length, Some, None, refl, sym, ap, ◌∙◌, inl, inr, arith}
use Rattle.std.specs.List.{insert}
use Rattle.std.specs.declared.cmp.Ordering.TheVariants.{Less, Equal, Greater}
use Rattle.std.specs.Ordering.{is_eq, match_ordering}
use Rattle.std.specs.Cmp.{tied_itself}
use Rattle.std.specs.Map.{lookup}
use Rattle.std.specs.BTreeMap.{insert_entry, is_at}
use Rattle.std.proofs.lemmas.Bool.{cases_lt}
use Rattle.omci_types.specs.declared.EntityId.{EntityId}
use Rattle.mib_spec.specs.Database.{entity_cmp}
use Rattle.upload_spec.specs.Pieces.{Copy}
use Rattle.upload_spec.specs.Copies.{copied, with_copied}
use Rattle.plan_reconcile.specs.declared.items.Item.{Item}
use Rattle.mib_store.specs.Entries.{IsBefore, IsAscending}
use Rattle.plan_reconcile.specs.Items.{AreItems, IsItem, item_as, wanted_of, keys_of, IsAt, IsGap, item_at, no_item}
use Rattle.mib_laws.proofs.Others.{entity_total}
use Rattle.mib_store.proofs.Order.{turned, turned_back, Narrows, Finds}

-- those before a place are less than the entity, as the index says
abbrev pub Below : List Item → EntityId → ℕ → Type 0
Below entries q at = (k : ℕ) → k < at → entity_cmp (item_at entries k).entity q ≡ Less

abbrev pub Above : List Item → EntityId → ℕ → Type 0
Above entries q at = (k : ℕ) → at ≤ k → k < length entries → entity_cmp (item_at entries k).entity q ≡ Greater

below_tail : (e : Item) (es : List Item) (q : EntityId) (at : ℕ) → Below (e ∷ es) q (suc at) → Below es q at
below_tail e es q at h k lt = h (suc k) (omega arith)

above_tail : (e : Item) (es : List Item) (q : EntityId) (at : ℕ) → Above (e ∷ es) q (suc at) → Above es q at
above_tail e es q at h k le lt = h (suc k) (omega arith) (omega arith)

-- the first entry is less
passed : (e : Item) (es : List Item) (q : EntityId) (at : ℕ) → Below (e ∷ es) q (suc at) → entity_cmp q e.entity ≡ Greater
passed e es q at h = turned e.entity q (h 0 (omega arith))

tied : (e : Item) (q : EntityId) → e.entity ≡ q → entity_cmp q e.entity ≡ Equal
tied e q h = ap (entity_cmp q) h ∙ tied_itself entity_total q

lookup_at : (es : List Item) (at : ℕ) (q : EntityId) → at < length es → Below es q at → (item_at es at).entity ≡ q → lookup (is_at (entity_cmp q)) (wanted_of es) ≡ Some (item_as (item_at es at)).1
lookup_at [] at q lt below here = absurd (omega arith)
lookup_at (e ∷ es) zero q lt below here = ap (λ r. cond (is_eq r) (Some (item_as e).1) (lookup (is_at (entity_cmp q)) (wanted_of es))) (tied e q here)
lookup_at (e ∷ es) (suc at) q lt below here =
    ap (λ r. cond (is_eq r) (Some (item_as e).1) (lookup (is_at (entity_cmp q)) (wanted_of es))) (passed e es q at below)
    ∙ lookup_at es at q (omega arith) (below_tail e es q at below) here

lookup_none : (es : List Item) (q : EntityId) → ((k : ℕ) → k < length es → is_eq (entity_cmp q (item_at es k).entity) ≡ false) → lookup (is_at (entity_cmp q)) (wanted_of es) ≡ None
lookup_none [] q h = refl
lookup_none (e ∷ es) q h = ap (λ b. cond b (Some (item_as e).1) (lookup (is_at (entity_cmp q)) (wanted_of es))) (h 0 (omega arith)) ∙ lookup_none es q (λ k lt. h (suc k) (omega arith))

none_in_gap : (es : List Item) (at : ℕ) (q : EntityId) → Below es q at → Above es q at → lookup (is_at (entity_cmp q)) (wanted_of es) ≡ None
none_in_gap es at q below above = lookup_none es q (λ k lt. elim (cases_lt k at) as (λ _. is_eq (entity_cmp q (item_at es k).entity) ≡ false) [
  | inl less ↦ ap is_eq (turned (item_at es k).entity q (below k less))
  | inr more ↦ ap is_eq (turned_back (item_at es k).entity q (above k more lt))
])

insert_at : (es : List Item) (at : ℕ) (entry : Item) → at ≤ length es → Below es entry.entity at → Above es entry.entity at → insert_entry entity_cmp (wanted_of es) entry.entity (item_as entry).1 ≡ wanted_of (insert es at entry)
insert_at [] zero entry le below above = refl
insert_at [] (suc at) entry le below above = absurd (omega arith)
insert_at (e ∷ es) zero entry le below above =
    ap (λ r. match_ordering r (item_as entry ∷ item_as e ∷ wanted_of es) ((e.entity, (item_as entry).1) ∷ wanted_of es) (item_as e ∷ insert_entry entity_cmp (wanted_of es) entry.entity (item_as entry).1)) (turned_back e.entity entry.entity (above 0 (omega arith) (omega arith)))
insert_at (e ∷ es) (suc at) entry le below above =
    ap (λ r. match_ordering r (item_as entry ∷ item_as e ∷ wanted_of es) ((e.entity, (item_as entry).1) ∷ wanted_of es) (item_as e ∷ insert_entry entity_cmp (wanted_of es) entry.entity (item_as entry).1)) (passed e es entry.entity at below)
    ∙ ap (λ (xs : Copy). item_as e ∷ xs) (insert_at es at entry (omega arith) (below_tail e es entry.entity at below) (above_tail e es entry.entity at above))

-- the order stays
before_all : (q : EntityId) (es : List Item) → ((k : ℕ) → k < length es → entity_cmp (item_at es k).entity q ≡ Greater) → IsBefore q (keys_of es)
before_all q [] h = tt
before_all q (e ∷ es) h = (turned_back e.entity q (h 0 (omega arith)), before_all q es (λ k lt. h (suc k) (omega arith)))

before_insert : (one : EntityId) (es : List Item) (at : ℕ) (entry : Item) → IsBefore one (keys_of es) → entity_cmp one entry.entity ≡ Less → IsBefore one (keys_of (insert es at entry))
before_insert one es zero entry h less = (less, h)
before_insert one [] (suc at) entry h less = (less, tt)
before_insert one (e ∷ es) (suc at) entry h less = (h.0, before_insert one es at entry h.1 less)

ascending_insert : (es : List Item) (at : ℕ) (entry : Item) → IsAscending (keys_of es) → Below es entry.entity at → Above es entry.entity at → at ≤ length es → IsAscending (keys_of (insert es at entry))
ascending_insert es zero entry h below above le = (before_all entry.entity es (λ k lt. above k (omega arith) lt), h)
ascending_insert [] (suc at) entry h below above le = absurd (omega arith)
ascending_insert (e ∷ es) (suc at) entry h below above le = (
  before_insert e.entity es at entry h.0 (below 0 (omega arith)),
  ascending_insert es at entry h.1 (below_tail e es entry.entity at below) (above_tail e es entry.entity at above) (omega arith),
)

-- what a search ends at
pub found_at : (es : List Item) (q : EntityId) (at : ℕ) → Finds (λ (p : Item). p.entity) no_item es q at → IsAt es q at
unfolding copied
found_at es q at f = record { in_range = f.in_range; here = f.here; before = f.before; is_wanted = lookup_at es at q f.in_range f.before f.here }

pub gap_at : (es : List Item) (q : EntityId) (low high : ℕ) → Narrows (λ (p : Item). p.entity) no_item es q low high → high ≤ low → IsGap es q low
unfolding copied
gap_at es q low high n le =
    let above : Above es q low = λ k from lt. n.above k (omega (arith, from, n.ordered, le)) lt in
    record { in_range = omega (arith, n.ordered, n.in_range); before = n.below; after = above; not_wanted = none_in_gap es low q n.below above }

pub inserted : (es : List Item) (at : ℕ) (item : Item) → IsGap es item.entity at → wanted_of (insert es at item) ≡ with_copied item.entity (item_as item).1 (wanted_of es)
unfolding with_copied
inserted es at item gap = sym (insert_at es at item gap.in_range gap.before gap.after)

pub inserted_keys : (es : List Item) (at : ℕ) (item : Item) → IsAscending (keys_of es) → IsGap es item.entity at → IsAscending (keys_of (insert es at item))
inserted_keys es at item h gap = ascending_insert es at item h gap.before gap.after gap.in_range

pub each_at : (es : List Item) (at : ℕ) → at < length es → AreItems es → IsItem (item_at es at)
each_at [] at lt h = absurd (omega arith)
each_at (e ∷ es) zero lt h = h.0
each_at (e ∷ es) (suc at) lt h = each_at es at (omega arith) h.1

pub each_inserted : (es : List Item) (at : ℕ) (item : Item) → IsItem item → AreItems es → AreItems (insert es at item)
each_inserted es zero item known h = (known, h)
each_inserted [] (suc at) item known h = (known, tt)
each_inserted (e ∷ es) (suc at) item known h = (h.0, each_inserted es at item known h.1)
