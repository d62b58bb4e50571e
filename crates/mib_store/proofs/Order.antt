-- Items in ascending order of their entities, and a search among them.
use Rattle.std.proofs.Common.{◌≡◌, ℕ, zero, suc, ◌+◌, ◌<◌, ◌≤◌, List, [], ◌∷◌, length, map, get_or, ap, subst, ◌∙◌, inl, inr, arith}
use Rattle.std.specs.declared.cmp.Ordering.TheVariants.{Less, Equal, Greater}
use Rattle.std.specs.Ordering.{ordering_reverse}
use Rattle.std.proofs.lemmas.Bool.{cases_lt}
use Rattle.omci_types.specs.declared.EntityId.{EntityId}
use Rattle.mib_spec.specs.Database.{entity_cmp}
use Rattle.mib_laws.proofs.Others.{entity_total, entity_exact}
use Rattle.mib_store.specs.Entries.{IsBefore, IsAscending}

pub turned : (a b : EntityId) → entity_cmp a b ≡ Less → entity_cmp b a ≡ Greater
turned a b h = entity_total.antisymm b a ∙ ap ordering_reverse h

pub turned_back : (a b : EntityId) → entity_cmp a b ≡ Greater → entity_cmp b a ≡ Less
turned_back a b h = entity_total.antisymm b a ∙ ap ordering_reverse h

module _ {A : Type 0} (entity_of : A → EntityId) (none : A) where
  -- the entity of the item in a place
  abbrev pub there : List A → ℕ → EntityId
  there items k = entity_of (get_or items k none)

  -- an entity before all is before the one in each place
  is_before_at : (one : EntityId) (items : List A) (j : ℕ) → IsBefore one (map entity_of items) → j < length items → entity_cmp one (there items j) ≡ Less
  is_before_at one [] j h lt = absurd (omega arith)
  is_before_at one (e ∷ es) zero h lt = h.0
  is_before_at one (e ∷ es) (suc j) h lt = is_before_at one es j h.1 (omega arith)

  pub ascending_at : (items : List A) (i j : ℕ) → IsAscending (map entity_of items) → i < j → j < length items → entity_cmp (there items i) (there items j) ≡ Less
  ascending_at [] i j h lt in_range = absurd (omega arith)
  ascending_at (e ∷ es) i zero h lt in_range = absurd (omega arith)
  ascending_at (e ∷ es) zero (suc j) h lt in_range = is_before_at (entity_of e) es j h.0 (omega arith)
  ascending_at (e ∷ es) (suc i) (suc j) h lt in_range = ascending_at es i j h.1 (omega arith) (omega arith)

  -- how far a search has come: the entity is in none of the places before the low one or from the high
  -- one on
  pub record Narrows (items : List A) (q : EntityId) (low high : ℕ) : Type 0 where
    pub ordered : low ≤ high
    pub in_range : high ≤ length items
    pub below : (k : ℕ) → k < low → entity_cmp (there items k) q ≡ Less
    pub above : (k : ℕ) → high ≤ k → k < length items → entity_cmp (there items k) q ≡ Greater

  pub narrows_all : (items : List A) (q : EntityId) (size : ℕ) → size ≡ length items → Narrows items q 0 size
  narrows_all items q size is = record {
    ordered = omega arith;
    in_range = omega (arith, is);
    below = λ k lt. absurd (omega (arith, lt));
    above = λ k le lt. absurd (omega (arith, le, lt, is));
  }

  pub narrows_up : (items : List A) (q : EntityId) (low high middle : ℕ) → IsAscending (map entity_of items) → Narrows items q low high → low ≤ middle → middle < high → entity_cmp (there items middle) q ≡ Less → Narrows items q (middle + 1) high
  narrows_up items q low high middle h n le lt less = record {
    ordered = omega (arith, lt);
    in_range = n.in_range;
    below = λ k small. elim (cases_lt k middle) as (λ _. entity_cmp (there items k) q ≡ Less) [
      | inl before ↦ entity_total.trans (there items k) (there items middle) q (ascending_at items k middle h before (omega (arith, lt, n.in_range))) less
      | inr from ↦ let same : middle ≡ k = omega (arith, small, from) in subst (λ j. entity_cmp (there items j) q ≡ Less) same less
    ];
    above = n.above;
  }

  pub narrows_down : (items : List A) (q : EntityId) (low high middle : ℕ) → IsAscending (map entity_of items) → Narrows items q low high → low ≤ middle → middle < high → entity_cmp (there items middle) q ≡ Greater → Narrows items q low middle
  narrows_down items q low high middle h n le lt more = record {
    ordered = le;
    in_range = omega (arith, lt, n.in_range);
    below = n.below;
    above = λ k from in_range. elim (cases_lt middle k) as (λ _. entity_cmp (there items k) q ≡ Greater) [
      | inl after ↦ turned q (there items k) (entity_total.trans q (there items middle) (there items k) (turned_back (there items middle) q more) (ascending_at items middle k h after in_range))
      | inr same_or ↦ let same : middle ≡ k = omega (arith, from, same_or) in subst (λ j. entity_cmp (there items j) q ≡ Greater) same more
    ];
  }

  -- the search has found the entity
  pub record Finds (items : List A) (q : EntityId) (at : ℕ) : Type 0 where
    pub in_range : at < length items
    pub here : there items at ≡ q
    pub before : (k : ℕ) → k < at → entity_cmp (there items k) q ≡ Less

  pub finds : (items : List A) (q : EntityId) (low high middle : ℕ) → IsAscending (map entity_of items) → Narrows items q low high → middle < high → entity_cmp (there items middle) q ≡ Equal → Finds items q middle
  finds items q low high middle h n lt equal =
      let here : there items middle ≡ q = entity_exact _ _ equal in
      record {
        in_range = omega (arith, lt, n.in_range);
        here = here;
        before = λ k before. subst (λ (x : EntityId). entity_cmp (there items k) x ≡ Less) here (ascending_at items k middle h before (omega (arith, lt, n.in_range)));
      }
