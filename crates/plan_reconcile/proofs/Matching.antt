-- The places of the wanted entities in a copy, looked for from its end.
use Rattle.std.proofs.Common.{◌≡◌, ℕ, zero, suc, ◌+◌, ◌<◌, Bool, true, false, cond, List, [], ◌∷◌, length, set, get_or, replicate, Option, Some, None, is_some, refl, sym, ap, subst, ◌∙◌, inl, inr, arith}
use Rattle.std.specs.declared.cmp.Ordering.TheVariants.{Less}
use Rattle.std.specs.Ordering.{is_eq}
use Rattle.std.specs.Map.{lookup}
use Rattle.std.specs.BTreeMap.{is_at}
use Rattle.std.specs.Cmp.{tied_itself}
use Rattle.std.proofs.lemmas.Bool.{cases_lt}
use Rattle.omci_types.specs.declared.EntityId.{EntityId}
use Rattle.mib_spec.specs.Database.{Values, entity_cmp}
use Rattle.upload_spec.specs.Pieces.{Copy}
use Rattle.upload_spec.specs.Copies.{copied, is_copied}
use Rattle.mib_laws.proofs.Others.{entity_total}
use Rattle.mib_store.specs.Entries.{IsBefore, IsAscending}
use Rattle.mib_store.proofs.Order.{turned}
use Rattle.plan_reconcile.specs.declared.items.Item.{Item}
use Rattle.plan_reconcile.specs.Items.{keys_of, IsGap, item_at}
use Rattle.plan_reconcile.specs.Matched.{place_from, places_from}

module _ (q : EntityId) (values : Values) (place : ℕ) (have : Copy) where
  abbrev pub next : Copy
  next = (q, values) ∷ have

  differs : (item : Item) → is_eq (entity_cmp item.entity q) ≡ false → place_from item.entity (place + 1) have ≡ place_from item.entity place next
  differs item h = sym (ap (λ b. cond b (Some place) (place_from item.entity (place + 1) have)) h)

  less : (item : Item) → entity_cmp item.entity q ≡ Less → place_from item.entity (place + 1) have ≡ place_from item.entity place next
  less item h = differs item (ap is_eq h)

  -- no item has the entity
  pub missed : (items : List Item) → ((k : ℕ) → k < length items → is_eq (entity_cmp (item_at items k).entity q) ≡ false) → places_from items (place + 1) have ≡ places_from items place next
  missed [] h = refl
  missed (e ∷ es) h =
      ap (λ (o : Option ℕ). o ∷ places_from es (place + 1) have) (differs e (h 0 (omega arith)))
      ∙ ap (λ (l : List (Option ℕ)). place_from e.entity place next ∷ l) (missed es (λ k lt. h (suc k) (omega arith)))

  before_all : (one : EntityId) (items : List Item) → IsBefore one (keys_of items) → one ≡ q → (k : ℕ) → k < length items → is_eq (entity_cmp (item_at items k).entity q) ≡ false
  before_all one [] h is k lt = absurd (omega arith)
  before_all one (e ∷ es) h is zero lt = ap is_eq (turned q e.entity (subst (λ (x : EntityId). entity_cmp x e.entity ≡ Less) is h.0))
  before_all one (e ∷ es) h is (suc k) lt = before_all one es h.1 is k (omega arith)

  pub hit : (items : List Item) (at : ℕ) → IsAscending (keys_of items) → at < length items → (item_at items at).entity ≡ q → ((k : ℕ) → k < at → entity_cmp (item_at items k).entity q ≡ Less)
      → set (places_from items (place + 1) have) at (Some place) ≡ places_from items place next
  hit [] at h lt here before = absurd (omega arith)
  hit (e ∷ es) zero h lt here before =
      let same : is_eq (entity_cmp e.entity q) ≡ true = ap (λ (x : EntityId). is_eq (entity_cmp e.entity x)) (sym here) ∙ ap is_eq (tied_itself entity_total e.entity) in
      ap (λ (l : List (Option ℕ)). Some place ∷ l) (missed es (before_all e.entity es h.0 here))
      ∙ sym (ap (λ b. cond b (Some place) (place_from e.entity (place + 1) have) ∷ places_from es place next) same)
  hit (e ∷ es) (suc at) h lt here before =
      ap (λ (o : Option ℕ). o ∷ set (places_from es (place + 1) have) at (Some place)) (less e (before 0 (omega arith)))
      ∙ ap (λ (l : List (Option ℕ)). place_from e.entity place next ∷ l) (hit es at h.1 (omega arith) here (λ k lt. before (suc k) (omega (arith, lt))))

pub in_gap : (items : List Item) (q : EntityId) (at : ℕ) → IsGap items q at → (k : ℕ) → k < length items → is_eq (entity_cmp (item_at items k).entity q) ≡ false
in_gap items q at gap k lt = elim (cases_lt k at) as (λ _. is_eq (entity_cmp (item_at items k).entity q) ≡ false) [
  | inl before ↦ ap is_eq (gap.before k before)
  | inr after ↦ ap is_eq (gap.after k after lt)
]

-- nothing is found in nothing
pub none_found : (items : List Item) (place : ℕ) → replicate (length items) None ≡ places_from items place []
none_found [] place = refl
none_found (e ∷ es) place = ap (λ (l : List (Option ℕ)). None ∷ l) (none_found es place)

-- a place is found where the entity is
pub found_is_copied : (one : EntityId) (place : ℕ) (have : Copy) → is_some (place_from one place have) ≡ is_copied one have
unfolding copied
found_is_copied one place [] = refl
found_is_copied one place (e ∷ es) =
    elim (is_at (entity_cmp one) e.0) as (λ b. is_some (cond b (Some place) (place_from one (place + 1) es)) ≡ is_some (cond b (Some e.1) (lookup (is_at (entity_cmp one)) es))) [
      | true ↦ refl
      | false ↦ found_is_copied one (place + 1) es
    ]

-- and there stands what the copy has of it
pub record StandsAt (one : EntityId) (have : Copy) (place : ℕ) : Type 0 where
  pub in_range : place < length have
  pub is_copied : (other : EntityId × Values) → copied one have ≡ Some (get_or have place other).1

pub found_stands : (one : EntityId) (first place : ℕ) (have : Copy) → place_from one first have ≡ Some place → (n : ℕ) × (first + n ≡ place) × StandsAt one have n
unfolding copied
found_stands one first place [] h = absurd cc
found_stands one first place (e ∷ es) h = go (is_at (entity_cmp one) e.0) refl h (λ k. found_stands one (first + 1) place es k)
  where
    same : (a b : ℕ) → Some a ≡ Some b → a ≡ b
    same a b e = cc

    go : (b : Bool) → is_at (entity_cmp one) e.0 ≡ b → cond b (Some first) (place_from one (first + 1) es) ≡ Some place
        → (place_from one (first + 1) es ≡ Some place → (n : ℕ) × (first + 1 + n ≡ place) × StandsAt one es n) → (n : ℕ) × (first + n ≡ place) × StandsAt one (e ∷ es) n
    go true is h later = (
      0,
      omega (arith, same first place h),
      record {
        in_range = omega arith;
        is_copied = λ other. ap (λ b. cond b (Some e.1) (lookup (is_at (entity_cmp one)) es)) is;
      },
    )
    go false is h later =
        let found = later h in (
          suc found.0,
          omega (arith, found.1),
          record {
            in_range = omega (arith, found.2.in_range);
            is_copied = λ other. ap (λ b. cond b (Some e.1) (lookup (is_at (entity_cmp one)) es)) is ∙ found.2.is_copied other;
          },
        )
