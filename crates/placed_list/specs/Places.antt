-- Items that stand in places, and the order of their places.
use Rattle.std.specs.Prelude.{◌≡◌, ℕ, ◌<◌, ◌≤◌, List, [], ◌∷◌, length, take, drop, slice_index_or}
use Rattle.std.specs.List.{All, IsDistinct, flat_map}
use Rattle.std.proofs.Math.Dec.{eqb}

abbrev pub place_at : List ℕ → ℕ → ℕ
place_at order k = slice_index_or order k 0

-- the item in a place, none in a place past the end
abbrev pub item_in : {T : Type 0} → List T → ℕ → List T
item_in items place = take 1 (drop place items)

-- the items in these places
abbrev pub in_order : {T : Type 0} → List T → List ℕ → List T
in_order items order = flat_map (item_in items) order

-- each of so many places, once
pub record IsOrder (size : ℕ) (order : List ℕ) : Type 0 where
  pub same : length order ≡ size
  pub inside : All (λ place. place < size) order
  pub distinct : IsDistinct eqb order

-- of the places in order, so many are those of items that are there
pub record IsIndex {T : Type 0} (items : List T) (order : List ℕ) (count : ℕ) : Type 0 where
  pub places : IsOrder (length items) order
  pub used : count ≤ length items

-- the first free place has the item; what was there is as it was
pub record Lodges {T : Type 0} (old new : List T) (order order' : List ℕ) (count : ℕ) (item : T)
    : Type 0 where
  pub places : IsOrder (length new) order'
  pub room : count < length new
  pub front : take count order' ≡ take count order
  pub kept : in_order new (take count order) ≡ in_order old (take count order)
  pub here : item_in new (place_at order' count) ≡ item ∷ []
