-- How a copy and what is wanted stand to each other.
use Rattle.std.specs.Prelude.{◌≡◌, ℕ, ◌+◌, Bool, List, [], ◌∷◌, length, map, Option, Some, None, if◌then◌else◌}
use Rattle.std.specs.BTreeMap.{is_at}
use Rattle.omci_types.specs.declared.EntityId.{EntityId}
use Rattle.mib_spec.specs.Database.{entity_cmp}
use Rattle.upload_spec.specs.Pieces.{Copy}
use Rattle.plan_spec.specs.Steps.{stays, is_not_made, is_new, entities_where}
use Rattle.plan_reconcile.specs.declared.items.Item.{Item}
use Rattle.plan_reconcile.specs.declared.matches.Matches.{Matches}
use Rattle.plan_reconcile.specs.Items.{wanted_of}

-- the first place of the entity in a copy whose first entry is in this place
abbrev pub place_from : EntityId → ℕ → Copy → Option ℕ
place_from one place [] = None
place_from one place (entry ∷ rest) = if is_at (entity_cmp one) entry.0 then Some place
    else place_from one (place + 1) rest

abbrev pub places_from : List Item → ℕ → Copy → List (Option ℕ)
places_from want place have = map (λ item. place_from item.entity place have) want

abbrev pub places_of : Copy → List Item → List (Option ℕ)
places_of have want = places_from want 0 have

-- whether each entity of the copy stays
abbrev pub staying : List Item → Copy → List Bool
staying want have = map (λ entry. stays (wanted_of want) entry.0) have

pub record AreMatched (have : Copy) (want : List Item) (matches : Matches) : Type 0 where
  pub places_are : matches.places.items ≡ places_of have want
  pub flags_are : matches.stays.items ≡ staying want have
  pub count_is : matches.count ≡ length (entities_where (stays (wanted_of want)) have)

-- how many are new, where none is one that only the unit can make
pub record AreNew (have want : Copy) (count : ℕ) : Type 0 where
  pub made : entities_where (is_not_made have) want ≡ []
  pub new_are : count ≡ length (entities_where (is_new have) want)

-- the first one that only the unit can make
pub record IsFirstNotMade (have want : Copy) (one : EntityId) : Type 0 where
  pub rest : List EntityId
  pub first : entities_where (is_not_made have) want ≡ one ∷ rest
