-- Of a database: of the classes whose instances the unit makes, it holds no other entity than those
-- that the unit makes at its start.
use Rattle.std.specs.Prelude.{◌≡◌, Bool, true}
use Rattle.std.specs.List.{list_any}
use Rattle.std.specs.BTreeMap.{is_at}
use Rattle.omci_types.specs.declared.EntityId.{EntityId}
use Rattle.mib_spec.specs.Database.{Database, entity_cmp, is_held, unit_entities}
use Rattle.mib_spec.specs.Requests.{is_unit_made}

-- whether the unit makes the entity at its start
unfoldable pub is_made : EntityId → Bool
is_made one = list_any (is_at (entity_cmp one)) unit_entities

pub record HoldsOnlyMade (database : Database) : Type 0 where
  pub only : (one : EntityId) → is_held one database ≡ true → is_unit_made one.class ≡ true
      → is_made one ≡ true
