-- The entities that may have alarms: those with alarms of the ones that the unit makes at its
-- start.
use Rattle.std.specs.Prelude.{◌≡◌, Bool, true, List, [], ◌∷◌}
use Rattle.std.specs.List.{list_any, filter}
use Rattle.std.specs.BTreeMap.{is_at}
use Rattle.omci_types.specs.declared.EntityId.{EntityId}
use Rattle.mib_spec.specs.Database.{entity_cmp, unit_entities}
use Rattle.alarm_spec.specs.Alarms.{Alarms, IsAscending}
use Rattle.unit_spec.specs.Noticing.{has_alarms}

-- four Ethernet ports, the ONU-G and two T-CONTs
abbrev pub alarm_entities : List EntityId
alarm_entities = filter (λ one. has_alarms one.class) unit_entities

abbrev pub is_among : List EntityId → EntityId → Bool
is_among entities one = list_any (is_at (entity_cmp one)) entities

unfoldable pub may_have : EntityId → Bool
may_have one = is_among alarm_entities one

abbrev pub AreAmong : List EntityId → Alarms → Type 0
AreAmong entities [] = Unit {0}
AreAmong entities (one ∷ rest) = (is_among entities one.0 ≡ true) × AreAmong entities rest

-- in order, each of an entity that may have alarms
pub record AreOwn (alarms : Alarms) : Type 0 where
  pub ascending : IsAscending alarms
  pub among : AreAmong alarm_entities alarms
