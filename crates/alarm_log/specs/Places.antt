-- Where an entity stands among entities in ascending order.
use Rattle.std.specs.Prelude.{◌≡◌, ℕ, ◌<◌, ◌≤◌, length, slice_index_or, Some, None}
use Rattle.std.specs.declared.cmp.Ordering.TheVariants.{Less, Greater}
use Rattle.omci_types.specs.declared.EntityId.{EntityId}
use Rattle.mib_spec.specs.Database.{entity, entity_cmp}
use Rattle.alarm_spec.specs.Alarms.{Alarm, Alarms, clear_bitmap, bitmap_found}

-- what stands in no place
abbrev pub no_alarm : Alarm
no_alarm = (entity 0 0, clear_bitmap)

abbrev pub alarm_at : Alarms → ℕ → Alarm
alarm_at alarms place = slice_index_or alarms place no_alarm

-- the entity stands in this place: those before it are less
pub record IsAt (alarms : Alarms) (one : EntityId) (at : ℕ) : Type 0 where
  pub in_range : at < length alarms
  pub here : (alarm_at alarms at).0 ≡ one
  pub before : (k : ℕ) → k < at → entity_cmp (alarm_at alarms k).0 one ≡ Less
  pub found : bitmap_found one alarms ≡ Some (alarm_at alarms at).1

-- the entity isn't there and would go to this place
pub record IsGap (alarms : Alarms) (one : EntityId) (at : ℕ) : Type 0 where
  pub in_range : at ≤ length alarms
  pub before : (k : ℕ) → k < at → entity_cmp (alarm_at alarms k).0 one ≡ Less
  pub after : (k : ℕ) → at ≤ k → k < length alarms → entity_cmp (alarm_at alarms k).0 one ≡ Greater
  pub not_found : bitmap_found one alarms ≡ None
