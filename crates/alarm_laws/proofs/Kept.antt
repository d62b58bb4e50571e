-- What a change of the unit's log keeps.
use Rattle.std.proofs.Common.{◌≡◌, ℕ, ◌+◌, ◌<◌, ◌≤◌, ◌^◌, Bool, true, false, List, length, arith}
use Rattle.omci_types.specs.declared.EntityId.{EntityId}
use Rattle.alarm_spec.specs.declared.TheConstants.{BITMAP_BYTES}
use Rattle.alarm_spec.specs.Alarms.{IsWhole}
use Rattle.alarm_spec.specs.Log.{Log, unless_same, is_same, change}
use Rattle.alarm_laws.proofs.Maps.{ascending_with_bitmap, raised_with_bitmap, length_with_bitmap}

whole_by : (b : Bool) (one : EntityId) (bitmap : List ℕ) (log : Log) → one.class < 2 ^ 16 → one.instance < 2 ^ 16 → length bitmap ≡ BITMAP_BYTES → IsWhole log.alarms → IsWhole (unless_same b one bitmap log).log.alarms
whole_by true one bitmap log class instance bytes whole = whole
whole_by false one bitmap log class instance bytes whole = record {
  ascending = ascending_with_bitmap one bitmap log.alarms whole.ascending;
  raised = raised_with_bitmap one bitmap log.alarms (λ raised. record { class = class; instance = instance; bytes = bytes; raised = raised }) whole.raised;
}

pub whole_after : (one : EntityId) (bitmap : List ℕ) (log : Log) → one.class < 2 ^ 16 → one.instance < 2 ^ 16 → length bitmap ≡ BITMAP_BYTES → IsWhole log.alarms → IsWhole (change one bitmap log).log.alarms
unfolding change
whole_after one bitmap log class instance bytes whole = whole_by (is_same one bitmap log) one bitmap log class instance bytes whole

length_by : (b : Bool) (one : EntityId) (bitmap : List ℕ) (log : Log) → length (unless_same b one bitmap log).log.alarms ≤ length log.alarms + 1
length_by true one bitmap log = omega arith
length_by false one bitmap log = length_with_bitmap one bitmap log.alarms

pub length_after : (one : EntityId) (bitmap : List ℕ) (log : Log) → length (change one bitmap log).log.alarms ≤ length log.alarms + 1
unfolding change
length_after one bitmap log = length_by (is_same one bitmap log) one bitmap log
