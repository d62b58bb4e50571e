-- The unit's alarms, and the notices that it gives of their changes.
use Rattle.std.specs.Prelude.{ℕ, ◌+◌, ◌==◌, Bool, true, false, if◌then◌else◌, List, [], bytes_eq, Option, Some, None}
use Rattle.omci_types.specs.declared.EntityId.{EntityId}
use Rattle.message_spec.specs.declared.Notice.{Notice}
use Rattle.message_spec.specs.declared.Notice.TheVariants as notice
use Rattle.alarm_spec.specs.declared.TheConstants.{LAST_ALARM_NUMBER}
use Rattle.alarm_spec.specs.Alarms.{Alarms, bitmap_of, with_bitmap}

-- the alarms, and the number of the last notice, 0 where none was given since the last snapshot
pub record Log : Type 0 where
  pub alarms : Alarms
  pub number : ℕ

-- no alarms
abbrev pub new_log : Log
new_log = record { alarms = []; number = 0 }

-- the number after this one, 1 after 0 and after the last
abbrev pub alarm_number_after : ℕ → ℕ
alarm_number_after number = if number == LAST_ALARM_NUMBER then 1 else number + 1

-- what a change comes to: the log after it, and its notice
pub record Changed : Type 0 where
  pub log : Log
  pub notice : Option Notice

-- a bitmap that is held already changes nothing; any other is told under the next number
abbrev pub unless_same : Bool → EntityId → List ℕ → Log → Changed
unless_same true one bitmap log = record { log = log; notice = None }
unless_same false one bitmap log =
    record {
      log = record {
        alarms = with_bitmap one bitmap log.alarms;
        number = alarm_number_after log.number;
      };
      notice = Some (notice.Alarm bitmap (alarm_number_after log.number));
    }

abbrev pub is_same : EntityId → List ℕ → Log → Bool
is_same one bitmap log = bytes_eq (bitmap_of one log.alarms) bitmap

-- an entity's bitmap becomes this one
unfoldable pub change : EntityId → List ℕ → Log → Changed
change one bitmap log = unless_same (is_same one bitmap log) one bitmap log

-- the log after a snapshot of its alarms
abbrev pub after_snapshot : Log → Log
after_snapshot log = record log { number = 0 }
