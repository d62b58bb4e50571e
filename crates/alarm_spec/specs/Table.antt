-- The manager's table of alarms: notices keep it up to date, and an audit reads it anew.
use Rattle.std.specs.Prelude.{ℕ, ◌==◌, ◌&&◌, not, nat_le, Bool, true, false, if◌then◌else◌, List, [], ◌∷◌, ◌++◌, length, replicate, bytes_eq, Option, Some, None, is_some, unwrap_or}
use Rattle.omci_types.specs.declared.EntityId.{EntityId}
use Rattle.alarm_spec.specs.declared.TheConstants.{ROW_BYTES, MOST_WAITING}
use Rattle.alarm_spec.specs.declared.TakenAlarm.{TakenAlarm}
use Rattle.alarm_spec.specs.declared.TakenAlarm.TheVariants.{Unaudited, Repeat, Gap, Overflow, Taken}
use Rattle.alarm_spec.specs.declared.BadRow.{BadRow}
use Rattle.alarm_spec.specs.declared.BadRow.TheVariants.{Empty, Repeated}
use Rattle.alarm_spec.specs.Alarms.{Alarm, Alarms, is_raised, with_alarm, with_bitmap, after, entity_in, bitmap_in}
use Rattle.alarm_spec.specs.Log.{alarm_number_after}

pub record Table : Type 0 where
  pub rows : Alarms
  -- an audit's reply has come, and since then no notice was lost and no audit failed
  pub audited : Bool
  -- the number of the notice that was taken last, 0 where none was since the audit's reply
  pub last : ℕ
  -- the rows that an audit has read so far, where one reads
  pub gathering : Option Alarms
  -- the notices that came meanwhile, oldest first
  pub waiting : List Alarm

abbrev pub new_table : Table
new_table = record { rows = []; audited = false; last = 0; gathering = None; waiting = [] }

-- ---- a notice comes

abbrev pub is_gathering : Table → Bool
is_gathering t = is_some t.gathering

-- rows are gathered, and no further notice may wait
abbrev pub is_full : Table → Bool
is_full t = is_gathering t && nat_le MOST_WAITING (length t.waiting)

-- the notice that was taken last has come again
abbrev pub is_repeat : ℕ → Table → Bool
is_repeat number t = number == t.last && not (t.last == 0)

-- the number that the next notice has
abbrev pub wanted : Table → ℕ
wanted t = alarm_number_after t.last

-- the answer of the first test that holds, `Taken` where none does
abbrev pub first_answer : List (Bool × TakenAlarm) → TakenAlarm
first_answer [] = Taken
first_answer (row ∷ rows) = if row.0 then row.1 else first_answer rows

-- what becomes of a notice with this number
unfoldable pub take_answer : ℕ → Table → TakenAlarm
take_answer number t = first_answer (
    (not t.audited, Unaudited) ∷
    (is_repeat number t, Repeat) ∷
    (not (number == wanted t), Gap (wanted t) number) ∷
    (is_full t, Overflow) ∷
    [])

-- the table isn't audited from now on; what was gathered and what waits is let go, and the rows
-- stay
abbrev pub unaudited : Table → Table
unaudited t = record t { audited = false; gathering = None; waiting = [] }

-- the notice is in the table at once, or waits while rows are gathered
abbrev pub noticed : Option Alarms → Alarm → Table → Table
noticed None one t = record t { rows = with_bitmap one.0 one.1 t.rows }
noticed (Some rows) one t = record t { waiting = t.waiting ++ one ∷ [] }

abbrev pub with_last : ℕ → Table → Table
with_last number t = record t { last = number }

-- the table after a notice that has this answer
abbrev pub taken_as : TakenAlarm → Alarm → ℕ → Table → Table
taken_as Unaudited one number t = t
taken_as Repeat one number t = t
taken_as (Gap want have) one number t = unaudited t
taken_as Overflow one number t = unaudited t
taken_as Taken one number t = with_last number (noticed t.gathering one t)

-- the table after a notice
unfoldable pub after_take : EntityId → List ℕ → ℕ → Table → Table
after_take one bitmap number t = taken_as (take_answer number t) (one, bitmap) number t

-- ---- an audit

-- the audit's reply has come: the unit's rows are gathered from now on, and its numbers begin anew
unfoldable pub begun : Table → Table
begun t = record t { audited = true; last = 0; gathering = Some []; waiting = [] }

-- the rows that are gathered so far
abbrev pub gathered : Table → Alarms
gathered t = unwrap_or t.gathering []

-- the first fault of those that hold
abbrev pub first_bad : List (Bool × BadRow) → Option BadRow
first_bad [] = None
first_bad (row ∷ rows) = if row.0 then Some row.1 else first_bad rows

-- why a row isn't gathered after these
unfoldable pub row_fault : List ℕ → Alarms → Option BadRow
row_fault row rows = first_bad (
    (bytes_eq row (replicate ROW_BYTES 0), Empty) ∷
    (is_raised (entity_in row) rows, Repeated (entity_in row)) ∷
    [])

-- the rows with one more; its bitmap may be clear
unfoldable pub with_row : List ℕ → Alarms → Alarms
with_row row rows = with_alarm (entity_in row) (bitmap_in row) rows

abbrev pub unless_bad : Option BadRow → Alarms → Table → Table
unless_bad None rows t = record t { gathering = Some rows }
unless_bad (Some bad) rows t = t

-- the table after a row of the audit; a bad one changes nothing
unfoldable pub after_row : List ℕ → Table → Table
after_row row t = unless_bad (row_fault row (gathered t)) (with_row row (gathered t)) t

-- every row has come: the table is what was gathered, and then the notices that wait
unfoldable pub finished : Table → Table
finished t = record t { rows = after (gathered t) t.waiting; gathering = None; waiting = [] }

-- the audit failed
abbrev pub failed : Table → Table
failed t = unaudited t
