-- A unit's log and a manager's table step by step.
use Rattle.std.specs.Prelude.{◌≡◌, ℕ, true, List, [], ◌∷◌, ◌++◌, take, Option, Some, None}
use Rattle.omci_types.specs.declared.EntityId.{EntityId}
use Rattle.message_spec.specs.declared.Notice.{Notice}
use Rattle.message_spec.specs.declared.Notice.TheVariants as notice
use Rattle.alarm_spec.specs.Alarms.{Alarm, Alarms, after}
use Rattle.alarm_spec.specs.Log.{Log, change}
use Rattle.alarm_spec.specs.Table.{Table, after_take, gathered, row_fault, after_row}

-- the log after changes one after the other
abbrev pub after_changes : List Alarm → Log → Log
after_changes [] log = log
after_changes (one ∷ rest) log = after_changes rest (change one.0 one.1 log).log

-- what a notice tells of the entity, where there is one
abbrev pub told : EntityId → Option Notice → List Alarm
told one None = []
told one (Some (notice.Alarm bitmap number)) = (one, bitmap) ∷ []
told one (Some (notice.Change mask values)) = []

-- what the notices of these changes tell, oldest first
abbrev pub notices_of : List Alarm → Log → List Alarm
notices_of [] log = []
notices_of (one ∷ rest) log = told one.0 (change one.0 one.1 log).notice
    ++ notices_of rest (change one.0 one.1 log).log

-- the table after a notice of the entity, where there is one
abbrev pub take_given : EntityId → Option Notice → Table → Table
take_given one None t = t
take_given one (Some (notice.Alarm bitmap number)) t = after_take one bitmap number t
take_given one (Some (notice.Change mask values)) t = t

-- the table after the notices of these changes
abbrev pub after_notices : List Alarm → Log → Table → Table
after_notices [] log t = t
after_notices (one ∷ rest) log t = after_notices rest (change one.0 one.1 log).log
    (take_given one.0 (change one.0 one.1 log).notice t)

-- the table after these rows
abbrev pub after_rows : List (List ℕ) → Table → Table
after_rows [] t = t
after_rows (row ∷ rest) t = after_rows rest (after_row row t)

-- none of these rows is bad
abbrev pub AreGood : List (List ℕ) → Table → Type 0
AreGood [] t = Unit {0}
AreGood (row ∷ rest) t = (row_fault row (gathered t) ≡ None) × AreGood rest (after_row row t)

-- the table has what the unit holds, and waits for the number that the unit gives next
pub record IsInStep (log : Log) (t : Table) : Type 0 where
  pub audited : t.audited ≡ true
  pub last : t.last ≡ log.number
  pub no_gathering : t.gathering ≡ None
  pub rows : t.rows ≡ log.alarms

-- an audit has read so many rows of this snapshot, and what waits makes of the whole snapshot what
-- the unit holds
pub record Audits (snapshot : Alarms) (read : ℕ) (log : Log) (t : Table) : Type 0 where
  pub audited : t.audited ≡ true
  pub last : t.last ≡ log.number
  pub gathering : t.gathering ≡ Some (take read snapshot)
  pub waiting : after snapshot t.waiting ≡ log.alarms
