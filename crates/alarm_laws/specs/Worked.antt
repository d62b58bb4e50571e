-- One port with one alarm, and notices of it.
use Rattle.std.specs.Prelude.{ℕ, zero, suc, List, [], ◌∷◌, ◌++◌, replicate}
use Rattle.omci_types.specs.declared.EntityId.{EntityId}
use Rattle.mib_spec.specs.Database.{entity}
use Rattle.alarm_spec.specs.declared.TakenAlarm.{TakenAlarm}
use Rattle.alarm_spec.specs.Table.{Table, new_table, take_answer, after_take, begun, finished}

abbrev pub port : EntityId
port = entity 11 257

-- alarm 0 alone
abbrev pub bitmap : List ℕ
bitmap = 128 ∷ replicate 27 0

abbrev pub port_row : List ℕ
port_row = 0 ∷ 11 ∷ 1 ∷ 1 ∷ 128 ∷ replicate 27 0

-- the numbers from 1 up to this one
abbrev pub up_to : ℕ → List ℕ
up_to zero = []
up_to (suc n) = up_to n ++ suc n ∷ []

-- what becomes of notices of the port's alarm with these numbers, one after the other
abbrev pub answers : List ℕ → Table → List TakenAlarm
answers [] t = []
answers (number ∷ rest) t = take_answer number t ∷ answers rest (after_take port bitmap number t)

abbrev pub after_numbers : List ℕ → Table → Table
after_numbers [] t = t
after_numbers (number ∷ rest) t = after_numbers rest (after_take port bitmap number t)

-- after an audit of a unit that has no alarm
abbrev pub audited_table : Table
audited_table = finished (begun new_table)
