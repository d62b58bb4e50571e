-- The faults of a row, as the code names them.
use Rattle.std.specs.Prelude.{Option, Some, None}
use Rattle.alarm_spec.specs.declared.BadRow.{BadRow}
use Rattle.alarm_spec.specs.declared.BadRow.TheVariants.{Empty, Repeated}
use Rattle.alarm_log.specs.declared.table.RowFault.{RowFault}
use Rattle.alarm_log.specs.declared.table.RowFault.TheVariants as fault

-- the fault of a row; a good row fails by want of memory alone
abbrev pub fault_as : Option BadRow → RowFault
fault_as None = fault.NoMemory
fault_as (Some Empty) = fault.Empty
fault_as (Some (Repeated entity)) = fault.Repeated entity
