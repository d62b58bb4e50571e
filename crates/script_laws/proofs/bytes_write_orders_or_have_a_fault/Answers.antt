use Rattle.std.proofs.Common.{◌≡◌, ℕ, ◌⊎◌, inl, inr, List, Some, Ok, Err, Result, refl}
use Rattle.script_spec.specs.Script.{Orders}
use Rattle.script_spec.specs.Grammar.{WritesOrders}
use Rattle.script_spec.specs.Fault.{orders_fault}
use Rattle.script_spec.specs.Reading.{orders_reading}
use Rattle.script_laws.proofs.Scripts.{orders_reading-Writes, WritesOrders-reading}
use Rattle.script_laws.proofs.FaultLaws.{orders_fault_from_reading, no_orders_fault}
use Rattle.script_laws.proofs.bytes_write_orders_or_have_a_fault.Goals as goal

-- what was read is written, and where reading stopped is the fault
by_reading : (bytes : List ℕ) (r : Result Orders (ℕ × ℕ)) → orders_reading bytes ≡ r
    → ((orders : Orders) × WritesOrders orders bytes)
    ⊎ ((line reason : ℕ) × (orders_fault bytes ≡ Some (line, reason)))
by_reading bytes (Ok orders) e = inl (orders, WritesOrders-reading orders bytes e)
by_reading bytes (Err f) e = inr (f.0, f.1, orders_fault_from_reading bytes f e)

pub returns-clause-either : goal.returns-clause-either
returns-clause-either c = λ bytes. by_reading bytes (orders_reading bytes) refl

pub returns-clause-no_fault : goal.returns-clause-no_fault
returns-clause-no_fault c =
    λ bytes orders h. no_orders_fault bytes orders (orders_reading-Writes orders bytes h)
