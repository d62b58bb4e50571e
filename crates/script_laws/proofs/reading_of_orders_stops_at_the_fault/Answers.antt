use Rattle.script_laws.proofs.FaultLaws.{orders_fault_from_reading, orders_reading_from_fault}
use Rattle.script_laws.proofs.reading_of_orders_stops_at_the_fault.Goals as goal

pub returns-clause-found : goal.returns-clause-found
returns-clause-found c = λ bytes line reason h. orders_fault_from_reading bytes (line, reason) h

pub returns-clause-stops : goal.returns-clause-stops
returns-clause-stops c = λ bytes line reason h. orders_reading_from_fault bytes (line, reason) h
