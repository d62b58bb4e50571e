use Rattle.script_laws.proofs.FaultLaws.{fault_from_reading, reading_from_fault}
use Rattle.script_laws.proofs.reading_stops_at_the_fault.Goals as goal

pub returns-clause-found : goal.returns-clause-found
returns-clause-found c = λ bytes line reason h. fault_from_reading bytes (line, reason) h

pub returns-clause-stops : goal.returns-clause-stops
returns-clause-stops c = λ bytes line reason h. reading_from_fault bytes (line, reason) h
