use Rattle.std.proofs.Common.{◌≡◌, ℕ, ◌⊎◌, inl, inr, List, Some, Ok, Err, Result, refl}
use Rattle.script_spec.specs.Script.{Script}
use Rattle.script_spec.specs.Grammar.{Writes}
use Rattle.script_spec.specs.Fault.{fault}
use Rattle.script_spec.specs.Reading.{reading}
use Rattle.script_laws.proofs.Scripts.{reading-Writes, Writes-reading}
use Rattle.script_laws.proofs.FaultLaws.{fault_from_reading, no_fault_from_reading}
use Rattle.script_laws.proofs.bytes_write_a_script_or_have_a_fault.Goals as goal

-- what was read is written, and where reading stopped is the fault
by_reading : (bytes : List ℕ) (r : Result Script (ℕ × ℕ)) → reading bytes ≡ r
    → ((script : Script) × Writes script bytes)
    ⊎ ((line reason : ℕ) × (fault bytes ≡ Some (line, reason)))
by_reading bytes (Ok script) e = inl (script, Writes-reading script bytes e)
by_reading bytes (Err f) e = inr (f.0, f.1, fault_from_reading bytes f e)

pub returns-clause-either : goal.returns-clause-either
returns-clause-either c = λ bytes. by_reading bytes (reading bytes) refl

pub returns-clause-no_fault : goal.returns-clause-no_fault
returns-clause-no_fault c =
    λ bytes script h. no_fault_from_reading bytes script (reading-Writes script bytes h)
