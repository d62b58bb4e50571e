-- What is written of a text while its rest is gathered, and why a run ended.
use Rattle.std.specs.Prelude.{◌≡◌, ℕ, List, ◌++◌, Option}
use Rattle.std.specs.Io.KnownBytes.{Appends}
use Rattle.omci_core.specs.Causes.{Rose}
use Rattle.trace_lines.specs.declared.writing.RunFault.{RunFault}
use Rattle.trace_lines.specs.declared.writing.RunFault.TheVariants as run_fault

-- of the bytes, those at the front were written, and these are held
pub record WritesSome (bytes : List ℕ) (before now : Option (List ℕ)) (held : List ℕ) : Type 0 where
  pub done : List ℕ
  pub parts : bytes ≡ done ++ held
  pub added : Appends before now done

-- why a run ended before its end: want of memory with no fault of the sink, or such a fault
abbrev pub EndsRun : RunFault → ℕ → ℕ → Type 0
EndsRun run_fault.NoMemory faults_before faults_now = faults_now ≡ faults_before
EndsRun run_fault.Write faults_before faults_now = Rose faults_before faults_now
