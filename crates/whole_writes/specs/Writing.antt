-- What is written of a text: all of it, or a front of it where a fault comes between.
use Rattle.std.specs.Prelude.{◌≡◌, ℕ, List, ◌++◌, Option}
use Rattle.std.specs.Io.KnownBytes.{Appends}
use Rattle.omci_core.specs.Causes.{Rose}

-- some of the piece's first bytes were added, and then the sink had a fault
pub record BreaksOff (piece : List ℕ) (before now : Option (List ℕ)) (faults_before faults_now : ℕ)
    : Type 0 where
  pub done : List ℕ
  pub rest : List ℕ
  pub parts : piece ≡ done ++ rest
  pub added : Appends before now done
  pub rose : Rose faults_before faults_now

-- so much of the whole stands at its front
abbrev pub IsFrontOf : List ℕ → List ℕ → Type 0
IsFrontOf front whole = (rest : List ℕ) × (front ++ rest ≡ whole)

-- a front of what is to be written was written
abbrev pub WritesFront : List ℕ → Option (List ℕ) → Option (List ℕ) → Type 0
WritesFront whole before now = (front : List ℕ) × IsFrontOf front whole × Appends before now front
