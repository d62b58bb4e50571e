-- What it is to read a source to its end, and to write a whole piece.
use Rattle.std.specs.Prelude.{◌≡◌, ℕ, ◌<◌, ◌≤◌, List, length, Option}
use Rattle.std.specs.Io.KnownBytes.{Consumes, IsAtEnd}
use Rattle.omci_core.specs.Causes.{Rose}
use Rattle.omci_top.specs.declared.streams.InputFault.{InputFault}
use Rattle.omci_top.specs.declared.streams.InputFault.TheVariants.{Read, TooLong, NoMemory}

-- the bytes are all that the source had left, and within the limit
pub record ReadsWhole (limit : ℕ) (before now : Option (List ℕ)) (bytes : List ℕ) : Type 0 where
  pub taken : Consumes before now bytes
  pub ended : IsAtEnd now
  pub bound : length bytes ≤ limit

-- more bytes than the limit were read
pub record ReadsPast (limit : ℕ) (before now : Option (List ℕ)) : Type 0 where
  pub bytes : List ℕ
  pub taken : Consumes before now bytes
  pub bound : limit < length bytes

-- why reading ended before its end: a fault of the source, a byte past the limit, or want of memory
-- with no fault
abbrev pub EndsReading : ℕ → Option (List ℕ) → Option (List ℕ) → ℕ → ℕ → InputFault → Type 0
EndsReading limit before now faults_before faults_now Read = Rose faults_before faults_now
EndsReading limit before now faults_before faults_now TooLong = ReadsPast limit before now
    × (faults_now ≡ faults_before)
EndsReading limit before now faults_before faults_now NoMemory = faults_now ≡ faults_before
