-- TCIs and the numbers of commands. A priority's commands are numbered from 1 to 32,767 and from 1
-- again.
use Rattle.std.specs.Prelude.{ℕ, ◌+◌, ◌==◌, Bool, if◌then◌else◌, nat_lt, ◌≤◌, List, take}
use Rattle.std.specs.Int.{from_be_bytes, w16}
use Rattle.omci_types.specs.declared.Priority.{Priority}
use Rattle.omci_types.specs.declared.Priority.TheVariants.{Low, High}
use Rattle.frame_spec.specs.declared.TheConstants.{LAST_NUMBER, FIRST_HIGH_TCI}

-- a number of a command
pub record IsNumber (n : ℕ) : Type 0 where
  pub some : 1 ≤ n
  pub most : n ≤ LAST_NUMBER

-- the number after a number
abbrev pub number_after : ℕ → ℕ
number_after n = if n == LAST_NUMBER then 1 else n + 1

-- whether a TCI's top bit is clear
abbrev pub is_low : ℕ → Bool
is_low tci = nat_lt tci FIRST_HIGH_TCI

-- the priority of a TCI
abbrev pub priority_of : ℕ → Priority
priority_of tci = if is_low tci then Low else High

-- the TCI of a priority's command with that number
abbrev pub tci_of : Priority → ℕ → ℕ
tci_of Low number = number
tci_of High number = number + FIRST_HIGH_TCI

-- the TCI of a packet: its first two bytes
abbrev pub packet_tci : List ℕ → ℕ
packet_tci bytes = from_be_bytes w16 (take 2 bytes)
