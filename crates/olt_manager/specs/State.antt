-- What callers see of a manager: the manager, and whether memory ran out in an earlier call.
use Rattle.std.specs.Prelude.{Bool, false, ℕ, List}
use Rattle.manager_spec.specs.Manager.{Manager}
use Rattle.manager_jobs.specs.Packets as sent

pub record State : Type 0 where
  pub spent : Bool
  pub manager : Manager

-- a manager whose memory never ran out
abbrev pub sound : Manager → State
sound m = record { spent = false; manager = m }

-- each packet is a baseline frame's 48 bytes
abbrev pub AreFrames : List (List ℕ) → Type 0
AreFrames packets = sent.AreFrames packets
