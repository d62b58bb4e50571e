-- What packets a manager sends.
use Rattle.std.specs.Prelude.{◌≡◌, ℕ, List, length}
use Rattle.std.specs.List.{All}
use Rattle.frame_spec.specs.declared.TheConstants.{FRAME_BYTES}

-- each packet is a baseline frame's 48 bytes
abbrev pub AreFrames : List (List ℕ) → Type 0
AreFrames packets = All (λ packet. length packet ≡ FRAME_BYTES) packets
