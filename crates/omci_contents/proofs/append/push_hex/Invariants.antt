use Rattle.std.proofs.Common.{◌≡◌, ◌≤◌, ◌-◌, ◌++◌, length, take}
use Rattle.hex.specs.Hex.{encode_lower}
use Rattle.omci_contents.specs.Front.{IsFront}
use Rattle.omci_contents.proofs.append.push_hex.Given as goal

abbrev pub invariant-loop-place : goal.invariant-loop-place
invariant-loop-place l =
    (l.place ≤ length l.bytes)
    × (l.out.items ≡ l.initial.out.items ++ encode_lower (take l.place l.bytes))
    × IsFront l.initial.out.items l.out.items

abbrev pub decreases-loop-place : goal.decreases-loop-place
decreases-loop-place l = length l.bytes - l.place
