use Rattle.std.proofs.Common.{◌≡◌, ◌≤◌, length, take}
use Rattle.message_spec.specs.Text.{cut}
use Rattle.omci_contents.proofs.texts.eights_passed.Given as goal

abbrev pub invariant-loop-end : goal.invariant-loop-end
invariant-loop-end l = (cut (take l.end l.bytes) ≡ cut l.bytes) × (l.end ≤ length l.bytes)

abbrev pub decreases-loop-end : goal.decreases-loop-end
decreases-loop-end l = l.end
