use Rattle.std.proofs.Common.{◌≤◌, ◌-◌, length}
use Rattle.omci_link.proofs.memory.empty_packets.Given as goal

abbrev pub invariant-loop-packets : goal.invariant-loop-packets
invariant-loop-packets l = length l.packets.items ≤ l.count

abbrev pub decreases-loop-packets : goal.decreases-loop-packets
decreases-loop-packets l = l.count - length l.packets.items
