use Rattle.std.proofs.Common.{length}
use Rattle.stream_show.proofs.Gathering.{CountSoFar}
use Rattle.stream_show.proofs.counting.count_held.Given as goal

abbrev pub invariant-loop-fault : goal.invariant-loop-fault
invariant-loop-fault l = CountSoFar l.fn.buffer l.buffer l.fn.counts l.counts

abbrev pub decreases-loop-fault : goal.decreases-loop-fault
decreases-loop-fault l = length l.buffer.held
