use Rattle.stream_show.proofs.Streams.{CheckSoFar}
use Rattle.stream_show.proofs.counting.check.Given as goal

abbrev pub invariant-loop-buffer : goal.invariant-loop-buffer
invariant-loop-buffer g l =
    CheckSoFar l.limit l.left (g.S.Source.left l.fn.source) (g.S.Source.left l.source) l.buffer l.counts (g.S.Source.faults l.fn.source) (g.S.Source.faults l.source)

abbrev pub decreases-loop-buffer : goal.decreases-loop-buffer
decreases-loop-buffer g l = l.left
