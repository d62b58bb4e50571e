use Rattle.std.proofs.Common.{length}
use Rattle.stream_show.proofs.Gathering.{GatherSoFar}
use Rattle.stream_show.proofs.showing.gather.Given as goal

abbrev pub invariant-loop-count : goal.invariant-loop-count
invariant-loop-count g l =
    GatherSoFar l.fn.buffer l.buffer (g.K.Sink.written l.fn.sink) (g.K.Sink.written l.sink) l.lines.items (g.K.Sink.faults l.fn.sink) (g.K.Sink.faults l.sink)

abbrev pub decreases-loop-count : goal.decreases-loop-count
decreases-loop-count g l = length l.buffer.held
