use Rattle.std.proofs.Common.{◌≡◌, []}
use Rattle.stream_show.proofs.Streams.{ShowSoFar}
use Rattle.stream_show.proofs.showing.show.Given as goal

abbrev pub invariant-loop-lines : goal.invariant-loop-lines
invariant-loop-lines g l =
    ShowSoFar l.limit l.left (g.S.Source.left l.fn.source) (g.S.Source.left l.source) l.buffer (g.K.Sink.written l.fn.sink) (g.K.Sink.written l.sink)
    (g.S.Source.faults l.fn.source) (g.S.Source.faults l.source) (g.K.Sink.faults l.fn.sink) (g.K.Sink.faults l.sink)
    × (l.lines.items ≡ [])

abbrev pub decreases-loop-lines : goal.decreases-loop-lines
decreases-loop-lines g l = l.left
