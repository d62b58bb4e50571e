use Rattle.std.proofs.Common.{◌≡◌}
use Rattle.link_replay.proofs.Running.{RunSoFar}
use Rattle.link_replay.proofs.world.World.run.Given as goal

abbrev pub invariant-loop-place : goal.invariant-loop-place
invariant-loop-place g l =
    RunSoFar l.script l.place l.self l.lines (g.K.Sink.written l.fn.sink) (g.K.Sink.written l.sink)
    × (g.K.Sink.faults l.sink ≡ g.K.Sink.faults l.fn.sink)
