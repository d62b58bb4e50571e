use Rattle.std.proofs.Common.{◌≡◌, ◌≤◌, ◌+◌}
use Rattle.image_store.specs.Counts.{Counted, store_faults}
use Rattle.unit_turns.proofs.Joining.{RunsOn}
use Rattle.unit_turns.proofs.running.run_turns.Given as goal

abbrev pub invariant-loop-turn : goal.invariant-loop-turn
invariant-loop-turn g l =
    RunsOn g.D.Disk.seen g.D.Disk.may_leave g.D.Disk.clock g.D.Disk.left_since g.D.Disk.faults
    l.fn.turns (g.L.Link.left l.fn.link) (g.L.Link.left l.link) (g.L.Link.sent l.fn.link)
    (g.L.Link.sent l.link) (g.K.Sink.written l.fn.sink) (g.K.Sink.written l.sink) l.fn.unit.agent
    l.fn.unit.size l.fn.unit.life l.unit.agent l.unit.size l.unit.life l.turn
    × (g.L.Link.faults l.link ≡ g.L.Link.faults l.fn.link)
    × (g.K.Sink.faults l.sink ≡ g.K.Sink.faults l.fn.sink)
    × (l.unit.life ≤ l.turn + 1)
    × Counted (store_faults g.D.Disk.faults l.fn.unit.agent.unit.images)
    (store_faults g.D.Disk.faults l.unit.agent.unit.images)
