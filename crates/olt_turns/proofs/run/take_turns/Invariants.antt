use Rattle.std.proofs.Common.{◌≡◌, ◌-◌, []}
use Rattle.turn_spec.specs.OltTurns.{olt_first}
use Rattle.olt_seat.specs.Seat.{state_of}
use Rattle.olt_turns.specs.Running.{Ran}
use Rattle.olt_turns.proofs.Turning.{turns_left}
use Rattle.olt_turns.proofs.run.take_turns.Given as goal

abbrev pub invariant-loop-goes_on : goal.invariant-loop-goes_on
invariant-loop-goes_on g l =
    Ran l.turns (olt_first l.orders) (state_of l.orders.actions l.seat) l.goes_on
    (g.L.Link.left l.fn.link) (g.L.Link.left l.link) (g.L.Link.sent l.fn.link) (g.L.Link.sent l.link)
    (g.K.Sink.written l.fn.sink) (g.K.Sink.written l.sink)
    × (l.lines ≡ [])
    × (g.L.Link.faults l.link ≡ g.L.Link.faults l.fn.link)
    × (g.K.Sink.faults l.sink ≡ g.K.Sink.faults l.fn.sink)

abbrev pub decreases-loop-goes_on : goal.decreases-loop-goes_on
decreases-loop-goes_on g l = turns_left l.goes_on (l.turns - l.seat.turn)
