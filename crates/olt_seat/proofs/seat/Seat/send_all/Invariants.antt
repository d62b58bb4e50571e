use Rattle.std.proofs.Common.{◌≡◌, drop}
use Rattle.olt_seat.proofs.Sending.{SentSoFar}
use Rattle.olt_seat.proofs.seat.Seat.send_all.Given as goal

abbrev pub invariant-loop-place : goal.invariant-loop-place
invariant-loop-place g l =
    SentSoFar l.fn.self l.self l.packets (drop l.place l.packets) l.fn.lines l.lines (g.L.Link.sent l.fn.link) (g.L.Link.sent l.link)
    × (g.L.Link.left l.link ≡ g.L.Link.left l.fn.link)
    × (g.L.Link.faults l.link ≡ g.L.Link.faults l.fn.link)
