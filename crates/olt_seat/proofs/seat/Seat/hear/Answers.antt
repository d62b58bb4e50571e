use Rattle.std.proofs.Common.{refl, subst}
use Rattle.std.proofs.lemmas.Result.{err_from_is_err_and}
use Rattle.turn_spec.specs.Arrivals.{Came, Quiet, Closed}
use Rattle.omci_link.specs.Arrivals.{IsFirst, arrived as answered}
use Rattle.olt_seat.proofs.Playing.{plays_closed}
use Rattle.olt_seat.proofs.Hearing.{first_came, heard_nothing, heard_in_part, heard_whole}
use Rattle.olt_seat.proofs.seat.Seat.hear.Goals as goal

pub returns-in_err-came-clause-part : goal.returns-in_err-came-clause-part
returns-in_err-came-clause-part g c =
    let p = err_from_is_err_and c.from_residual.result c.from_residual.ensures.1 in
    rw p.1
    (heard_nothing c.args.self.now (g.L.Link.left c.args.link.now) (g.L.Link.left c.listen.new.link) (g.L.Link.sent c.args.link.now) (g.L.Link.sent c.listen.new.link)
    c.in_err-came.ensures.left c.listen.ensures.sent)

pub returns-in_ok-packet-in-Packet-clause-hears : goal.returns-in_ok-packet-in-Packet-clause-hears
returns-in_ok-packet-in-Packet-clause-hears g c =
    let first = first_came c.in_ok-came.came c.in-Packet.count c.listen.new.into c.front-bytes.result.now (g.L.Link.left c.args.link.now) c.in_ok-came.ensures.first c.in-Packet.is c.front-bytes.ensures.value in
    heard_whole c.args.self.now c.packet.new.self c.args.lines.now c.packet.new.lines (Came c.front-bytes.result.now)
    (g.L.Link.left c.args.link.now) (g.L.Link.left c.listen.new.link) (g.L.Link.left c.packet.new.link)
    (g.L.Link.sent c.args.link.now) (g.L.Link.sent c.listen.new.link) (g.L.Link.sent c.packet.new.link)
    first c.in_ok-came.ensures.left c.packet.ensures.left c.listen.ensures.sent c.in_ok-packet-in-Packet.ensures.plays

pub returns-in_err-packet-in-Packet-clause-part : goal.returns-in_err-packet-in-Packet-clause-part
returns-in_err-packet-in-Packet-clause-part g c =
    let p = err_from_is_err_and c.from_residual-in_err-packet-in-Packet.result c.from_residual-in_err-packet-in-Packet.ensures.1 in
    let first = first_came c.in_ok-came.came c.in-Packet.count c.listen.new.into c.front-bytes.result.now (g.L.Link.left c.args.link.now) c.in_ok-came.ensures.first c.in-Packet.is c.front-bytes.ensures.value in
    rw p.1
    (heard_in_part c.args.self.now (Came c.front-bytes.result.now)
    (g.L.Link.left c.args.link.now) (g.L.Link.left c.listen.new.link) (g.L.Link.left c.packet.new.link)
    (g.L.Link.sent c.args.link.now) (g.L.Link.sent c.listen.new.link) (g.L.Link.sent c.packet.new.link)
    first c.in_ok-came.ensures.left c.packet.ensures.left c.listen.ensures.sent c.in_err-packet-in-Packet.ensures.part)

pub returns-in_ok-second-in-Quiet-clause-hears : goal.returns-in_ok-second-in-Quiet-clause-hears
returns-in_ok-second-in-Quiet-clause-hears g c =
    let first = subst (λ a. IsFirst (g.L.Link.left c.args.link.now) (answered a c.listen.new.into)) c.in-Quiet.is c.in_ok-came.ensures.first in
    heard_whole c.args.self.now c.second.new.self c.args.lines.now c.second.new.lines Quiet
    (g.L.Link.left c.args.link.now) (g.L.Link.left c.listen.new.link) (g.L.Link.left c.second.new.link)
    (g.L.Link.sent c.args.link.now) (g.L.Link.sent c.listen.new.link) (g.L.Link.sent c.second.new.link)
    first c.in_ok-came.ensures.left c.second.ensures.left c.listen.ensures.sent c.in_ok-second-in-Quiet.ensures.plays

pub returns-in_err-second-in-Quiet-clause-part : goal.returns-in_err-second-in-Quiet-clause-part
returns-in_err-second-in-Quiet-clause-part g c =
    let p = err_from_is_err_and c.from_residual-in_err-second-in-Quiet.result c.from_residual-in_err-second-in-Quiet.ensures.1 in
    let first = subst (λ a. IsFirst (g.L.Link.left c.args.link.now) (answered a c.listen.new.into)) c.in-Quiet.is c.in_ok-came.ensures.first in
    rw p.1
    (heard_in_part c.args.self.now Quiet
    (g.L.Link.left c.args.link.now) (g.L.Link.left c.listen.new.link) (g.L.Link.left c.second.new.link)
    (g.L.Link.sent c.args.link.now) (g.L.Link.sent c.listen.new.link) (g.L.Link.sent c.second.new.link)
    first c.in_ok-came.ensures.left c.second.ensures.left c.listen.ensures.sent c.in_err-second-in-Quiet.ensures.part)

pub returns-in-Closed-clause-hears : goal.returns-in-Closed-clause-hears
returns-in-Closed-clause-hears g c =
    let first = subst (λ a. IsFirst (g.L.Link.left c.args.link.now) (answered a c.listen.new.into)) c.in-Closed.is c.in_ok-came.ensures.first in
    heard_whole c.args.self.now c.args.self.now c.args.lines.now c.args.lines.now Closed
    (g.L.Link.left c.args.link.now) (g.L.Link.left c.listen.new.link) (g.L.Link.left c.listen.new.link)
    (g.L.Link.sent c.args.link.now) (g.L.Link.sent c.listen.new.link) (g.L.Link.sent c.listen.new.link)
    first c.in_ok-came.ensures.left refl c.listen.ensures.sent
    (plays_closed c.args.self.now c.args.lines.now (g.L.Link.sent c.listen.new.link) (g.L.Link.sent c.listen.new.link) refl)
