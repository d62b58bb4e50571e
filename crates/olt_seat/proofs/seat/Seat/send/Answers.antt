use Rattle.std.proofs.Common.{[], ◌∷◌, sym, ◌∙◌, ap, subst}
use Rattle.std.proofs.lemmas.Result.{err_from_is_err_and}
use Rattle.omci_link.specs.Arrivals.{sent_after}
use Rattle.olt_seat.specs.Seat.{SendsFront}
use Rattle.olt_seat.proofs.Playing.{sends_nothing_of, front_all}
use Rattle.olt_seat.proofs.seat.Seat.send.Goals as goal

pub returns-then-self-ge-MOST_PACKETS-clause-part : goal.returns-then-self-ge-MOST_PACKETS-clause-part
returns-then-self-ge-MOST_PACKETS-clause-part g c = sends_nothing_of _ _

pub returns-in_err-send_over-clause-part : goal.returns-in_err-send_over-clause-part
returns-in_err-send_over-clause-part g c =
    let p = err_from_is_err_and c.from_residual.result c.from_residual.ensures.1 in
    rw p.1
    (subst (λ b. SendsFront (c.args.packet.now ∷ []) (g.L.Link.sent c.args.link.now) b) (sym c.in_err-send_over.ensures.sent)
    (sends_nothing_of (c.args.packet.now ∷ []) (g.L.Link.sent c.args.link.now)))

pub returns-in_err-push_line-clause-part : goal.returns-in_err-push_line-clause-part
returns-in_err-push_line-clause-part g c =
    let p = err_from_is_err_and c.from_residual-in_err-push_line.result c.from_residual-in_err-push_line.ensures.1 in
    rw p.1 (front_all (c.args.packet.now ∷ []) (g.L.Link.sent c.args.link.now) (g.L.Link.sent c.send_over.new.link)
    (c.in_ok-send_over.ensures.sent ∙ ap (λ bytes. sent_after bytes (g.L.Link.sent c.args.link.now)) c.bytes-whole.ensures.value))
