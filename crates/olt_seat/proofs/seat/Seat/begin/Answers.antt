use Rattle.std.proofs.Common.{refl, sym, ◌∙◌, arith}
use Rattle.std.proofs.lemmas.Result.{err_from_is_err_and}
use Rattle.replay_script.specs.Events.{action_of}
use Rattle.olt_seat.proofs.Opening.{over_taken, over_idle, opens_waits, opens_gives, opens_part}
use Rattle.olt_seat.proofs.seat.Seat.begin.Goals as goal

pub returns-then-self-turns-clause-begins : goal.returns-then-self-turns-clause-begins
returns-then-self-turns-clause-begins g c =
    over_taken c.args.orders.now.actions c.args.turns _ c.args.self.now c.args.lines.now (g.L.Link.sent c.args.link.now) (g.L.Link.sent c.args.link.now)
    c.self.view_is c.if-self-turns.true refl

pub returns-then-not-idle-clause-begins : goal.returns-then-not-idle-clause-begins
returns-then-not-idle-clause-begins g c =
    opens_waits c.args.orders.now.actions c.args.turns _ c.args.self.now _ c.args.lines.now (g.L.Link.sent c.args.link.now) (g.L.Link.sent c.args.link.now)
    c.self.view_is (omega (arith, c.if-self-turns.false)) (sym c.idle.ensures.value ∙ c.if-not-idle.true) refl refl

pub returns-then-self-len-clause-begins : goal.returns-then-self-len-clause-begins
returns-then-self-len-clause-begins g c =
    over_idle c.args.orders.now.actions c.args.turns _ c.args.self.now c.args.lines.now (g.L.Link.sent c.args.link.now) (g.L.Link.sent c.args.link.now)
    c.self.view_is (omega (arith, c.if-self-turns.false)) (sym c.idle.ensures.value ∙ c.if-not-idle.false)
    (omega (arith, c.if-self-len.true, c.len.ensures.value)) refl

pub returns-clause-begins : goal.returns-clause-begins
returns-clause-begins g c =
    opens_gives c.args.orders.now.actions c.args.turns _ c.args.self.now c.order.new.self (action_of c.event-event.result.now) c.args.lines.now c.order.new.lines
    (g.L.Link.sent c.args.link.now) (g.L.Link.sent c.order.new.link)
    c.self.view_is (omega (arith, c.if-self-turns.false)) (sym c.idle.ensures.value ∙ c.if-not-idle.false) c.event-event.ensures.value c.in_ok-order.ensures.plays

pub returns-in_err-order-clause-part : goal.returns-in_err-order-clause-part
returns-in_err-order-clause-part g c =
    let p = err_from_is_err_and c.from_residual.result c.from_residual.ensures.1 in
    rw p.1
    (opens_part c.args.orders.now.actions c.args.turns _ c.args.self.now (action_of c.event-event.result.now) (g.L.Link.sent c.args.link.now) (g.L.Link.sent c.order.new.link)
    c.self.view_is (omega (arith, c.if-self-turns.false)) (sym c.idle.ensures.value ∙ c.if-not-idle.false) c.event-event.ensures.value c.in_err-order.ensures.part)
