use Rattle.std.proofs.Common.{◌++◌, refl, ◌∙◌, ap}
use Rattle.std.proofs.lemmas.Result.{err_from_is_err_and}
use Rattle.manager_spec.specs.Manager.{packets_of}
use Rattle.replay_script.specs.Events.{action_of}
use Rattle.manager_orders.specs.Asking.{asking}
use Rattle.olt_seat.proofs.Playing.{plays_taken, plays_refused, sends_taken, sends_nothing_of}
use Rattle.olt_seat.proofs.seat.Seat.order.Goals as goal

pub returns-in_ok-after_manager-in-Ok-clause-plays : goal.returns-in_ok-after_manager-in-Ok-clause-plays
returns-in_ok-after_manager-in-Ok-clause-plays g c =
    let packets = c.in-Ok.ensures.packets (λ e. cc) ∙ ap (λ xs. xs ++ packets_of (asking (action_of c.args.event.now) c.self.inside.manager.manager).outcome.sendings) c.clear.ensures.empty in
    plays_taken (action_of c.args.event.now) c.self.inside.manager c.ask.new.manager _ c.args.self.now c.after_manager.new.self c.ask.new.packets c.args.lines.now c.after_manager.new.lines
    (g.L.Link.sent c.args.link.now) (g.L.Link.sent c.after_manager.new.link)
    c.self.view_is refl c.requires.ordered c.in-Ok.ensures.accepted (c.in-Ok.ensures.manager (λ e. cc)) packets
    c.in_ok-after_manager-in-Ok.ensures.seat c.in_ok-after_manager-in-Ok.ensures.lines c.in_ok-after_manager-in-Ok.ensures.sent

pub returns-in_ok-refuse-in-Err-clause-plays : goal.returns-in_ok-refuse-in-Err-clause-plays
returns-in_ok-refuse-in-Err-clause-plays g c =
    let refused = c.in_ok-refuse-in-Err.ensures.refused in
    plays_refused (action_of c.args.event.now) c.self.inside.manager c.ask.new.manager c.in-Err.refusal _ c.args.self.now _ c.args.lines.now c.refuse.new.lines
    (g.L.Link.sent c.args.link.now) (g.L.Link.sent c.args.link.now)
    c.self.view_is refl c.requires.ordered (c.in-Err.ensures.refused refused) (c.in-Err.ensures.kept refused).0 refl
    c.in_ok-refuse-in-Err.ensures.line refl

pub returns-in_err-after_manager-in-Ok-clause-part : goal.returns-in_err-after_manager-in-Ok-clause-part
returns-in_err-after_manager-in-Ok-clause-part g c =
    let p = err_from_is_err_and c.from_residual.result c.from_residual.ensures.1 in
    let packets = c.in-Ok.ensures.packets (λ e. cc) ∙ ap (λ xs. xs ++ packets_of (asking (action_of c.args.event.now) c.self.inside.manager.manager).outcome.sendings) c.clear.ensures.empty in
    rw p.1
    (sends_taken (action_of c.args.event.now) c.self.inside.manager _ c.args.self.now c.ask.new.packets (g.L.Link.sent c.args.link.now) (g.L.Link.sent c.after_manager.new.link)
    c.self.view_is refl c.requires.ordered c.in-Ok.ensures.accepted packets c.in_err-after_manager-in-Ok.ensures.part)

pub returns-in_err-refuse-in-Err-clause-part : goal.returns-in_err-refuse-in-Err-clause-part
returns-in_err-refuse-in-Err-clause-part g c =
    let p = err_from_is_err_and c.from_residual-in_err-refuse-in-Err.result c.from_residual-in_err-refuse-in-Err.ensures.1 in
    rw p.1 (sends_nothing_of _ _)
