use Rattle.std.proofs.Common.{◌++◌, refl, ◌∙◌, ap}
use Rattle.std.proofs.lemmas.Result.{err_from_is_err_and}
use Rattle.manager_spec.specs.Manager.{packets_of}
use Rattle.manager_spec.specs.Steps.{after_tick}
use Rattle.olt_seat.proofs.Playing.{plays_second, sends_second, sends_nothing_of}
use Rattle.olt_seat.proofs.seat.Seat.second.Goals as goal

pub returns-clause-plays : goal.returns-clause-plays
returns-clause-plays g c =
    let packets = c.in_ok-tick.ensures.packets ∙ ap (λ xs. xs ++ packets_of (after_tick c.self.inside.manager.manager).sendings) c.clear.ensures.empty in
    plays_second c.self.inside.manager c.tick.new.self _ c.args.self.now c.after_manager.new.self c.tick.new.out c.args.lines.now c.after_manager.new.lines
    (g.L.Link.sent c.args.link.now) (g.L.Link.sent c.after_manager.new.link)
    c.self.view_is refl c.in_ok-tick.ensures.manager packets
    c.in_ok-after_manager.ensures.seat c.in_ok-after_manager.ensures.lines c.in_ok-after_manager.ensures.sent

pub returns-in_err-tick-clause-part : goal.returns-in_err-tick-clause-part
returns-in_err-tick-clause-part g c =
    let p = err_from_is_err_and c.from_residual.result c.from_residual.ensures.1 in
    rw p.1 (sends_nothing_of _ _)

pub returns-in_err-after_manager-clause-part : goal.returns-in_err-after_manager-clause-part
returns-in_err-after_manager-clause-part g c =
    let p = err_from_is_err_and c.from_residual-in_err-after_manager.result c.from_residual-in_err-after_manager.ensures.1 in
    let packets = c.in_ok-tick.ensures.packets ∙ ap (λ xs. xs ++ packets_of (after_tick c.self.inside.manager.manager).sendings) c.clear.ensures.empty in
    rw p.1 (sends_second c.self.inside.manager _ c.args.self.now c.tick.new.out
    (g.L.Link.sent c.args.link.now) (g.L.Link.sent c.after_manager.new.link)
    c.self.view_is refl packets c.in_err-after_manager.ensures.part)
