-- The command's last packet comes after those of a window's earlier sections.
use Rattle.std.proofs.Common.{◌≡◌, ◌++◌, ◌∷◌, [], ◌∙◌, ap, sym, subst, List, ℕ, length}
use Rattle.std.specs.List.{All}
use Rattle.frame_spec.specs.Baseline.{spelling}
use Rattle.lane_spec.specs.Command.{command_packets, command_frame}
use Rattle.lane_spec.specs.Lane.{Waiting}
use Rattle.olt_lanes.specs.Sections.{AddsFront}
use Rattle.olt_lanes.proofs.Sending.{command_sent, command_whole, no_more_sent, last_not_sent}
use Rattle.olt_lanes.proofs.Sending.{on_err}
use Rattle.olt_lanes.proofs.lane.Waiting.packets.Goals as goal

pub returns-in_err-earlier_packets-clause-err : goal.returns-in_err-earlier_packets-clause-err
returns-in_err-earlier_packets-clause-err c =
    let it = c.self.inside in
    on_err c.from_residual.result
    (subst (λ (w : Waiting). AddsFront (command_packets w.tci w.command) c.args.out.now c.earlier_packets.new.out)
    c.self.view_is
    (no_more_sent it.frame.tci it.command.entity it.command.earlier c.args.out.now
    c.earlier_packets.new.out (spelling (command_frame it.frame.tci it.command))
    c.in_err-earlier_packets.ensures.err))

pub returns-in_err-push_bytes-clause-err : goal.returns-in_err-push_bytes-clause-err
returns-in_err-push_bytes-clause-err c =
    let it = c.self.inside in
    on_err c.from_residual-in_err-push_bytes.result
    (subst (λ (w : Waiting). AddsFront (command_packets w.tci w.command) c.args.out.now c.push_bytes.new.self)
    c.self.view_is
    (last_not_sent it.frame.tci it.command.entity it.command.earlier c.args.out.now
    c.push_bytes.new.self (spelling (command_frame it.frame.tci it.command))
    (c.in_err-push_bytes.ensures.err ∙ c.in_ok-earlier_packets.ensures.ok)))

pub returns-clause-ok : goal.returns-clause-ok
returns-clause-ok c =
    let it = c.self.inside in
    let spelled : c.encode.new.into ≡ spelling (command_frame it.frame.tci it.command) =
    c.encode.ensures.spelled ∙ ap spelling c.self.invariant.sent in
    subst (λ (w : Waiting). c.push_bytes.new.self ≡ c.args.out.now ++ command_packets w.tci w.command)
    c.self.view_is
    (command_sent it.frame.tci it.command.entity it.command.earlier c.args.out.now
    c.earlier_packets.new.out c.push_bytes.new.self
    (spelling (command_frame it.frame.tci it.command)) c.in_ok-earlier_packets.ensures.ok
    (c.in_ok-push_bytes.ensures.ok ∙ ap (λ b. c.earlier_packets.new.out ++ b ∷ []) spelled))

pub returns-clause-whole : goal.returns-clause-whole
returns-clause-whole c =
    let it = c.self.inside in
    let spelled : c.encode.new.into ≡ spelling (command_frame it.frame.tci it.command) =
    c.encode.ensures.spelled ∙ ap spelling c.self.invariant.sent in
    subst (λ (w : Waiting). All (λ packet. length packet ≡ 48) (command_packets w.tci w.command))
    c.self.view_is
    (command_whole it.frame.tci it.command.entity it.command.earlier
    (spelling (command_frame it.frame.tci it.command)) c.in_ok-earlier_packets.ensures.whole
    (sym (ap (λ (b : List ℕ). length b) spelled) ∙ c.encode.array_long))
