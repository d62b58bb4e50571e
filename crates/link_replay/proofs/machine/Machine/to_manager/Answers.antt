use Rattle.std.proofs.Common.{◌++◌, option_map, ◌∙◌, ap}
use Rattle.manager_spec.specs.Manager.{packets_of}
use Rattle.manager_spec.specs.Steps.{after_packet}
use Rattle.olt_manager.specs.State.{State}
use Rattle.link_replay.proofs.Following.{received_there}
use Rattle.link_replay.proofs.machine.Machine.to_manager.Goals as goal

pub returns : goal.returns
returns c =
    let packets = c.in_ok-packet.ensures.packets ∙ ap (λ xs. xs ++ packets_of (after_packet c.args.bytes.now c.in-Some.manager.manager).sendings) c.clear.ensures.empty in
    record {
      follows = received_there c.args.bytes.now c.in-Some.manager c.packet.new.self _ c.args.self.now c.after_manager.new.self c.packet.new.out c.args.out.now c.after_manager.new.out
          c.self.view_is (ap (option_map (λ (a : State). a.manager)) c.in-Some.is) c.in_ok-packet.ensures.manager packets
          c.in_ok-after_manager.ensures.machine c.in_ok-after_manager.ensures.lines;
    }
