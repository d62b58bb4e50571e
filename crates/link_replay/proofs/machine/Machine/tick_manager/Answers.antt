use Rattle.std.proofs.Common.{◌++◌, option_map, ◌∙◌, ap}
use Rattle.manager_spec.specs.Manager.{packets_of}
use Rattle.manager_spec.specs.Steps.{after_tick}
use Rattle.olt_manager.specs.State.{State}
use Rattle.link_replay.proofs.Following.{ticked_there}
use Rattle.link_replay.proofs.Seconds.{not_ticked}
use Rattle.link_replay.proofs.machine.Machine.tick_manager.Goals as goal

pub returns : goal.returns
returns c =
    let packets = c.in_ok-tick.ensures.packets ∙ ap (λ xs. xs ++ packets_of (after_tick c.in-Some.manager.manager).sendings) c.clear.ensures.empty in
    record {
      follows = ticked_there c.in-Some.manager c.tick.new.self _ c.args.self.now c.after_manager.new.self c.tick.new.out c.args.out.now c.after_manager.new.out
          c.self.view_is (ap (option_map (λ (a : State). a.manager)) c.in-Some.is) c.in_ok-tick.ensures.manager packets
          c.in_ok-after_manager.ensures.machine c.in_ok-after_manager.ensures.lines;
    }

pub returns-in_default : goal.returns-in_default
returns-in_default c = record { follows = not_ticked _ c.args.self.now c.args.out.now c.self.view_is (ap (option_map (λ (a : State). a.manager)) c.in_default.is) }
