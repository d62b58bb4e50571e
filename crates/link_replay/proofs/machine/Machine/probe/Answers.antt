use Rattle.std.proofs.Common.{◌++◌, option_map, ◌∙◌, ap}
use Rattle.manager_spec.specs.Manager.{packets_of}
use Rattle.manager_spec.specs.Submitting.{after_probe}
use Rattle.olt_manager.specs.State.{State}
use Rattle.link_replay.proofs.Following.{accepted_there, refused_there}
use Rattle.link_replay.proofs.machine.Machine.probe.Goals as goal

pub returns-in_ok-after_manager-in-Ok : goal.returns-in_ok-after_manager-in-Ok
returns-in_ok-after_manager-in-Ok c =
    let packets = c.in-Ok.ensures.packets (λ e. cc) ∙ ap (λ xs. xs ++ packets_of (after_probe c.args.lane c.in-Some.manager.manager).outcome.sendings) c.clear.ensures.empty in
    record {
      follows = accepted_there (after_probe c.args.lane) c.in-Some.manager c.probe.new.self _ c.args.self.now c.after_manager.new.self c.probe.new.out c.args.out.now c.after_manager.new.out
          c.self.view_is (ap (option_map (λ (a : State). a.manager)) c.in-Some.is) c.in-Ok.ensures.accepted (c.in-Ok.ensures.manager (λ e. cc)) packets
          c.in_ok-after_manager-in-Ok.ensures.machine c.in_ok-after_manager-in-Ok.ensures.lines;
    }

pub returns-in_ok-refuse-in-Err : goal.returns-in_ok-refuse-in-Err
returns-in_ok-refuse-in-Err c =
    let refused = c.in_ok-refuse-in-Err.ensures.refused in
    record {
      follows = refused_there (after_probe c.args.lane) c.in-Some.manager c.probe.new.self c.in-Err.refusal _ c.args.self.now c.args.out.now c.refuse.new.out
          c.self.view_is (ap (option_map (λ (a : State). a.manager)) c.in-Some.is) (c.in-Err.ensures.refused refused) (c.in-Err.ensures.kept refused).0
          c.in_ok-refuse-in-Err.ensures.line;
    }
