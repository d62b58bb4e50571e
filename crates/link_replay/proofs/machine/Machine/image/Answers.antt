use Rattle.std.proofs.Common.{ℕ, List, ◌++◌, option_map, sym, ◌∙◌, ap, subst}
use Rattle.manager_spec.specs.Manager.{packets_of}
use Rattle.manager_spec.specs.Submitting.{after_image}
use Rattle.world_spec.specs.Ends.{submission}
use Rattle.olt_manager.specs.State.{State}
use Rattle.link_replay.specs.Seen.{Follows}
use Rattle.link_replay.proofs.Following.{accepted_there, refused_there}
use Rattle.link_replay.proofs.machine.Machine.image.Goals as goal

pub returns-in_ok-after_manager-in-Ok-image : goal.returns-in_ok-after_manager-in-Ok-image
returns-in_ok-after_manager-in-Ok-image c =
    let packets = c.in-Ok-image.ensures.packets (λ e. cc) ∙ ap (λ xs. xs ++ packets_of (after_image c.args.order.now.slot c.args.order.now.window c.args.order.now.crc c.in-Ok.owned c.in-Some.manager.manager).outcome.sendings) c.clear.ensures.empty in
    record {
      follows = λ e s. subst (λ (i : List ℕ). Follows (submission (after_image c.args.order.now.slot c.args.order.now.window c.args.order.now.crc i) e.manager e) e c.args.self.now c.after_manager.new.self c.args.out.now c.after_manager.new.out) c.in-Ok.ensures.copied
          (accepted_there (after_image c.args.order.now.slot c.args.order.now.window c.args.order.now.crc c.in-Ok.owned) c.in-Some.manager c.image.new.self _ c.args.self.now c.after_manager.new.self c.image.new.out c.args.out.now c.after_manager.new.out
          c.self.view_is (ap (option_map (λ (a : State). a.manager)) c.in-Some.is) c.in-Ok-image.ensures.accepted (c.in-Ok-image.ensures.manager (λ e. cc)) packets
          c.in_ok-after_manager-in-Ok-image.ensures.machine c.in_ok-after_manager-in-Ok-image.ensures.lines e s);
    }

pub returns-in_ok-refuse-in-Err : goal.returns-in_ok-refuse-in-Err
returns-in_ok-refuse-in-Err c =
    let refused = c.in_ok-refuse-in-Err.ensures.refused in
    record {
      follows = refused_there (after_image c.args.order.now.slot c.args.order.now.window c.args.order.now.crc c.args.image.now) c.in-Some.manager c.image.new.self c.in-Err.refusal _ c.args.self.now c.args.out.now c.refuse.new.out
          c.self.view_is (ap (option_map (λ (a : State). a.manager)) c.in-Some.is)
          (ap (λ (i : List ℕ). (after_image c.args.order.now.slot c.args.order.now.window c.args.order.now.crc i c.in-Some.manager.manager).refusal) (sym c.in-Ok.ensures.copied) ∙ c.in-Err.ensures.refused refused) (c.in-Err.ensures.kept refused).0
          c.in_ok-refuse-in-Err.ensures.line;
    }
