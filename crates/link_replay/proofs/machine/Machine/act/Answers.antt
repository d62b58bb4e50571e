use Rattle.std.proofs.Common.{sym, ◌∙◌, subst}
use Rattle.world_spec.specs.Ends.{Step}
use Rattle.replay_script.specs.Events.{action_of}
use Rattle.link_replay.specs.Seen.{Follows}
use Rattle.link_replay.proofs.Asking.{asked_acted}
use Rattle.link_replay.proofs.machine.Machine.act.Goals as goal

pub returns-in_ok-submit-in-Some : goal.returns-in_ok-submit-in-Some
returns-in_ok-submit-in-Some c = record {
  follows = λ e s l same. subst (λ (t : Step). Follows t e c.args.self.now c.submit.new.self c.args.out.now c.submit.new.out)
      (asked_acted (action_of c.args.event.now) c.in-Some.asked e l (sym c.asked_by.ensures.value ∙ c.in-Some.is))
      (c.in_ok-submit-in-Some.ensures.follows e s);
}
