use Rattle.std.proofs.Common.{◌∙◌}
use Rattle.replay_script.specs.Events.{action_of}
use Rattle.drill_run.proofs.Running.{drilled_one}
use Rattle.drill_run.proofs.runs.Runs.run_one.Goals as goal

pub returns : goal.returns
returns c = record {
  drilled = λ done d.
      drilled_one done (action_of c.args.event.now) c.args.world.now c.step.new.self c.args.self.now.tally c.add.new.self c.clear.new.self c.bytes.result.now
      d c.clear.ensures.empty c.in_ok-step.ensures.nodes (λ n s. c.bytes.ensures.value ∙ c.in_ok-step.ensures.lines n s) c.in_ok-add.ensures.after;
}
