use Rattle.std.proofs.Common.{◌∙◌}
use Rattle.drill_run.proofs.Running.{drilled_none}
use Rattle.drill_run.proofs.runs.Runs.new.Goals as goal

pub returns : goal.returns
returns c = record {
  begun =
      drilled_none c.args.world.now c.new-lines.result c.bytes.result.now c.new-tally.result c.add.new.self
      c.requires.first c.new-lines.ensures.empty (λ n s. c.bytes.ensures.value ∙ c.in_ok-start_line.ensures.line n s)
      c.new-tally.ensures.empty c.in_ok-add.ensures.after;
}
