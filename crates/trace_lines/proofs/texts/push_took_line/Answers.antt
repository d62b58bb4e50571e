use Rattle.std.proofs.Common.{◌++◌}
use Rattle.std.specs.Prelude.{codes, decimal}
use Rattle.manager_spec.specs.declared.Report.TheVariants as report
use Rattle.world_spec.specs.declared.Effect.TheVariants as effect
use Rattle.world_spec.specs.Trace.{effect_text, line_text}
use Rattle.trace_lines.proofs.Joining.{whole_line}
use Rattle.trace_lines.proofs.texts.push_took_line.Goals as goal

pub returns : goal.returns
unfolding line_text
returns c = record {
  text =
      whole_line c.new-line.result c.append_event.new.line c.append_took.new.line c.args.out.now
      c.push_ended.new.out (decimal c.args.event ++ codes " ")
      (effect_text (effect.Reported (report.Took c.args.reply.now))) (codes "\n")
      c.new-line.ensures.empty c.append_event.ensures.text c.append_took.ensures.text
      c.in_ok-push_ended.ensures.text;
}
