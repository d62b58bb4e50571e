use Rattle.std.proofs.Common.{List, ◌++◌, subst}
use Rattle.drill_run.specs.Drilled.{Drilled}
use Rattle.script_spec.specs.Script.{Action}
use Rattle.drill_run.proofs.Summing.{step_made, step_short, step_ranges}
use Rattle.drill_run.proofs.drilling.run_step.Goals as goal

pub run-requires-clause-short : goal.run-requires-clause-short
run-requires-clause-short c =
    step_short c.args.steps c.args.state c.push_after.new.events
    (step_made c.args.steps c.args.state c.clear.new.self c.push_step.new.events c.push_after.new.events c.clear.ensures.empty c.in_ok-after.ensures.lines c.in_ok-push_after.ensures.lines)

pub run-requires-clause-ranges : goal.run-requires-clause-ranges
run-requires-clause-ranges c =
    step_ranges c.args.steps c.args.state c.push_after.new.events
    (step_made c.args.steps c.args.state c.clear.new.self c.push_step.new.events c.push_after.new.events c.clear.ensures.empty c.in_ok-after.ensures.lines c.in_ok-push_after.ensures.lines)

pub returns-clause-drilled : goal.returns-clause-drilled
returns-clause-drilled c = λ done d.
    subst (λ (xs : List Action). Drilled (done ++ xs) c.run.new.world c.run.new.self.tally)
    (step_made c.args.steps c.args.state c.clear.new.self c.push_step.new.events c.push_after.new.events c.clear.ensures.empty c.in_ok-after.ensures.lines c.in_ok-push_after.ensures.lines)
    (c.in_ok-run.ensures.drilled done d)
