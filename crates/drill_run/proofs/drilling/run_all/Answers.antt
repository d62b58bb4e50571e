use Rattle.std.proofs.Common.{refl, ◌+◌, ◌++◌, arith}
use Rattle.drill_spec.specs.Drill.{step_lines, lines_after}
use Rattle.drill_run.proofs.Summing.{first_made, first_short, first_ranges, some_first, some_before, steps_start, steps_go_on, steps_end}
use Rattle.drill_run.proofs.drilling.run_all.Goals as goal

pub run-requires-clause-few : goal.run-requires-clause-few
run-requires-clause-few c = some_first c.args.world.now c.in_ok-runs.runs.tally c.in_ok-runs.ensures.begun

pub run-requires-clause-short : goal.run-requires-clause-short
run-requires-clause-short c =
    first_short c.push_first.new.events (first_made c.new-events.result c.push_first.new.events c.new-events.ensures.empty c.in_ok-push_first.ensures.lines)

pub run-requires-clause-ranges : goal.run-requires-clause-ranges
run-requires-clause-ranges c =
    first_ranges c.push_first.new.events (first_made c.new-events.result c.push_first.new.events c.new-events.ensures.empty c.in_ok-push_first.ensures.lines)

pub loop-steps-init : goal.loop-steps-init
loop-steps-init c =
    steps_start c.args.number c.push_first.new.events c.args.world.now c.run.new.world c.in_ok-runs.runs.tally c.run.new.self.tally c.in_ok-runs.ensures.begun
    (first_made c.new-events.result c.push_first.new.events c.new-events.ensures.empty c.in_ok-push_first.ensures.lines)
    c.in_ok-run.ensures.drilled

pub run_step-requires-clause-few : goal.run_step-requires-clause-few
run_step-requires-clause-few c =
    some_before c.args.number c.loop-steps.steps c.loop-steps.world c.loop-steps.runs.tally c.loop-steps.invariant.0 (omega arith)

pub loop-steps-preserved : goal.loop-steps-preserved
loop-steps-preserved c =
    steps_go_on c.args.number c.loop-steps.steps c.loop-steps.state c.in_ok-state.state (step_lines c.loop-steps.state ++ lines_after (c.loop-steps.steps + 1))
    c.loop-steps.world c.run_step.new.world c.loop-steps.runs.tally c.run_step.new.runs.tally
    c.loop-steps.invariant refl c.in_ok-state.ensures.state c.in_ok-state.ensures.drilled

pub returns : goal.returns
returns c = record { drilled = steps_end c.args.number c.loop-steps.steps c.loop-steps.world c.loop-steps.runs.tally (omega arith) c.loop-steps.invariant.0 }
