use Rattle.std.proofs.Common.{◌++◌, take, arith}
use Rattle.replay_script.specs.Events.{action_of}
use Rattle.drill_run.proofs.Running.{drilled_start, drilled_more, drilled_end, few_there, fits_there}
use Rattle.drill_run.proofs.runs.Runs.run.Goals as goal

pub loop-place-init : goal.loop-place-init
loop-place-init c = λ done d. drilled_start done c.args.events.now c.args.world.now c.args.self.now.tally d

pub run_one-requires-clause-few : goal.run_one-requires-clause-few
run_one-requires-clause-few c =
    let some = c.requires.few in
    few_there some.done c.args.events.now c.loop-place.place c.loop-place.world c.loop-place.self.tally
    (c.loop-place.invariant some.done some.drilled) some.few (omega (arith, c.len-place-end.ensures.value)) c.requires.short

pub run_one-requires-clause-ranges : goal.run_one-requires-clause-ranges
run_one-requires-clause-ranges c =
    fits_there c.args.events.now c.loop-place.place (action_of c.get.result.now) c.requires.ranges c.get.ensures.value

pub loop-place-preserved : goal.loop-place-preserved
loop-place-preserved c = λ done d.
    drilled_more done c.args.events.now c.loop-place.place (action_of c.get.result.now) c.run_one.new.world c.run_one.new.self.tally
    (c.in_ok-run_one.ensures.drilled (done ++ take c.loop-place.place c.args.events.now) (c.loop-place.invariant done d))
    c.get.ensures.value

pub returns : goal.returns
returns c = record {
  drilled = λ done d.
      drilled_end done c.args.events.now c.loop-place.place c.loop-place.world c.loop-place.self.tally
      (omega (arith, c.len-place-end.ensures.value)) (c.loop-place.invariant done d);
}
