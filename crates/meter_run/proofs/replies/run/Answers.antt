use Rattle.std.proofs.Common.{◌<◌, ◌≤◌, ◌+◌, ap, arith, length}
use Rattle.meter_run.proofs.Running.{goes_on, ends}
use Rattle.meter_run.proofs.replies.run.Goals as goal

pub loop-line-preserved : goal.loop-line-preserved
loop-line-preserved c =
    let within : c.loop-line.line-index < length c.args.lines.now =
    omega (arith, c.loop-line-test.true) in (
      ap (λ n. n + 1) c.loop-line.invariant.0,
      c.tci_after-tci.ensures.low,
      c.tci_after-tci.ensures.high,
      goes_on c.loop-line.pm c.run_line.new.pm c.loop-line.event c.loop-line.tci
          c.tci_after-tci.result c.loop-line.out.items c.run_line.new.out.items c.args.lines.now
          c.loop-line.line-index _ _ within c.loop-line.invariant.3 c.run_line.ensures.stands
          c.in_ok-run_line.ensures.text c.tci_after-tci.ensures.value,
    )

pub returns : goal.returns
returns c =
    let past : length c.args.lines.now ≤ c.loop-line.line-index =
    omega (arith, c.loop-line-test.false) in
    record {
      value =
          ends c.loop-line.pm c.loop-line.event c.loop-line.tci c.loop-line.out.items
          c.args.lines.now c.loop-line.line-index _ past c.loop-line.invariant.3;
    }
