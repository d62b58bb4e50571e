use Rattle.std.proofs.Common.{◌-◌}
use Rattle.link_replay.proofs.Flows.{FlowSoFar}
use Rattle.link_replay.proofs.machine.Machine.flow.Given as goal

abbrev pub invariant-loop-done : goal.invariant-loop-done
invariant-loop-done l = FlowSoFar l.times (l.times - l._done) l.fn.self l.self l.fn.out l.out
