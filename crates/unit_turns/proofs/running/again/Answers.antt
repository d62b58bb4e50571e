use Rattle.std.proofs.Common.{◌+◌, ℕ}
use Rattle.unit_turns.proofs.Beginning.{again_comes}
use Rattle.std.proofs.Common.{subst}
use Rattle.unit_turns.specs.Ending.{DiskCounts}
use Rattle.unit_turns.proofs.running.again.Goals as goal

pub returns-clause-comes : goal.returns-clause-comes
returns-clause-comes g c = λ u stands long.
    again_comes g.D.Disk.seen g.D.Disk.may_leave g.D.Disk.clock g.D.Disk.left_since g.D.Disk.rig
    g.D.Disk.faults g.met.D.Disk.leaves_seen c.args.unit.agent u stands c.args.unit.size
    c.args.turn (c.args.unit.life + 1) c.args.boot c.stop-disk.result
    (g.K.Sink.written c.args.sink.now) (g.K.Sink.written c.start.new.sink) c.start.result long
    c.stop-disk.ensures.disk c.start.ensures.comes

pub returns-clause-count : goal.returns-clause-count
returns-clause-count g c =
    subst (λ (n : ℕ). DiskCounts g.D.Disk.faults c.start.result n) c.stop-disk.ensures.count
    c.start.ensures.count
