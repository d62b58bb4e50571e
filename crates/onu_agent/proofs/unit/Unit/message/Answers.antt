use Rattle.std.proofs.Common.{refl}
use Rattle.store_spec.specs.Deeds.{Ignore}
use Rattle.unit_spec.specs.Onu.{drop_packet}
use Rattle.onu_agent.proofs.Asked.{in_ok, in_err}
use Rattle.onu_agent.proofs.Coming.{dropped}
use Rattle.onu_agent.proofs.unit.Unit.message.Goals as goal

pub returns-in-Ok-Asked-clause-came : goal.returns-in-Ok-Asked-clause-came
returns-in-Ok-Asked-clause-came g c = λ u s. rw (in_ok c.args.read.now _ _ c.in-Ok-Asked.is (rw c.in-Ok-Asked.is at c.in-Ok-Asked.field-0-is)) (c.request.ensures.came u s)

pub returns-in-Err-UnknownType-clause-came : goal.returns-in-Err-UnknownType-clause-came
returns-in-Err-UnknownType-clause-came g c = λ u s. rw (in_err c.args.read.now _ _ c.in-Err-UnknownType.is (rw c.in-Err-UnknownType.is at c.in-Err-UnknownType.field-0-is)) (c.unknown.ensures.came u s)

pub returns-in-Ok-Answered-clause-came : goal.returns-in-Ok-Answered-clause-came
returns-in-Ok-Answered-clause-came g c = λ u s. rw (in_ok c.args.read.now _ _ c.in-Ok-Answered.is (rw c.in-Ok-Answered.is at c.in-Ok-Answered.field-0-is)) (dropped g.D.Disk.seen g.D.Disk.may_leave g.D.Disk.clock g.D.Disk.left_since g.D.Disk.rig g.D.Disk.faults g.met.D.Disk.rig_reads g.met.D.Disk.cut_counts g.met.D.Disk.only_now _ _ _ _ (λ fails. drop_packet u) Ignore u s refl refl refl c.drop_packet.ensures.dropped c.drop_packet.ensures.empty)

pub returns-in-Ok-Told-clause-came : goal.returns-in-Ok-Told-clause-came
returns-in-Ok-Told-clause-came g c = λ u s. rw (in_ok c.args.read.now _ _ c.in-Ok-Told.is (rw c.in-Ok-Told.is at c.in-Ok-Told.field-0-is)) (dropped g.D.Disk.seen g.D.Disk.may_leave g.D.Disk.clock g.D.Disk.left_since g.D.Disk.rig g.D.Disk.faults g.met.D.Disk.rig_reads g.met.D.Disk.cut_counts g.met.D.Disk.only_now _ _ _ _ (λ fails. drop_packet u) Ignore u s refl refl refl c.drop_packet-in-Ok-Told.ensures.dropped c.drop_packet-in-Ok-Told.ensures.empty)

pub returns-in-Err-Bits-clause-came : goal.returns-in-Err-Bits-clause-came
returns-in-Err-Bits-clause-came g c = λ u s. rw (in_err c.args.read.now _ _ c.in-Err-Bits.is (rw c.in-Err-Bits.is at c.in-Err-Bits.field-0-is)) (dropped g.D.Disk.seen g.D.Disk.may_leave g.D.Disk.clock g.D.Disk.left_since g.D.Disk.rig g.D.Disk.faults g.met.D.Disk.rig_reads g.met.D.Disk.cut_counts g.met.D.Disk.only_now _ _ _ _ (λ fails. drop_packet u) Ignore u s refl refl refl c.drop_packet-in-Err-Bits.ensures.dropped c.drop_packet-in-Err-Bits.ensures.empty)
