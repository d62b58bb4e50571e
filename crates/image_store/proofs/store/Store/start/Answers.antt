use Rattle.std.proofs.Common.{false, length}
use Rattle.slot_spec.specs.Crash.{HasLength}
use Rattle.image_store.specs.Starts.{Started}
use Rattle.image_store.proofs.Starting.{refused_as, started, of_state, of_refusal, found_unit}
use Rattle.image_store.proofs.store.Store.start.Goals as goal

pub returns-in-Ok-clause-stands : goal.returns-in-Ok-clause-stands
returns-in-Ok-clause-stands g c = λ room s bytes reads long stands. c.opened.ensures.stands s (c.in-Ok.ensures.settled room s bytes reads long stands)

pub returns-in-Ok-clause-disk : goal.returns-in-Ok-clause-disk
returns-in-Ok-clause-disk g c = λ state is.
    of_state g.D.Disk.seen g.D.Disk.may_leave g.D.Disk.clock g.D.Disk.left_since g.D.Disk.rig g.D.Disk.faults c.args.size c.args.disk (λ x. Started g.D.Disk.seen g.D.Disk.may_leave g.D.Disk.clock g.D.Disk.left_since g.D.Disk.rig g.D.Disk.faults c.args.size c.args.disk x false) c.opened.result.state c.in-Ok.slots state c.opened.ensures.state is
    (started g.D.Disk.seen g.D.Disk.may_leave g.D.Disk.clock g.D.Disk.left_since g.D.Disk.rig g.D.Disk.faults c.args.size c.args.disk c.in-Ok.slots.disk false c.in-Ok.ensures.seen c.in-Ok.ensures.moments c.in-Ok.ensures.rig c.in-Ok.ensures.outcome c.in-Ok.ensures.cause c.in-Ok.ensures.kept)

pub returns-in-Ok-clause-length : goal.returns-in-Ok-clause-length
returns-in-Ok-clause-length g c = λ bytes reads state is.
    of_state g.D.Disk.seen g.D.Disk.may_leave g.D.Disk.clock g.D.Disk.left_since g.D.Disk.rig g.D.Disk.faults c.args.size c.args.disk (λ x. HasLength g.D.Disk.may_leave (length bytes) x) c.opened.result.state c.in-Ok.slots state c.opened.ensures.state is (c.in-Ok.ensures.length bytes reads)

pub returns-in-Ok-clause-found : goal.returns-in-Ok-clause-found
returns-in-Ok-clause-found g c = λ bytes reads. found_unit c.args.size bytes c.in-Ok.slots (c.in-Ok.ensures.found bytes reads)

pub returns-in-Err-clause-stands : goal.returns-in-Err-clause-stands
returns-in-Err-clause-stands g c = λ room s bytes reads long stands. c.in-Err.ensures.settled room s bytes reads long stands

pub returns-in-Err-clause-disk : goal.returns-in-Err-clause-disk
returns-in-Err-clause-disk g c =
    of_refusal g.D.Disk.seen g.D.Disk.may_leave g.D.Disk.clock g.D.Disk.left_since g.D.Disk.rig g.D.Disk.faults c.args.size c.args.disk (λ x fails. Started g.D.Disk.seen g.D.Disk.may_leave g.D.Disk.clock g.D.Disk.left_since g.D.Disk.rig g.D.Disk.faults c.args.size c.args.disk x fails) c.in-Err.refusal
    (started g.D.Disk.seen g.D.Disk.may_leave g.D.Disk.clock g.D.Disk.left_since g.D.Disk.rig g.D.Disk.faults c.args.size c.args.disk _ _ c.in-Err.ensures.seen c.in-Err.ensures.moments c.in-Err.ensures.rig c.in-Err.ensures.outcome c.in-Err.ensures.cause c.in-Err.ensures.kept)

pub returns-in-Err-clause-short : goal.returns-in-Err-clause-short
returns-in-Err-clause-short g c = λ below. refused_as _ _ (c.in-Err.ensures.short below)

pub returns-in-Err-clause-refused : goal.returns-in-Err-clause-refused
returns-in-Err-clause-refused g c = λ bytes reads long. c.in-Err.ensures.refused bytes reads long
