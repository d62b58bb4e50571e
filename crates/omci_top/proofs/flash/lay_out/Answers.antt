use Rattle.std.proofs.Common.{refl, ◌∙◌}
use Rattle.omci_top.proofs.FlashLemmas.{flashed_done, flashed_nothing, flashed_in_part}
use Rattle.omci_top.proofs.flash.lay_out.Goals as goal

pub returns-in-Ok-format-clause-flashed : goal.returns-in-Ok-format-clause-flashed
returns-in-Ok-format-clause-flashed g c =
    flashed_done g.D.Disk.seen g.D.Disk.may_leave g.D.Disk.rig g.D.Disk.faults c.args.disk c.attach.new.self c.in-Ok-format.slots.disk
    c.end_of-in-Ok-format.result.disk c.in-Ok-format.slots.header c.args.image.now c.end_of-in-Ok-format.result.status
    c.end_of-in-Ok-format.ensures.status
    (c.end_of-in-Ok-format.ensures.disk ∙ c.unmount.ensures.disk)
    c.in-Ok-format.ensures.fits
    c.in-Ok-format.ensures.room
    c.in-Ok.ensures.seen
    c.in-Ok-format.ensures.settled
    c.in-Ok.ensures.rig
    c.in-Ok-format.ensures.rig
    c.in-Ok.ensures.cause.kept
    (c.in-Ok-format.ensures.kept refl)

pub returns-in-Err-clause-flashed : goal.returns-in-Err-clause-flashed
returns-in-Err-clause-flashed g c =
    flashed_nothing g.D.Disk.seen g.D.Disk.may_leave g.D.Disk.rig g.D.Disk.faults c.args.disk c.attach.new.self c.end_of.result.disk
    c.args.image.now c.end_of.result.status
    c.end_of.ensures.status
    c.end_of.ensures.disk
    (c.requires.some, c.requires.fits)
    c.in-Err.ensures.rig
    c.in-Err.ensures.cause.failed

pub returns-in-Err-Fault-clause-flashed : goal.returns-in-Err-Fault-clause-flashed
returns-in-Err-Fault-clause-flashed g c =
    let rose = rw c.in-Err-Fault.field-0-is at c.in-Err-Fault.ensures.cause in
    flashed_in_part g.D.Disk.seen g.D.Disk.may_leave g.D.Disk.rig g.D.Disk.faults c.args.disk c.attach.new.self c.in-Err-Fault.disk
    c.end_of-in-Err-Fault.result.disk c.args.image.now c.end_of-in-Err-Fault.result.status
    c.end_of-in-Err-Fault.ensures.status
    c.end_of-in-Err-Fault.ensures.disk
    (c.requires.some, c.requires.fits)
    c.in-Ok.ensures.rig
    (rw c.in-Err-Fault.field-0-is at c.in-Err-Fault.ensures.rig)
    c.in-Ok.ensures.cause.kept
    (rose refl)
