use Rattle.std.proofs.Common.{◌∙◌, refl, sym}
use Rattle.std.proofs.lemmas.Bool.{true≢false}
use Rattle.window_spec.specs.Incoming.{section}
use Rattle.store_spec.specs.Deeds.{Ignore, ignore, hold_deed}
use Rattle.store_laws.proofs.Tests.{no_download, this_download, other_download}
use Rattle.image_store.proofs.Carrying.{still}
use Rattle.image_store.proofs.load.hold.Goals as goal

pub returns-then-slot-target-clause-carried : goal.returns-then-slot-target-clause-carried
returns-then-slot-target-clause-carried g c = λ room active m s whole.
    let l = rw c.in-Filling.is at s in
    rw (c.in-Filling.is, this_download ignore c.args.slot m.download _ (λ x. hold_deed (section c.args.tci c.args.number c.args.bytes.now) x) l.download_is (c.if-slot-target.true ∙ c.target.ensures.target)) (c.hold_for.ensures.carried room active m l)

pub returns-else-slot-target-clause-carried : goal.returns-else-slot-target-clause-carried
returns-else-slot-target-clause-carried g c = λ room active m s whole.
    let l = rw c.in-Filling.is at s in
    rw (c.in-Filling.is, other_download ignore c.args.slot m.download _ (λ x. hold_deed (section c.args.tci c.args.number c.args.bytes.now) x) l.download_is (λ e. c.if-slot-target.false (e ∙ sym c.target.ensures.target))) (still g.D.Disk.seen g.D.Disk.may_leave g.D.Disk.clock g.D.Disk.left_since g.D.Disk.rig g.D.Disk.faults g.met.D.Disk.rig_reads g.met.D.Disk.cut_counts g.met.D.Disk.only_now room active _ _ _ _ _ _ Ignore m l l refl refl)

pub returns-in-Whole-clause-carried : goal.returns-in-Whole-clause-carried
returns-in-Whole-clause-carried g c = λ room active m s whole.
    let l = rw c.in-Whole.is at s in
    rw (c.in-Whole.is, no_download ignore c.args.slot m.download (λ x. hold_deed (section c.args.tci c.args.number c.args.bytes.now) x) l.1) (still g.D.Disk.seen g.D.Disk.may_leave g.D.Disk.clock g.D.Disk.left_since g.D.Disk.rig g.D.Disk.faults g.met.D.Disk.rig_reads g.met.D.Disk.cut_counts g.met.D.Disk.only_now room active c.args.coming.now.granted c.args.coming.now.granted c.args.coming.now.inbox c.args.coming.now.inbox _ _ Ignore m l l refl refl)

pub returns-in-Broken-clause-carried : goal.returns-in-Broken-clause-carried
returns-in-Broken-clause-carried g c = λ room active m s whole.
    let b = rw c.in-Broken.is at s in
    absurd (true≢false (sym b.0.broken_is ∙ whole))
