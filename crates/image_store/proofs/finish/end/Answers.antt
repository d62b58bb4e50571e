use Rattle.std.proofs.Common.{◌∙◌, sym}
use Rattle.std.proofs.lemmas.Bool.{true≢false}
use Rattle.store_spec.specs.Deeds.{Refuse, seal_deed}
use Rattle.store_laws.proofs.Tests.{no_download, this_download, other_download}
use Rattle.image_store.proofs.Carrying.{refused}
use Rattle.image_store.proofs.finish.end.Goals as goal

pub returns-then-slot-target-clause-carried : goal.returns-then-slot-target-clause-carried
returns-then-slot-target-clause-carried g c = λ room granted held m s whole.
    let l = rw c.in-Filling.is at s in
    rw (c.in-Filling.is, this_download Refuse c.args.slot m.download _ (λ x. seal_deed c.args.check c.args.size x) l.download_is (c.if-slot-target.true ∙ c.target.ensures.target)) (c.seal.ensures.carried room granted held m l)

pub returns-else-slot-target-clause-carried : goal.returns-else-slot-target-clause-carried
returns-else-slot-target-clause-carried g c = λ room granted held m s whole.
    let l = rw c.in-Filling.is at s in
    rw (c.in-Filling.is, other_download Refuse c.args.slot m.download _ (λ x. seal_deed c.args.check c.args.size x) l.download_is (λ e. c.if-slot-target.false (e ∙ sym c.target.ensures.target))) (refused g.D.Disk.seen g.D.Disk.may_leave g.D.Disk.clock g.D.Disk.left_since g.D.Disk.rig g.D.Disk.faults g.met.D.Disk.rig_reads g.met.D.Disk.cut_counts g.met.D.Disk.only_now room c.args.active granted 3 held _ _ m c.refused.ensures.value l)

pub returns-in-Whole-clause-carried : goal.returns-in-Whole-clause-carried
returns-in-Whole-clause-carried g c = λ room granted held m s whole.
    let l = rw c.in-Whole.is at s in
    rw (c.in-Whole.is, no_download Refuse c.args.slot m.download (λ x. seal_deed c.args.check c.args.size x) l.1) (refused g.D.Disk.seen g.D.Disk.may_leave g.D.Disk.clock g.D.Disk.left_since g.D.Disk.rig g.D.Disk.faults g.met.D.Disk.rig_reads g.met.D.Disk.cut_counts g.met.D.Disk.only_now room c.args.active granted 1 held _ _ m c.refused-in-Whole.ensures.value l)

pub returns-in-Broken-clause-carried : goal.returns-in-Broken-clause-carried
returns-in-Broken-clause-carried g c = λ room granted held m s whole.
    let b = rw c.in-Broken.is at s in
    absurd (true≢false (sym b.0.broken_is ∙ whole))
