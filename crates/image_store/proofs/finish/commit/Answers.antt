use Rattle.std.proofs.Common.{◌∙◌, refl, sym, ap}
use Rattle.std.proofs.lemmas.Bool.{true≢false}
use Rattle.std.specs.Option.{is_some}
use Rattle.store_spec.specs.Deeds.{Recommit}
use Rattle.store_laws.proofs.Tests.{valid_is, commit_same, commit_none, loading_commits}
use Rattle.image_store.proofs.Carrying.{still, refused}
use Rattle.image_store.proofs.finish.commit.Goals as goal

pub returns-in-Whole-clause-carried : goal.returns-in-Whole-clause-carried
returns-in-Whole-clause-carried g c = λ room granted held m s whole.
    let l = rw c.in-Whole.is at s in
    rw c.in-Whole.is (c.keep.ensures.carried room granted held m l.0 l.1)

pub returns-then-is_some-clause-carried : goal.returns-then-is_some-clause-carried
returns-then-is_some-clause-carried g c = λ room granted held m s whole.
    let l = rw c.in-Filling.is at s in
    let d = c.in-Filling.download in
    let some = valid_is c.args.slot d.header m.slots l.filling.settled.bytes l.filling.settled.shows ∙ sym (ap (λ o. is_some o) c.view.ensures.view) ∙ sym c.is_some.ensures ∙ c.if-is_some.true in
    let same = loading_commits c.args.slot d.target d.header m.slots l.filling.settled.bytes c.requires.slot l.filling.settled.shows l.filling.shut some in
    rw (c.in-Filling.is, commit_same c.args.slot m.slots some same) (still g.D.Disk.seen g.D.Disk.may_leave g.D.Disk.clock g.D.Disk.left_since g.D.Disk.rig g.D.Disk.faults g.met.D.Disk.rig_reads g.met.D.Disk.cut_counts g.met.D.Disk.only_now room c.args.active granted granted held held _ _ (Recommit c.args.slot) m l l refl c.carried.ensures.value)

pub returns-else-is_some-clause-carried : goal.returns-else-is_some-clause-carried
returns-else-is_some-clause-carried g c = λ room granted held m s whole.
    let l = rw c.in-Filling.is at s in
    let d = c.in-Filling.download in
    let none = valid_is c.args.slot d.header m.slots l.filling.settled.bytes l.filling.settled.shows ∙ sym (ap (λ o. is_some o) c.view.ensures.view) ∙ sym c.is_some.ensures ∙ c.if-is_some.false in
    rw (c.in-Filling.is, commit_none c.args.slot m.slots none) (refused g.D.Disk.seen g.D.Disk.may_leave g.D.Disk.clock g.D.Disk.left_since g.D.Disk.rig g.D.Disk.faults g.met.D.Disk.rig_reads g.met.D.Disk.cut_counts g.met.D.Disk.only_now room c.args.active granted 3 held _ _ m c.refused.ensures.value l)

pub returns-in-Broken-clause-carried : goal.returns-in-Broken-clause-carried
returns-in-Broken-clause-carried g c = λ room granted held m s whole.
    let b = rw c.in-Broken.is at s in
    absurd (true≢false (sym b.0.broken_is ∙ whole))
