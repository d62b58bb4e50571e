use Rattle.std.proofs.Common.{◌∙◌, ◌==◌, not, true, refl, sym, ap}
use Rattle.store_spec.specs.Deeds.{Activate}
use Rattle.store_spec.specs.Effects.{answered}
use Rattle.store_laws.proofs.Tests.{activate_some, activate_none}
use Rattle.image_store.proofs.Carrying.{active_of, still, refused}
use Rattle.image_store.proofs.finish.activate.Goals as goal

pub returns-then-has_image-clause-carried : goal.returns-then-has_image-clause-carried
returns-then-has_image-clause-carried g c = λ room granted held m s whole.
    let some = sym (c.has_image.ensures.value room c.args.active granted held m s whole) ∙ c.if-has_image.true in
    rw (activate_some c.args.slot m some) (still g.D.Disk.seen g.D.Disk.may_leave g.D.Disk.clock g.D.Disk.left_since g.D.Disk.rig g.D.Disk.faults g.met.D.Disk.rig_reads g.met.D.Disk.cut_counts g.met.D.Disk.only_now room c.args.active granted granted held held _ _ (Activate (not (c.args.slot == m.active))) m s s refl
    (ap (λ k. answered 0 true (not (c.args.slot == k))) (sym (active_of g.D.Disk.seen g.D.Disk.may_leave room c.args.active granted held c.args.state m s))))

pub returns-else-has_image-clause-carried : goal.returns-else-has_image-clause-carried
returns-else-has_image-clause-carried g c = λ room granted held m s whole.
    let none = sym (c.has_image.ensures.value room c.args.active granted held m s whole) ∙ c.if-has_image.false in
    rw (activate_none c.args.slot m none) (refused g.D.Disk.seen g.D.Disk.may_leave g.D.Disk.clock g.D.Disk.left_since g.D.Disk.rig g.D.Disk.faults g.met.D.Disk.rig_reads g.met.D.Disk.cut_counts g.met.D.Disk.only_now room c.args.active granted 3 held c.args.state _ m c.refused.ensures.value s)
