use Rattle.std.proofs.Common.{◌∙◌, refl, sym}
use Rattle.store_spec.specs.Deeds.{deed}
use Rattle.image_store.proofs.Carrying.{store_carried}
use Rattle.image_store.proofs.store.Store.carry.Goals as goal

pub returns-clause-carried : goal.returns-clause-carried
returns-clause-carried g c = rw (← c.self.view_is) (λ m s.
    let was = sym c.take.ensures.value ∙ c.unwrap-state.ensures in
    store_carried g.D.Disk.seen g.D.Disk.may_leave g.D.Disk.clock g.D.Disk.left_since g.D.Disk.rig g.D.Disk.faults _ _ c.unwrap-state.result c.carry-done.result
    (deed c.self.inside.base.room c.args.tci c.args.entity c.args.request.now m) m s was refl refl refl (c.carry-done.ensures.carried m))
