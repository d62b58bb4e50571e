use Rattle.std.proofs.Common.{◌∙◌, refl, sym, subst}
use Rattle.image_store.specs.Stands.{StateStands}
use Rattle.image_store.proofs.Carrying.{one_state}
use Rattle.image_store.proofs.store.Store.rig.Goals as goal

pub returns-clause-stands : goal.returns-clause-stands
returns-clause-stands g c = rw (← c.self.view_is) (λ m s.
    let was = sym c.take.ensures.value ∙ c.unwrap-state.ensures in
    let same = one_state c.self.inside.state s.state c.unwrap-state.result s.state_is was in
    record {
      state = c.rig_state.result;
      state_is = refl;
      stands = c.rig_state.ensures.stands c.self.inside.base.room c.self.inside.base.active c.self.inside.coming.granted c.self.inside.coming.inbox m
          (subst (λ x. StateStands g.D.Disk.seen g.D.Disk.may_leave c.self.inside.base.room c.self.inside.base.active c.self.inside.coming.granted c.self.inside.coming.inbox x m) same s.stands);
    })
