use Rattle.std.proofs.Common.{◌∙◌, ap}
use Rattle.image_store.specs.Stands.{Kept}
use Rattle.onu_agent.proofs.unit.Unit.rig.Goals as goal

pub returns-clause-stands : goal.returns-clause-stands
returns-clause-stands g c = rw (← c.self.view_is) (λ u s. record {
  desk_is = s.desk_is;
  leaving_is = s.leaving_is;
  room_is = ap (λ (k : Kept _). k.room) c.rig.ensures.same ∙ s.room_is;
  images = c.rig.ensures.stands u.store s.images;
})
