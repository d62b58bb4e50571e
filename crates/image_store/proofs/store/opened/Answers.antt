use Rattle.std.proofs.Common.{refl, sym}
use Rattle.image_store.specs.declared.state.State.TheVariants.{Whole}
use Rattle.image_store.proofs.store.opened.Goals as goal

pub returns-clause-stands : goal.returns-clause-stands
returns-clause-stands g c = λ s settled. record {
  state = Whole c.args.slots;
  state_is = refl;
  stands = (record { whole = refl; room_is = sym c.room.ensures.room; active_is = sym (c.slot_to_run.ensures.slot s settled); settled = settled }, refl);
}
