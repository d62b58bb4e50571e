use Rattle.std.proofs.Common.{ℕ, List, refl, subst}
use Rattle.world_spec.specs.Ends.{factory_slots}
use Rattle.link_replay.specs.Seen.{DiskStands}
use Rattle.link_replay.proofs.Powers.{factory_stands}
use Rattle.link_replay.proofs.unit.factory_disk.Goals as goal

pub returns-in-Ok : goal.returns-in-Ok
returns-in-Ok c = record {
  stands = subst (λ (image : List ℕ). DiskStands c.args.header.now.room c.args.length c.unmount.result (factory_slots image)) c.bytes.ensures.value
      (factory_stands c.args.header.now.room c.args.length c.in_ok-disk.disk c.in-Ok.slots.disk c.unmount.result c.in-Ok.slots.header c.bytes.result.now c.in_ok-disk.ensures.state c.requires.length c.unmount.ensures.disk c.in-Ok.ensures.room
      (c.in-Ok.ensures.settled refl) c.in-Ok.ensures.length c.in-Ok.ensures.outcome);
}
