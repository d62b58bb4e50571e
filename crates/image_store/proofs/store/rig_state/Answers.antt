use Rattle.image_store.proofs.Trapping.{loading_trap}
use Rattle.image_store.proofs.store.rig_state.Goals as goal

pub returns-in-Filling-clause-stands : goal.returns-in-Filling-clause-stands
returns-in-Filling-clause-stands g c = λ room active granted window m s.
    loading_trap g.D.Disk.seen g.D.Disk.may_leave room active granted window c.in-Filling.download c.rig-in-Filling.new.self m c.rig-in-Filling.ensures.state (c.rig-in-Filling.ensures.seen, c.rig-in-Filling.ensures.moments.now) (rw c.in-Filling.is at s)
