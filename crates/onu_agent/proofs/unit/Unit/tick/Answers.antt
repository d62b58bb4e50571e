use Rattle.std.proofs.Common.{refl}
use Rattle.onu_agent.proofs.Coming.{ticking}
use Rattle.onu_agent.proofs.unit.Unit.tick.Goals as goal

pub returns-clause-ticked : goal.returns-clause-ticked
returns-clause-ticked g c = rw (← c.self.view_is) (λ u s. ticking g.D.Disk.seen g.D.Disk.may_leave _ _ u s refl refl c.tick.ensures.ticked)
