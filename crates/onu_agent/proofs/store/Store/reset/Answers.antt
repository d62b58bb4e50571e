use Rattle.std.proofs.Common.{subst, sym}
use Rattle.mib_laws.specs.Made.{HoldsOnlyMade}
use Rattle.mib_laws.proofs.Made.{made_reset}
use Rattle.onu_agent.proofs.store.Store.reset.Goals as goal

pub invariant_of-self : goal.invariant_of-self
invariant_of-self c = subst HoldsOnlyMade (sym c.reset.ensures) (made_reset c.self.inside.mib)
