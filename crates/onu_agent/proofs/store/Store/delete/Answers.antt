use Rattle.std.proofs.Common.{subst, sym}
use Rattle.mib_laws.specs.Made.{HoldsOnlyMade}
use Rattle.mib_laws.proofs.Made.{made_delete}
use Rattle.onu_agent.proofs.store.Store.delete.Goals as goal

pub invariant_of-self : goal.invariant_of-self
invariant_of-self c = subst HoldsOnlyMade (sym c.delete.ensures.database) (made_delete c.args.entity c.self.inside.mib c.self.invariant)
