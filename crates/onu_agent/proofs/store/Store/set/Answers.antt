use Rattle.std.proofs.Common.{subst, sym}
use Rattle.mib_laws.specs.Made.{HoldsOnlyMade}
use Rattle.mib_laws.proofs.Made.{made_set}
use Rattle.onu_agent.proofs.store.Store.set.Goals as goal

pub invariant_of-self : goal.invariant_of-self
invariant_of-self c = subst HoldsOnlyMade (sym c.set-done.ensures.database) (made_set c.args.entity c.args.mask c.args.values.now c.self.inside.mib c.self.invariant)
