use Rattle.std.proofs.Common.{subst, sym}
use Rattle.mib_laws.specs.Made.{HoldsOnlyMade}
use Rattle.mib_laws.proofs.Made.{made_create}
use Rattle.onu_agent.proofs.store.Store.create.Goals as goal

pub invariant_of-self-2 : goal.invariant_of-self-2
invariant_of-self-2 c = subst HoldsOnlyMade (sym c.in_ok-code.ensures.ok) (made_create c.args.entity c.args.values.now c.self.inside.mib c.self.invariant)
