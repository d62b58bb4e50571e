use Rattle.std.proofs.Common.{subst, sym}
use Rattle.mib_spec.specs.Database.{first, image_values}
use Rattle.mib_laws.specs.Made.{HoldsOnlyMade}
use Rattle.mib_laws.proofs.Made.{made_first}
use Rattle.onu_agent.proofs.store.Store.start.Goals as goal

pub invariant_of-result : goal.invariant_of-result
unfolding first
invariant_of-result c = subst HoldsOnlyMade (sym c.in_ok-new.ensures) (made_first (image_values 0 c.args.software) (image_values 1 c.args.software))
