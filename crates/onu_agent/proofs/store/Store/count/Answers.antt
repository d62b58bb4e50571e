use Rattle.std.proofs.Common.{subst, sym, ◌∙◌, ap}
use Rattle.mib_laws.specs.Made.{HoldsOnlyMade}
use Rattle.mib_laws.proofs.Made.{made_software, made_grown}
use Rattle.mib_spec.specs.Database.{with_software, with_counter_grown}
use Rattle.onu_agent.proofs.store.Store.count.Goals as goal

pub invariant_of-self : goal.invariant_of-self
invariant_of-self c =
    subst HoldsOnlyMade (sym (c.grow.ensures.database ∙ ap with_counter_grown c.software.ensures))
    (made_grown (with_software c.args.software c.self.inside.mib) (made_software c.args.software c.self.inside.mib c.self.invariant))
