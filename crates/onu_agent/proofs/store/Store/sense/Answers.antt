use Rattle.std.proofs.Common.{subst, sym, ◌∙◌}
use Rattle.mib_laws.specs.Made.{HoldsOnlyMade}
use Rattle.mib_laws.proofs.Made.{made_sense}
use Rattle.onu_agent.proofs.Measured.{sense_keeps, changed_fits}
use Rattle.onu_agent.proofs.store.Store.sense.Goals as goal

pub invariant_of-self : goal.invariant_of-self
invariant_of-self c = subst HoldsOnlyMade (sym c.sense.ensures.database) (made_sense c.args.entity c.args.number c.args.value.now c.self.inside.mib c.self.invariant)

pub returns-clause-kept : goal.returns-clause-kept
returns-clause-kept c differ =
    c.sense.ensures.database
    ∙ sense_keeps c.args.entity c.args.number c.args.value.now c.self.inside.mib (λ is. differ (c.sense.ensures.sensed ∙ is))
    ∙ c.self.view_is

pub returns-clause-number : goal.returns-clause-number
returns-clause-number c is =
    let fits = changed_fits c.args.entity c.args.number c.args.value.now c.self.inside.mib (sym c.sense.ensures.sensed ∙ is) in
    (fits.from_one, fits.to_sixteen)

pub returns-clause-fits : goal.returns-clause-fits
returns-clause-fits c is = (changed_fits c.args.entity c.args.number c.args.value.now c.self.inside.mib (sym c.sense.ensures.sensed ∙ is)).room
