use Rattle.std.proofs.Common.{is_some, ap, ◌∙◌, refl, sym}
use Rattle.onu_agent.specs.State.{Held}
use Rattle.unit_spec.specs.Noticing.{onu_sensed, measured}
use Rattle.onu_agent.proofs.Coming.{tells_nothing, sensing}
use Rattle.onu_agent.proofs.unit.Unit.sense.Goals as goal

pub returns-then-leaves-clause-sensed : goal.returns-then-leaves-clause-sensed
unfolding onu_sensed
returns-then-leaves-clause-sensed g c = rw (← c.self.view_is) (λ u s. tells_nothing g.D.Disk.seen g.D.Disk.may_leave _ _ u _ _ s (measured c.args.entity c.args.number c.args.value.now u) (ap (λ (h : Held _). is_some h.leaving) c.self.view_is ∙ sym c.leaves.ensures.value ∙ c.if-leaves.true) refl refl c.clear.ensures.empty)

pub returns-clause-sensed : goal.returns-clause-sensed
returns-clause-sensed g c = rw (← c.self.view_is) (λ u s. sensing g.D.Disk.seen g.D.Disk.may_leave _ _ u _ _ s c.args.entity c.args.number c.args.value.now (ap (λ (h : Held _). is_some h.leaving) c.self.view_is ∙ sym c.leaves.ensures.value ∙ c.if-leaves.false) refl refl c.sense.ensures.noticed c.sense.ensures.packet c.sense.ensures.after)
