use Rattle.std.proofs.Common.{is_some, ap, ◌∙◌, refl, sym}
use Rattle.onu_agent.specs.State.{Held}
use Rattle.unit_spec.specs.Noticing.{onu_alarmed, alarm_if, may_alarm}
use Rattle.onu_agent.proofs.Coming.{tells_nothing, alarmed_as}
use Rattle.onu_agent.proofs.unit.Unit.alarm.Goals as goal

pub returns-then-leaves-clause-alarmed : goal.returns-then-leaves-clause-alarmed
unfolding onu_alarmed
returns-then-leaves-clause-alarmed g c = rw (← c.self.view_is) (λ u s. tells_nothing g.D.Disk.seen g.D.Disk.may_leave _ _ u _ _ s (alarm_if (may_alarm c.args.entity u.database) c.args.entity c.args.bitmap u) (ap (λ (h : Held _). is_some h.leaving) c.self.view_is ∙ sym c.leaves.ensures.value ∙ c.if-leaves.true) refl refl c.clear.ensures.empty)

pub returns-clause-alarmed : goal.returns-clause-alarmed
returns-clause-alarmed g c = rw (← c.self.view_is) (λ u s. alarmed_as g.D.Disk.seen g.D.Disk.may_leave _ _ u c.alarm.new.out s c.args.entity c.args.bitmap c.alarm.result (ap (λ (h : Held _). is_some h.leaving) c.self.view_is ∙ sym c.leaves.ensures.value ∙ c.if-leaves.false) refl refl c.alarm.ensures.noticed c.alarm.ensures.packet c.alarm.ensures.after)
