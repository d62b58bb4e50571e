use Rattle.std.proofs.Common.{sym, ap, subst, ◌∙◌}
use Rattle.std.specs.List.{remove}
use Rattle.alarm_spec.specs.Alarms.{Alarms, IsAscending}
use Rattle.alarm_laws.proofs.Maps.{ascending_without_alarm}
use Rattle.alarm_log.proofs.Places.{removed_here, removed_absent}
use Rattle.alarm_log.proofs.rows.Rows.remove.Goals as goal

pub invariant_of-self : goal.invariant_of-self
invariant_of-self c =
    let gone = c.remove-alarm.ensures.items ∙ ap (λ (es : Alarms). remove es c.in-Ok.at) c.self.view_is ∙ removed_here c.args.self.now c.in-Ok.at c.args.entity c.in-Ok.ensures.found in
    subst (λ (es : Alarms). IsAscending es) (sym gone) (ascending_without_alarm c.args.entity c.args.self.now (subst (λ (es : Alarms). IsAscending es) c.self.view_is c.self.invariant))

pub returns-in-Ok : goal.returns-in-Ok
returns-in-Ok c = c.remove-alarm.ensures.items ∙ ap (λ (es : Alarms). remove es c.in-Ok.at) c.self.view_is ∙ removed_here c.args.self.now c.in-Ok.at c.args.entity c.in-Ok.ensures.found

pub returns-in_default : goal.returns-in_default
returns-in_default c = removed_absent c.args.self.now c.in_default.field-0 c.args.entity c.in_default.ensures.absent
