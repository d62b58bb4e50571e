use Rattle.std.proofs.Common.{sym, ap, subst, ◌∙◌, set}
use Rattle.std.specs.List.{insert}
use Rattle.alarm_spec.specs.Alarms.{Alarms, IsAscending}
use Rattle.alarm_laws.proofs.Maps.{ascending_with_alarm}
use Rattle.alarm_log.proofs.Places.{put_here, put_absent}
use Rattle.alarm_log.proofs.rows.Rows.put.Goals as goal

pub invariant_of-self : goal.invariant_of-self
invariant_of-self c =
    let put = ap (λ (es : Alarms). set es c.in-Ok.at (c.args.entity, c.args.bitmap)) c.self.view_is ∙ put_here c.args.self.now c.in-Ok.at c.args.entity c.args.bitmap c.in-Ok.ensures.found in
    subst (λ (es : Alarms). IsAscending es) (sym put) (ascending_with_alarm c.args.entity c.args.bitmap c.args.self.now (subst (λ (es : Alarms). IsAscending es) c.self.view_is c.self.invariant))

pub invariant_of-self-in-Continue-1 : goal.invariant_of-self-in-Continue-1
invariant_of-self-in-Continue-1 c =
    let put = c.in_ok-insert-in-Err.ensures.items ∙ ap (λ (es : Alarms). insert es c.in-Err.at (c.args.entity, c.args.bitmap)) c.self.view_is ∙ put_absent c.args.self.now c.in-Err.at c.args.entity c.args.bitmap c.in-Err.ensures.absent in
    subst (λ (es : Alarms). IsAscending es) (sym put) (ascending_with_alarm c.args.entity c.args.bitmap c.args.self.now (subst (λ (es : Alarms). IsAscending es) c.self.view_is c.self.invariant))

pub returns-in-Ok-clause-ok : goal.returns-in-Ok-clause-ok
returns-in-Ok-clause-ok c =
    ap (λ (es : Alarms). set es c.in-Ok.at (c.args.entity, c.args.bitmap)) c.self.view_is ∙ put_here c.args.self.now c.in-Ok.at c.args.entity c.args.bitmap c.in-Ok.ensures.found

pub returns-in_ok-insert-in-Err-clause-ok : goal.returns-in_ok-insert-in-Err-clause-ok
returns-in_ok-insert-in-Err-clause-ok c =
    c.in_ok-insert-in-Err.ensures.items ∙ ap (λ (es : Alarms). insert es c.in-Err.at (c.args.entity, c.args.bitmap)) c.self.view_is ∙ put_absent c.args.self.now c.in-Err.at c.args.entity c.args.bitmap c.in-Err.ensures.absent
