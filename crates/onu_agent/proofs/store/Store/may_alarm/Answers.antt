use Rattle.std.proofs.Common.{ap, sym, ◌∙◌}
use Rattle.std.specs.Prelude.{◌==◌, not}
use Rattle.unit_spec.specs.Noticing.{may_alarm}
use Rattle.unit_laws.proofs.Own.{may_have_it}
use Rattle.onu_agent.proofs.Measured.{may_is_told, may_not}
use Rattle.onu_agent.proofs.store.Store.may_alarm.Goals as goal

pub returns-then-has_alarms-clause-value : goal.returns-then-has_alarms-clause-value
returns-then-has_alarms-clause-value c =
    c.ne.ensures
    ∙ ap (λ n. not (n == 5)) c.get.ensures.code
    ∙ may_is_told c.args.entity c.self.inside.mib (sym c.has_alarms.ensures.value ∙ c.if-has_alarms.true)
    ∙ ap (may_alarm c.args.entity) c.self.view_is

pub returns-then-has_alarms-clause-own : goal.returns-then-has_alarms-clause-own
returns-then-has_alarms-clause-own c may =
    may_have_it c.args.entity c.self.inside.mib c.self.invariant
    (sym
    (c.ne.ensures
    ∙ ap (λ n. not (n == 5)) c.get.ensures.code
    ∙ may_is_told c.args.entity c.self.inside.mib (sym c.has_alarms.ensures.value ∙ c.if-has_alarms.true))
    ∙ may)

pub returns-else-has_alarms-clause-value : goal.returns-else-has_alarms-clause-value
returns-else-has_alarms-clause-value c = c.if-has_alarms.false ∙ sym (may_not c.args.entity c.args.self.now (sym c.has_alarms.ensures.value ∙ c.if-has_alarms.false))
