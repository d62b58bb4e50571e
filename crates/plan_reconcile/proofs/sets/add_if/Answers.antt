use Rattle.std.proofs.Common.{sym, subst, arith, Bool}
use Rattle.plan_reconcile.specs.Turns.{Adds}
use Rattle.plan_reconcile.proofs.Setting.{adds_fit, adds_flush}
use Rattle.plan_reconcile.proofs.sets.add_if.Goals as goal

pub returns-then-group-value-le-SET_ROOM : goal.returns-then-group-value-le-SET_ROOM
returns-then-group-value-le-SET_ROOM c =
    subst (λ (d : Bool). Adds d c.args.entity c.args.group c.args.bit c.args.value.now c.args.steps.now.items c.args.steps.now.items c.with_value.result) (sym c.if-not-differs.false)
    (adds_fit c.args.entity c.args.group c.with_value.result c.args.bit c.args.value.now c.args.steps.now.items c.if-group-value-le-SET_ROOM.true c.with_value.ensures.mask c.with_value.ensures.width c.with_value.ensures.values)

pub returns : goal.returns
returns c =
    subst (λ (d : Bool). Adds d c.args.entity c.args.group c.args.bit c.args.value.now c.args.steps.now.items c.flush.new.steps.items c.with_value-2.result) (sym c.if-not-differs.false)
    (adds_flush c.args.entity c.args.group c.with_value-2.result c.args.bit c.args.value.now c.args.steps.now.items c.flush.new.steps.items c.if-group-value-le-SET_ROOM.false (omega (arith, c.requires.value)) c.with_value-2.ensures.mask c.with_value-2.ensures.width c.with_value-2.ensures.values c.in_ok-flush.ensures)
