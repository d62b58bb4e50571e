use Rattle.std.proofs.Common.{refl, get_or, false, arith}
use Rattle.plan_spec.specs.Steps.{deletes}
use Rattle.plan_reconcile.specs.Items.{wanted_of}
use Rattle.plan_reconcile.specs.Made.{steps_of}
use Rattle.plan_reconcile.proofs.Planning.{deletes_next, stay_here}
use Rattle.plan_reconcile.proofs.reconcile.push_deletes.Goals as goal

pub loop-place-init : goal.loop-place-init
unfolding deletes
loop-place-init c = refl

pub loop-place-preserved : goal.loop-place-preserved
loop-place-preserved c =
    let lt = c.loop-place-test.true in
    let size = c.len-place-end.ensures in
    deletes_next (wanted_of c.args.want.now) c.args.have.now c.loop-place.place (steps_of c.loop-place.steps.items) (steps_of c.push_unless.new.steps.items) _ c.entry.result.entity (get_or c.args.stays.now c.loop-place.place false) (omega (arith, lt, size)) c.entry.ensures.entity (stay_here c.args.want.now c.args.have.now c.args.stays.now c.loop-place.place c.entry.result.entity c.requires (omega (arith, lt, size)) c.entry.ensures.entity)
    c.in_ok-push_unless.ensures c.loop-place.invariant
