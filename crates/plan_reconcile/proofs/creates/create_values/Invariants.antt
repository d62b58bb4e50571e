use Rattle.plan_reconcile.proofs.Creating.{MadeSoFar}
use Rattle.plan_reconcile.proofs.creates.create_values.Given as goal

abbrev pub invariant-loop-place : goal.invariant-loop-place
invariant-loop-place l = MadeSoFar l.class.attributes l.mask.0 l.values l.created l.place l.to l.from
