use Rattle.plan_reconcile.proofs.Planning.{NewSoFar}
use Rattle.plan_reconcile.proofs.matches.count_new.Given as goal

abbrev pub invariant-loop-at : goal.invariant-loop-at
invariant-loop-at l = NewSoFar l.want l.places l.at l.count
