use Rattle.plan_reconcile.proofs.Planning.{MatchedSoFar}
use Rattle.plan_reconcile.proofs.matches.match_up.Given as goal

abbrev pub invariant-loop-place : goal.invariant-loop-place
invariant-loop-place l = MatchedSoFar l.have l.want l.place l.count l.places.items l.stays.items

abbrev pub decreases-loop-place : goal.decreases-loop-place
decreases-loop-place l = l.place
