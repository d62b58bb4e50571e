use Rattle.mib_upload.proofs.Taking.{TakenSoFar}
use Rattle.mib_upload.proofs.snapshot.Snapshot.of.Given as goal

abbrev pub invariant-loop-place : goal.invariant-loop-place
invariant-loop-place l = TakenSoFar l.mib l.place l.entries.items l.count
