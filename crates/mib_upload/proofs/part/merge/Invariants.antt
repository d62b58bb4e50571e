use Rattle.mib_upload.specs.Merged.{picks}
use Rattle.mib_upload.proofs.Overlays.{MergedSoFar}
use Rattle.mib_upload.proofs.part.merge.Given as goal

abbrev pub invariant-loop-place : goal.invariant-loop-place
invariant-loop-place l = MergedSoFar (picks l.chosen) l.class.attributes l.given l.held.0 l.old l.place l.mask l.to l.from l.from_old l.values
