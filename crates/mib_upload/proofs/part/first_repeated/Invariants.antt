use Rattle.std.proofs.Common.{◌≡◌, drop}
use Rattle.upload_spec.specs.Pieces.{values_named}
use Rattle.upload_spec.specs.Copies.{first_repeated}
use Rattle.mib_upload.proofs.part.first_repeated.Given as goal

abbrev pub invariant-loop-place : goal.invariant-loop-place
invariant-loop-place l =
    first_repeated (drop l.place l.class.attributes) l.mask.0 (values_named l.class.attributes l.old.mask.0 l.old.values) ≡ first_repeated l.class.attributes l.mask.0 (values_named l.class.attributes l.old.mask.0 l.old.values)
