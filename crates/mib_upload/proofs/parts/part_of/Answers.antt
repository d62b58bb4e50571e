use Rattle.std.proofs.Common.{◌∙◌, ap}
use Rattle.mib_upload.specs.declared.part.Part.{Part}
use Rattle.mib_upload.specs.Parts.{part_as}
use Rattle.mib_upload.proofs.Places.{values_there, values_absent}
use Rattle.mib_upload.proofs.parts.part_of.Goals as goal

pub returns-in-Ok-clause-values : goal.returns-in-Ok-clause-values
returns-in-Ok-clause-values c = ap (λ (p : Part). (part_as p).1) c.part_at.ensures ∙ values_there c.args.parts.now c.args.entity c.in-Ok.at c.in-Ok.ensures.found

pub returns-in-Err-clause-values : goal.returns-in-Err-clause-values
returns-in-Err-clause-values c = values_absent c.args.parts.now c.args.entity _ _ c.in-Err.ensures.absent
