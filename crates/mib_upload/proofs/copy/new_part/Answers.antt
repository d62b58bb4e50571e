use Rattle.std.proofs.Common.{◌∙◌, ap}
use Rattle.omci_types.specs.declared.EntityId.{EntityId}
use Rattle.class_spec.specs.Classes.{class_row}
use Rattle.mib_upload.specs.declared.part.Chosen.TheVariants.{Created}
use Rattle.mib_upload.specs.Merged.{picks_or}
use Rattle.mib_upload.proofs.Joined.{created_part, known_part}
use Rattle.mib_upload.proofs.copy.new_part.Goals as goal

pub returns-clause-values : goal.returns-clause-values
returns-clause-values c = created_part c.args.entity c.args.class.now c.args.values.now c.overlay.result c.requires.row c.requires.rule c.overlay.ensures.entity c.overlay.ensures.values

pub returns-clause-known : goal.returns-clause-known
returns-clause-known c =
    known_part c.overlay.result c.args.class.now (picks_or Created 65535) (ap (λ (e : EntityId). class_row e.class) c.overlay.ensures.entity ∙ c.requires.row) c.requires.rule c.overlay.ensures.mask
