use Rattle.std.proofs.Common.{◌∙◌}
use Rattle.mib_store.proofs.Start.{image_valid, image_absent}
use Rattle.mib_store.proofs.first.image_of.Goals as goal

pub returns-in-Some : goal.returns-in-Some
returns-in-Some c = c.image.ensures ∙ image_valid c.args.number c.args.software.now c.in-Some.view c.in-Some.ensures

pub returns-in-None : goal.returns-in-None
returns-in-None c = c.image-in-None.ensures ∙ image_absent c.args.number c.args.software.now c.in-None.ensures
