use Rattle.mib_upload.specs.Parts.{copy_of}
use Rattle.mib_upload.proofs.Places.{counter_there}
use Rattle.mib_upload.proofs.parts.has_counter.Goals as goal

pub returns : goal.returns
returns c = counter_there c.part_of.result (copy_of c.args.parts.now) c.has.result c.part_of.ensures.entity c.part_of.ensures.values c.has.ensures
