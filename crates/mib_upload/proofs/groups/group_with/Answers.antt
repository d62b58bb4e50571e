use Rattle.std.proofs.Common.{arith}
use Rattle.mib_upload.proofs.Cutting.{bit_fits}
use Rattle.mib_upload.proofs.groups.group_with.Goals as goal

pub overflow_add-result-then-fits : goal.overflow_add-result-then-fits
overflow_add-result-then-fits c =
    omega (arith, bit_fits c.args.group.now.mask c.args.attribute.now.number c.requires.from_one c.requires.to_sixteen c.requires.mask, c.bit.ensures)
