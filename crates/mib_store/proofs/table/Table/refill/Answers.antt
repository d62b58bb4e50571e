use Rattle.std.proofs.Common.{◌∙◌, ap, length, arith}
use Rattle.std.proofs.lemmas.List.{length-take-le}
use Rattle.mib_store.proofs.table.Table.refill.Goals as goal

pub overwrite-requires : goal.overwrite-requires
overwrite-requires c = ap length c.truncate.ensures.front ∙ length-take-le 11 c.self.inside.entries (omega (arith, c.requires, ap length c.self.view_is))
