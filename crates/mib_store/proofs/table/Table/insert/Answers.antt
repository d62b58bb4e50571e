use Rattle.std.proofs.Common.{ap, length, arith}
use Rattle.mib_store.proofs.Places.{inserts_as}
use Rattle.mib_store.proofs.table.Table.insert.Goals as goal

pub insert-requires : goal.insert-requires
insert-requires c = omega (arith, c.requires.gap.in_range, ap length c.self.view_is)

pub returns-clause-ok : goal.returns-clause-ok
returns-clause-ok c =
    inserts_as c.insert.result c.self.inside.entries c.args.self.now c.insert.new.self c.args.at c.args.entry c.self.view_is c.insert.ensures.ok c.requires.ascending c.requires.gap
