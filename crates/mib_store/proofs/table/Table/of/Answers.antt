use Rattle.std.proofs.Common.{◌∙◌, ap, length, length-take, arith, rules}
use Rattle.std.proofs.lemmas.List.{take_all}
use Rattle.mib_store.proofs.Places.{filled_next}
use Rattle.mib_store.proofs.table.Table.of.Goals as goal

pub insert-requires : goal.insert-requires
insert-requires c = omega (arith, ap length c.loop-at.invariant, length-take c.loop-at.at c.args.entries.now, c.told-entries)

pub loop-at-preserved : goal.loop-at-preserved
loop-at-preserved c = c.in_ok-insert.ensures.ok ∙ filled_next c.loop-at.made c.args.entries.now c.loop-at.at _ (omega (arith, c.told-entries)) (search rules) c.loop-at.invariant

pub returns : goal.returns
returns c = c.loop-at.invariant ∙ take_all c.loop-at.at c.args.entries.now (omega (arith, c.told-entries))
