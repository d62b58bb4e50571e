use Rattle.std.proofs.Common.{◌+◌, ◌∙◌, ap, sym, length, take, arith, rules}
use Rattle.std.proofs.lemmas.List.{take_all, length-set}
use Rattle.mib_store.proofs.Places.{written_next}
use Rattle.mib_store.proofs.table.overwrite.Goals as goal

pub loop-at-preserved : goal.loop-at-preserved
loop-at-preserved c = (
  ap length c.set.ensures.written ∙ length-set c.loop-at.list c.loop-at.at _ ∙ c.loop-at.invariant.0,
  ap (take (c.loop-at.at + 1)) c.set.ensures.written ∙ written_next c.loop-at.list c.args.entries.now c.loop-at.at _ (omega (arith, c.told-entries)) (omega (arith, c.loop-at.invariant.0)) (search rules) c.loop-at.invariant.1,
)

pub returns : goal.returns
returns c =
    sym (take_all c.loop-at.at c.loop-at.list (omega (arith, c.loop-at.invariant.0))) ∙ c.loop-at.invariant.1 ∙ take_all c.loop-at.at c.args.entries.now (omega (arith, c.told-entries))
