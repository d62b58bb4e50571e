use Rattle.std.specs.Prelude.{◌≡◌, take}
use Rattle.mib_store.proofs.table.Table.of.Given as goal

abbrev pub invariant-loop-at : goal.invariant-loop-at
invariant-loop-at l = l.made ≡ take l.at l.fn.entries
