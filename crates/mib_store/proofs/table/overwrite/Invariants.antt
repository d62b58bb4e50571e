use Rattle.std.specs.Prelude.{◌≡◌, length, take}
use Rattle.mib_spec.specs.declared.TheConstants.{UNIT_ENTITIES}
use Rattle.mib_store.proofs.table.overwrite.Given as goal

abbrev pub invariant-loop-at : goal.invariant-loop-at
invariant-loop-at l = (length l.list ≡ UNIT_ENTITIES) × (take l.at l.list ≡ take l.at l.fn.entries)
