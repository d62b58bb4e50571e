use Rattle.std.specs.Prelude.{◌-◌}
use Rattle.mib_store.specs.declared.entry.Entry.{Entry}
use Rattle.mib_store.specs.Entries.{no_entry}
use Rattle.mib_store.proofs.Order.{Narrows}
use Rattle.mib_store.proofs.search.find_in.Given as goal

abbrev pub invariant-loop-low : goal.invariant-loop-low
invariant-loop-low l = Narrows (λ (e : Entry). e.entity) no_entry l.fn.entries l.fn.entity l.low l.high

abbrev pub decreases-loop-low : goal.decreases-loop-low
decreases-loop-low l = l.high - l.low
