use Rattle.std.proofs.Common.{arith}
use Rattle.std.proofs.lemmas.List.{length-map}
use Rattle.mib_store.specs.declared.entry.Entry.{Entry}
use Rattle.mib_store.specs.Entries.{keys_of}
use Rattle.mib_store.proofs.Start.{unit_made_le}
use Rattle.mib_store.proofs.mib.Mib.len.Goals as goal

pub returns-clause-least : goal.returns-clause-least
returns-clause-least c = omega (arith, c.len.ensures, unit_made_le (keys_of c.self.inside.table), c.self.invariant.table.made, length-map c.self.inside.table (λ (e : Entry). e.entity))
