use Rattle.std.proofs.Common.{◌∙◌, ap, length, set, List, arith}
use Rattle.mib_store.specs.declared.entry.Entry.{Entry}
use Rattle.mib_store.specs.Entries.{database_of, keys_of}
use Rattle.mib_store.proofs.Places.{written_at, written_keys}
use Rattle.mib_store.proofs.table.Table.write.Goals as goal

pub set-requires : goal.set-requires
set-requires c = omega (arith, c.requires.in_range, ap length c.self.view_is)

pub returns-clause-written : goal.returns-clause-written
returns-clause-written c =
    let entry : Entry = record { entity = c.args.entity; values = c.args.values } in
    ap database_of (c.set.ensures.written ∙ ap (λ (l : List Entry). set l c.args.at entry) c.self.view_is) ∙ written_at c.args.self.now c.args.at c.args.entity c.args.values c.requires

pub returns-clause-keys : goal.returns-clause-keys
returns-clause-keys c =
    let entry : Entry = record { entity = c.args.entity; values = c.args.values } in
    ap keys_of (c.set.ensures.written ∙ ap (λ (l : List Entry). set l c.args.at entry) c.self.view_is) ∙ written_keys c.args.self.now c.args.at c.args.entity c.args.values c.requires
