use Rattle.std.proofs.Common.{◌∙◌, ap, sym, subst, List, length, arith}
use Rattle.std.specs.List.{remove}
use Rattle.mib_store.specs.declared.entry.Entry.{Entry}
use Rattle.mib_store.specs.Entries.{Removes}
use Rattle.mib_store.proofs.Places.{removes}
use Rattle.mib_store.proofs.table.Table.remove.Goals as goal

pub remove-requires : goal.remove-requires
remove-requires c = omega (arith, c.requires.at.in_range, ap length c.self.view_is)

pub returns : goal.returns
returns c =
    subst (λ (l : List Entry). Removes c.args.self.now l c.args.entity) (sym (c.remove.ensures.removed ∙ ap (λ (l : List Entry). remove l c.args.at) c.self.view_is))
    (removes c.args.self.now c.args.at c.args.entity c.requires.ascending c.requires.at)
