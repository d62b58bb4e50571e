use Rattle.std.proofs.Common.{ap, ◌∙◌, arith}
use Rattle.std.proofs.lemmas.List.{length-map}
use Rattle.mib_spec.specs.Database.{image_entity, first_with, values_of}
use Rattle.mib_spec.specs.Requests.{reset}
use Rattle.mib_store.specs.declared.entry.Entry.{Entry}
use Rattle.mib_store.specs.Entries.{keys_of, database_of, values_in}
use Rattle.mib_store.proofs.Start.{unit_made_le}
use Rattle.mib_store.proofs.requests.reset_in.Goals as goal

pub refill-requires : goal.refill-requires
refill-requires c = omega (arith, unit_made_le (keys_of c.args.table.now), c.requires.made, length-map c.args.table.now (λ (e : Entry). e.entity))

pub returns-clause-reset : goal.returns-clause-reset
unfolding reset
returns-clause-reset c =
    ap database_of c.refill.ensures ∙ c.first_entries-made.ensures.seen
    ∙ ap (λ v. first_with v (values_in 7 c.values_of-second.result)) c.values_of-first.ensures
    ∙ ap (λ v. first_with (values_of (image_entity 0) (database_of c.args.table.now)) v) c.values_of-second.ensures
