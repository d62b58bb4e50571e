use Rattle.std.proofs.Common.{ap, ◌∙◌}
use Rattle.mib_spec.specs.Database.{image_entity, image_values, with_values, with_software}
use Rattle.mib_store.specs.Entries.{database_of}
use Rattle.mib_store.proofs.requests.software_in.Goals as goal

pub returns-clause-software : goal.returns-clause-software
unfolding with_software
returns-clause-software c =
    c.put_values-2.ensures.written ∙ ap (λ v. with_values (image_entity 1) v (database_of c.put_values.new.table)) c.image_of-2.ensures
    ∙ ap (with_values (image_entity 1) (image_values 1 c.args.software.now)) (c.put_values.ensures.written ∙ ap (λ v. with_values (image_entity 0) v (database_of c.args.table.now)) c.image_of.ensures)
