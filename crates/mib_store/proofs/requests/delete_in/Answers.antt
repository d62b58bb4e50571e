use Rattle.std.proofs.Common.{ap, ◌∙◌}
use Rattle.mib_spec.specs.Database.{with_counter_grown}
use Rattle.mib_store.specs.Entries.{database_of}
use Rattle.mib_store.proofs.Effects.{deleted_code, deleted_kept, deleted_done}
use Rattle.mib_store.proofs.requests.delete_in.Goals as goal

pub returns-in-Err-clause-code : goal.returns-in-Err-clause-code
returns-in-Err-clause-code c =
    deleted_code c.args.entity (database_of c.args.table.now) c.in-Err.code.0 c.in-Err.ensures.refused

pub returns-in-Err-clause-database : goal.returns-in-Err-clause-database
returns-in-Err-clause-database c =
    deleted_kept c.args.entity (database_of c.args.table.now) c.in-Err.code.0 c.in-Err.ensures.refused c.in-Err.ensures.fails

pub returns-in-Ok-clause-code : goal.returns-in-Ok-clause-code
returns-in-Ok-clause-code c =
    let ok = c.in-Ok.ensures.ok in
    deleted_code c.args.entity (database_of c.args.table.now) 0 ok.code

pub returns-in-Ok-clause-database : goal.returns-in-Ok-clause-database
returns-in-Ok-clause-database c =
    let ok = c.in-Ok.ensures.ok in
    c.grow.ensures.grown ∙ ap with_counter_grown c.remove.ensures.map ∙ deleted_done c.args.entity (database_of c.args.table.now) ok.code
