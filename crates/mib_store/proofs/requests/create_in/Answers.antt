use Rattle.std.proofs.Common.{◌≤◌, length, ap, ◌∙◌, arith}
use Rattle.mib_spec.specs.Database.{Managed, with_counter_grown, with_entity}
use Rattle.mib_store.specs.Entries.{database_of}
use Rattle.mib_store.proofs.Effects.{created_code, created_kept, created_done, created_is}
use Rattle.mib_store.proofs.requests.create_in.Goals as goal

pub returns-in-Err-clause-code : goal.returns-in-Err-clause-code
returns-in-Err-clause-code c =
    created_code c.args.entity c.args.values.now (database_of c.args.table.now) c.in-Err.code.0 c.in-Err.ensures.refused

pub returns-in-Err-clause-ok : goal.returns-in-Err-clause-ok
returns-in-Err-clause-ok c =
    created_kept c.args.entity c.args.values.now (database_of c.args.table.now) c.in-Err.code.0 c.in-Err.ensures.refused c.in-Err.ensures.fails

pub returns-clause-code : goal.returns-clause-code
returns-clause-code c =
    let ok = c.in-Ok.ensures.ok in
    created_code c.args.entity c.args.values.now (database_of c.args.table.now) 0 ok.code

pub returns-clause-ok : goal.returns-clause-ok
returns-clause-ok c =
    let ok = c.in-Ok.ensures.ok in
    let room : 32 ≤ length c.args.values.now = omega arith in
    let made = created_is c.args.entity.class _ c.args.values.now c.with_chosen-values.result ok.row ok.rule room c.with_chosen-values.ensures in
    c.grow.ensures.grown ∙ ap with_counter_grown (c.in_ok-insert.ensures.ok.map ∙ ap (λ (m : Managed). with_entity c.args.entity m (database_of c.args.table.now)) made)
    ∙ created_done c.args.entity c.args.values.now (database_of c.args.table.now) ok.code
