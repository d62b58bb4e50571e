-- One row more is gathered.
use Rattle.std.proofs.Common.{sym, subst}
use Rattle.manager_jobs.specs.Stages.{IsReading}
use Rattle.manager_jobs.proofs.Rows.{reading_row}
use Rattle.manager_jobs.proofs.olt.Olt.row_came.Goals as goal

pub rows_on-requires-clause-rows : goal.rows_on-requires-clause-rows
rows_on-requires-clause-rows c =
    let reading =
    subst (λ m. IsReading c.args.next m.table) (sym c.self.view_is) c.requires.rows in
    reading_row c.args.row.now c.args.next c.self.inside.table c.row.new.self reading
    c.in-Ok.ensures.good c.in-Ok.ensures.table
