-- A report can tell how many rows there are.
use Rattle.std.proofs.Common.{sym, subst, arith}
use Rattle.manager_jobs.specs.Stages.{IsReading}
use Rattle.manager_jobs.proofs.Rows.{rows_fit}
use Rattle.manager_jobs.proofs.olt.Olt.end_audit.Goals as goal

pub overflow_cast-rows : goal.overflow_cast-rows
overflow_cast-rows c =
    let reading =
    subst (λ m. IsReading 65535 m.table) (sym c.self.view_is) c.requires.rows in
    omega (
      arith,
      rows_fit c.self.inside.table c.finish.new.self c.len-rows.result reading
          c.in_ok-finish.ensures.ok c.len-rows.ensures,
    )
