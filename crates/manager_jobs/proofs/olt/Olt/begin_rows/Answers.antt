-- No row is gathered yet.
use Rattle.manager_jobs.proofs.Rows.{reading_begun}
use Rattle.manager_jobs.proofs.olt.Olt.begin_rows.Goals as goal

pub rows_on-requires-clause-rows : goal.rows_on-requires-clause-rows
rows_on-requires-clause-rows c =
    reading_begun c.self.inside.table c.begin.new.self c.begin.ensures
