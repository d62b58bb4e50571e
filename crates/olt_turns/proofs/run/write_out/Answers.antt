use Rattle.std.proofs.Common.{sym}
use Rattle.olt_turns.proofs.run.write_out.Goals as goal

pub returns-in-Err-clause-front : goal.returns-in-Err-clause-front
returns-in-Err-clause-front g c =
    let broken = c.in-Err.ensures.broken in
    (broken.done, (broken.rest, sym broken.parts), broken.added)
