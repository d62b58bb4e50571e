use Rattle.std.proofs.lemmas.Result.{err_from_is_err_and}
use Rattle.olt_seat.proofs.Playing.{sends_nothing_of}
use Rattle.olt_seat.proofs.seat.Seat.after_manager.Goals as goal

pub returns-in_err-push_reports-clause-part : goal.returns-in_err-push_reports-clause-part
returns-in_err-push_reports-clause-part g c =
    let p = err_from_is_err_and c.from_residual.result c.from_residual.ensures.1 in
    rw p.1 (sends_nothing_of _ _)
