use Rattle.std.proofs.Common.{refl}
use Rattle.std.proofs.lemmas.Result.{err_from_is_err_and}
use Rattle.olt_turns.proofs.Turning.{run_begun}
use Rattle.olt_turns.proofs.run.run_olt.Goals as goal

pub returns-in_err-seat-clause-part : goal.returns-in_err-seat-clause-part
returns-in_err-seat-clause-part g c =
    let p = err_from_is_err_and c.from_residual.result c.from_residual.ensures.1 in
    rw p.1 (run_begun c.args.turns c.args.orders.now _ _ _ _ _ refl refl)
