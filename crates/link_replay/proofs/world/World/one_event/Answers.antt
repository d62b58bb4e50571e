use Rattle.std.proofs.Common.{ℕ, List, subst}
use Rattle.std.proofs.lemmas.Result.{err_from_is_err_and}
use Rattle.whole_writes.specs.Writing.{WritesFront}
use Rattle.link_replay.proofs.Running.{nothing_written}
use Rattle.link_replay.proofs.world.World.one_event.Goals as goal

pub returns-in_err-step-clause-front : goal.returns-in_err-step-clause-front
returns-in_err-step-clause-front g c =
    let p = err_from_is_err_and c.from_residual.result c.from_residual.ensures.1 in
    rw p.1 (λ n s. nothing_written _ _)

pub returns-in_err-write_piece-clause-front : goal.returns-in_err-write_piece-clause-front
returns-in_err-write_piece-clause-front g c =
    let p = err_from_is_err_and c.from_residual-in_err-write_piece.result c.from_residual-in_err-write_piece.ensures.1 in
    rw p.1 (λ n s. subst (λ (text : List ℕ). WritesFront text (g.K.Sink.written c.args.sink.now) (g.K.Sink.written c.write_piece.new.sink)) (c.in_ok-step.ensures.lines n s) c.in_err-write_piece.ensures.front)
