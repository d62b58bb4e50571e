use Rattle.std.proofs.Common.{◌≡◌, rules, arith, sym, subst, Err, []}
use Rattle.std.specs.Result.{result_err}
use Rattle.stream_show.specs.declared.ends.StreamEnd.TheVariants.{NoMemory}
use Rattle.stream_show.specs.Runs.{Shows}
use Rattle.stream_show.proofs.Streams.{ShowSoFar, show_first, show_unread, show_next, show_lost, show_broken}
use Rattle.stream_show.proofs.showing.show.Goals as goal

pub returns-in_err-buffer : goal.returns-in_err-buffer
returns-in_err-buffer g c =
    let value : c.from_residual.result ≡ Err NoMemory = search rules in
    record {
      shows =
          subst (λ r. Shows c.args.limit (result_err r) (g.S.Source.left c.args.source.now) (g.S.Source.left c.args.source.now) (g.K.Sink.written c.args.sink.now) (g.K.Sink.written c.args.sink.now) (g.S.Source.faults c.args.source.now) (g.S.Source.faults c.args.source.now) (g.K.Sink.faults c.args.sink.now) (g.K.Sink.faults c.args.sink.now)) (sym value)
          (show_unread c.args.limit (g.S.Source.left c.args.source.now) (g.K.Sink.written c.args.sink.now) (g.S.Source.faults c.args.source.now) (g.K.Sink.faults c.args.sink.now));
    }

pub loop-lines-init : goal.loop-lines-init
loop-lines-init g c = (
  subst (λ r. ShowSoFar c.args.limit c.args.limit (g.S.Source.left c.args.source.now) (g.S.Source.left c.args.source.now) r (g.K.Sink.written c.args.sink.now) (g.K.Sink.written c.args.sink.now) (g.S.Source.faults c.args.source.now) (g.S.Source.faults c.args.source.now) (g.K.Sink.faults c.args.sink.now) (g.K.Sink.faults c.args.sink.now)) (sym c.in_ok-buffer.ensures.empty)
      (show_first c.args.limit (g.S.Source.left c.args.source.now) (g.K.Sink.written c.args.sink.now) (g.S.Source.faults c.args.source.now) (g.K.Sink.faults c.args.sink.now)),
  c.new-lines.ensures.items,
)

pub returns-in_err-count : goal.returns-in_err-count
returns-in_err-count g c =
    let value : c.from_residual-in_err-count.result ≡ Err c.in_err-count.field-0.0 = search rules in
    record {
      shows =
          subst (λ r. Shows c.args.limit (result_err r) (g.S.Source.left c.args.source.now) (g.S.Source.left c.next_piece.new.source) (g.K.Sink.written c.args.sink.now) (g.K.Sink.written c.loop-lines.sink) (g.S.Source.faults c.args.source.now) (g.S.Source.faults c.next_piece.new.source) (g.K.Sink.faults c.args.sink.now) (g.K.Sink.faults c.loop-lines.sink)) (sym value)
          (show_lost c.args.limit c.loop-lines.left 0 _ _ _ _ _ (g.K.Sink.written c.loop-lines.sink) c.loop-lines.buffer c.next_piece.new.buffer c.next_piece.new.buffer _ _ _ _ _ 0 c.in_err-count.field-0.0 c.loop-lines.invariant.0 (omega (arith, c.ranges.limit.fits)) c.in_err-count.ensures.next);
    }

pub loop-lines-preserved : goal.loop-lines-preserved
loop-lines-preserved g c = (
  show_next c.args.limit c.loop-lines.left c.in_ok-count.count _ _ _ _ _ _ c.loop-lines.buffer c.next_piece.new.buffer c.show_held.new.buffer _ _ _ _ _ _ c.loop-lines.invariant.0 c.in_ok-count.ensures.next c.in_ok-show_held.ensures.shown,
  c.in_ok-show_held.ensures.empty,
)

pub returns-in_err-show_held : goal.returns-in_err-show_held
returns-in_err-show_held g c =
    let value : c.from_residual-in_err-show_held.result ≡ Err c.in_err-show_held.field-0.0 = search rules in
    record {
      shows =
          subst (λ r. Shows c.args.limit (result_err r) (g.S.Source.left c.args.source.now) (g.S.Source.left c.next_piece.new.source) (g.K.Sink.written c.args.sink.now) (g.K.Sink.written c.show_held.new.sink) (g.S.Source.faults c.args.source.now) (g.S.Source.faults c.next_piece.new.source) (g.K.Sink.faults c.args.sink.now) (g.K.Sink.faults c.show_held.new.sink)) (sym value)
          (show_broken c.args.limit c.loop-lines.left c.in_ok-count.count _ _ _ _ _ _ c.loop-lines.buffer c.next_piece.new.buffer c.show_held.new.buffer _ _ _ _ _ _ c.in_err-show_held.field-0.0 c.loop-lines.invariant.0 (omega (arith, c.ranges.limit.fits)) c.in_ok-count.ensures.next c.in_err-show_held.ensures.shown);
    }
