use Rattle.std.proofs.Common.{◌≡◌, rules, arith, sym, subst, Err}
use Rattle.stream_show.specs.declared.ends.StreamEnd.TheVariants.{NoMemory}
use Rattle.stream_show.specs.Runs.{CountsTo}
use Rattle.stream_show.proofs.Streams.{CheckSoFar, check_first, check_unread, check_next, check_lost, check_end, check_broken}
use Rattle.stream_show.proofs.counting.check.Goals as goal

pub returns-in_err-buffer-clause-counts : goal.returns-in_err-buffer-clause-counts
returns-in_err-buffer-clause-counts g c =
    let value : c.from_residual.result ≡ Err NoMemory = search rules in
    subst (λ r. CountsTo c.args.limit r (g.S.Source.left c.args.source.now) (g.S.Source.left c.args.source.now) (g.S.Source.faults c.args.source.now) (g.S.Source.faults c.args.source.now)) (sym value) (check_unread c.args.limit (g.S.Source.left c.args.source.now) (g.S.Source.faults c.args.source.now))

pub loop-buffer-init : goal.loop-buffer-init
loop-buffer-init g c =
    subst (λ r. CheckSoFar c.args.limit c.args.limit (g.S.Source.left c.args.source.now) (g.S.Source.left c.args.source.now) r (record { frames = 0; unknown = 0 }) (g.S.Source.faults c.args.source.now) (g.S.Source.faults c.args.source.now)) (sym c.in_ok-buffer.ensures.empty) (check_first c.args.limit (g.S.Source.left c.args.source.now) (g.S.Source.faults c.args.source.now))

pub returns-in_err-count-clause-counts : goal.returns-in_err-count-clause-counts
returns-in_err-count-clause-counts g c =
    let value : c.from_residual-in_err-count.result ≡ Err c.in_err-count.field-0.0 = search rules in
    subst (λ r. CountsTo c.args.limit r (g.S.Source.left c.args.source.now) (g.S.Source.left c.next_piece.new.source) (g.S.Source.faults c.args.source.now) (g.S.Source.faults c.next_piece.new.source)) (sym value)
    (check_lost c.args.limit c.loop-buffer.left 0 _ _ _ c.loop-buffer.buffer c.next_piece.new.buffer c.next_piece.new.buffer c.loop-buffer.counts c.loop-buffer.counts _ _ _ c.in_err-count.field-0.0 c.loop-buffer.invariant (omega (arith, c.ranges.limit.fits)) c.in_err-count.ensures.next)

pub returns-then-count-eq0-clause-counts : goal.returns-then-count-eq0-clause-counts
returns-then-count-eq0-clause-counts g c =
    check_end c.args.limit c.loop-buffer.left c.in_ok-count.count _ _ _ c.loop-buffer.buffer c.next_piece.new.buffer c.next_piece.new.buffer c.loop-buffer.counts c.loop-buffer.counts _ _ _ c.loop-buffer.invariant (omega (arith, c.ranges.limit.fits)) c.in_ok-count.ensures.next (search (rules, c.if-count-eq0.true))

pub loop-buffer-preserved : goal.loop-buffer-preserved
loop-buffer-preserved g c =
    check_next c.args.limit c.loop-buffer.left c.in_ok-count.count _ _ _ c.loop-buffer.buffer c.next_piece.new.buffer c.count_held.new.buffer c.loop-buffer.counts c.count_held.new.counts _ _ _ c.loop-buffer.invariant c.in_ok-count.ensures.next c.in_ok-count_held.ensures.counted

pub returns-in_err-count_held-clause-counts : goal.returns-in_err-count_held-clause-counts
returns-in_err-count_held-clause-counts g c =
    let value : c.from_residual-in_err-count_held.result ≡ Err c.in_err-count_held.field-0.0 = search rules in
    subst (λ r. CountsTo c.args.limit r (g.S.Source.left c.args.source.now) (g.S.Source.left c.next_piece.new.source) (g.S.Source.faults c.args.source.now) (g.S.Source.faults c.next_piece.new.source)) (sym value)
    (check_broken c.args.limit c.loop-buffer.left c.in_ok-count.count _ _ _ c.loop-buffer.buffer c.next_piece.new.buffer c.count_held.new.buffer c.loop-buffer.counts c.count_held.new.counts _ _ _ c.in_err-count_held.field-0.0 c.loop-buffer.invariant (omega (arith, c.ranges.limit.fits)) c.in_ok-count.ensures.next c.in_err-count_held.ensures.counted)
