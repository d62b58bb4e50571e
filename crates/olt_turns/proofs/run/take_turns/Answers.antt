use Rattle.std.proofs.Common.{refl, ◌∙◌, subst}
use Rattle.std.proofs.lemmas.Result.{err_from_is_err_and}
use Rattle.turn_spec.specs.OltTurns.{olt_first}
use Rattle.whole_writes.specs.Writing.{WritesFront}
use Rattle.olt_seat.specs.Seat.{state_of}
use Rattle.olt_turns.proofs.Turning.{writes_nothing, ran_begins, ran_then, ran_in_part, run_ended, run_unended, run_part, run_begun, fewer_left}
use Rattle.olt_turns.proofs.run.take_turns.Goals as goal

pub loop-goes_on-init : goal.loop-goes_on-init
loop-goes_on-init g c = (
  ran_begins c.args.turns (olt_first c.args.orders.now) (state_of c.args.orders.now.actions c.args.seat.now)
      (g.L.Link.left c.args.link.now) (g.L.Link.left c.call.new.link) (g.L.Link.sent c.args.link.now) (g.L.Link.sent c.call.new.link) (g.K.Sink.written c.args.sink.now)
      c.requires.first c.call.ensures.left c.call.ensures.sent,
  c.new-lines.ensures.empty,
  c.in_ok-call.ensures.kept,
  refl,
)

pub loop-goes_on-preserved : goal.loop-goes_on-preserved
loop-goes_on-preserved g c = (
  ran_then c.args.turns (olt_first c.args.orders.now) (state_of c.args.orders.now.actions c.loop-goes_on.seat) (state_of c.args.orders.now.actions c.one_turn.new.seat) c.loop-goes_on.goes_on c.in_ok-goes_on.goes_on
      (g.L.Link.left c.args.link.now) (g.L.Link.left c.loop-goes_on.link) (g.L.Link.left c.one_turn.new.link)
      (g.L.Link.sent c.args.link.now) (g.L.Link.sent c.loop-goes_on.link) (g.L.Link.sent c.one_turn.new.link)
      (g.K.Sink.written c.args.sink.now) (g.K.Sink.written c.loop-goes_on.sink) (g.K.Sink.written c.one_turn.new.sink)
      c.loop-goes_on-test.true c.loop-goes_on.invariant.0 c.in_ok-goes_on.ensures.ran,
  c.in_ok-goes_on.ensures.fresh,
  c.in_ok-goes_on.ensures.kept ∙ c.loop-goes_on.invariant.2,
  c.in_ok-goes_on.ensures.sink_kept ∙ c.loop-goes_on.invariant.3,
)

pub returns-in_err-call-clause-part : goal.returns-in_err-call-clause-part
returns-in_err-call-clause-part g c =
    let p = err_from_is_err_and c.from_residual.result c.from_residual.ensures.1 in
    rw p.1 (run_begun c.args.turns c.args.orders.now (g.L.Link.left c.args.link.now) (g.L.Link.left c.call.new.link) (g.L.Link.sent c.args.link.now) (g.L.Link.sent c.call.new.link) (g.K.Sink.written c.args.sink.now)
    c.call.ensures.left c.call.ensures.sent)

pub returns-in_err-goes_on-clause-part : goal.returns-in_err-goes_on-clause-part
returns-in_err-goes_on-clause-part g c =
    let p = err_from_is_err_and c.from_residual-in_err-goes_on.result c.from_residual-in_err-goes_on.ensures.1 in
    rw p.1
    (run_part c.args.turns c.args.orders.now (olt_first c.args.orders.now)
    (g.L.Link.left c.args.link.now) (g.L.Link.left c.one_turn.new.link) (g.L.Link.sent c.args.link.now) (g.L.Link.sent c.one_turn.new.link)
    (g.K.Sink.written c.args.sink.now) (g.K.Sink.written c.one_turn.new.sink) refl
    (ran_in_part c.args.turns (olt_first c.args.orders.now) (state_of c.args.orders.now.actions c.loop-goes_on.seat) c.loop-goes_on.goes_on
    (g.L.Link.left c.args.link.now) (g.L.Link.left c.loop-goes_on.link) (g.L.Link.left c.one_turn.new.link)
    (g.L.Link.sent c.args.link.now) (g.L.Link.sent c.loop-goes_on.link) (g.L.Link.sent c.one_turn.new.link)
    (g.K.Sink.written c.args.sink.now) (g.K.Sink.written c.loop-goes_on.sink) (g.K.Sink.written c.one_turn.new.sink)
    c.loop-goes_on-test.true c.loop-goes_on.invariant.0 c.in_err-goes_on.ensures.part))

pub returns-in_err-last-clause-part : goal.returns-in_err-last-clause-part
returns-in_err-last-clause-part g c =
    let p = err_from_is_err_and c.from_residual-in_err-last.result c.from_residual-in_err-last.ensures.1 in
    rw p.1
    (run_unended c.args.turns c.args.orders.now (olt_first c.args.orders.now) (state_of c.args.orders.now.actions c.loop-goes_on.seat) c.loop-goes_on.goes_on
    (g.L.Link.left c.args.link.now) (g.L.Link.left c.loop-goes_on.link) (g.L.Link.sent c.args.link.now) (g.L.Link.sent c.loop-goes_on.link)
    (g.K.Sink.written c.args.sink.now) (g.K.Sink.written c.loop-goes_on.sink) (g.K.Sink.written c.loop-goes_on.sink)
    refl c.loop-goes_on-test.false c.loop-goes_on.invariant.0 (writes_nothing _ _))

pub returns-in_err-write_out-clause-part : goal.returns-in_err-write_out-clause-part
returns-in_err-write_out-clause-part g c =
    let p = err_from_is_err_and c.from_residual-in_err-write_out.result c.from_residual-in_err-write_out.ensures.1 in
    rw p.1
    (run_unended c.args.turns c.args.orders.now (olt_first c.args.orders.now) (state_of c.args.orders.now.actions c.loop-goes_on.seat) c.loop-goes_on.goes_on
    (g.L.Link.left c.args.link.now) (g.L.Link.left c.loop-goes_on.link) (g.L.Link.sent c.args.link.now) (g.L.Link.sent c.loop-goes_on.link)
    (g.K.Sink.written c.args.sink.now) (g.K.Sink.written c.loop-goes_on.sink) (g.K.Sink.written c.write_out.new.sink)
    refl c.loop-goes_on-test.false c.loop-goes_on.invariant.0
    (subst (λ text. WritesFront text (g.K.Sink.written c.loop-goes_on.sink) (g.K.Sink.written c.write_out.new.sink)) (c.deref.ensures.value ∙ c.in_ok-last.ensures.text) c.in_err-write_out.ensures.front))

pub returns-clause-run : goal.returns-clause-run
returns-clause-run g c =
    run_ended c.args.turns c.args.orders.now (olt_first c.args.orders.now) (state_of c.args.orders.now.actions c.loop-goes_on.seat) c.loop-goes_on.goes_on
    (g.L.Link.left c.args.link.now) (g.L.Link.left c.loop-goes_on.link) (g.L.Link.sent c.args.link.now) (g.L.Link.sent c.loop-goes_on.link)
    (g.K.Sink.written c.args.sink.now) (g.K.Sink.written c.loop-goes_on.sink) (g.K.Sink.written c.write_out.new.sink) c.deref.result.now
    refl c.loop-goes_on-test.false c.loop-goes_on.invariant.0 (c.deref.ensures.value ∙ c.in_ok-last.ensures.text) c.in_ok-write_out.ensures.whole

pub loop-goes_on-smaller : goal.loop-goes_on-smaller
loop-goes_on-smaller g c =
    fewer_left c.in_ok-goes_on.goes_on c.loop-goes_on.goes_on c.args.turns c.loop-goes_on.seat.turn c.one_turn.new.seat.turn
    c.loop-goes_on-test.true c.in_ok-goes_on.ensures.grows
