use Rattle.std.proofs.Common.{◌≡◌, true, false, not, Err, rules, refl, ◌∙◌, subst}
use Rattle.std.proofs.lemmas.Result.{err_from_is_err_and}
use Rattle.std.specs.Io.KnownBytes.{Appends}
use Rattle.whole_writes.specs.Writing.{WritesFront}
use Rattle.olt_seat.specs.Seat.{state_of, Hears, HearsInPart}
use Rattle.olt_turns.proofs.Turning.{opening_part, turn_over, turn_part, turn_unwritten, turn_ran}
use Rattle.olt_turns.proofs.Ending.{begun_so, grown, stops_ends}
use Rattle.olt_turns.proofs.run.one_turn.Goals as goal

-- ---- a fault in what stands before the turn

pub returns-in_err-begun-clause-part : goal.returns-in_err-begun-clause-part
returns-in_err-begun-clause-part g c =
    let p = err_from_is_err_and c.from_residual.result c.from_residual.ensures.1 in
    rw p.1
    (opening_part c.args.turns (state_of c.args.orders.now.actions c.args.seat.now) (g.L.Link.left c.args.link.now) (g.L.Link.left c.begin.new.link)
    (g.L.Link.sent c.args.link.now) (g.L.Link.sent c.begin.new.link) (g.K.Sink.written c.args.sink.now) c.in_err-begun.ensures.part c.begin.ensures.left)

pub returns-in_err-begun-clause-cause : goal.returns-in_err-begun-clause-cause
returns-in_err-begun-clause-cause g c =
    let value : c.from_residual.result ≡ Err c.in_err-begun.field-0.0 = search rules in
    rw value
    (stops_ends c.in_err-begun.field-0.0 (g.L.Link.faults c.args.link.now) (g.L.Link.faults c.args.link.now) (g.L.Link.faults c.begin.new.link)
    (g.K.Sink.faults c.args.sink.now) (g.K.Sink.faults c.args.sink.now) refl c.in_err-begun.ensures.cause refl)

-- ---- the run is over

pub returns-then-not-begun-clause-fresh : goal.returns-then-not-begun-clause-fresh
returns-then-not-begun-clause-fresh g c =
    let over = begun_so c.in_ok-begun.begun false c.args.turns (state_of c.args.orders.now.actions c.args.seat.now) (state_of c.args.orders.now.actions c.begin.new.self)
    c.args.lines.now c.begin.new.lines (g.L.Link.sent c.args.link.now) (g.L.Link.sent c.begin.new.link) c.if-not-begun.true c.in_ok-begun.ensures.begins in
    over.lines ∙ c.requires.fresh

pub returns-then-not-begun-clause-ran : goal.returns-then-not-begun-clause-ran
returns-then-not-begun-clause-ran g c =
    let over = begun_so c.in_ok-begun.begun false c.args.turns (state_of c.args.orders.now.actions c.args.seat.now) (state_of c.args.orders.now.actions c.begin.new.self)
    c.args.lines.now c.begin.new.lines (g.L.Link.sent c.args.link.now) (g.L.Link.sent c.begin.new.link) c.if-not-begun.true c.in_ok-begun.ensures.begins in
    turn_over c.args.turns (state_of c.args.orders.now.actions c.args.seat.now) (state_of c.args.orders.now.actions c.begin.new.self) c.args.lines.now c.begin.new.lines
    (g.L.Link.left c.args.link.now) (g.L.Link.left c.begin.new.link) (g.L.Link.sent c.args.link.now) (g.L.Link.sent c.begin.new.link) (g.K.Sink.written c.args.sink.now)
    over c.begin.ensures.left

-- ---- a fault in what the link gives

pub returns-in_err-closed-clause-part : goal.returns-in_err-closed-clause-part
returns-in_err-closed-clause-part g c =
    let p = err_from_is_err_and c.from_residual-in_err-closed.result c.from_residual-in_err-closed.ensures.1 in
    let opens = begun_so c.in_ok-begun.begun true c.args.turns (state_of c.args.orders.now.actions c.args.seat.now) (state_of c.args.orders.now.actions c.begin.new.self)
    c.args.lines.now c.begin.new.lines (g.L.Link.sent c.args.link.now) (g.L.Link.sent c.begin.new.link) c.if-not-begun.false c.in_ok-begun.ensures.begins in
    rw p.1
    (turn_part c.args.orders.now.actions c.args.turns c.args.seat.now c.begin.new.self c.args.lines.now c.begin.new.lines
    (g.L.Link.left c.args.link.now) (g.L.Link.left c.hear.new.link)
    (g.L.Link.sent c.args.link.now) (g.L.Link.sent c.begin.new.link) (g.L.Link.sent c.hear.new.link) (g.K.Sink.written c.args.sink.now) opens
    (subst (λ l. HearsInPart c.begin.new.self l (g.L.Link.left c.hear.new.link) (g.L.Link.sent c.begin.new.link) (g.L.Link.sent c.hear.new.link))
    c.begin.ensures.left c.in_err-closed.ensures.part))

pub returns-in_err-closed-clause-cause : goal.returns-in_err-closed-clause-cause
returns-in_err-closed-clause-cause g c =
    let value : c.from_residual-in_err-closed.result ≡ Err c.in_err-closed.field-0.0 = search rules in
    rw value
    (stops_ends c.in_err-closed.field-0.0 (g.L.Link.faults c.args.link.now) (g.L.Link.faults c.begin.new.link) (g.L.Link.faults c.hear.new.link)
    (g.K.Sink.faults c.args.sink.now) (g.K.Sink.faults c.args.sink.now) c.in_ok-begun.ensures.kept c.in_err-closed.ensures.cause refl)

-- ---- the lines

pub returns-in_err-write_out-clause-part : goal.returns-in_err-write_out-clause-part
returns-in_err-write_out-clause-part g c =
    let p = err_from_is_err_and c.from_residual-in_err-write_out.result c.from_residual-in_err-write_out.ensures.1 in
    let opens = begun_so c.in_ok-begun.begun true c.args.turns (state_of c.args.orders.now.actions c.args.seat.now) (state_of c.args.orders.now.actions c.begin.new.self)
    c.args.lines.now c.begin.new.lines (g.L.Link.sent c.args.link.now) (g.L.Link.sent c.begin.new.link) c.if-not-begun.false c.in_ok-begun.ensures.begins in
    rw p.1
    (turn_unwritten c.args.orders.now.actions c.args.turns c.args.seat.now c.begin.new.self c.hear.new.self c.args.lines.now c.begin.new.lines c.hear.new.lines
    (g.L.Link.left c.args.link.now) (g.L.Link.left c.hear.new.link)
    (g.L.Link.sent c.args.link.now) (g.L.Link.sent c.begin.new.link) (g.L.Link.sent c.hear.new.link)
    (g.K.Sink.written c.args.sink.now) (g.K.Sink.written c.write_out.new.sink) c.in_ok-closed.closed c.requires.fresh opens
    (subst (λ l. Hears c.begin.new.self c.hear.new.self c.begin.new.lines c.hear.new.lines l (g.L.Link.left c.hear.new.link) (g.L.Link.sent c.begin.new.link) (g.L.Link.sent c.hear.new.link) c.in_ok-closed.closed)
    c.begin.ensures.left c.in_ok-closed.ensures.hears)
    (subst (λ text. WritesFront text (g.K.Sink.written c.args.sink.now) (g.K.Sink.written c.write_out.new.sink)) c.bytes.ensures.value c.in_err-write_out.ensures.front))

pub returns-clause-ran : goal.returns-clause-ran
returns-clause-ran g c =
    let opens = begun_so c.in_ok-begun.begun true c.args.turns (state_of c.args.orders.now.actions c.args.seat.now) (state_of c.args.orders.now.actions c.begin.new.self)
    c.args.lines.now c.begin.new.lines (g.L.Link.sent c.args.link.now) (g.L.Link.sent c.begin.new.link) c.if-not-begun.false c.in_ok-begun.ensures.begins in
    turn_ran c.args.orders.now.actions c.args.turns c.args.seat.now c.begin.new.self c.hear.new.self c.args.lines.now c.begin.new.lines c.hear.new.lines
    (g.L.Link.left c.args.link.now) (g.L.Link.left c.hear.new.link)
    (g.L.Link.sent c.args.link.now) (g.L.Link.sent c.begin.new.link) (g.L.Link.sent c.hear.new.link)
    (g.K.Sink.written c.args.sink.now) (g.K.Sink.written c.write_out.new.sink) c.in_ok-closed.closed (not c.in_ok-closed.closed) c.requires.fresh opens
    (subst (λ l. Hears c.begin.new.self c.hear.new.self c.begin.new.lines c.hear.new.lines l (g.L.Link.left c.hear.new.link) (g.L.Link.sent c.begin.new.link) (g.L.Link.sent c.hear.new.link) c.in_ok-closed.closed)
    c.begin.ensures.left c.in_ok-closed.ensures.hears)
    refl
    (subst (λ text. Appends (g.K.Sink.written c.args.sink.now) (g.K.Sink.written c.write_out.new.sink) text) c.bytes.ensures.value c.in_ok-write_out.ensures.whole)

pub returns-clause-grows : goal.returns-clause-grows
returns-clause-grows g c =
    λ goes_on. grown c.args.turns c.args.seat.now c.begin.new.self c.hear.new.self c.in_ok-begun.begun c.if-not-begun.false c.in_ok-begun.ensures.grows
    c.in_ok-closed.ensures.hears.plays.turn
