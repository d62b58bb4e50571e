use Rattle.std.proofs.Common.{◌≡◌, rules, sym, subst, refl, Some, Ok, Err}
use Rattle.std.specs.Result.{result_err}
use Rattle.stream_show.specs.Runs.{ShowsHeld, GathersHeld}
use Rattle.stream_show.proofs.Gathering.{held_broken, held_refused}
use Rattle.stream_show.proofs.showing.show_held.Goals as goal

pub returns-in_err-write_lines-clause-shown : goal.returns-in_err-write_lines-clause-shown
returns-in_err-write_lines-clause-shown g c =
    let value : c.from_residual-in_err-write_lines.result ≡ Err c.in_err-write_lines.field-0.0 = search rules in
    subst (λ r. ShowsHeld (result_err r) c.args.buffer.now c.gather.new.buffer (g.K.Sink.written c.args.sink.now) (g.K.Sink.written c.write_lines.new.sink) (g.K.Sink.faults c.args.sink.now) (g.K.Sink.faults c.write_lines.new.sink)) (sym value)
    (held_broken c.in_err-write_lines.field-0.0 c.in_ok-fault.fault c.args.buffer.now c.gather.new.buffer c.gather.new.lines.items c.write_lines.new.lines.items _ _ _ _ _ _ c.in_ok-fault.ensures.gathered c.in_err-write_lines.ensures.written)

pub returns-in-Some-clause-shown : goal.returns-in-Some-clause-shown
returns-in-Some-clause-shown g c =
    subst (λ e. ShowsHeld (Some e) c.args.buffer.now c.gather.new.buffer (g.K.Sink.written c.args.sink.now) (g.K.Sink.written c.write_lines.new.sink) (g.K.Sink.faults c.args.sink.now) (g.K.Sink.faults c.write_lines.new.sink)) (sym c.refused_at.ensures.value)
    (held_refused c.in-Some.fault c.gather.new.buffer.at c.stream_reason.result c.args.buffer.now c.gather.new.buffer c.gather.new.lines.items c.write_lines.new.lines.items _ _ _ _ _ _
    (subst (λ o. GathersHeld (Ok o) c.args.buffer.now c.gather.new.buffer c.gather.new.lines.items (g.K.Sink.written c.args.sink.now) (g.K.Sink.written c.gather.new.sink) (g.K.Sink.faults c.args.sink.now) (g.K.Sink.faults c.gather.new.sink)) c.in-Some.is c.in_ok-fault.ensures.gathered)
    c.in_ok-write_lines.ensures.written c.in_ok-write_lines.ensures.empty refl c.stream_reason.ensures.value)
