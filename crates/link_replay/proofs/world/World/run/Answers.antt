use Rattle.std.proofs.Common.{◌≡◌, length, refl, sym, ◌∙◌, subst, arith}
use Rattle.std.proofs.lemmas.Result.{err_from_is_err_and}
use Rattle.std.specs.Io.KnownBytes.{Appends}
use Rattle.replay_script.specs.Events.{action_of}
use Rattle.link_replay.proofs.Running.{RunSoFar, run_starts, run_goes_on, run_breaks_off, run_ends, run_ends_early, run_stands}
use Rattle.link_replay.proofs.world.World.run.Goals as goal

pub loop-place-init : goal.loop-place-init
loop-place-init g c = (
  run_starts c.args.script.now c.args.self.now c.new-lines.result c.start_line.new.out (g.K.Sink.written c.args.sink.now) c.requires.begun c.new-lines.ensures.empty c.in_ok-start_line.ensures.line,
  refl,
)

pub loop-place-preserved : goal.loop-place-preserved
loop-place-preserved g c = (
  run_goes_on c.args.script.now c.loop-place.place (action_of c.event.result.now) c.loop-place.self c.one_event.new.self c.loop-place.lines c.one_event.new.lines (g.K.Sink.written c.args.sink.now) (g.K.Sink.written c.loop-place.sink) (g.K.Sink.written c.one_event.new.sink)
      c.loop-place.invariant.0 c.event.ensures.value c.in_ok-one_event.ensures.nodes c.in_ok-one_event.ensures.written,
  c.in_ok-one_event.ensures.kept ∙ c.loop-place.invariant.1,
)

pub returns-in_err-one_event-clause-front : goal.returns-in_err-one_event-clause-front
returns-in_err-one_event-clause-front g c =
    let p = err_from_is_err_and c.from_residual-in_err-one_event.result c.from_residual-in_err-one_event.ensures.1 in
    rw p.1 (run_breaks_off c.args.script.now c.loop-place.place (action_of c.event.result.now) c.loop-place.self c.loop-place.lines (g.K.Sink.written c.args.sink.now) (g.K.Sink.written c.loop-place.sink) (g.K.Sink.written c.one_event.new.sink)
    c.loop-place.invariant.0 c.event.ensures.value c.in_err-one_event.ensures.front)

pub returns-in_err-write_all-clause-front : goal.returns-in_err-write_all-clause-front
returns-in_err-write_all-clause-front g c =
    let p = err_from_is_err_and c.from_residual-in_err-write_all.result c.from_residual-in_err-write_all.ensures.1 in
    let all : c.loop-place.place ≡ length c.args.script.now.actions = omega (arith, c.len-place-end.ensures.value) in
    let broken = c.in_err-write_all.ensures.broken in
    rw p.1 (run_ends_early c.args.script.now c.loop-place.self c.loop-place.lines (g.K.Sink.written c.args.sink.now) (g.K.Sink.written c.loop-place.sink) (g.K.Sink.written c.write_all.new.sink)
    (subst (λ k. RunSoFar c.args.script.now k c.loop-place.self c.loop-place.lines (g.K.Sink.written c.args.sink.now) (g.K.Sink.written c.loop-place.sink)) all c.loop-place.invariant.0)
    (broken.done, (broken.rest, sym broken.parts ∙ c.bytes.ensures.value), broken.added))

pub returns-clause-traced : goal.returns-clause-traced
returns-clause-traced g c =
    let all : c.loop-place.place ≡ length c.args.script.now.actions = omega (arith, c.len-place-end.ensures.value) in
    run_ends c.args.script.now c.loop-place.self c.loop-place.lines (g.K.Sink.written c.args.sink.now) (g.K.Sink.written c.loop-place.sink) (g.K.Sink.written c.write_all.new.sink)
    (subst (λ k. RunSoFar c.args.script.now k c.loop-place.self c.loop-place.lines (g.K.Sink.written c.args.sink.now) (g.K.Sink.written c.loop-place.sink)) all c.loop-place.invariant.0)
    (subst (λ text. Appends (g.K.Sink.written c.loop-place.sink) (g.K.Sink.written c.write_all.new.sink) text) c.bytes.ensures.value c.in_ok-write_all.ensures.whole)

pub returns-clause-nodes : goal.returns-clause-nodes
returns-clause-nodes g c =
    let all : c.loop-place.place ≡ length c.args.script.now.actions = omega (arith, c.len-place-end.ensures.value) in
    run_stands c.args.script.now c.loop-place.self c.loop-place.lines (g.K.Sink.written c.args.sink.now) (g.K.Sink.written c.loop-place.sink)
    (subst (λ k. RunSoFar c.args.script.now k c.loop-place.self c.loop-place.lines (g.K.Sink.written c.args.sink.now) (g.K.Sink.written c.loop-place.sink)) all c.loop-place.invariant.0)
