use Rattle.std.proofs.Common.{◌+◌, inl, refl, sym, ◌∙◌, subst, arith}
use Rattle.unit_turns.specs.Ending.{RunEnds}
use Rattle.unit_turns.specs.declared.ending.UnitStatus.{UnitStatus}
use Rattle.unit_turns.proofs.Joining.{runs_begin, run_before, run_next, run_done}
use Rattle.unit_turns.proofs.Causing.{caused_from, ended_done}
use Rattle.image_store.specs.Counts.{store_faults}
use Rattle.unit_turns.specs.declared.ending.UnitStatus.TheVariants.{Done}
use Rattle.image_store.proofs.Counting.{counted_then}
use Rattle.unit_turns.proofs.Counting.{cause_after, ended_counts}
use Rattle.unit_turns.proofs.running.run_turns.Goals as goal

pub loop-turn-init : goal.loop-turn-init
loop-turn-init g c = (
  runs_begin g.D.Disk.seen g.D.Disk.may_leave g.D.Disk.clock g.D.Disk.left_since g.D.Disk.faults
      c.args.turns (g.L.Link.left c.args.link.now) (g.L.Link.sent c.args.link.now)
      (g.K.Sink.written c.args.sink.now) c.args.unit.agent c.args.unit.size c.args.unit.life,
  refl,
  refl,
  omega (arith, c.requires.first),
  inl refl,
)

pub loop-turn-preserved : goal.loop-turn-preserved
loop-turn-preserved g c = (
  λ room s0 mounted left0 sent0 written0 runs shown.
      let r = c.loop-turn.invariant.0 room s0 mounted left0 sent0 written0 runs shown in
      run_next g.D.Disk.seen g.D.Disk.may_leave g.D.Disk.clock g.D.Disk.left_since
      g.D.Disk.faults room s0 c.args.turns mounted left0 (g.L.Link.left c.loop-turn.link) sent0
      (g.L.Link.sent c.loop-turn.link) written0 (g.K.Sink.written c.loop-turn.sink)
      c.loop-turn.unit.agent c.loop-turn.unit.size c.loop-turn.unit.life c.loop-turn.turn r
      (g.L.Link.left c.next_turn.new.link) (g.L.Link.sent c.next_turn.new.link)
      (g.K.Sink.written c.next_turn.new.sink) c.in-Ok.next.agent c.in-Ok.next.size
      c.in-Ok.next.life
      (c.in-Ok.ensures.ends room c.args.turns s0 mounted r.turns left0 sent0 written0
      (run_before g.D.Disk.seen g.D.Disk.may_leave g.D.Disk.clock g.D.Disk.left_since
      g.D.Disk.faults room s0 c.args.turns mounted left0 (g.L.Link.left c.loop-turn.link) sent0
      (g.L.Link.sent c.loop-turn.link) written0 (g.K.Sink.written c.loop-turn.sink)
      c.loop-turn.unit.agent c.loop-turn.unit.size c.loop-turn.unit.life c.loop-turn.turn r
      (c.loop-turn.turn + 1) (omega (arith, c.loop-turn-test.true)) refl)),
  c.in-Ok.ensures.cause.0 ∙ c.loop-turn.invariant.1,
  c.in-Ok.ensures.cause.1 ∙ c.loop-turn.invariant.2,
  c.in-Ok.ensures.lives,
  counted_then (store_faults g.D.Disk.faults c.args.unit.agent.unit.images)
      (store_faults g.D.Disk.faults c.loop-turn.unit.agent.unit.images)
      (store_faults g.D.Disk.faults c.in-Ok.next.agent.unit.images) c.loop-turn.invariant.4
      c.in-Ok.ensures.count,
)

pub returns-in-Err-clause-ends : goal.returns-in-Err-clause-ends
returns-in-Err-clause-ends g c = λ room s0 mounted left0 sent0 written0 runs shown.
    let r = c.loop-turn.invariant.0 room s0 mounted left0 sent0 written0 runs shown in
    c.in-Err.ensures.ends room c.args.turns s0 mounted r.turns left0 sent0 written0
    (run_before g.D.Disk.seen g.D.Disk.may_leave g.D.Disk.clock g.D.Disk.left_since
    g.D.Disk.faults room s0 c.args.turns mounted left0 (g.L.Link.left c.loop-turn.link) sent0
    (g.L.Link.sent c.loop-turn.link) written0 (g.K.Sink.written c.loop-turn.sink)
    c.loop-turn.unit.agent c.loop-turn.unit.size c.loop-turn.unit.life c.loop-turn.turn r
    (c.loop-turn.turn + 1) (omega (arith, c.loop-turn-test.true)) refl)

pub returns-in-Err-clause-cause : goal.returns-in-Err-clause-cause
returns-in-Err-clause-cause g c =
    caused_from c.in-Err.end.status (g.L.Link.faults c.args.link.now)
    (g.L.Link.faults c.loop-turn.link) (g.L.Link.faults c.next_turn.new.link)
    (g.K.Sink.faults c.args.sink.now) (g.K.Sink.faults c.loop-turn.sink)
    (g.K.Sink.faults c.next_turn.new.sink) c.loop-turn.invariant.1 c.loop-turn.invariant.2
    c.in-Err.ensures.cause

pub returns-clause-ends : goal.returns-clause-ends
returns-clause-ends g c = λ room s0 mounted left0 sent0 written0 runs shown.
    let r = c.loop-turn.invariant.0 room s0 mounted left0 sent0 written0 runs shown in
    subst (λ (x : UnitStatus). RunEnds g.D.Disk.seen g.D.Disk.may_leave g.D.Disk.clock
    g.D.Disk.left_since g.D.Disk.faults x room s0 c.args.turns mounted c.end_of.result.disk left0
    (g.L.Link.left c.loop-turn.link) sent0 (g.L.Link.sent c.loop-turn.link) written0
    (g.K.Sink.written c.loop-turn.sink)) (sym c.end_of.ensures.status)
    (run_done g.D.Disk.seen g.D.Disk.may_leave g.D.Disk.clock g.D.Disk.left_since
    g.D.Disk.faults room s0 c.args.turns mounted left0 (g.L.Link.left c.loop-turn.link) sent0
    (g.L.Link.sent c.loop-turn.link) written0 (g.K.Sink.written c.loop-turn.sink)
    c.loop-turn.unit.agent c.loop-turn.unit.size c.loop-turn.unit.life c.loop-turn.turn r
    g.D.Disk.rig c.end_of.result.disk (omega (arith, c.loop-turn-test.false))
    c.end_of.ensures.disk)

pub returns-clause-cause : goal.returns-clause-cause
returns-clause-cause g c =
    ended_done c.end_of.result.status (g.L.Link.faults c.args.link.now)
    (g.L.Link.faults c.loop-turn.link) (g.K.Sink.faults c.args.sink.now)
    (g.K.Sink.faults c.loop-turn.sink) c.end_of.ensures.status c.loop-turn.invariant.1
    c.loop-turn.invariant.2

pub returns-in-Err-clause-count : goal.returns-in-Err-clause-count
returns-in-Err-clause-count g c =
    cause_after c.in-Err.end.status (store_faults g.D.Disk.faults c.args.unit.agent.unit.images)
    (store_faults g.D.Disk.faults c.loop-turn.unit.agent.unit.images)
    (g.D.Disk.faults c.in-Err.end.disk) c.loop-turn.invariant.4 c.in-Err.ensures.count

pub returns-clause-count : goal.returns-clause-count
returns-clause-count g c =
    ended_counts c.end_of.result.status Done
    (store_faults g.D.Disk.faults c.args.unit.agent.unit.images)
    (store_faults g.D.Disk.faults c.loop-turn.unit.agent.unit.images)
    (g.D.Disk.faults c.end_of.result.disk) c.end_of.ensures.status c.loop-turn.invariant.4
    c.end_of.ensures.count
