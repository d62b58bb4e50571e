use Rattle.std.proofs.Common.{sym, ◌∙◌}
use Rattle.unit_spec.specs.Onu.{onu_ticked}
use Rattle.turn_spec.specs.UnitTurns.{unit_run}
use Rattle.unit_turns.proofs.Ends.{second_stays, second_starts, second_disk}
use Rattle.unit_turns.proofs.Causing.{start_caused, lives_more}
use Rattle.image_store.specs.Counts.{store_faults}
use Rattle.unit_turns.proofs.Counting.{same_counts, counts_after}
use Rattle.unit_turns.proofs.running.second.Goals as goal

pub returns-in-None-clause-ends : goal.returns-in-None-clause-ends
returns-in-None-clause-ends g c = λ room limit s0 mounted turns left0 left now sent0 sent written0 b took.
    second_stays g.D.Disk.seen g.D.Disk.may_leave g.D.Disk.clock g.D.Disk.left_since g.D.Disk.rig
    g.D.Disk.faults room limit c.args.turn s0 mounted turns left0 left now sent0 sent written0
    (g.K.Sink.written c.args.sink.now) c.args.unit.agent c.args.unit.size c.args.unit.life b
    c.tick.new.self took
    (c.tick.ensures.ticked (unit_run room s0 turns).unit b.runs.runs.stands) c.tick.ensures.images
    (sym b.runs.runs.stands.stands.leaving_is ∙ sym c.tick.ensures.leaving
    ∙ sym c.leaving.ensures.value ∙ c.in-None.is)

pub returns-in-Some-clause-ends : goal.returns-in-Some-clause-ends
returns-in-Some-clause-ends g c = λ room limit s0 mounted turns left0 left now sent0 sent written0 b took.
    let ticked = c.tick.ensures.ticked (unit_run room s0 turns).unit b.runs.runs.stands in
    second_starts g.D.Disk.seen g.D.Disk.may_leave g.D.Disk.clock g.D.Disk.left_since g.D.Disk.rig
    g.D.Disk.faults room limit c.args.turn s0 mounted turns left0 left now sent0 sent written0
    (g.K.Sink.written c.args.sink.now) c.args.unit.agent c.args.unit.size c.args.unit.life b
    c.tick.new.self took ticked c.tick.ensures.images c.in-Some.boot c.again.result
    (g.K.Sink.written c.again.new.sink)
    (sym b.runs.runs.stands.stands.leaving_is ∙ sym c.tick.ensures.leaving
    ∙ sym c.leaving.ensures.value ∙ c.in-Some.is)
    (c.again.ensures.comes (onu_ticked (unit_run room s0 turns).unit) ticked
    (second_disk g.D.Disk.seen g.D.Disk.may_leave g.D.Disk.clock g.D.Disk.left_since g.D.Disk.rig
    g.D.Disk.faults room limit c.args.turn s0 mounted turns left0 left now sent0 sent written0
    (g.K.Sink.written c.args.sink.now) c.args.unit.agent c.args.unit.size c.args.unit.life b
    c.tick.new.self took ticked c.tick.ensures.images))

pub returns-in-Some-clause-lives : goal.returns-in-Some-clause-lives
returns-in-Some-clause-lives g c =
    lives_more c.again.result c.args.unit.life c.args.turn c.requires.lives c.again.ensures.lives

pub returns-in-Some-clause-cause : goal.returns-in-Some-clause-cause
returns-in-Some-clause-cause g c =
    start_caused c.again.result (g.K.Sink.faults c.args.sink.now)
    (g.K.Sink.faults c.again.new.sink) c.again.ensures.cause

pub returns-in-None-clause-count : goal.returns-in-None-clause-count
returns-in-None-clause-count g c =
    same_counts g.D.Disk.faults c.args.unit.agent.unit.images c.tick.new.self.unit.images
    c.tick.ensures.images

pub returns-in-Some-clause-count : goal.returns-in-Some-clause-count
returns-in-Some-clause-count g c =
    counts_after g.D.Disk.faults c.again.result
    (store_faults g.D.Disk.faults c.args.unit.agent.unit.images)
    (store_faults g.D.Disk.faults c.tick.new.self.unit.images)
    (same_counts g.D.Disk.faults c.args.unit.agent.unit.images c.tick.new.self.unit.images
    c.tick.ensures.images) c.again.ensures.count
