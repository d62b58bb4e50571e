use Rattle.std.proofs.Common.{inl, List, ℕ, Option, refl, sym, subst}
use Rattle.unit_turns.specs.Running.{Before}
use Rattle.unit_turns.specs.Ending.{RunEnds}
use Rattle.unit_turns.specs.declared.ending.UnitStatus.{UnitStatus}
use Rattle.unit_turns.proofs.Ends.{link_closed, link_failed}
use Rattle.unit_turns.proofs.Causing.{sink_caused, link_caused, link_broke, ended_done, lives_same}
use Rattle.image_store.specs.Counts.{store_faults}
use Rattle.unit_turns.specs.declared.ending.UnitStatus.TheVariants.{Done, LinkFault}
use Rattle.unit_turns.proofs.Counting.{ended_counts}
use Rattle.unit_turns.proofs.running.next_turn.Goals as goal

pub returns-in-Err-clause-ends : goal.returns-in-Err-clause-ends
returns-in-Err-clause-ends g c = λ room limit s0 mounted turns left0 sent0 written0 b.
    subst (λ (x : UnitStatus). RunEnds g.D.Disk.seen g.D.Disk.may_leave g.D.Disk.clock
    g.D.Disk.left_since g.D.Disk.faults x room s0 limit mounted c.end_of.result.disk left0
    (g.L.Link.left c.next.new.self) sent0 (g.L.Link.sent c.next.new.self) written0
    (g.K.Sink.written c.args.sink.now)) (sym c.end_of.ensures.status)
    (link_failed g.D.Disk.seen g.D.Disk.may_leave g.D.Disk.clock g.D.Disk.left_since g.D.Disk.rig
    g.D.Disk.faults room limit c.args.turn s0 mounted turns left0 (g.L.Link.left c.args.link.now)
    (g.L.Link.left c.next.new.self) sent0 (g.L.Link.sent c.args.link.now) written0
    (g.K.Sink.written c.args.sink.now) c.args.unit.agent c.args.unit.size c.args.unit.life b
    (g.L.Link.sent c.next.new.self) c.end_of.result.disk c.in-Err.ensures.left
    c.next.ensures.sent c.end_of.ensures.disk)

pub returns-in-Ok-Packet-clause-ends : goal.returns-in-Ok-Packet-clause-ends
returns-in-Ok-Packet-clause-ends g c = λ room limit s0 mounted turns left0 sent0 written0 b.
    let first = rw c.in-Ok-Packet.field-0-is at c.in-Ok-Packet.ensures.first in
    c.packet.ensures.ends room limit c.args.turn s0 mounted turns left0
    (g.L.Link.left c.args.link.now) sent0 written0 (g.K.Sink.written c.args.sink.now)
    (subst (λ (s : Option (List (List ℕ))). Before g.D.Disk.seen g.D.Disk.may_leave
    g.D.Disk.clock g.D.Disk.left_since g.D.Disk.faults room s0 limit mounted c.args.unit.agent
    c.args.unit.size c.args.unit.life c.args.turn turns left0 (g.L.Link.left c.args.link.now)
    sent0 s written0 (g.K.Sink.written c.args.sink.now)) (sym c.next.ensures.sent) b)
    (first, c.in-Ok-Packet.ensures.left)

pub returns-in-Ok-Quiet-clause-ends : goal.returns-in-Ok-Quiet-clause-ends
returns-in-Ok-Quiet-clause-ends g c = λ room limit s0 mounted turns left0 sent0 written0 b.
    let first = rw c.in-Ok-Quiet.field-0-is at c.in-Ok-Quiet.ensures.first in
    c.second.ensures.ends room limit s0 mounted turns left0 (g.L.Link.left c.args.link.now)
    (g.L.Link.left c.next.new.self) sent0 (g.L.Link.sent c.next.new.self) written0
    (subst (λ (s : Option (List (List ℕ))). Before g.D.Disk.seen g.D.Disk.may_leave
    g.D.Disk.clock g.D.Disk.left_since g.D.Disk.faults room s0 limit mounted c.args.unit.agent
    c.args.unit.size c.args.unit.life c.args.turn turns left0 (g.L.Link.left c.args.link.now)
    sent0 s written0 (g.K.Sink.written c.args.sink.now)) (sym c.next.ensures.sent) b)
    (first, c.in-Ok-Quiet.ensures.left)

pub returns-in-Ok-Closed-clause-ends : goal.returns-in-Ok-Closed-clause-ends
returns-in-Ok-Closed-clause-ends g c = λ room limit s0 mounted turns left0 sent0 written0 b.
    let first = rw c.in-Ok-Closed.field-0-is at c.in-Ok-Closed.ensures.first in
    subst (λ (x : UnitStatus). RunEnds g.D.Disk.seen g.D.Disk.may_leave g.D.Disk.clock
    g.D.Disk.left_since g.D.Disk.faults x room s0 limit mounted c.end_of-in-Ok-Closed.result.disk
    left0 (g.L.Link.left c.next.new.self) sent0 (g.L.Link.sent c.next.new.self) written0
    (g.K.Sink.written c.args.sink.now)) (sym c.end_of-in-Ok-Closed.ensures.status)
    (link_closed g.D.Disk.seen g.D.Disk.may_leave g.D.Disk.clock g.D.Disk.left_since g.D.Disk.rig
    g.D.Disk.faults room limit c.args.turn s0 mounted turns left0 (g.L.Link.left c.args.link.now)
    (g.L.Link.left c.next.new.self) sent0 (g.L.Link.sent c.args.link.now) written0
    (g.K.Sink.written c.args.sink.now) c.args.unit.agent c.args.unit.size c.args.unit.life b
    (g.L.Link.sent c.next.new.self) c.end_of-in-Ok-Closed.result.disk
    (first, c.in-Ok-Closed.ensures.left) c.next.ensures.sent c.end_of-in-Ok-Closed.ensures.disk)

pub returns-in-Ok-Packet-clause-lives : goal.returns-in-Ok-Packet-clause-lives
returns-in-Ok-Packet-clause-lives g c =
    lives_same c.packet.result c.args.unit.life c.args.turn c.requires.lives c.packet.ensures.lives

pub returns-in-Err-clause-cause : goal.returns-in-Err-clause-cause
returns-in-Err-clause-cause g c =
    link_broke c.end_of.result.status (g.L.Link.faults c.args.link.now)
    (g.L.Link.faults c.next.new.self) (g.K.Sink.faults c.args.sink.now)
    (g.K.Sink.faults c.args.sink.now) c.end_of.ensures.status c.in-Err.ensures.cause.failed refl

pub returns-in-Ok-Packet-clause-cause : goal.returns-in-Ok-Packet-clause-cause
returns-in-Ok-Packet-clause-cause g c =
    link_caused c.packet.result (g.L.Link.faults c.args.link.now) (g.L.Link.faults c.next.new.self)
    (g.L.Link.faults c.packet.new.link) (g.K.Sink.faults c.args.sink.now)
    c.in-Ok-Packet.ensures.cause.kept c.packet.ensures.cause

pub returns-in-Ok-Quiet-clause-cause : goal.returns-in-Ok-Quiet-clause-cause
returns-in-Ok-Quiet-clause-cause g c =
    sink_caused c.second.result (g.L.Link.faults c.args.link.now) (g.L.Link.faults c.next.new.self)
    (g.K.Sink.faults c.args.sink.now) (g.K.Sink.faults c.second.new.sink)
    c.in-Ok-Quiet.ensures.cause.kept c.second.ensures.cause

pub returns-in-Ok-Closed-clause-cause : goal.returns-in-Ok-Closed-clause-cause
returns-in-Ok-Closed-clause-cause g c =
    ended_done c.end_of-in-Ok-Closed.result.status (g.L.Link.faults c.args.link.now)
    (g.L.Link.faults c.next.new.self) (g.K.Sink.faults c.args.sink.now)
    (g.K.Sink.faults c.args.sink.now) c.end_of-in-Ok-Closed.ensures.status
    c.in-Ok-Closed.ensures.cause.kept refl

pub returns-in-Err-clause-count : goal.returns-in-Err-clause-count
returns-in-Err-clause-count g c =
    ended_counts c.end_of.result.status LinkFault
    (store_faults g.D.Disk.faults c.args.unit.agent.unit.images)
    (store_faults g.D.Disk.faults c.args.unit.agent.unit.images)
    (g.D.Disk.faults c.end_of.result.disk) c.end_of.ensures.status (inl refl)
    c.end_of.ensures.count

pub returns-in-Ok-Closed-clause-count : goal.returns-in-Ok-Closed-clause-count
returns-in-Ok-Closed-clause-count g c =
    ended_counts c.end_of-in-Ok-Closed.result.status Done
    (store_faults g.D.Disk.faults c.args.unit.agent.unit.images)
    (store_faults g.D.Disk.faults c.args.unit.agent.unit.images)
    (g.D.Disk.faults c.end_of-in-Ok-Closed.result.disk) c.end_of-in-Ok-Closed.ensures.status
    (inl refl) c.end_of-in-Ok-Closed.ensures.count
