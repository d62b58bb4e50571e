use Rattle.std.proofs.Common.{refl, ◌∙◌, sym, subst}
use Rattle.turn_spec.specs.UnitTurns.{unit_run}
use Rattle.unit_turns.specs.Ending.{RunEnds}
use Rattle.unit_turns.specs.declared.ending.UnitStatus.{UnitStatus}
use Rattle.unit_turns.proofs.Ends.{packet_goes, packet_unsent, packet_starves}
use Rattle.unit_turns.proofs.Causing.{link_broke, link_starved}
use Rattle.image_store.specs.Counts.{store_faults}
use Rattle.unit_turns.specs.declared.ending.UnitStatus.TheVariants.{LinkFault, NoMemory}
use Rattle.unit_turns.proofs.Counting.{ended_counts}
use Rattle.unit_turns.proofs.running.packet.Goals as goal

pub returns-in-Ok-clause-ends : goal.returns-in-Ok-clause-ends
returns-in-Ok-clause-ends g c = λ room limit turn s0 mounted turns left0 left sent0 written0 written b took.
    let a = c.in-Ok.ensures.answers (unit_run room s0 turns).unit b.runs.runs.stands in
    packet_goes g.D.Disk.seen g.D.Disk.may_leave g.D.Disk.clock g.D.Disk.left_since g.D.Disk.rig
    g.D.Disk.faults room limit turn s0 mounted turns left0 left (g.L.Link.left c.answer.new.link)
    sent0 (g.L.Link.sent c.args.link.now) written0 written c.args.unit.agent c.args.unit.size
    c.args.unit.life b c.args.bytes.now c.answer.new.agent
    (took.0, c.answer.ensures.left ∙ took.1) a.0 (g.L.Link.sent c.answer.new.link) a.1 a.2

pub returns-in-Err-Link-clause-ends : goal.returns-in-Err-Link-clause-ends
returns-in-Err-Link-clause-ends g c = λ room limit turn s0 mounted turns left0 left sent0 written0 written b took.
    let a = (rw c.in-Err-Link.field-0-is at c.in-Err-Link.ensures.answers) (unit_run room s0 turns).unit b.runs.runs.stands in
    subst (λ (x : UnitStatus). RunEnds g.D.Disk.seen g.D.Disk.may_leave g.D.Disk.clock
    g.D.Disk.left_since g.D.Disk.faults x room s0 limit mounted
    c.end_of-in-Err-Link.result.disk left0 (g.L.Link.left c.answer.new.link) sent0
    (g.L.Link.sent c.answer.new.link) written0 written) (sym c.end_of-in-Err-Link.ensures.status)
    (packet_unsent g.D.Disk.seen g.D.Disk.may_leave g.D.Disk.clock g.D.Disk.left_since g.D.Disk.rig
    g.D.Disk.faults room limit turn s0 mounted turns left0 left (g.L.Link.left c.answer.new.link)
    sent0 (g.L.Link.sent c.args.link.now) written0 written c.args.unit.agent c.args.unit.size
    c.args.unit.life b c.args.bytes.now c.answer.new.agent
    (took.0, c.answer.ensures.left ∙ took.1) a.0 (g.L.Link.sent c.answer.new.link)
    c.end_of-in-Err-Link.result.disk a.1 a.2 c.end_of-in-Err-Link.ensures.disk)

pub returns-in-Err-NoMemory-clause-ends : goal.returns-in-Err-NoMemory-clause-ends
returns-in-Err-NoMemory-clause-ends g c = λ room limit turn s0 mounted turns left0 left sent0 written0 written b took.
    let a = (rw c.in-Err-NoMemory.field-0-is at c.in-Err-NoMemory.ensures.answers) (unit_run room s0 turns).unit b.runs.runs.stands in
    subst (λ (x : UnitStatus). RunEnds g.D.Disk.seen g.D.Disk.may_leave g.D.Disk.clock
    g.D.Disk.left_since g.D.Disk.faults x room s0 limit mounted
    c.end_of.result.disk left0 (g.L.Link.left c.answer.new.link) sent0
    (g.L.Link.sent c.answer.new.link) written0 written) (sym c.end_of.ensures.status)
    (packet_starves g.D.Disk.seen g.D.Disk.may_leave g.D.Disk.clock g.D.Disk.left_since
    g.D.Disk.rig g.D.Disk.faults room limit turn s0 mounted turns left0 left
    (g.L.Link.left c.answer.new.link) sent0 (g.L.Link.sent c.args.link.now) written0 written
    c.args.unit.agent c.args.unit.size c.args.unit.life b c.args.bytes.now c.answer.new.agent
    (took.0, c.answer.ensures.left ∙ took.1) (g.L.Link.sent c.answer.new.link)
    c.end_of.result.disk a.0 a.1 c.end_of.ensures.disk)

pub returns-in-Err-Link-clause-cause : goal.returns-in-Err-Link-clause-cause
returns-in-Err-Link-clause-cause g c =
    let rose = rw c.in-Err-Link.field-0-is at c.in-Err-Link.ensures.cause in
    link_broke c.end_of-in-Err-Link.result.status (g.L.Link.faults c.args.link.now)
    (g.L.Link.faults c.answer.new.link) 0 0 c.end_of-in-Err-Link.ensures.status rose refl

pub returns-in-Err-NoMemory-clause-cause : goal.returns-in-Err-NoMemory-clause-cause
returns-in-Err-NoMemory-clause-cause g c =
    let same = rw c.in-Err-NoMemory.field-0-is at c.in-Err-NoMemory.ensures.cause in
    link_starved c.end_of.result.status (g.L.Link.faults c.args.link.now)
    (g.L.Link.faults c.answer.new.link) 0 c.end_of.ensures.status same

pub returns-in-Err-Link-clause-count : goal.returns-in-Err-Link-clause-count
returns-in-Err-Link-clause-count g c =
    ended_counts c.end_of-in-Err-Link.result.status LinkFault
    (store_faults g.D.Disk.faults c.args.unit.agent.unit.images)
    (store_faults g.D.Disk.faults c.answer.new.agent.unit.images)
    (g.D.Disk.faults c.end_of-in-Err-Link.result.disk) c.end_of-in-Err-Link.ensures.status
    c.answer.ensures.count c.end_of-in-Err-Link.ensures.count

pub returns-in-Err-NoMemory-clause-count : goal.returns-in-Err-NoMemory-clause-count
returns-in-Err-NoMemory-clause-count g c =
    ended_counts c.end_of.result.status NoMemory
    (store_faults g.D.Disk.faults c.args.unit.agent.unit.images)
    (store_faults g.D.Disk.faults c.answer.new.agent.unit.images)
    (g.D.Disk.faults c.end_of.result.disk) c.end_of.ensures.status c.answer.ensures.count
    c.end_of.ensures.count
