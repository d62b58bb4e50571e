use Rattle.std.proofs.Common.{inl, ℕ, refl, sym, subst}
use Rattle.slot_spec.specs.Crash.{HasLength}
use Rattle.image_store.specs.Stands.{state_disk}
use Rattle.image_store.specs.Counts.{store_faults}
use Rattle.unit_turns.specs.declared.ending.UnitStatus.TheVariants.{WriteFault, NoMemory}
use Rattle.unit_turns.proofs.Beginning.{start_done, start_broke, start_starved, start_refused}
use Rattle.unit_turns.proofs.Causing.{refused_caused, refused_bare, write_caused, starved_caused}
use Rattle.unit_turns.proofs.Counting.{refused_counts, ended_counts}
use Rattle.unit_turns.proofs.running.start.Goals as goal

pub returns-in-Err-clause-comes : goal.returns-in-Err-clause-comes
returns-in-Err-clause-comes g c = λ room s bytes reads long there.
    start_refused g.D.Disk.seen g.D.Disk.may_leave g.D.Disk.clock g.D.Disk.left_since g.D.Disk.rig
    g.D.Disk.faults room c.args.size c.args.turn c.args.life c.args.boot s c.args.disk
    (g.K.Sink.written c.args.sink.now) (g.K.Sink.written c.args.sink.now) c.in-Err.refusal
    c.refused.result c.refused.ensures.status c.refused.ensures.disk
    (c.in-Err.ensures.stands room s bytes reads long there) c.in-Err.ensures.disk refl

pub returns-in-Ok-write_start-clause-comes : goal.returns-in-Ok-write_start-clause-comes
returns-in-Ok-write_start-clause-comes g c = λ room s bytes reads long there.
    start_done g.D.Disk.seen g.D.Disk.may_leave g.D.Disk.clock g.D.Disk.left_since g.D.Disk.rig
    g.D.Disk.faults room c.args.size c.args.turn c.args.life c.args.boot s c.args.disk
    (g.K.Sink.written c.args.sink.now) (g.K.Sink.written c.write_start.new.sink) c.in-Ok.agent
    c.software.result (c.in-Ok.ensures.stands room s bytes reads long there) c.in-Ok.ensures.disk
    c.software.ensures.shows
    (λ state is. subst (λ (n : ℕ). HasLength g.D.Disk.may_leave n (state_disk state)) (sym long)
    (c.in-Ok.ensures.length bytes reads state is))
    c.in-Ok-write_start.ensures.written.0

pub returns-in-Err-Write-clause-comes : goal.returns-in-Err-Write-clause-comes
returns-in-Err-Write-clause-comes g c = λ room s bytes reads long there.
    let broke = rw c.in-Err-Write.field-0-is at c.in-Err-Write.ensures.written in
    start_broke g.D.Disk.seen g.D.Disk.may_leave g.D.Disk.clock g.D.Disk.left_since g.D.Disk.rig
    g.D.Disk.faults room c.args.size c.args.turn c.args.life c.args.boot s c.args.disk
    (g.K.Sink.written c.args.sink.now) (g.K.Sink.written c.write_start.new.sink) c.in-Ok.agent
    c.software.result (c.in-Ok.ensures.stands room s bytes reads long there) c.in-Ok.ensures.disk
    c.software.ensures.shows c.end_of.result.status c.end_of.result.disk c.end_of.ensures.status
    c.end_of.ensures.disk broke.0

pub returns-in-Err-NoMemory-clause-comes : goal.returns-in-Err-NoMemory-clause-comes
returns-in-Err-NoMemory-clause-comes g c = λ room s bytes reads long there.
    let same = rw c.in-Err-NoMemory.field-0-is at c.in-Err-NoMemory.ensures.written in
    start_starved g.D.Disk.seen g.D.Disk.may_leave g.D.Disk.clock g.D.Disk.left_since g.D.Disk.rig
    g.D.Disk.faults room c.args.size c.args.turn c.args.life c.args.boot s c.args.disk
    (g.K.Sink.written c.args.sink.now) (g.K.Sink.written c.write_start.new.sink) c.in-Ok.agent
    c.software.result (c.in-Ok.ensures.stands room s bytes reads long there) c.in-Ok.ensures.disk
    c.software.ensures.shows c.end_of-in-Err-NoMemory.result.status
    c.end_of-in-Err-NoMemory.result.disk c.end_of-in-Err-NoMemory.ensures.status
    c.end_of-in-Err-NoMemory.ensures.disk same.0

pub returns-in-Err-clause-cause : goal.returns-in-Err-clause-cause
returns-in-Err-clause-cause g c =
    refused_caused c.in-Err.refusal c.refused.result.status (g.K.Sink.faults c.args.sink.now)
    c.refused.ensures.status

pub returns-in-Err-Write-clause-cause : goal.returns-in-Err-Write-clause-cause
returns-in-Err-Write-clause-cause g c =
    let broke = rw c.in-Err-Write.field-0-is at c.in-Err-Write.ensures.written in
    write_caused c.end_of.result.status (g.K.Sink.faults c.args.sink.now)
    (g.K.Sink.faults c.write_start.new.sink) c.end_of.ensures.status broke.1

pub returns-in-Err-NoMemory-clause-cause : goal.returns-in-Err-NoMemory-clause-cause
returns-in-Err-NoMemory-clause-cause g c =
    let same = rw c.in-Err-NoMemory.field-0-is at c.in-Err-NoMemory.ensures.written in
    starved_caused c.end_of-in-Err-NoMemory.result.status (g.K.Sink.faults c.args.sink.now)
    (g.K.Sink.faults c.write_start.new.sink) c.end_of-in-Err-NoMemory.ensures.status same.1

pub returns-in-Err-clause-count : goal.returns-in-Err-clause-count
returns-in-Err-clause-count g c =
    refused_counts g.D.Disk.faults c.in-Err.refusal c.refused.result.status c.refused.result.disk
    (g.D.Disk.faults c.args.disk) c.refused.ensures.status c.refused.ensures.disk
    c.in-Err.ensures.count

pub returns-in-Ok-write_start-clause-count : goal.returns-in-Ok-write_start-clause-count
returns-in-Ok-write_start-clause-count g c = inl c.in-Ok.ensures.count

pub returns-in-Err-Write-clause-count : goal.returns-in-Err-Write-clause-count
returns-in-Err-Write-clause-count g c =
    ended_counts c.end_of.result.status WriteFault (g.D.Disk.faults c.args.disk)
    (store_faults g.D.Disk.faults c.in-Ok.agent.unit.images) (g.D.Disk.faults c.end_of.result.disk)
    c.end_of.ensures.status (inl c.in-Ok.ensures.count) c.end_of.ensures.count

pub returns-in-Err-NoMemory-clause-count : goal.returns-in-Err-NoMemory-clause-count
returns-in-Err-NoMemory-clause-count g c =
    ended_counts c.end_of-in-Err-NoMemory.result.status NoMemory (g.D.Disk.faults c.args.disk)
    (store_faults g.D.Disk.faults c.in-Ok.agent.unit.images)
    (g.D.Disk.faults c.end_of-in-Err-NoMemory.result.disk)
    c.end_of-in-Err-NoMemory.ensures.status (inl c.in-Ok.ensures.count)
    c.end_of-in-Err-NoMemory.ensures.count

pub returns-in-Err-clause-bare : goal.returns-in-Err-clause-bare
returns-in-Err-clause-bare g c = λ bytes reads other.
    (refused_bare c.in-Err.refusal c.refused.result.status c.refused.ensures.status, refl)

pub returns-in-Ok-write_start-clause-bare : goal.returns-in-Ok-write_start-clause-bare
returns-in-Ok-write_start-clause-bare g c = λ bytes reads other.
    absurd (other (c.in-Ok.ensures.found bytes reads))

pub returns-in-Err-Write-clause-bare : goal.returns-in-Err-Write-clause-bare
returns-in-Err-Write-clause-bare g c = λ bytes reads other.
    absurd (other (c.in-Ok.ensures.found bytes reads))

pub returns-in-Err-NoMemory-clause-bare : goal.returns-in-Err-NoMemory-clause-bare
returns-in-Err-NoMemory-clause-bare g c = λ bytes reads other.
    absurd (other (c.in-Ok.ensures.found bytes reads))
