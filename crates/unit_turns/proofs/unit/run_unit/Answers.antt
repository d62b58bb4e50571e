use Rattle.std.proofs.Common.{ℕ, inl, refl, sym, ◌∙◌, subst, Ok}
use Rattle.image_store.specs.Stands.{state_disk}
use Rattle.unit_turns.specs.Ending.{UnitEnds}
use Rattle.unit_turns.specs.declared.ending.UnitStatus.{UnitStatus}
use Rattle.unit_turns.proofs.Whole.{first_runs, first_shown, first_unattached, first_ran, first_failed}
use Rattle.unit_turns.proofs.Causing.{started_cause, link_broke, caused_from}
use Rattle.image_store.specs.Counts.{store_faults}
use Rattle.image_store.specs.Starts.{IsUnit}
use Rattle.unit_turns.specs.declared.ending.UnitStatus.TheVariants.{LinkFault}
use Rattle.unit_turns.proofs.Counting.{cause_after, counts_after, ended_counts}
use Rattle.unit_turns.proofs.unit.run_unit.Goals as goal

pub returns-in-Err-clause-ends : goal.returns-in-Err-clause-ends
returns-in-Err-clause-ends g c = λ room s0 bytes reads there. inl (record {
  failed = c.in-Err.ensures.cause.failed;
  moments = c.attach.ensures.moments;
  left_is = refl;
  sent_is = refl;
  written_is = refl;
})

pub returns-in-Err-start-clause-ends : goal.returns-in-Err-start-clause-ends
returns-in-Err-start-clause-ends g c = λ room s0 bytes reads there.
    first_failed g.D.Disk.seen g.D.Disk.may_leave g.D.Disk.clock g.D.Disk.left_since g.D.Disk.rig
    g.D.Disk.faults g.met.D.Disk.only_now room c.args.turns c.in-Ok.size s0 bytes there
    c.args.disk c.attach.new.self c.attach.ensures.seen c.attach.ensures.moments
    c.in-Ok.ensures.cause.kept (g.L.Link.left c.args.link.now) (g.L.Link.left c.args.link.now)
    (g.L.Link.sent c.args.link.now) (g.L.Link.sent c.args.link.now)
    (g.K.Sink.written c.args.sink.now) (g.K.Sink.written c.start.new.sink) refl refl
    c.in-Err-start.end.disk c.in-Err-start.end.status
    (c.in-Err-start.ensures.comes room s0 bytes (c.attach.ensures.seen ∙ reads)
    (c.in-Ok.ensures.length bytes reads) there)

pub returns-in-Err-attach-clause-ends : goal.returns-in-Err-attach-clause-ends
returns-in-Err-attach-clause-ends g c = λ room s0 bytes reads there.
    let s = c.in-Ok-start.ensures.comes room s0 bytes (c.attach.ensures.seen ∙ reads)
    (c.in-Ok.ensures.length bytes reads) there in
    subst (λ (x : UnitStatus). UnitEnds g.D.Disk.seen g.D.Disk.may_leave g.D.Disk.clock
    g.D.Disk.left_since g.D.Disk.faults x room s0 c.args.turns c.args.disk c.end_of.result.disk
    (g.L.Link.left c.args.link.now) (g.L.Link.left c.attach-2.new.self)
    (g.L.Link.sent c.args.link.now) (g.L.Link.sent c.attach-2.new.self)
    (g.K.Sink.written c.args.sink.now) (g.K.Sink.written c.start.new.sink))
    (sym c.end_of.ensures.status)
    (first_unattached g.D.Disk.seen g.D.Disk.may_leave g.D.Disk.clock g.D.Disk.left_since
    g.D.Disk.rig g.D.Disk.faults g.met.D.Disk.only_now room c.args.turns c.in-Ok.size s0 bytes
    there c.args.disk c.attach.new.self c.attach.ensures.seen c.attach.ensures.moments
    c.in-Ok.ensures.cause.kept (g.L.Link.left c.args.link.now) (g.L.Link.left c.attach-2.new.self)
    (g.L.Link.sent c.args.link.now) (g.L.Link.sent c.attach-2.new.self)
    (g.K.Sink.written c.args.sink.now) (g.K.Sink.written c.start.new.sink) c.in-Ok-start.unit s
    c.end_of.result.disk c.attach-2.ensures.left c.attach-2.ensures.sent c.end_of.ensures.disk)

pub returns-in-Ok-attach-clause-ends : goal.returns-in-Ok-attach-clause-ends
returns-in-Ok-attach-clause-ends g c = λ room s0 bytes reads there.
    let s = c.in-Ok-start.ensures.comes room s0 bytes (c.attach.ensures.seen ∙ reads)
    (c.in-Ok.ensures.length bytes reads) there in
    first_ran g.D.Disk.seen g.D.Disk.may_leave g.D.Disk.clock g.D.Disk.left_since g.D.Disk.rig
    g.D.Disk.faults g.met.D.Disk.only_now room c.args.turns c.in-Ok.size s0 bytes there
    c.args.disk c.attach.new.self c.attach.ensures.seen c.attach.ensures.moments
    c.in-Ok.ensures.cause.kept (g.L.Link.left c.args.link.now) (g.L.Link.left c.attach-2.new.self)
    (g.L.Link.sent c.args.link.now) (g.L.Link.sent c.attach-2.new.self)
    (g.K.Sink.written c.args.sink.now) (g.K.Sink.written c.start.new.sink) c.in-Ok-start.unit s
    c.run_turns.result.status c.run_turns.result.disk (g.L.Link.left c.run_turns.new.link)
    (g.L.Link.sent c.run_turns.new.link) (g.K.Sink.written c.run_turns.new.sink)
    (c.run_turns.ensures.ends room s0 (state_disk s.stands.stands.images.state)
    (g.L.Link.left c.args.link.now) (g.L.Link.sent c.args.link.now)
    (g.K.Sink.written c.args.sink.now)
    (first_runs g.D.Disk.seen g.D.Disk.may_leave g.D.Disk.clock g.D.Disk.left_since g.D.Disk.rig
    g.D.Disk.faults g.met.D.Disk.only_now room c.args.turns c.in-Ok.size s0 bytes there
    c.args.disk c.attach.new.self c.attach.ensures.seen c.attach.ensures.moments
    c.in-Ok.ensures.cause.kept (g.L.Link.left c.args.link.now) (g.L.Link.left c.attach-2.new.self)
    (g.L.Link.sent c.args.link.now) (g.L.Link.sent c.attach-2.new.self)
    (g.K.Sink.written c.args.sink.now) (g.K.Sink.written c.start.new.sink) c.in-Ok-start.unit s)
    (first_shown g.D.Disk.seen g.D.Disk.may_leave g.D.Disk.clock g.D.Disk.left_since g.D.Disk.rig
    g.D.Disk.faults g.met.D.Disk.only_now room c.args.turns c.in-Ok.size s0 bytes there
    c.args.disk c.attach.new.self c.attach.ensures.seen c.attach.ensures.moments
    c.in-Ok.ensures.cause.kept (g.L.Link.left c.args.link.now) (g.L.Link.left c.attach-2.new.self)
    (g.L.Link.sent c.args.link.now) (g.L.Link.sent c.attach-2.new.self)
    (g.K.Sink.written c.args.sink.now) (g.K.Sink.written c.start.new.sink) c.in-Ok-start.unit s
    c.attach-2.ensures.left c.attach-2.ensures.sent))

-- ---- a disk that told bytes of no unit

pub returns-in-Err-clause-bare : goal.returns-in-Err-clause-bare
returns-in-Err-clause-bare g c = λ bytes reads other. (tt, refl, refl)

pub returns-in-Err-start-clause-bare : goal.returns-in-Err-start-clause-bare
returns-in-Err-start-clause-bare g c = λ bytes reads other.
    let bare = c.in-Err-start.ensures.bare bytes (c.attach.ensures.seen ∙ reads)
    (λ is. other (subst (λ (n : ℕ). IsUnit n bytes) (c.in-Ok.ensures.length bytes reads) is)) in
    (bare.0, refl, bare.1)

pub returns-in-Err-attach-clause-bare : goal.returns-in-Err-attach-clause-bare
returns-in-Err-attach-clause-bare g c = λ bytes reads other.
    let bare = c.in-Ok-start.ensures.bare bytes (c.attach.ensures.seen ∙ reads)
    (λ is. other (subst (λ (n : ℕ). IsUnit n bytes) (c.in-Ok.ensures.length bytes reads) is)) in
    absurd bare.0

pub returns-in-Ok-attach-clause-bare : goal.returns-in-Ok-attach-clause-bare
returns-in-Ok-attach-clause-bare g c = λ bytes reads other.
    let bare = c.in-Ok-start.ensures.bare bytes (c.attach.ensures.seen ∙ reads)
    (λ is. other (subst (λ (n : ℕ). IsUnit n bytes) (c.in-Ok.ensures.length bytes reads) is)) in
    absurd bare.0

-- ---- the counts of faults

pub returns-in-Err-start-clause-cause : goal.returns-in-Err-start-clause-cause
returns-in-Err-start-clause-cause g c =
    started_cause c.in-Err-start.end.status (g.L.Link.faults c.args.link.now)
    (g.K.Sink.faults c.args.sink.now) (g.K.Sink.faults c.start.new.sink)
    c.in-Err-start.ensures.cause

pub returns-in-Err-attach-clause-cause : goal.returns-in-Err-attach-clause-cause
returns-in-Err-attach-clause-cause g c =
    link_broke c.end_of.result.status (g.L.Link.faults c.args.link.now)
    (g.L.Link.faults c.attach-2.new.self) (g.K.Sink.faults c.args.sink.now)
    (g.K.Sink.faults c.start.new.sink) c.end_of.ensures.status
    c.in-Err-attach.ensures.cause.failed c.in-Ok-start.ensures.cause

pub returns-in-Ok-attach-clause-cause : goal.returns-in-Ok-attach-clause-cause
returns-in-Ok-attach-clause-cause g c =
    caused_from c.run_turns.result.status (g.L.Link.faults c.args.link.now)
    (g.L.Link.faults c.attach-2.new.self) (g.L.Link.faults c.run_turns.new.link)
    (g.K.Sink.faults c.args.sink.now) (g.K.Sink.faults c.start.new.sink)
    (g.K.Sink.faults c.run_turns.new.sink) c.in-Ok-attach.ensures.cause.kept
    c.in-Ok-start.ensures.cause c.run_turns.ensures.cause

pub returns-in-Err-clause-disk_cause : goal.returns-in-Err-clause-disk_cause
returns-in-Err-clause-disk_cause g c = c.in-Err.ensures.cause.failed

pub returns-in-Err-start-clause-disk_cause : goal.returns-in-Err-start-clause-disk_cause
returns-in-Err-start-clause-disk_cause g c =
    cause_after c.in-Err-start.end.status (g.D.Disk.faults c.args.disk)
    (g.D.Disk.faults c.attach.new.self) (g.D.Disk.faults c.in-Err-start.end.disk)
    (inl c.in-Ok.ensures.cause.kept) c.in-Err-start.ensures.count

pub returns-in-Err-attach-clause-disk_cause : goal.returns-in-Err-attach-clause-disk_cause
returns-in-Err-attach-clause-disk_cause g c =
    ended_counts c.end_of.result.status LinkFault (g.D.Disk.faults c.args.disk)
    (store_faults g.D.Disk.faults c.in-Ok-start.unit.agent.unit.images)
    (g.D.Disk.faults c.end_of.result.disk) c.end_of.ensures.status
    (counts_after g.D.Disk.faults (Ok c.in-Ok-start.unit) (g.D.Disk.faults c.args.disk)
    (g.D.Disk.faults c.attach.new.self) (inl c.in-Ok.ensures.cause.kept) c.in-Ok-start.ensures.count)
    c.end_of.ensures.count

pub returns-in-Ok-attach-clause-disk_cause : goal.returns-in-Ok-attach-clause-disk_cause
returns-in-Ok-attach-clause-disk_cause g c =
    cause_after c.run_turns.result.status (g.D.Disk.faults c.args.disk)
    (store_faults g.D.Disk.faults c.in-Ok-start.unit.agent.unit.images)
    (g.D.Disk.faults c.run_turns.result.disk)
    (counts_after g.D.Disk.faults (Ok c.in-Ok-start.unit) (g.D.Disk.faults c.args.disk)
    (g.D.Disk.faults c.attach.new.self) (inl c.in-Ok.ensures.cause.kept) c.in-Ok-start.ensures.count)
    c.run_turns.ensures.count
