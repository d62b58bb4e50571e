use Rattle.std.proofs.Common.{◌≡◌, ◌≢◌, inl, inr, true, false, [], replicate, length, refl, sym, ap, ◌∙◌, arith}
use Rattle.std.proofs.lemmas.Bool.{not-true, not-false}
use Rattle.std.proofs.lemmas.Bool.Decides.{nat_tests}
use Rattle.slot_spec.specs.declared.SlotHeader.{SlotHeader}
use Rattle.slot_spec.specs.declared.DiskHeader.{DiskHeader}
use Rattle.slot_spec.specs.Layout.{gate_place, version, StandsAt, GatesHold}
use Rattle.slot_spec.specs.Header.{slot_header, shut_header}
use Rattle.slot_laws.proofs.Moments.{moments_none, length_kept}
use Rattle.slot_laws.proofs.Gate.{begin_same, begin_written, begin_moments, room_kept, shows_slot_at, open_known, gate_inside}
use Rattle.slot_laws.proofs.Calls.{none_left}
use Rattle.slot_laws.proofs.Outcomes.{begin_left, begin_left_gates}
use Rattle.slot_laws.proofs.Rigs.{rig_shows, rig_stands}
use Rattle.image_slots.specs.State.{Mounted}
use Rattle.image_slots.specs.Answers.{begin_tests}
use Rattle.image_slots.proofs.Tests.{and_false, begin_used, begin_size}
use Rattle.image_slots.proofs.slots.Slots.begin.Goals.{then-size-eq0-via-then-size-eq0, then-size-eq0-via-else-size-eq0+then-size-room}
use Rattle.image_slots.proofs.slots.Slots.begin.Goals as goal

-- the slot is the committed one: no call
pub returns-then-slot-slots-clause-outcome : goal.returns-then-slot-slots-clause-outcome
returns-then-slot-slots-clause-outcome g c = rw (← c.slots.view_is) (λ r s is settled.
    let h = c.slots.inside.header in
    rw (begin_used c.args.slot c.args.size h c.if-slot-slots.true) (r, is, none_left (StandsAt h.room) s _ r (rig_stands g.D.Disk.seen g.D.Disk.may_leave g.D.Disk.rig g.met.D.Disk.rig_reads g.met.D.Disk.cut_counts c.slots.inside.disk h s r is settled)))

pub returns-then-slot-slots-clause-gates : goal.returns-then-slot-slots-clause-gates
returns-then-slot-slots-clause-gates g c = rw (← c.slots.view_is) (λ r s is settled gates.
    rw (begin_used c.args.slot c.args.size c.slots.inside.header c.if-slot-slots.true) (r, is, none_left GatesHold s _ r gates))

-- the size is out of range: no call
pub returns-then-size-eq0-clause-moments : goal.returns-then-size-eq0-clause-moments
returns-then-size-eq0-clause-moments g c = rw (← c.slots.view_is) (λ s settled.
    let h = c.slots.inside.header in
    let tests : begin_tests c.args.slot c.args.size h ≡ false = elim c.then-size-eq0.branch [
      | then-size-eq0-via-then-size-eq0 w ↦ begin_size c.args.slot c.args.size h (inl w.if-size-eq0.true)
      | then-size-eq0-via-else-size-eq0+then-size-room w ↦ begin_size c.args.slot c.args.size h (inr w.if-size-room.true)
    ] in
    rw tests (moments_none g.D.Disk.clock g.D.Disk.left_since g.D.Disk.may_leave c.slots.inside.disk _ (g.met.D.Disk.only_now c.slots.inside.disk) (λ image left. inl (settled.crash image left).stands)))

pub returns-then-size-eq0-clause-outcome : goal.returns-then-size-eq0-clause-outcome
returns-then-size-eq0-clause-outcome g c = rw (← c.slots.view_is) (λ r s is settled.
    let h = c.slots.inside.header in
    let tests : begin_tests c.args.slot c.args.size h ≡ false = elim c.then-size-eq0.branch [
      | then-size-eq0-via-then-size-eq0 w ↦ begin_size c.args.slot c.args.size h (inl w.if-size-eq0.true)
      | then-size-eq0-via-else-size-eq0+then-size-room w ↦ begin_size c.args.slot c.args.size h (inr w.if-size-room.true)
    ] in
    rw tests (r, is, none_left (StandsAt h.room) s _ r (rig_stands g.D.Disk.seen g.D.Disk.may_leave g.D.Disk.rig g.met.D.Disk.rig_reads g.met.D.Disk.cut_counts c.slots.inside.disk h s r is settled)))

pub returns-then-size-eq0-clause-gates : goal.returns-then-size-eq0-clause-gates
returns-then-size-eq0-clause-gates g c = rw (← c.slots.view_is) (λ r s is settled gates.
    let h = c.slots.inside.header in
    let tests : begin_tests c.args.slot c.args.size h ≡ false = elim c.then-size-eq0.branch [
      | then-size-eq0-via-then-size-eq0 w ↦ begin_size c.args.slot c.args.size h (inl w.if-size-eq0.true)
      | then-size-eq0-via-else-size-eq0+then-size-room w ↦ begin_size c.args.slot c.args.size h (inr w.if-size-room.true)
    ] in
    rw tests (r, is, none_left GatesHold s _ r gates))

no_version : replicate 14 0 ≡ version []
unfolding version
no_version = refl

-- the gate is closed already: no call
pub returns-then-not-slot_header-clause-moments : goal.returns-then-not-slot_header-clause-moments
returns-then-not-slot_header-clause-moments g c = rw (← c.slots.view_is) (λ s settled.
    let h = c.slots.inside.header in
    let shut : (slot_header c.args.slot h).opened ≡ false = sym (ap (λ (k : SlotHeader). k.opened) c.slot_header.ensures.header) ∙ not-true _ c.if-not-slot_header.true in
    rw ((c.empty_download.ensures.disk ∙ ap (λ (w : Mounted g.row.D.Denot). w.disk) (sym c.slots.view_is)), shut, and_false (begin_tests c.args.slot c.args.size h))
    (moments_none g.D.Disk.clock g.D.Disk.left_since g.D.Disk.may_leave c.slots.inside.disk _ (g.met.D.Disk.only_now c.slots.inside.disk) (λ image left. inl (settled.crash image left).stands)))

pub returns-then-not-slot_header-clause-filling : goal.returns-then-not-slot_header-clause-filling
returns-then-not-slot_header-clause-filling g c = λ s settled.
    let v = c.args.self in
    let shut : (slot_header c.args.slot v.header).opened ≡ false = ap (λ (w : Mounted g.row.D.Denot). (slot_header c.args.slot w.header).opened) (sym c.slots.view_is) ∙ sym (ap (λ (k : SlotHeader). k.opened) c.slot_header.ensures.header) ∙ not-true _ c.if-not-slot_header.true in
    let other : c.args.slot ≢ v.header.committed = λ e. c.if-slot-slots.false (e ∙ ap (λ (w : Mounted g.row.D.Denot). w.header.committed) (sym c.slots.view_is)) in
    rw (c.empty_download.ensures.disk, c.empty_download.ensures.header) (begin_same g.D.Disk.seen g.D.Disk.may_leave v.disk v.header c.args.slot s c.requires.slot other shut settled)

pub returns-then-not-slot_header-clause-loaded : goal.returns-then-not-slot_header-clause-loaded
returns-then-not-slot_header-clause-loaded g c =
    let e = c.empty_download.ensures.empty in
    let room = ap (λ (h : DiskHeader). h.room) c.empty_download.ensures.header ∙ room_kept c.args.slot shut_header c.args.self.header in
    let same = ap (λ (w : Mounted g.row.D.Denot). w.header.room) c.slots.view_is in
    record { have = e.have; check = e.check; version_is = e.version ∙ no_version; some = omega (arith, e.size, c.if-size-eq0.false); fits = omega (arith, e.size, room, same, c.if-size-room.false) }

pub returns-then-not-slot_header-clause-outcome : goal.returns-then-not-slot_header-clause-outcome
returns-then-not-slot_header-clause-outcome g c = rw (← c.slots.view_is) (λ r s is settled.
    let h = c.slots.inside.header in
    let shut : (slot_header c.args.slot h).opened ≡ false = sym (ap (λ (k : SlotHeader). k.opened) c.slot_header.ensures.header) ∙ not-true _ c.if-not-slot_header.true in
    rw ((c.empty_download.ensures.disk ∙ ap (λ (w : Mounted g.row.D.Denot). w.disk) (sym c.slots.view_is)), shut, and_false (begin_tests c.args.slot c.args.size h))
    (r, is, none_left (StandsAt h.room) s _ r (rig_stands g.D.Disk.seen g.D.Disk.may_leave g.D.Disk.rig g.met.D.Disk.rig_reads g.met.D.Disk.cut_counts c.slots.inside.disk h s r is settled)))

pub returns-then-not-slot_header-clause-gates : goal.returns-then-not-slot_header-clause-gates
returns-then-not-slot_header-clause-gates g c = rw (← c.slots.view_is) (λ r s is settled gates.
    let h = c.slots.inside.header in
    let shut : (slot_header c.args.slot h).opened ≡ false = sym (ap (λ (k : SlotHeader). k.opened) c.slot_header.ensures.header) ∙ not-true _ c.if-not-slot_header.true in
    rw ((c.empty_download.ensures.disk ∙ ap (λ (w : Mounted g.row.D.Denot). w.disk) (sym c.slots.view_is)), shut, and_false (begin_tests c.args.slot c.args.size h)) (r, is, none_left GatesHold s _ r gates))

-- the open gate is closed
pub returns-in-Ok-clause-moments : goal.returns-in-Ok-clause-moments
returns-in-Ok-clause-moments g c = rw (← c.slots.view_is) (λ s settled.
    let h = c.slots.inside.header in
    let opened : (slot_header c.args.slot h).opened ≡ true = sym (ap (λ (k : SlotHeader). k.opened) c.slot_header.ensures.header) ∙ not-false _ c.if-not-slot_header.false in
    let tests : begin_tests c.args.slot c.args.size h ≡ true = grind (arith, nat_tests) in
    rw (c.empty_download-in-Ok.ensures.disk, tests, opened) (begin_moments g.D.Disk.seen g.D.Disk.may_leave g.D.Disk.clock g.D.Disk.left_since c.slots.inside.disk c.store_gate.new.disk h c.args.slot s c.requires.slot c.if-slot-slots.false opened settled c.store_gate.ensures.moments))

pub returns-in-Ok-clause-filling : goal.returns-in-Ok-clause-filling
returns-in-Ok-clause-filling g c = rw (← c.slots.view_is) (λ s settled.
    let stored = c.in-Ok.ensures.written settled.bytes settled.reads in
    rw (c.empty_download-in-Ok.ensures.disk, c.empty_download-in-Ok.ensures.header) (begin_written g.D.Disk.seen g.D.Disk.may_leave c.slots.inside.disk c.store_gate.new.disk c.slots.inside.header c.args.slot s c.requires.slot c.if-slot-slots.false settled stored))

pub returns-in-Ok-clause-loaded : goal.returns-in-Ok-clause-loaded
returns-in-Ok-clause-loaded g c =
    let e = c.empty_download-in-Ok.ensures.empty in
    let room = ap (λ (h : DiskHeader). h.room) c.empty_download-in-Ok.ensures.header ∙ room_kept c.args.slot shut_header c.slots.inside.header in
    record { have = e.have; check = e.check; version_is = e.version ∙ no_version; some = omega (arith, e.size, c.if-size-eq0.false); fits = omega (arith, e.size, room, c.if-size-room.false) }

pub returns-in-Ok-clause-outcome : goal.returns-in-Ok-clause-outcome
returns-in-Ok-clause-outcome g c = rw (← c.slots.view_is) (λ r s is settled.
    let h = c.slots.inside.header in
    let opened : (slot_header c.args.slot h).opened ≡ true = sym (ap (λ (k : SlotHeader). k.opened) c.slot_header.ensures.header) ∙ not-false _ c.if-not-slot_header.false in
    let tests : begin_tests c.args.slot c.args.size h ≡ true = grind (arith, nat_tests) in
    let shows = rig_shows g.D.Disk.seen g.D.Disk.may_leave g.D.Disk.rig g.met.D.Disk.rig_reads g.met.D.Disk.cut_counts c.slots.inside.disk h s r is settled in
    let stands = rig_stands g.D.Disk.seen g.D.Disk.may_leave g.D.Disk.rig g.met.D.Disk.rig_reads g.met.D.Disk.cut_counts c.slots.inside.disk h s r is settled in
    rw (c.empty_download-in-Ok.ensures.disk, tests, opened) (
      _,
      (c.in-Ok.ensures.rig r is).0,
      begin_left h.room c.args.slot s r c.requires.slot (λ e. c.if-slot-slots.false (e ∙ sym settled.shows.committed_is)) stands
          (λ pick. open_known c.args.slot (slot_header c.args.slot h) _ (r.cut pick) (shows_slot_at c.args.slot h s (r.cut pick) c.requires.slot (shows.cuts pick)) opened),
    ))

pub returns-in-Ok-clause-gates : goal.returns-in-Ok-clause-gates
returns-in-Ok-clause-gates g c = rw (← c.slots.view_is) (λ r s is settled gates.
    let h = c.slots.inside.header in
    let opened : (slot_header c.args.slot h).opened ≡ true = sym (ap (λ (k : SlotHeader). k.opened) c.slot_header.ensures.header) ∙ not-false _ c.if-not-slot_header.false in
    let tests : begin_tests c.args.slot c.args.size h ≡ true = grind (arith, nat_tests) in
    let shows = rig_shows g.D.Disk.seen g.D.Disk.may_leave g.D.Disk.rig g.met.D.Disk.rig_reads g.met.D.Disk.cut_counts c.slots.inside.disk h s r is settled in
    let stands = rig_stands g.D.Disk.seen g.D.Disk.may_leave g.D.Disk.rig g.met.D.Disk.rig_reads g.met.D.Disk.cut_counts c.slots.inside.disk h s r is settled in
    rw (c.empty_download-in-Ok.ensures.disk, tests, opened) (
      _,
      (c.in-Ok.ensures.rig r is).0,
      begin_left_gates h.room c.args.slot s r c.requires.slot (λ e. c.if-slot-slots.false (e ∙ sym settled.shows.committed_is)) stands
          (λ pick. open_known c.args.slot (slot_header c.args.slot h) _ (r.cut pick) (shows_slot_at c.args.slot h s (r.cut pick) c.requires.slot (shows.cuts pick)) opened) gates,
    ))

pub returns-in-Ok-clause-length : goal.returns-in-Ok-clause-length
returns-in-Ok-clause-length g c = rw (← c.slots.view_is) (λ s size settled long.
    let same : length settled.bytes ≡ size = long settled.bytes (g.met.D.Disk.leaves_seen c.slots.inside.disk settled.bytes settled.reads) in
    rw c.empty_download-in-Ok.ensures.disk (length_kept g.D.Disk.may_leave c.slots.inside.disk c.store_gate.new.disk (gate_place c.args.slot) 1 size (gate_inside c.args.slot size (omega (arith, same, settled.shows.stands.long))) long c.store_gate.ensures.moments.now))

pub returns-in-Err-clause-moments : goal.returns-in-Err-clause-moments
returns-in-Err-clause-moments g c = rw (← c.slots.view_is) (λ s settled.
    let h = c.slots.inside.header in
    let opened : (slot_header c.args.slot h).opened ≡ true = sym (ap (λ (k : SlotHeader). k.opened) c.slot_header.ensures.header) ∙ not-false _ c.if-not-slot_header.false in
    let tests : begin_tests c.args.slot c.args.size h ≡ true = grind (arith, nat_tests) in
    rw (tests, opened) (begin_moments g.D.Disk.seen g.D.Disk.may_leave g.D.Disk.clock g.D.Disk.left_since c.slots.inside.disk c.store_gate.new.disk h c.args.slot s c.requires.slot c.if-slot-slots.false opened settled c.store_gate.ensures.moments))

pub returns-in-Err-clause-outcome : goal.returns-in-Err-clause-outcome
returns-in-Err-clause-outcome g c = rw (← c.slots.view_is) (λ r s is settled.
    let h = c.slots.inside.header in
    let opened : (slot_header c.args.slot h).opened ≡ true = sym (ap (λ (k : SlotHeader). k.opened) c.slot_header.ensures.header) ∙ not-false _ c.if-not-slot_header.false in
    let tests : begin_tests c.args.slot c.args.size h ≡ true = grind (arith, nat_tests) in
    let shows = rig_shows g.D.Disk.seen g.D.Disk.may_leave g.D.Disk.rig g.met.D.Disk.rig_reads g.met.D.Disk.cut_counts c.slots.inside.disk h s r is settled in
    let stands = rig_stands g.D.Disk.seen g.D.Disk.may_leave g.D.Disk.rig g.met.D.Disk.rig_reads g.met.D.Disk.cut_counts c.slots.inside.disk h s r is settled in
    rw (tests, opened) (
      _,
      (c.in-Err.ensures.rig r is).0,
      begin_left h.room c.args.slot s r c.requires.slot (λ e. c.if-slot-slots.false (e ∙ sym settled.shows.committed_is)) stands
          (λ pick. open_known c.args.slot (slot_header c.args.slot h) _ (r.cut pick) (shows_slot_at c.args.slot h s (r.cut pick) c.requires.slot (shows.cuts pick)) opened),
    ))

pub returns-in-Err-clause-gates : goal.returns-in-Err-clause-gates
returns-in-Err-clause-gates g c = rw (← c.slots.view_is) (λ r s is settled gates.
    let h = c.slots.inside.header in
    let opened : (slot_header c.args.slot h).opened ≡ true = sym (ap (λ (k : SlotHeader). k.opened) c.slot_header.ensures.header) ∙ not-false _ c.if-not-slot_header.false in
    let tests : begin_tests c.args.slot c.args.size h ≡ true = grind (arith, nat_tests) in
    let shows = rig_shows g.D.Disk.seen g.D.Disk.may_leave g.D.Disk.rig g.met.D.Disk.rig_reads g.met.D.Disk.cut_counts c.slots.inside.disk h s r is settled in
    let stands = rig_stands g.D.Disk.seen g.D.Disk.may_leave g.D.Disk.rig g.met.D.Disk.rig_reads g.met.D.Disk.cut_counts c.slots.inside.disk h s r is settled in
    rw (tests, opened) (
      _,
      (c.in-Err.ensures.rig r is).0,
      begin_left_gates h.room c.args.slot s r c.requires.slot (λ e. c.if-slot-slots.false (e ∙ sym settled.shows.committed_is)) stands
          (λ pick. open_known c.args.slot (slot_header c.args.slot h) _ (r.cut pick) (shows_slot_at c.args.slot h s (r.cut pick) c.requires.slot (shows.cuts pick)) opened) gates,
    ))

pub returns-in-Err-clause-length : goal.returns-in-Err-clause-length
returns-in-Err-clause-length g c = rw (← c.slots.view_is) (λ s size settled long.
    let same : length settled.bytes ≡ size = long settled.bytes (g.met.D.Disk.leaves_seen c.slots.inside.disk settled.bytes settled.reads) in
    length_kept g.D.Disk.may_leave c.slots.inside.disk c.store_gate.new.disk (gate_place c.args.slot) 1 size (gate_inside c.args.slot size (omega (arith, same, settled.shows.stands.long))) long c.store_gate.ensures.moments.now)
