use Rattle.std.proofs.Common.{◌≡◌, ◌≤◌, length, true, false, inl, inr, Some, sym, ap, ◌∙◌, subst, arith}
use Rattle.std.proofs.lemmas.Bool.Decides.{nat_tests}
use Rattle.frame_spec.specs.Checksum.{crc}
use Rattle.slot_spec.specs.Crash.{field}
use Rattle.slot_spec.specs.Slots.{with_image}
use Rattle.slot_spec.specs.Layout.{gate_place, entry_place, image_place, entry, StandsAt, GatesHold}
use Rattle.slot_spec.specs.Owner.{Settled}
use Rattle.slot_laws.proofs.Moments.{moments_none, length_kept}
use Rattle.slot_laws.proofs.Gate.{gate_inside}
use Rattle.slot_laws.proofs.Fill.{entry_is, entry_moments, entered, seal_moments, seal_settled}
use Rattle.slot_laws.proofs.Calls.{makes-then, makes-stopped, none_left}
use Rattle.slot_laws.proofs.Outcomes.{seal_left, seal_left_gates, entry_inside_disk}
use Rattle.slot_laws.proofs.Rigs.{rig_shows, rig_stands, bytes_are}
use Rattle.image_slots.specs.State.{Loading}
use Rattle.image_slots.specs.Answers.{seal_tests}
use Rattle.image_slots.proofs.Results.{IfOk-both}
use Rattle.image_slots.proofs.Tests.{seal_size, seal_check}
use Rattle.image_slots.proofs.download.Download.seal.Goals.{then-have-download-via-then-have-download, then-have-download-via-else-have-download+then-size-have}
use Rattle.image_slots.proofs.download.Download.seal.Goals as goal

-- the sizes aren't all equal: no call
pub returns-then-have-download-clause-outcome : goal.returns-then-have-download-clause-outcome
returns-then-have-download-clause-outcome g c = rw (← c.download.view_is) (λ r s put is filling loaded.
    let d = c.download.inside in
    let tests : seal_tests c.args.crc c.args.size d.have d.size d.crc ≡ false = elim c.then-have-download.branch [
      | then-have-download-via-then-have-download w ↦ seal_size c.args.crc c.args.size d.have d.size d.crc (inl w.if-have-download.true)
      | then-have-download-via-else-have-download+then-size-have w ↦ seal_size c.args.crc c.args.size d.have d.size d.crc (inr w.if-size-have.true)
    ] in
    rw (tests, (c.abandon.ensures.disk ∙ ap (λ (w : Loading g.row.D.Denot). w.disk) (sym c.download.view_is))) (r, is, none_left (StandsAt d.header.room) s _ r (rig_stands g.D.Disk.seen g.D.Disk.may_leave g.D.Disk.rig g.met.D.Disk.rig_reads g.met.D.Disk.cut_counts d.disk d.header s r is filling.settled)))

pub returns-then-have-download-clause-gates : goal.returns-then-have-download-clause-gates
returns-then-have-download-clause-gates g c = rw (← c.download.view_is) (λ r s put is filling loaded gates.
    let d = c.download.inside in
    let tests : seal_tests c.args.crc c.args.size d.have d.size d.crc ≡ false = elim c.then-have-download.branch [
      | then-have-download-via-then-have-download w ↦ seal_size c.args.crc c.args.size d.have d.size d.crc (inl w.if-have-download.true)
      | then-have-download-via-else-have-download+then-size-have w ↦ seal_size c.args.crc c.args.size d.have d.size d.crc (inr w.if-size-have.true)
    ] in
    rw (tests, (c.abandon.ensures.disk ∙ ap (λ (w : Loading g.row.D.Denot). w.disk) (sym c.download.view_is))) (r, is, none_left GatesHold s _ r gates))

-- the check value differs: no call
pub returns-then-computed-crc-clause-moments : goal.returns-then-computed-crc-clause-moments
returns-then-computed-crc-clause-moments g c = rw (← c.download.view_is) (λ s put filling loaded.
    let d = c.download.inside in
    let tests : seal_tests c.args.crc c.args.size d.have d.size d.crc ≡ false = seal_check c.args.crc c.args.size d.have d.size d.crc (λ e. c.if-computed-crc.true (c.value-computed.ensures.value ∙ e)) in
    rw (tests, (c.abandon-then-computed-crc.ensures.disk ∙ ap (λ (w : Loading g.row.D.Denot). w.disk) (sym c.download.view_is))) (
    moments_none g.D.Disk.clock g.D.Disk.left_since g.D.Disk.may_leave d.disk _ (g.met.D.Disk.only_now d.disk) (λ image left. inl (filling.settled.crash image left).stands)))

pub returns-then-computed-crc-clause-outcome : goal.returns-then-computed-crc-clause-outcome
returns-then-computed-crc-clause-outcome g c = rw (← c.download.view_is) (λ r s put is filling loaded.
    let d = c.download.inside in
    let tests : seal_tests c.args.crc c.args.size d.have d.size d.crc ≡ false = seal_check c.args.crc c.args.size d.have d.size d.crc (λ e. c.if-computed-crc.true (c.value-computed.ensures.value ∙ e)) in
    rw (tests, (c.abandon-then-computed-crc.ensures.disk ∙ ap (λ (w : Loading g.row.D.Denot). w.disk) (sym c.download.view_is))) (r, is, none_left (StandsAt d.header.room) s _ r (rig_stands g.D.Disk.seen g.D.Disk.may_leave g.D.Disk.rig g.met.D.Disk.rig_reads g.met.D.Disk.cut_counts d.disk d.header s r is filling.settled)))

pub returns-then-computed-crc-clause-gates : goal.returns-then-computed-crc-clause-gates
returns-then-computed-crc-clause-gates g c = rw (← c.download.view_is) (λ r s put is filling loaded gates.
    let d = c.download.inside in
    let tests : seal_tests c.args.crc c.args.size d.have d.size d.crc ≡ false = seal_check c.args.crc c.args.size d.have d.size d.crc (λ e. c.if-computed-crc.true (c.value-computed.ensures.value ∙ e)) in
    rw (tests, (c.abandon-then-computed-crc.ensures.disk ∙ ap (λ (w : Loading g.row.D.Denot). w.disk) (sym c.download.view_is))) (r, is, none_left GatesHold s _ r gates))

-- the entry is on the disk, and the gate is opened
pub returns-in-Ok-clause-moments : goal.returns-in-Ok-clause-moments
returns-in-Ok-clause-moments g c = rw (← c.download.view_is) (λ s put filling loaded.
    let d = c.download.inside in
    let computed : d.crc ≡ c.args.crc = sym c.value-computed.ensures.value ∙ c.if-computed-crc.false in
    let check : c.args.crc ≡ crc put = sym computed ∙ loaded.check in
    let tests : seal_tests c.args.crc c.args.size d.have d.size d.crc ≡ true = grind (arith, nat_tests) in
    let is : c.entry_bytes-entry.result ≡ entry put = entry_is c.entry_bytes-entry.result c.args.size c.args.crc d.version put c.entry_bytes-entry.ensures.bytes (omega (arith, loaded.have)) check loaded.version_is in
    let before = entry_moments g.D.Disk.seen g.D.Disk.may_leave g.D.Disk.clock g.D.Disk.left_since d.disk c.store_entry.new.disk d.header d.target s put c.download.invariant.target filling c.store_entry.ensures.moments in
    let stored = rw is at (c.in-Ok.ensures.written filling.settled.bytes filling.settled.reads) in
    let some : 1 ≤ length put = omega (arith, loaded.have, loaded.some) in
    let e = entered g.D.Disk.seen g.D.Disk.may_leave d.disk c.store_entry.new.disk d.header d.target s put c.download.invariant.target some filling stored in
    rw tests (seal_moments g.D.Disk.seen g.D.Disk.may_leave g.D.Disk.clock g.D.Disk.left_since d.disk c.store_entry.new.disk _ d.header d.target s put c.download.invariant.target e before c.open.ensures.moments))

pub returns-in-Ok-clause-settled : goal.returns-in-Ok-clause-settled
returns-in-Ok-clause-settled g c = rw (← c.download.view_is) (λ s put filling loaded.
    let d = c.download.inside in
    let check : c.args.crc ≡ crc put = sym c.if-computed-crc.false ∙ c.value-computed.ensures.value ∙ loaded.check in
    let size : c.args.size ≡ length put = omega (arith, loaded.have) in
    let is : c.entry_bytes-entry.result ≡ entry put = entry_is c.entry_bytes-entry.result c.args.size c.args.crc d.version put c.entry_bytes-entry.ensures.bytes size check loaded.version_is in
    let stored = rw is at (c.in-Ok.ensures.written filling.settled.bytes filling.settled.reads) in
    let some : 1 ≤ length put = omega (arith, loaded.have, loaded.some) in
    let e = entered g.D.Disk.seen g.D.Disk.may_leave d.disk c.store_entry.new.disk d.header d.target s put c.download.invariant.target some filling stored in
    let header = rw (size, check, loaded.version_is) at c.open.ensures.header in
    IfOk-both c.open.result _ _ _ (c.open.ensures.stored e.now e.reads) header (λ slots stored is.
    subst (λ h. Settled g.D.Disk.seen g.D.Disk.may_leave slots.disk h (with_image d.target (Some put) s)) (sym is)
    (seal_settled g.D.Disk.seen g.D.Disk.may_leave c.store_entry.new.disk slots.disk d.header d.target s put c.download.invariant.target e stored)))

pub returns-in-Ok-clause-rig : goal.returns-in-Ok-clause-rig
returns-in-Ok-clause-rig g c = rw (← c.download.view_is) (
    let d = c.download.inside in
    let computed : d.crc ≡ c.args.crc = sym c.value-computed.ensures.value ∙ c.if-computed-crc.false in
    let tests : seal_tests c.args.crc c.args.size d.have d.size d.crc ≡ true = grind (arith, nat_tests) in
    let made = rw c.entry_bytes-entry.ensures.bytes at c.in-Ok.ensures.rig in
    rw tests (makes-then _ _ _ _ _ _ made c.open.ensures.rig))

pub returns-in-Ok-clause-outcome : goal.returns-in-Ok-clause-outcome
returns-in-Ok-clause-outcome g c = rw (← c.download.view_is) (λ r s put is filling loaded.
    let d = c.download.inside in
    let computed : d.crc ≡ c.args.crc = sym c.value-computed.ensures.value ∙ c.if-computed-crc.false in
    let check : c.args.crc ≡ crc put = sym computed ∙ loaded.check in
    let tests : seal_tests c.args.crc c.args.size d.have d.size d.crc ≡ true = grind (arith, nat_tests) in
    let entered_is : c.entry_bytes-entry.result ≡ entry put = entry_is c.entry_bytes-entry.result c.args.size c.args.crc d.version put c.entry_bytes-entry.ensures.bytes (omega (arith, loaded.have)) check loaded.version_is in
    let first = rw entered_is at c.in-Ok.ensures.rig in
    let made = (makes-then _ _ _ _ _ _ first c.open.ensures.rig) r is in
    let some : 1 ≤ length put = omega (arith, loaded.have, loaded.some) in
    let shows = rig_shows g.D.Disk.seen g.D.Disk.may_leave g.D.Disk.rig g.met.D.Disk.rig_reads g.met.D.Disk.cut_counts d.disk d.header s r is filling.settled in
    let there = subst (λ b. field (image_place d.header.room d.target) (length put) b ≡ put) (bytes_are g.D.Disk.seen g.D.Disk.may_leave g.D.Disk.rig g.met.D.Disk.rig_reads g.met.D.Disk.cut_counts d.disk d.header s r is filling.settled) filling.stands_there in
    rw tests (_, made.0, seal_left d.header d.target s put r c.download.invariant.target filling.shut filling.other shows some filling.fits there))

pub returns-in-Ok-clause-gates : goal.returns-in-Ok-clause-gates
returns-in-Ok-clause-gates g c = rw (← c.download.view_is) (λ r s put is filling loaded gates.
    let d = c.download.inside in
    let computed : d.crc ≡ c.args.crc = sym c.value-computed.ensures.value ∙ c.if-computed-crc.false in
    let check : c.args.crc ≡ crc put = sym computed ∙ loaded.check in
    let tests : seal_tests c.args.crc c.args.size d.have d.size d.crc ≡ true = grind (arith, nat_tests) in
    let entered_is : c.entry_bytes-entry.result ≡ entry put = entry_is c.entry_bytes-entry.result c.args.size c.args.crc d.version put c.entry_bytes-entry.ensures.bytes (omega (arith, loaded.have)) check loaded.version_is in
    let first = rw entered_is at c.in-Ok.ensures.rig in
    let made = (makes-then _ _ _ _ _ _ first c.open.ensures.rig) r is in
    let some : 1 ≤ length put = omega (arith, loaded.have, loaded.some) in
    let shows = rig_shows g.D.Disk.seen g.D.Disk.may_leave g.D.Disk.rig g.met.D.Disk.rig_reads g.met.D.Disk.cut_counts d.disk d.header s r is filling.settled in
    let there = subst (λ b. field (image_place d.header.room d.target) (length put) b ≡ put) (bytes_are g.D.Disk.seen g.D.Disk.may_leave g.D.Disk.rig g.met.D.Disk.rig_reads g.met.D.Disk.cut_counts d.disk d.header s r is filling.settled) filling.stands_there in
    rw tests (_, made.0, seal_left_gates d.header d.target s put r c.download.invariant.target filling.shut filling.other shows some filling.fits there gates))

pub returns-in-Ok-clause-length : goal.returns-in-Ok-clause-length
returns-in-Ok-clause-length g c = rw (← c.download.view_is) (λ s put size filling long.
    let d = c.download.inside in
    let settled = filling.settled in
    let same : length settled.bytes ≡ size = long settled.bytes (g.met.D.Disk.leaves_seen d.disk settled.bytes settled.reads) in
    let after_entry = length_kept g.D.Disk.may_leave d.disk c.store_entry.new.disk (entry_place d.target) 22 size (entry_inside_disk d.target size (omega (arith, same, settled.shows.stands.long))) long c.store_entry.ensures.moments.now in
    length_kept g.D.Disk.may_leave c.store_entry.new.disk _ (gate_place d.target) 1 size (gate_inside d.target size (omega (arith, same, settled.shows.stands.long))) after_entry c.open.ensures.moments.now)

-- the entry's calls failed
pub returns-in-Err-clause-moments : goal.returns-in-Err-clause-moments
returns-in-Err-clause-moments g c = rw (← c.download.view_is) (λ s put filling loaded.
    let d = c.download.inside in
    let computed : d.crc ≡ c.args.crc = sym c.value-computed.ensures.value ∙ c.if-computed-crc.false in
    let tests : seal_tests c.args.crc c.args.size d.have d.size d.crc ≡ true = grind (arith, nat_tests) in
    rw tests (entry_moments g.D.Disk.seen g.D.Disk.may_leave g.D.Disk.clock g.D.Disk.left_since d.disk c.store_entry.new.disk d.header d.target s put c.download.invariant.target filling c.store_entry.ensures.moments))

pub returns-in-Err-clause-rig : goal.returns-in-Err-clause-rig
returns-in-Err-clause-rig g c = rw (← c.download.view_is) (
    let d = c.download.inside in
    let computed : d.crc ≡ c.args.crc = sym c.value-computed.ensures.value ∙ c.if-computed-crc.false in
    let tests : seal_tests c.args.crc c.args.size d.have d.size d.crc ≡ true = grind (arith, nat_tests) in
    let made = rw c.entry_bytes-entry.ensures.bytes at c.in-Err.ensures.rig in
    rw tests (makes-stopped _ _ _ _ made))

pub returns-in-Err-clause-outcome : goal.returns-in-Err-clause-outcome
returns-in-Err-clause-outcome g c = rw (← c.download.view_is) (λ r s put is filling loaded.
    let d = c.download.inside in
    let computed : d.crc ≡ c.args.crc = sym c.value-computed.ensures.value ∙ c.if-computed-crc.false in
    let check : c.args.crc ≡ crc put = sym computed ∙ loaded.check in
    let tests : seal_tests c.args.crc c.args.size d.have d.size d.crc ≡ true = grind (arith, nat_tests) in
    let entered_is : c.entry_bytes-entry.result ≡ entry put = entry_is c.entry_bytes-entry.result c.args.size c.args.crc d.version put c.entry_bytes-entry.ensures.bytes (omega (arith, loaded.have)) check loaded.version_is in
    let first = rw entered_is at c.in-Err.ensures.rig in
    let made = (makes-stopped _ _ _ _ first) r is in
    let some : 1 ≤ length put = omega (arith, loaded.have, loaded.some) in
    let shows = rig_shows g.D.Disk.seen g.D.Disk.may_leave g.D.Disk.rig g.met.D.Disk.rig_reads g.met.D.Disk.cut_counts d.disk d.header s r is filling.settled in
    let there = subst (λ b. field (image_place d.header.room d.target) (length put) b ≡ put) (bytes_are g.D.Disk.seen g.D.Disk.may_leave g.D.Disk.rig g.met.D.Disk.rig_reads g.met.D.Disk.cut_counts d.disk d.header s r is filling.settled) filling.stands_there in
    rw tests (_, made.0, seal_left d.header d.target s put r c.download.invariant.target filling.shut filling.other shows some filling.fits there))

pub returns-in-Err-clause-gates : goal.returns-in-Err-clause-gates
returns-in-Err-clause-gates g c = rw (← c.download.view_is) (λ r s put is filling loaded gates.
    let d = c.download.inside in
    let computed : d.crc ≡ c.args.crc = sym c.value-computed.ensures.value ∙ c.if-computed-crc.false in
    let check : c.args.crc ≡ crc put = sym computed ∙ loaded.check in
    let tests : seal_tests c.args.crc c.args.size d.have d.size d.crc ≡ true = grind (arith, nat_tests) in
    let entered_is : c.entry_bytes-entry.result ≡ entry put = entry_is c.entry_bytes-entry.result c.args.size c.args.crc d.version put c.entry_bytes-entry.ensures.bytes (omega (arith, loaded.have)) check loaded.version_is in
    let first = rw entered_is at c.in-Err.ensures.rig in
    let made = (makes-stopped _ _ _ _ first) r is in
    let some : 1 ≤ length put = omega (arith, loaded.have, loaded.some) in
    let shows = rig_shows g.D.Disk.seen g.D.Disk.may_leave g.D.Disk.rig g.met.D.Disk.rig_reads g.met.D.Disk.cut_counts d.disk d.header s r is filling.settled in
    let there = subst (λ b. field (image_place d.header.room d.target) (length put) b ≡ put) (bytes_are g.D.Disk.seen g.D.Disk.may_leave g.D.Disk.rig g.met.D.Disk.rig_reads g.met.D.Disk.cut_counts d.disk d.header s r is filling.settled) filling.stands_there in
    rw tests (_, made.0, seal_left_gates d.header d.target s put r c.download.invariant.target filling.shut filling.other shows some filling.fits there gates))

pub returns-in-Err-clause-length : goal.returns-in-Err-clause-length
returns-in-Err-clause-length g c = rw (← c.download.view_is) (λ s put size filling long.
    let d = c.download.inside in
    let settled = filling.settled in
    let same : length settled.bytes ≡ size = long settled.bytes (g.met.D.Disk.leaves_seen d.disk settled.bytes settled.reads) in
    length_kept g.D.Disk.may_leave d.disk c.store_entry.new.disk (entry_place d.target) 22 size (entry_inside_disk d.target size (omega (arith, same, settled.shows.stands.long))) long c.store_entry.ensures.moments.now)
