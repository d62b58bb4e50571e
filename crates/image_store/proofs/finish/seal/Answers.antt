use Rattle.std.proofs.Common.{true, false, ◌≡◌, ◌∙◌, Some, None, refl, sym, ap, subst, ℕ}
use Rattle.slot_spec.specs.Rig.{Rigged}
use Rattle.slot_spec.specs.declared.DiskHeader.{DiskHeader}
use Rattle.slot_spec.specs.Slots.{Change, with_image, Seal as SealSlot}
use Rattle.slot_laws.proofs.Gate.{room_kept}
use Rattle.store_spec.specs.State.{software_in}
use Rattle.store_spec.specs.Deeds.{Seal}
use Rattle.store_laws.proofs.Tests.{seal_passed, seal_size, seal_check}
use Rattle.image_store.specs.Carries.{Changed}
use Rattle.image_slots.specs.Answers.{seal_calls}
use Rattle.image_store.proofs.Calling.{makes_these, seal_calls_are, within_seal}
use Rattle.image_store.proofs.Changing.{changed_at, seal_change_is}
use Rattle.image_store.proofs.Carrying.{told_of, slots_after, done, broke, gave_up}
use Rattle.image_store.proofs.finish.seal.Goals as goal

pub returns-in-Ok-clause-carried : goal.returns-in-Ok-clause-carried
returns-in-Ok-clause-carried g c = λ room granted held m l.
    let d = c.args.download in
    let slots = c.in-Ok.slots in
    let t = c.in-Ok.ensures.tested in
    let is = seal_passed c.args.check c.args.size d.target d.size granted l.put held (sym l.loaded.have ∙ t.0) (t.1 ∙ l.loaded.have) (t.2 ∙ l.loaded.check) in
    let change = seal_change_is c.args.check c.args.size d.target d.have d.size d.crc l.put t.0 t.1 t.2 in
    let changed = changed_at g.D.Disk.may_leave g.D.Disk.clock g.D.Disk.left_since g.D.Disk.rig room (SealSlot d.target l.put) m.slots d.header d.disk slots.disk l.room_is (subst (λ (x : Change). Changed g.D.Disk.may_leave g.D.Disk.clock g.D.Disk.left_since g.D.Disk.rig d.header.room x m.slots d.disk slots.disk) change (record {
      moments = c.in-Ok.ensures.moments m.slots l.put l.filling l.loaded;
      length = λ size. c.in-Ok.ensures.length m.slots l.put size l.filling;
      outcome = λ r told. c.in-Ok.ensures.outcome r m.slots l.put told l.filling l.loaded;
      gates = λ r told. c.in-Ok.ensures.gates r m.slots l.put told l.filling l.loaded;
    })) in
    let same = ap (λ (h : DiskHeader). h.room) c.in-Ok.ensures.header ∙ room_kept d.target _ d.header in
    rw is (done g.D.Disk.seen g.D.Disk.may_leave g.D.Disk.clock g.D.Disk.left_since g.D.Disk.rig g.D.Disk.faults room c.args.active granted held d.disk _ _ (Seal d.target l.put) m l.whole
    (slots_after g.D.Disk.seen g.D.Disk.may_leave room c.args.active d.header slots (with_image d.target (Some l.put) m.slots) None m l.whole l.active_is l.room_is same (c.in-Ok.ensures.settled m.slots l.put l.filling l.loaded), refl) c.carried.ensures.value (c.in-Ok.ensures.kept refl) changed
    (makes_these room (Seal d.target l.put) m (seal_calls c.args.check c.args.size d.target d.have d.size d.crc d.version) _ _ false (λ bytes. sym (seal_calls_are c.args.check c.args.size d.target d.have d.size d.crc d.version l.put t.0 t.1 t.2 l.loaded.have l.loaded.check l.loaded.version_is)) c.in-Ok.ensures.rig)
    (within_seal g.D.Disk.seen g.D.Disk.may_leave g.D.Disk.rig g.met.D.Disk.rig_reads room m d.header d.disk l.room_is l.filling.settled d.target l.put))

pub returns-in-Err-Size-clause-carried : goal.returns-in-Err-Size-clause-carried
returns-in-Err-Size-clause-carried g c = λ room granted held m l.
    let d = c.args.download in
    let r = rw c.in-Err-Size.field-0-is at c.in-Err-Size.ensures.refused in
    rw (seal_size c.args.check c.args.size d.target d.size granted l.put held (λ whole given. r.3 (l.loaded.have ∙ whole) (given ∙ sym l.loaded.have)))
    (gave_up g.D.Disk.seen g.D.Disk.may_leave g.D.Disk.clock g.D.Disk.left_since g.D.Disk.rig g.D.Disk.faults g.met.D.Disk.rig_reads g.met.D.Disk.cut_counts g.met.D.Disk.only_now room c.args.active granted 3 held d c.in-Err-Size.slots _ m c.refused.ensures.value l r.0.0 r.0.1)

pub returns-in-Err-Check-clause-carried : goal.returns-in-Err-Check-clause-carried
returns-in-Err-Check-clause-carried g c = λ room granted held m l.
    let d = c.args.download in
    let r = rw c.in-Err-Check.field-0-is at c.in-Err-Check.ensures.refused in
    rw (seal_check c.args.check c.args.size d.target d.size granted l.put held (λ e. r.3 (r.1 ∙ l.loaded.check ∙ e ∙ sym r.2)) (sym l.loaded.have ∙ r.4) (r.5 ∙ l.loaded.have))
    (gave_up g.D.Disk.seen g.D.Disk.may_leave g.D.Disk.clock g.D.Disk.left_since g.D.Disk.rig g.D.Disk.faults g.met.D.Disk.rig_reads g.met.D.Disk.cut_counts g.met.D.Disk.only_now room c.args.active granted 1 held d c.in-Err-Check.slots _ m c.refused-in-Err-Check.ensures.value l r.0.0 r.0.1)

pub returns-in-Err-Fault-clause-carried : goal.returns-in-Err-Fault-clause-carried
returns-in-Err-Fault-clause-carried g c = λ room granted held m l.
    let d = c.args.download in
    let t = rw c.in-Err-Fault.field-0-is at c.in-Err-Fault.ensures.refused in
    let told = rw c.in-Err-Fault.field-0-is at c.in-Err-Fault.ensures.told in
    let rig = rw c.in-Err-Fault.field-0-is at c.in-Err-Fault.ensures.rig in
    let cause = rw c.in-Err-Fault.field-0-is at c.in-Err-Fault.ensures.cause in
    let moments = rw c.in-Err-Fault.field-0-is at (c.in-Err-Fault.ensures.moments m.slots l.put l.filling l.loaded) in
    let long = rw c.in-Err-Fault.field-0-is at (λ (size : ℕ). c.in-Err-Fault.ensures.length m.slots l.put size l.filling) in
    let outcome = rw c.in-Err-Fault.field-0-is at (λ (r : Rigged) (told : g.D.Disk.rig d.disk ≡ Some r). c.in-Err-Fault.ensures.outcome r m.slots l.put told l.filling l.loaded) in
    let gates = rw c.in-Err-Fault.field-0-is at (λ (r : Rigged) (told : g.D.Disk.rig d.disk ≡ Some r). c.in-Err-Fault.ensures.gates r m.slots l.put told l.filling l.loaded) in
    let is = seal_passed c.args.check c.args.size d.target d.size granted l.put held (sym l.loaded.have ∙ t.0) (t.1 ∙ l.loaded.have) (t.2 ∙ l.loaded.check) in
    let change = seal_change_is c.args.check c.args.size d.target d.have d.size d.crc l.put t.0 t.1 t.2 in
    let changed = changed_at g.D.Disk.may_leave g.D.Disk.clock g.D.Disk.left_since g.D.Disk.rig room (SealSlot d.target l.put) m.slots d.header d.disk c.in-Err-Fault.broken.disk l.room_is (subst (λ (x : Change). Changed g.D.Disk.may_leave g.D.Disk.clock g.D.Disk.left_since g.D.Disk.rig d.header.room x m.slots d.disk c.in-Err-Fault.broken.disk) change (record { moments = moments; length = long; outcome = outcome; gates = gates })) in
    rw is (broke g.D.Disk.seen g.D.Disk.may_leave g.D.Disk.clock g.D.Disk.left_since g.D.Disk.rig g.D.Disk.faults room c.args.active granted held d.disk c.in-Err-Fault.broken _ _ (Seal d.target l.put) m c.refused-in-Err-Fault.ensures.value l.whole l.active_is refl (c.download_software-software.ensures.shows m.slots l.filling.settled ∙ ap (λ k. software_in k m.slots) (sym l.active_is)) (told (told_of _ _ l.filling.settled.reads)) (cause refl) changed
    (makes_these room (Seal d.target l.put) m (seal_calls c.args.check c.args.size d.target d.have d.size d.crc d.version) _ _ true (λ bytes. sym (seal_calls_are c.args.check c.args.size d.target d.have d.size d.crc d.version l.put t.0 t.1 t.2 l.loaded.have l.loaded.check l.loaded.version_is)) rig)
    (within_seal g.D.Disk.seen g.D.Disk.may_leave g.D.Disk.rig g.met.D.Disk.rig_reads room m d.header d.disk l.room_is l.filling.settled d.target l.put))
