use Rattle.std.proofs.Common.{true, false, ◌≡◌, ◌≢◌, inl, inr, ◌∙◌, refl, sym, ap, arith, ℕ, Some}
use Rattle.slot_spec.specs.Rig.{Rigged}
use Rattle.store_spec.specs.State.{software_in}
use Rattle.store_spec.specs.Deeds.{Begin}
use Rattle.image_store.proofs.Calling.{makes_begin, within_begin}
use Rattle.image_store.proofs.Changing.{changed_begin}
use Rattle.image_store.proofs.Carrying.{told_of, began, done, broke}
use Rattle.image_store.proofs.load.begin.Goals as goal

pub returns-in-Ok-clause-carried : goal.returns-in-Ok-clause-carried
returns-in-Ok-clause-carried g c = λ room granted m s other some fits.
    let slots = c.args.slots in
    let apart : c.args.slot ≢ slots.header.committed = λ e. other (e ∙ s.settled.shows.committed_is) in
    let changed = changed_begin g.D.Disk.may_leave g.D.Disk.clock g.D.Disk.left_since g.D.Disk.rig g.D.Disk.seen room c.args.slot c.args.size m.slots slots.header slots.disk c.in-Ok.download.disk c.requires.slot s.room_is apart some fits s.settled (record {
      moments = c.in-Ok.ensures.moments m.slots s.settled;
      length = λ size. c.in-Ok.ensures.length m.slots size s.settled;
      outcome = λ r told. c.in-Ok.ensures.outcome r m.slots told s.settled;
      gates = λ r told. c.in-Ok.ensures.gates r m.slots told s.settled;
    }) in
    done g.D.Disk.seen g.D.Disk.may_leave g.D.Disk.clock g.D.Disk.left_since g.D.Disk.rig g.D.Disk.faults room c.args.active granted _ slots.disk _ _ (Begin c.args.slot c.args.size granted) m s.whole
    (began g.D.Disk.seen g.D.Disk.may_leave room c.args.active c.args.slot c.args.size granted slots c.in-Ok.download m s (c.in-Ok.ensures.filling m.slots s.settled) c.in-Ok.ensures.empty c.in-Ok.ensures.loaded c.in-Ok.ensures.header) c.carried.ensures.value (c.in-Ok.ensures.kept refl) changed
    (makes_begin g.D.Disk.seen g.D.Disk.may_leave g.D.Disk.rig g.met.D.Disk.rig_reads room c.args.slot c.args.size granted m slots.header slots.disk _ false c.requires.slot s.room_is apart some fits s.settled c.in-Ok.ensures.rig)
    (within_begin g.D.Disk.seen g.D.Disk.may_leave g.D.Disk.rig g.met.D.Disk.rig_reads room m slots.header slots.disk s.room_is s.settled c.args.slot c.args.size granted)

pub returns-in-Err-InUse-clause-carried : goal.returns-in-Err-InUse-clause-carried
returns-in-Err-InUse-clause-carried g c = λ room granted m s other some fits.
    let r = rw c.in-Err-InUse.field-0-is at c.in-Err-InUse.ensures.refused in
    absurd (other (r.1 ∙ s.settled.shows.committed_is))

pub returns-in-Err-Size-clause-carried : goal.returns-in-Err-Size-clause-carried
returns-in-Err-Size-clause-carried g c = λ room granted m s other some fits.
    let r = rw c.in-Err-Size.field-0-is at c.in-Err-Size.ensures.refused in
    absurd (elim r.3 [
      | inl none ↦ omega (arith, none, some)
      | inr past ↦ omega (arith, past, fits, r.2, s.room_is)
    ])

pub returns-in-Err-Fault-clause-carried : goal.returns-in-Err-Fault-clause-carried
returns-in-Err-Fault-clause-carried g c = λ room granted m s other some fits.
    let slots = c.args.slots in
    let apart : c.args.slot ≢ slots.header.committed = λ e. other (e ∙ s.settled.shows.committed_is) in
    let told = rw c.in-Err-Fault.field-0-is at c.in-Err-Fault.ensures.told in
    let rig = rw c.in-Err-Fault.field-0-is at c.in-Err-Fault.ensures.rig in
    let cause = rw c.in-Err-Fault.field-0-is at c.in-Err-Fault.ensures.cause in
    let moments = rw c.in-Err-Fault.field-0-is at (c.in-Err-Fault.ensures.moments m.slots s.settled) in
    let long = rw c.in-Err-Fault.field-0-is at (λ (size : ℕ). c.in-Err-Fault.ensures.length m.slots size s.settled) in
    let outcome = rw c.in-Err-Fault.field-0-is at (λ (r : Rigged) (told : g.D.Disk.rig slots.disk ≡ Some r). c.in-Err-Fault.ensures.outcome r m.slots told s.settled) in
    let gates = rw c.in-Err-Fault.field-0-is at (λ (r : Rigged) (told : g.D.Disk.rig slots.disk ≡ Some r). c.in-Err-Fault.ensures.gates r m.slots told s.settled) in
    let changed = changed_begin g.D.Disk.may_leave g.D.Disk.clock g.D.Disk.left_since g.D.Disk.rig g.D.Disk.seen room c.args.slot c.args.size m.slots slots.header slots.disk c.in-Err-Fault.broken.disk c.requires.slot s.room_is apart some fits s.settled (record { moments = moments; length = long; outcome = outcome; gates = gates }) in
    broke g.D.Disk.seen g.D.Disk.may_leave g.D.Disk.clock g.D.Disk.left_since g.D.Disk.rig g.D.Disk.faults room c.args.active granted _ slots.disk c.in-Err-Fault.broken _ _ (Begin c.args.slot c.args.size granted) m c.refused-in-Err-Fault.ensures.value s.whole s.active_is refl (c.slots_software-software.ensures.shows m.slots s.settled ∙ ap (λ k. software_in k m.slots) (sym s.active_is)) (told (told_of _ _ s.settled.reads)) (cause refl) changed
    (makes_begin g.D.Disk.seen g.D.Disk.may_leave g.D.Disk.rig g.met.D.Disk.rig_reads room c.args.slot c.args.size granted m slots.header slots.disk _ true c.requires.slot s.room_is apart some fits s.settled rig)
    (within_begin g.D.Disk.seen g.D.Disk.may_leave g.D.Disk.rig g.met.D.Disk.rig_reads room m slots.header slots.disk s.room_is s.settled c.args.slot c.args.size granted)
