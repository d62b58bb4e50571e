use Rattle.std.proofs.Common.{true, false, ◌≡◌, ◌++◌, ◌∙◌, refl, sym, ap, subst, arith, ℕ, Some}
use Rattle.slot_spec.specs.Rig.{Rigged}
use Rattle.store_spec.specs.State.{software_in}
use Rattle.store_spec.specs.Deeds.{Put}
use Rattle.slot_spec.specs.Rig.{Makes}
use Rattle.image_slots.specs.Answers.{put_calls as piece_calls}
use Rattle.image_store.proofs.Calling.{makes_these, piece_calls_are, within_put}
use Rattle.image_store.proofs.Changing.{changed_at}
use Rattle.image_store.proofs.Carrying.{told_of, went, done, broke}
use Rattle.image_store.proofs.load.put_piece.Goals as goal

pub returns-in-Ok-clause-carried : goal.returns-in-Ok-clause-carried
returns-in-Ok-clause-carried g c = λ room granted held m l fits.
    let d = c.args.download in
    let k = c.in-Ok.ensures.went in
    let changed = changed_at g.D.Disk.may_leave g.D.Disk.clock g.D.Disk.left_since g.D.Disk.rig room _ m.slots d.header d.disk c.in-Ok.download.disk l.room_is (record {
      moments = c.in-Ok.ensures.moments m.slots l.put l.filling l.loaded;
      length = λ size. c.in-Ok.ensures.length m.slots l.put size l.filling l.loaded;
      outcome = λ r told. c.in-Ok.ensures.outcome r m.slots l.put told l.filling l.loaded;
      gates = λ r told. c.in-Ok.ensures.gates r m.slots l.put told l.filling l.loaded;
    }) in
    done g.D.Disk.seen g.D.Disk.may_leave g.D.Disk.clock g.D.Disk.left_since g.D.Disk.rig g.D.Disk.faults room c.args.active granted _ d.disk _ _ (Put (l.put ++ c.args.piece.now)) m l.whole
    (went g.D.Disk.seen g.D.Disk.may_leave room c.args.active granted held c.args.piece.now d c.in-Ok.download m l (c.in-Ok.ensures.filling m.slots l.put l.filling l.loaded) (c.in-Ok.ensures.loaded l.put l.loaded) k.0 k.1 k.2) c.refused.ensures.value (c.in-Ok.ensures.kept refl) changed
    (makes_these room (Put (l.put ++ c.args.piece.now)) m (piece_calls c.args.piece.now room d.target d.have d.size) _ _ false (λ bytes. piece_calls_are room granted d.target d.have d.size c.args.piece.now l.put held m.download l.loaded.have fits l.download_is) (subst (λ (n : ℕ). Makes (piece_calls c.args.piece.now n d.target d.have d.size) (g.D.Disk.rig d.disk) (g.D.Disk.rig c.in-Ok.download.disk) false) l.room_is c.in-Ok.ensures.rig))
    (within_put g.D.Disk.seen g.D.Disk.may_leave g.D.Disk.rig g.met.D.Disk.rig_reads room m d.header d.disk l.room_is l.filling.settled granted d.target d.size c.args.piece.now l.put held (omega (arith, fits, l.loaded.have)) l.loaded.fits l.download_is)

pub returns-in-Err-Past-clause-carried : goal.returns-in-Err-Past-clause-carried
returns-in-Err-Past-clause-carried g c = λ room granted held m l fits.
    let r = rw c.in-Err-Past.field-0-is at c.in-Err-Past.ensures.refused in
    absurd (omega (arith, r.4, fits))

pub returns-in-Err-Fault-clause-carried : goal.returns-in-Err-Fault-clause-carried
returns-in-Err-Fault-clause-carried g c = λ room granted held m l fits.
    let d = c.args.download in
    let told = rw c.in-Err-Fault.field-0-is at c.in-Err-Fault.ensures.told in
    let rig = rw c.in-Err-Fault.field-0-is at c.in-Err-Fault.ensures.rig in
    let cause = rw c.in-Err-Fault.field-0-is at c.in-Err-Fault.ensures.cause in
    let moments = rw c.in-Err-Fault.field-0-is at (c.in-Err-Fault.ensures.moments m.slots l.put l.filling l.loaded) in
    let long = rw c.in-Err-Fault.field-0-is at (λ (size : ℕ). c.in-Err-Fault.ensures.length m.slots l.put size l.filling l.loaded) in
    let outcome = rw c.in-Err-Fault.field-0-is at (λ (r : Rigged) (told : g.D.Disk.rig d.disk ≡ Some r). c.in-Err-Fault.ensures.outcome r m.slots l.put told l.filling l.loaded) in
    let gates = rw c.in-Err-Fault.field-0-is at (λ (r : Rigged) (told : g.D.Disk.rig d.disk ≡ Some r). c.in-Err-Fault.ensures.gates r m.slots l.put told l.filling l.loaded) in
    let changed = changed_at g.D.Disk.may_leave g.D.Disk.clock g.D.Disk.left_since g.D.Disk.rig room _ m.slots d.header d.disk c.in-Err-Fault.broken.disk l.room_is (record { moments = moments; length = long; outcome = outcome; gates = gates }) in
    broke g.D.Disk.seen g.D.Disk.may_leave g.D.Disk.clock g.D.Disk.left_since g.D.Disk.rig g.D.Disk.faults room c.args.active granted _ d.disk c.in-Err-Fault.broken _ _ (Put (l.put ++ c.args.piece.now)) m c.refused-in-Err-Fault.ensures.value l.whole l.active_is refl (c.download_software-software.ensures.shows m.slots l.filling.settled ∙ ap (λ k. software_in k m.slots) (sym l.active_is)) (told (told_of _ _ l.filling.settled.reads)) (cause refl) changed
    (makes_these room (Put (l.put ++ c.args.piece.now)) m (piece_calls c.args.piece.now room d.target d.have d.size) _ _ true (λ bytes. piece_calls_are room granted d.target d.have d.size c.args.piece.now l.put held m.download l.loaded.have fits l.download_is) (subst (λ (n : ℕ). Makes (piece_calls c.args.piece.now n d.target d.have d.size) (g.D.Disk.rig d.disk) (g.D.Disk.rig c.in-Err-Fault.broken.disk) true) l.room_is rig))
    (within_put g.D.Disk.seen g.D.Disk.may_leave g.D.Disk.rig g.met.D.Disk.rig_reads room m d.header d.disk l.room_is l.filling.settled granted d.target d.size c.args.piece.now l.put held (omega (arith, fits, l.loaded.have)) l.loaded.fits l.download_is)
