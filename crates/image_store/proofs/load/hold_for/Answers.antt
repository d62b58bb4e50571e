use Rattle.std.proofs.Common.{◌≢◌, ◌∙◌, ◌-◌, ℕ, false, length, refl, sym}
use Rattle.window_spec.specs.declared.Arrived.TheVariants.{Held, Ignored, Whole, Broken}
use Rattle.window_spec.specs.Incoming.{section, after_section, answer, cut_window}
use Rattle.store_spec.specs.Deeds.{Hold, Ignore}
use Rattle.store_laws.proofs.Tests.{hold_held, hold_dropped, dropped_same}
use Rattle.image_store.proofs.Carrying.{still, window_held}
use Rattle.image_store.proofs.load.hold_for.Goals as goal

ignored_apart : Ignored ≢ Held
ignored_apart e = cc

broken_apart : Broken ≢ Held
broken_apart e = cc

whole_apart : (n : ℕ) → Whole n ≢ Held
whole_apart n e = cc

pub returns-in-Held-clause-carried : goal.returns-in-Held-clause-carried
returns-in-Held-clause-carried g c = λ room active m l.
    let d = c.args.download in
    let one = section c.args.tci c.args.number c.args.bytes.now in
    let is = hold_held d.target d.size c.args.coming.now.granted l.put one c.args.coming.now.inbox (sym c.section.ensures.answer ∙ c.in-Held.is) in
    rw (is, c.section.ensures.window) (still g.D.Disk.seen g.D.Disk.may_leave g.D.Disk.clock g.D.Disk.left_since g.D.Disk.rig g.D.Disk.faults g.met.D.Disk.rig_reads g.met.D.Disk.cut_counts g.met.D.Disk.only_now room active c.args.coming.now.granted c.args.coming.now.granted c.args.coming.now.inbox (after_section one c.args.coming.now.inbox) _ _ (Hold (cut_window (d.size - length l.put) (after_section one c.args.coming.now.inbox))) m l (window_held g.D.Disk.seen g.D.Disk.may_leave room active c.args.coming.now.granted c.args.coming.now.inbox (after_section one c.args.coming.now.inbox) d m l) refl refl)

pub returns-in-Ignored-clause-carried : goal.returns-in-Ignored-clause-carried
returns-in-Ignored-clause-carried g c = λ room active m l.
    let d = c.args.download in
    let one = section c.args.tci c.args.number c.args.bytes.now in
    let other : answer one false c.args.coming.now.inbox ≢ Held = λ e. ignored_apart (sym c.in-Ignored.is ∙ c.section.ensures.answer ∙ e) in
    rw (hold_dropped d.target d.size c.args.coming.now.granted l.put one c.args.coming.now.inbox other, c.section.ensures.window, dropped_same one c.args.coming.now.inbox other) (still g.D.Disk.seen g.D.Disk.may_leave g.D.Disk.clock g.D.Disk.left_since g.D.Disk.rig g.D.Disk.faults g.met.D.Disk.rig_reads g.met.D.Disk.cut_counts g.met.D.Disk.only_now room active c.args.coming.now.granted c.args.coming.now.granted c.args.coming.now.inbox c.args.coming.now.inbox _ _ Ignore m l l refl refl)

pub returns-in-Whole-clause-carried : goal.returns-in-Whole-clause-carried
returns-in-Whole-clause-carried g c = λ room active m l.
    let d = c.args.download in
    let one = section c.args.tci c.args.number c.args.bytes.now in
    let other : answer one false c.args.coming.now.inbox ≢ Held = λ e. whole_apart _ (sym c.in-Whole.is ∙ c.section.ensures.answer ∙ e) in
    rw (hold_dropped d.target d.size c.args.coming.now.granted l.put one c.args.coming.now.inbox other, c.section.ensures.window, dropped_same one c.args.coming.now.inbox other) (still g.D.Disk.seen g.D.Disk.may_leave g.D.Disk.clock g.D.Disk.left_since g.D.Disk.rig g.D.Disk.faults g.met.D.Disk.rig_reads g.met.D.Disk.cut_counts g.met.D.Disk.only_now room active c.args.coming.now.granted c.args.coming.now.granted c.args.coming.now.inbox c.args.coming.now.inbox _ _ Ignore m l l refl refl)

pub returns-in-Broken-clause-carried : goal.returns-in-Broken-clause-carried
returns-in-Broken-clause-carried g c = λ room active m l.
    let d = c.args.download in
    let one = section c.args.tci c.args.number c.args.bytes.now in
    let other : answer one false c.args.coming.now.inbox ≢ Held = λ e. broken_apart (sym c.in-Broken.is ∙ c.section.ensures.answer ∙ e) in
    rw (hold_dropped d.target d.size c.args.coming.now.granted l.put one c.args.coming.now.inbox other, c.section.ensures.window, dropped_same one c.args.coming.now.inbox other) (still g.D.Disk.seen g.D.Disk.may_leave g.D.Disk.clock g.D.Disk.left_since g.D.Disk.rig g.D.Disk.faults g.met.D.Disk.rig_reads g.met.D.Disk.cut_counts g.met.D.Disk.only_now room active c.args.coming.now.granted c.args.coming.now.granted c.args.coming.now.inbox c.args.coming.now.inbox _ _ Ignore m l l refl refl)
