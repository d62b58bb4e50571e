use Rattle.std.proofs.Common.{true, false, ◌≡◌, ◌≢◌, ◌∙◌, inl, inr, ℕ, IsSome, refl, sym, ap, subst, Some}
use Rattle.slot_spec.specs.Rig.{Rigged}
use Rattle.std.proofs.lemmas.Bool.{cases_eq}
use Rattle.std.specs.Option.{is_some}
use Rattle.slot_spec.specs.declared.DiskHeader.{DiskHeader}
use Rattle.slot_spec.specs.Slots.{SlotPair, Change, Keep, Commit as CommitSlot, with_committed}
use Rattle.slot_spec.specs.Header.{view_at}
use Rattle.slot_spec.specs.Owner.{Settled}
use Rattle.image_slots.specs.Answers.{commit_change, commit_calls}
use Rattle.image_store.proofs.Calling.{makes_these, commit_calls_other, commit_calls_same, within_commit, within_recommit}
use Rattle.store_spec.specs.State.{software_in}
use Rattle.store_spec.specs.Deeds.{Commit, Recommit}
use Rattle.store_laws.proofs.Tests.{valid_is, commit_none, commit_same, commit_other}
use Rattle.image_store.specs.Carries.{Changed}
use Rattle.image_store.proofs.Changing.{changed_at, commit_change_other, commit_change_same}
use Rattle.image_store.proofs.Carrying.{told_of, slots_after, refused, done, broke}
use Rattle.image_store.proofs.finish.keep.Goals as goal

same_committed : (s : SlotPair) (k : ℕ) → k ≡ s.committed → with_committed k s ≡ s
same_committed s k is = λ i. record { first = s.first; second = s.second; committed = is i }

pub returns-in-Ok-clause-carried : goal.returns-in-Ok-clause-carried
returns-in-Ok-clause-carried g c = λ room granted held m s none.
    let old = c.args.slots in
    let slots = c.in-Ok.slots in
    let slot = c.args.slot in
    let view : IsSome (view_at slot old.header) = c.in-Ok.ensures.valid in
    let some = valid_is slot old.header m.slots s.settled.bytes s.settled.shows ∙ view in
    let room_same = ap (λ (h : DiskHeader). h.room) c.in-Ok.ensures.header in
    let settled = c.in-Ok.ensures.settled m.slots s.settled in
    let made : Changed g.D.Disk.may_leave g.D.Disk.clock g.D.Disk.left_since g.D.Disk.rig old.header.room (commit_change slot old.header) m.slots old.disk slots.disk = record {
      moments = c.in-Ok.ensures.moments m.slots s.settled;
      length = λ size. c.in-Ok.ensures.length m.slots size s.settled;
      outcome = λ r told. c.in-Ok.ensures.outcome r m.slots told s.settled;
      gates = λ r told. c.in-Ok.ensures.gates r m.slots told s.settled;
    } in
    elim (cases_eq slot m.slots.committed) [
      | inl same ↦ rw (commit_same slot m.slots some same) (done g.D.Disk.seen g.D.Disk.may_leave g.D.Disk.clock g.D.Disk.left_since g.D.Disk.rig g.D.Disk.faults room c.args.active granted held old.disk _ _ (Recommit slot) m s.whole
          (slots_after g.D.Disk.seen g.D.Disk.may_leave room c.args.active old.header slots m.slots m.download m s.whole s.active_is s.room_is room_same (subst (λ (x : SlotPair). Settled g.D.Disk.seen g.D.Disk.may_leave slots.disk slots.header x) (same_committed m.slots slot same) settled), none) c.carried.ensures.value (c.in-Ok.ensures.kept refl)
          (changed_at g.D.Disk.may_leave g.D.Disk.clock g.D.Disk.left_since g.D.Disk.rig room Keep m.slots old.header old.disk slots.disk s.room_is (subst (λ (x : Change). Changed g.D.Disk.may_leave g.D.Disk.clock g.D.Disk.left_since g.D.Disk.rig old.header.room x m.slots old.disk slots.disk) (commit_change_same slot old.header view (same ∙ sym s.settled.shows.committed_is)) made))
          (makes_these room (Recommit slot) m (commit_calls slot old.header) _ _ false (λ bytes. sym (commit_calls_same slot old.header view (same ∙ sym s.settled.shows.committed_is))) c.in-Ok.ensures.rig)
          (within_recommit g.D.Disk.seen g.D.Disk.may_leave g.D.Disk.rig g.met.D.Disk.rig_reads room m old.header old.disk s.room_is s.settled slot))
      | inr other ↦ rw (commit_other slot m.slots some other) (done g.D.Disk.seen g.D.Disk.may_leave g.D.Disk.clock g.D.Disk.left_since g.D.Disk.rig g.D.Disk.faults room c.args.active granted held old.disk _ _ (Commit slot) m s.whole
          (slots_after g.D.Disk.seen g.D.Disk.may_leave room c.args.active old.header slots (with_committed slot m.slots) m.download m s.whole s.active_is s.room_is room_same settled, none) c.carried.ensures.value (c.in-Ok.ensures.kept refl)
          (changed_at g.D.Disk.may_leave g.D.Disk.clock g.D.Disk.left_since g.D.Disk.rig room (CommitSlot slot) m.slots old.header old.disk slots.disk s.room_is (subst (λ (x : Change). Changed g.D.Disk.may_leave g.D.Disk.clock g.D.Disk.left_since g.D.Disk.rig old.header.room x m.slots old.disk slots.disk) (commit_change_other slot old.header view (λ e. other (e ∙ s.settled.shows.committed_is))) made))
          (makes_these room (Commit slot) m (commit_calls slot old.header) _ _ false (λ bytes. sym (commit_calls_other slot old.header view (λ e. other (e ∙ s.settled.shows.committed_is)))) c.in-Ok.ensures.rig)
          (within_commit g.D.Disk.seen g.D.Disk.may_leave g.D.Disk.rig g.met.D.Disk.rig_reads room m old.header old.disk s.room_is s.settled slot))
    ]

pub returns-in-Err-NotValid-clause-carried : goal.returns-in-Err-NotValid-clause-carried
returns-in-Err-NotValid-clause-carried g c = λ room granted held m s none.
    let r = rw c.in-Err-NotValid.field-0-is at c.in-Err-NotValid.ensures.refused in
    let empty = valid_is c.args.slot c.args.slots.header m.slots s.settled.bytes s.settled.shows ∙ ap (λ o. is_some o) r.1 in
    rw (r.0, commit_none c.args.slot m.slots empty) (refused g.D.Disk.seen g.D.Disk.may_leave g.D.Disk.clock g.D.Disk.left_since g.D.Disk.rig g.D.Disk.faults g.met.D.Disk.rig_reads g.met.D.Disk.cut_counts g.met.D.Disk.only_now room c.args.active granted 3 held _ _ m c.refused.ensures.value (s, none))

pub returns-in-Err-Fault-clause-carried : goal.returns-in-Err-Fault-clause-carried
returns-in-Err-Fault-clause-carried g c = λ room granted held m s none.
    let old = c.args.slots in
    let slot = c.args.slot in
    let t = rw c.in-Err-Fault.field-0-is at c.in-Err-Fault.ensures.refused in
    let told = rw c.in-Err-Fault.field-0-is at c.in-Err-Fault.ensures.told in
    let rig = rw c.in-Err-Fault.field-0-is at c.in-Err-Fault.ensures.rig in
    let cause = rw c.in-Err-Fault.field-0-is at c.in-Err-Fault.ensures.cause in
    let moments = rw c.in-Err-Fault.field-0-is at (c.in-Err-Fault.ensures.moments m.slots s.settled) in
    let long = rw c.in-Err-Fault.field-0-is at (λ (size : ℕ). c.in-Err-Fault.ensures.length m.slots size s.settled) in
    let outcome = rw c.in-Err-Fault.field-0-is at (λ (r : Rigged) (told : g.D.Disk.rig old.disk ≡ Some r). c.in-Err-Fault.ensures.outcome r m.slots told s.settled) in
    let gates = rw c.in-Err-Fault.field-0-is at (λ (r : Rigged) (told : g.D.Disk.rig old.disk ≡ Some r). c.in-Err-Fault.ensures.gates r m.slots told s.settled) in
    let some = valid_is slot old.header m.slots s.settled.bytes s.settled.shows ∙ t.0 in
    let other : slot ≢ m.slots.committed = λ e. t.1 (e ∙ sym s.settled.shows.committed_is) in
    let changed = changed_at g.D.Disk.may_leave g.D.Disk.clock g.D.Disk.left_since g.D.Disk.rig room (CommitSlot slot) m.slots old.header old.disk c.in-Err-Fault.broken.disk s.room_is (subst (λ (x : Change). Changed g.D.Disk.may_leave g.D.Disk.clock g.D.Disk.left_since g.D.Disk.rig old.header.room x m.slots old.disk c.in-Err-Fault.broken.disk) (commit_change_other slot old.header t.0 t.1) (record { moments = moments; length = long; outcome = outcome; gates = gates })) in
    rw (commit_other slot m.slots some other) (broke g.D.Disk.seen g.D.Disk.may_leave g.D.Disk.clock g.D.Disk.left_since g.D.Disk.rig g.D.Disk.faults room c.args.active granted held old.disk c.in-Err-Fault.broken _ _ (Commit slot) m c.refused-in-Err-Fault.ensures.value s.whole s.active_is refl (c.slots_software-software.ensures.shows m.slots s.settled ∙ ap (λ k. software_in k m.slots) (sym s.active_is)) (told (told_of _ _ s.settled.reads)) (cause refl) changed (makes_these room (Commit slot) m (commit_calls slot old.header) _ _ true (λ bytes. sym (commit_calls_other slot old.header t.0 t.1)) rig) (within_commit g.D.Disk.seen g.D.Disk.may_leave g.D.Disk.rig g.met.D.Disk.rig_reads room m old.header old.disk s.room_is s.settled slot))
