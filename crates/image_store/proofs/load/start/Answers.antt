use Rattle.std.proofs.Common.{◌∙◌, sym, ap}
use Rattle.store_spec.specs.Deeds.{Refuse, is_in_use, start_code}
use Rattle.store_laws.proofs.Tests.{passed, refused_by, start_finds}
use Rattle.image_store.proofs.Carrying.{active_of, refused}
use Rattle.image_store.proofs.load.start.Goals as goal

pub returns-in-Ok-clause-carried : goal.returns-in-Ok-clause-carried
returns-in-Ok-clause-carried g c = λ m s whole.
    let base = c.args.base in
    let used = ap (λ k. is_in_use c.args.slot k m.slots.committed) (active_of g.D.Disk.seen g.D.Disk.may_leave base.room base.active c.args.coming.now.granted c.args.coming.now.inbox c.args.state m s)
    ∙ ap (λ k. is_in_use c.args.slot base.active k) (sym (c.committed.ensures.committed base.room base.active c.args.coming.now.granted c.args.coming.now.inbox m s)) ∙ sym c.is_in_use-in_use.ensures.value in
    let passes = ap (λ b. start_code b base.room c.args.asked.targets c.args.asked.size) used ∙ c.in-Ok.ensures.passed in
    let found = start_finds c.args.slot m.active m.slots.committed base.room c.args.asked.targets c.args.asked.size passes in
    rw (passed Refuse _ _ passes, c.grant.ensures.granted, c.grant.ensures.window) (c.begin_over.ensures.carried base.room c.args.coming.now.granted _ c.args.coming.now.inbox m s whole found.0 found.1 found.2)

pub returns-in-Err-clause-carried : goal.returns-in-Err-clause-carried
returns-in-Err-clause-carried g c = λ m s whole.
    let base = c.args.base in
    let used = ap (λ k. is_in_use c.args.slot k m.slots.committed) (active_of g.D.Disk.seen g.D.Disk.may_leave base.room base.active c.args.coming.now.granted c.args.coming.now.inbox c.args.state m s)
    ∙ ap (λ k. is_in_use c.args.slot base.active k) (sym (c.committed.ensures.committed base.room base.active c.args.coming.now.granted c.args.coming.now.inbox m s)) ∙ sym c.is_in_use-in_use.ensures.value in
    let code = ap (λ b. start_code b base.room c.args.asked.targets c.args.asked.size) used ∙ c.in-Err.ensures.refused in
    rw (refused_by Refuse _ c.in-Err.code.0 _ code c.in-Err.ensures.fails) (refused g.D.Disk.seen g.D.Disk.may_leave g.D.Disk.clock g.D.Disk.left_since g.D.Disk.rig g.D.Disk.faults g.met.D.Disk.rig_reads g.met.D.Disk.cut_counts g.met.D.Disk.only_now base.room base.active c.args.coming.now.granted c.in-Err.code.0 c.args.coming.now.inbox c.args.state _ m c.refused.ensures.value s)
