use Rattle.std.proofs.Common.{◌≡◌, ◌∙◌, sym, false, if◌then◌else◌}
use Rattle.window_spec.specs.Incoming.{no_window}
use Rattle.store_spec.specs.Deeds.{refuse, is_window}
use Rattle.store_laws.proofs.Tests.{deed_passed, deed_refused, whole_passed}
use Rattle.image_store.proofs.Carrying.{broken_is, refusal_stands, refusal_calls, still}
use Rattle.image_store.proofs.requests.carry.Goals as goal

pub returns-in-Ok-clause-carried : goal.returns-in-Ok-clause-carried
returns-in-Ok-clause-carried g c = λ m s.
    let base = c.args.base in
    let is = broken_is g.D.Disk.seen g.D.Disk.may_leave base.room base.active c.args.coming.now.granted c.args.coming.now.inbox c.args.state m s ∙ sym c.is_broken.ensures.broken in
    let whole : m.broken ≡ false = is ∙ whole_passed c.args.entity _ c.in-Ok.ensures.passed in
    rw (deed_passed base.room c.args.tci c.args.entity c.args.request.now m _ is c.in-Ok.ensures.passed, ← c.in-Ok.ensures.slot) (c.carry_for.ensures.carried m s whole)

pub returns-in-Err-clause-carried : goal.returns-in-Err-clause-carried
returns-in-Err-clause-carried g c = λ m s.
    let base = c.args.base in
    let is = broken_is g.D.Disk.seen g.D.Disk.may_leave base.room base.active c.args.coming.now.granted c.args.coming.now.inbox c.args.state m s ∙ sym c.is_broken.ensures.broken in
    rw (deed_refused base.room c.args.tci c.args.entity c.args.request.now m _ c.in-Err.code.0 is c.in-Err.ensures.refused c.in-Err.ensures.fails, c.refuse.ensures.granted, c.refuse.ensures.window)
    (still g.D.Disk.seen g.D.Disk.may_leave g.D.Disk.clock g.D.Disk.left_since g.D.Disk.rig g.D.Disk.faults g.met.D.Disk.rig_reads g.met.D.Disk.cut_counts g.met.D.Disk.only_now base.room base.active c.args.coming.now.granted c.args.coming.now.granted c.args.coming.now.inbox (if is_window c.args.request.now then no_window else c.args.coming.now.inbox) c.args.state _ (refuse c.args.request.now c.in-Err.code.0) m s (refusal_stands g.D.Disk.seen g.D.Disk.may_leave base.room base.active c.args.coming.now.granted c.in-Err.code.0 c.args.coming.now.inbox c.args.state c.args.request.now m s) (refusal_calls c.args.request.now c.in-Err.code.0) c.refuse.ensures.handled)
