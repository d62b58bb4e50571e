use Rattle.std.proofs.Common.{Bool, is_some, ◌∙◌, refl, sym, ap}
use Rattle.unit_spec.specs.Onu.{answer, image_deed, unless_quiet, asks_nothing}
use Rattle.frame_spec.specs.Baseline.{spelling}
use Rattle.retry_spec.specs.Kept.{kept_for, kept_with}
use Rattle.onu_agent.specs.State.{Held}
use Rattle.onu_agent.proofs.Coming.{kept_again, left, kept_then}
use Rattle.onu_agent.proofs.unit.Unit.request.Goals as goal

pub returns-then-give_again-clause-came : goal.returns-then-give_again-clause-came
returns-then-give_again-clause-came g c = rw (← c.self.view_is) (λ u s.
    kept_again g.D.Disk.seen g.D.Disk.may_leave g.D.Disk.clock g.D.Disk.left_since g.D.Disk.rig g.D.Disk.faults g.met.D.Disk.rig_reads g.met.D.Disk.cut_counts g.met.D.Disk.only_now _ _ _ _ c.args.frame.now (λ fails. answer fails c.args.frame.now c.args.request.now u) (λ fails. unless_quiet (asks_nothing c.args.request.now) fails c.args.frame.now c.args.request.now u) (image_deed c.args.frame.now c.args.request.now u) u s (c.give_again.ensures.given c.if-give_again.true) (λ fails. ap (λ (b : Bool). unless_quiet b fails c.args.frame.now c.args.request.now u) (sym c.is_quiet.ensures.value ∙ c.if-is_quiet.false)) refl refl)

pub returns-then-leaves-clause-came : goal.returns-then-leaves-clause-came
returns-then-leaves-clause-came g c = rw (← c.self.view_is) (λ u s.
    left g.D.Disk.seen g.D.Disk.may_leave g.D.Disk.clock g.D.Disk.left_since g.D.Disk.rig g.D.Disk.faults g.met.D.Disk.rig_reads g.met.D.Disk.cut_counts g.met.D.Disk.only_now _ _ _ _ c.args.frame.now (λ fails. answer fails c.args.frame.now c.args.request.now u) (λ fails. unless_quiet (asks_nothing c.args.request.now) fails c.args.frame.now c.args.request.now u) (image_deed c.args.frame.now c.args.request.now u) u s (sym c.give_again.ensures.found ∙ c.if-give_again.false) (ap (λ (h : Held _). is_some h.leaving) c.self.view_is ∙ sym c.leaves.ensures.value ∙ c.if-leaves.true) (λ fails. ap (λ (b : Bool). unless_quiet b fails c.args.frame.now c.args.request.now u) (sym c.is_quiet.ensures.value ∙ c.if-is_quiet.false)) refl c.drop_packet.ensures.dropped c.drop_packet.ensures.empty)

pub returns-clause-came : goal.returns-clause-came
returns-clause-came g c = λ u s.
    kept_then g.D.Disk.seen g.D.Disk.may_leave g.D.Disk.clock g.D.Disk.left_since g.D.Disk.rig g.D.Disk.faults c.args.self.now c.carry_out.new.self _ _ _ c.in_ok-deed.deed.reply c.in_ok-deed.deed.note c.args.frame.now (λ fails. answer fails c.args.frame.now c.args.request.now u) (λ fails. unless_quiet (asks_nothing c.args.request.now) fails c.args.frame.now c.args.request.now u) (image_deed c.args.frame.now c.args.request.now u) u s
    (ap (λ (h : Held _). is_some (kept_for c.args.frame.now.tci h.desk.kept)) (sym c.self.view_is) ∙ sym c.give_again.ensures.found ∙ c.if-give_again.false) (sym c.leaves.ensures.value ∙ c.if-leaves.false) (λ fails. ap (λ (b : Bool). unless_quiet b fails c.args.frame.now c.args.request.now u) (sym c.is_quiet.ensures.value ∙ c.if-is_quiet.false))
    (c.in_ok-deed.ensures.carried u s) (ap (λ (h : Held _). h.images) c.self-2.view_is) (ap (λ (h : Held _). h.leaving) c.self-2.view_is)
    (c.give.ensures.kept ∙ ap (λ (h : Held _). record h.desk { kept = kept_with c.args.frame.now.tci (spelling c.in_ok-deed.deed.reply) h.desk.kept }) c.self-2.view_is) refl c.give.ensures.given
