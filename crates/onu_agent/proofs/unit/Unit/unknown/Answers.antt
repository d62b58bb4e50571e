use Rattle.std.proofs.Common.{is_some, Bool, None, ◌∙◌, refl, sym, ap}
use Rattle.onu_agent.specs.State.{Held}
use Rattle.retry_spec.specs.Kept.{kept_for}
use Rattle.store_spec.specs.Deeds.{Ignore}
use Rattle.unit_spec.specs.Onu.{if_request, not_supported, has_request_bits}
use Rattle.onu_agent.proofs.Coming.{dropped, kept_again, left, kept_then, not_carried, still_ignored}
use Rattle.onu_agent.proofs.unit.Unit.unknown.Goals as goal

pub returns-then-not-is_request-clause-came : goal.returns-then-not-is_request-clause-came
returns-then-not-is_request-clause-came g c = λ u s. dropped g.D.Disk.seen g.D.Disk.may_leave g.D.Disk.clock g.D.Disk.left_since g.D.Disk.rig g.D.Disk.faults g.met.D.Disk.rig_reads g.met.D.Disk.cut_counts g.met.D.Disk.only_now _ _ _ _ (λ fails. if_request (has_request_bits c.args.frame.now.kind) c.args.frame.now u) Ignore u s refl (ap (λ (b : Bool). if_request b c.args.frame.now u) (sym c.is_request.ensures.value ∙ c.if-not-is_request.true)) refl c.drop_packet.ensures.dropped c.drop_packet.ensures.empty

pub returns-then-give_again-clause-came : goal.returns-then-give_again-clause-came
returns-then-give_again-clause-came g c = rw (← c.self.view_is) (λ u s. still_ignored g.D.Disk.seen g.D.Disk.may_leave g.D.Disk.clock g.D.Disk.left_since g.D.Disk.rig g.D.Disk.faults _ _ _ _ _ (kept_for c.args.frame.now.tci u.kept) u.leaving u
    (kept_again g.D.Disk.seen g.D.Disk.may_leave g.D.Disk.clock g.D.Disk.left_since g.D.Disk.rig g.D.Disk.faults g.met.D.Disk.rig_reads g.met.D.Disk.cut_counts g.met.D.Disk.only_now _ _ _ _ c.args.frame.now (λ fails. not_supported c.args.frame.now u) (λ fails. if_request (has_request_bits c.args.frame.now.kind) c.args.frame.now u) Ignore u s (c.give_again.ensures.given c.if-give_again.true) (λ fails. ap (λ (b : Bool). if_request b c.args.frame.now u) (sym c.is_request.ensures.value ∙ c.if-not-is_request.false)) refl refl))

pub returns-then-leaves-clause-came : goal.returns-then-leaves-clause-came
returns-then-leaves-clause-came g c = rw (← c.self.view_is) (λ u s. still_ignored g.D.Disk.seen g.D.Disk.may_leave g.D.Disk.clock g.D.Disk.left_since g.D.Disk.rig g.D.Disk.faults _ _ _ _ _ (kept_for c.args.frame.now.tci u.kept) u.leaving u
    (left g.D.Disk.seen g.D.Disk.may_leave g.D.Disk.clock g.D.Disk.left_since g.D.Disk.rig g.D.Disk.faults g.met.D.Disk.rig_reads g.met.D.Disk.cut_counts g.met.D.Disk.only_now _ _ _ _ c.args.frame.now (λ fails. not_supported c.args.frame.now u) (λ fails. if_request (has_request_bits c.args.frame.now.kind) c.args.frame.now u) Ignore u s (sym c.give_again.ensures.found ∙ c.if-give_again.false) (ap (λ (h : Held _). is_some h.leaving) c.self.view_is ∙ sym c.leaves.ensures.value ∙ c.if-leaves.true) (λ fails. ap (λ (b : Bool). if_request b c.args.frame.now u) (sym c.is_request.ensures.value ∙ c.if-not-is_request.false)) refl c.drop_packet-then-leaves.ensures.dropped c.drop_packet-then-leaves.ensures.empty))

pub returns-clause-came : goal.returns-clause-came
returns-clause-came g c = rw (← c.self.view_is) (λ u s. still_ignored g.D.Disk.seen g.D.Disk.may_leave g.D.Disk.clock g.D.Disk.left_since g.D.Disk.rig g.D.Disk.faults _ _ _ _ _ (kept_for c.args.frame.now.tci u.kept) u.leaving u
    (kept_then g.D.Disk.seen g.D.Disk.may_leave g.D.Disk.clock g.D.Disk.left_since g.D.Disk.rig g.D.Disk.faults _ _ _ _ _ c.refusal_of.result None c.args.frame.now (λ fails. not_supported c.args.frame.now u) (λ fails. if_request (has_request_bits c.args.frame.now.kind) c.args.frame.now u) Ignore u s (sym c.give_again.ensures.found ∙ c.if-give_again.false) (ap (λ (h : Held _). is_some h.leaving) c.self.view_is ∙ sym c.leaves.ensures.value ∙ c.if-leaves.false) (λ fails. ap (λ (b : Bool). if_request b c.args.frame.now u) (sym c.is_request.ensures.value ∙ c.if-not-is_request.false))
    (not_carried g.D.Disk.seen g.D.Disk.may_leave g.D.Disk.clock g.D.Disk.left_since g.D.Disk.rig g.D.Disk.faults g.met.D.Disk.rig_reads g.met.D.Disk.cut_counts g.met.D.Disk.only_now _ c.refusal_of.result c.args.frame.now u s c.refusal_of.ensures.value) refl refl c.give.ensures.kept refl c.give.ensures.given))
