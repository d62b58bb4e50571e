use Rattle.std.proofs.Common.{is_some, ap, ◌∙◌, refl, sym}
use Rattle.onu_agent.specs.State.{Held}
use Rattle.onu_agent.proofs.Coming.{carried_in, section_kept, section_left, section_held}
use Rattle.onu_agent.proofs.unit.Unit.section.Goals as goal

pub returns-then-keeps-clause-came : goal.returns-then-keeps-clause-came
returns-then-keeps-clause-came g c = rw (← c.self.view_is) (λ u s. section_kept g.D.Disk.seen g.D.Disk.may_leave g.D.Disk.clock g.D.Disk.left_since g.D.Disk.rig g.D.Disk.faults g.met.D.Disk.rig_reads g.met.D.Disk.cut_counts g.met.D.Disk.only_now _ _ _ _ c.args.frame.now c.args.request.now u s (sym c.keeps.ensures.value ∙ c.if-keeps.true) refl c.drop_packet.ensures.dropped c.drop_packet.ensures.empty)

pub returns-then-leaves-clause-came : goal.returns-then-leaves-clause-came
returns-then-leaves-clause-came g c = rw (← c.self.view_is) (λ u s. section_left g.D.Disk.seen g.D.Disk.may_leave g.D.Disk.clock g.D.Disk.left_since g.D.Disk.rig g.D.Disk.faults g.met.D.Disk.rig_reads g.met.D.Disk.cut_counts g.met.D.Disk.only_now _ _ _ _ c.args.frame.now c.args.request.now u s (sym c.keeps.ensures.value ∙ c.if-keeps.false) (ap (λ (h : Held _). is_some h.leaving) c.self.view_is ∙ sym c.leaves.ensures.value ∙ c.if-leaves.true) refl c.drop_packet-then-leaves.ensures.dropped c.drop_packet-then-leaves.ensures.empty)

pub returns-clause-came : goal.returns-clause-came
returns-clause-came g c = rw (← c.self.view_is) (λ u s. section_held g.D.Disk.seen g.D.Disk.may_leave g.D.Disk.clock g.D.Disk.left_since g.D.Disk.rig g.D.Disk.faults _ _ c.carry.result _ _ c.args.frame.now c.args.request.now u s c.requires.quiet (sym c.keeps.ensures.value ∙ c.if-keeps.false) (ap (λ (h : Held _). is_some h.leaving) c.self.view_is ∙ sym c.leaves.ensures.value ∙ c.if-leaves.false) (carried_in g.D.Disk.seen g.D.Disk.may_leave g.D.Disk.clock g.D.Disk.left_since g.D.Disk.rig g.D.Disk.faults _ _ c.carry.result c.args.frame.now c.args.request.now u s c.carry.ensures.carried) c.carry.ensures.room refl refl c.quiet_did.ensures.value c.clear.ensures.empty)
