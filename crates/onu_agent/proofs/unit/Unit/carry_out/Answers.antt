use Rattle.std.proofs.Common.{◌≡◌, true, rules, refl, ap}
use Rattle.onu_agent.specs.State.{Held}
use Rattle.onu_agent.specs.Images.{is_for_desk}
use Rattle.onu_agent.proofs.Coming.{reboot_carried, desk_called}
use Rattle.onu_agent.proofs.unit.Unit.carry_out.Goals as goal

pub returns-in-Reboot-clause-carried : goal.returns-in-Reboot-clause-carried
returns-in-Reboot-clause-carried g c = λ u s. rw c.in-Reboot.is (reboot_carried g.D.Disk.seen g.D.Disk.may_leave g.D.Disk.clock g.D.Disk.left_since g.D.Disk.rig g.D.Disk.faults g.met.D.Disk.rig_reads g.met.D.Disk.cut_counts g.met.D.Disk.only_now _ _ _ _ c.args.frame.now c.in-Reboot.flags u s (ap (λ (h : Held _). h.images) c.reboot.ensures.same) (ap (λ (h : Held _). h.desk) c.reboot.ensures.same) (c.reboot.ensures.leaving u s.leaving_is) (c.reboot.ensures.reply u) (c.reboot.ensures.note u))

pub returns-in-Create-clause-carried : goal.returns-in-Create-clause-carried
returns-in-Create-clause-carried g c =
    let about : is_for_desk c.args.request.now ≡ true = search (rules, c.in-Create.is) in
    rw (← c.self.view_is) (λ u s. desk_called g.D.Disk.seen g.D.Disk.may_leave g.D.Disk.clock g.D.Disk.left_since g.D.Disk.rig g.D.Disk.faults g.met.D.Disk.rig_reads g.met.D.Disk.cut_counts g.met.D.Disk.only_now _ _ c.carry_out.result c.args.frame.now c.args.request.now u s about refl refl c.carry_out.ensures.reply c.carry_out.ensures.note c.carry_out.ensures.after)
