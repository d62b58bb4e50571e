use Rattle.std.proofs.Common.{false, refl, sym, subst, ap, ◌∙◌}
use Rattle.unit_spec.specs.Onu.{onu_started}
use Rattle.image_store.specs.Starts.{Started}
use Rattle.onu_agent.specs.State.{Held, UnitStands}
use Rattle.image_store.proofs.Calling.{mount_clear}
use Rattle.onu_agent.proofs.Beginning.{fault_as, fault_is, unit_started, unmounted}
use Rattle.onu_agent.proofs.agent.Agent.start.Goals as goal

pub returns-in-Err-clause-stands : goal.returns-in-Err-clause-stands
returns-in-Err-clause-stands g c = λ room s bytes reads long there. fault_as c.in-Err.refusal c.not_mounted.result c.not_mounted.ensures.value (c.in-Err.ensures.stands room s bytes reads long there)

pub returns-in-Ok-start-clause-stands : goal.returns-in-Ok-start-clause-stands
returns-in-Ok-start-clause-stands g c = λ room s bytes reads long there. record {
  sound = refl;
  stands = subst (λ (h : Held _). UnitStands g.D.Disk.seen g.D.Disk.may_leave h (onu_started c.args.boot room s)) (sym c.start-in-Ok-start.ensures.value)
      (unit_started g.D.Disk.seen g.D.Disk.may_leave room c.args.boot s bytes c.args.disk c.in-Ok.images c.in-Ok-start.desk c.software.result (c.in-Ok.ensures.stands room s bytes reads long there) (λ state is. (c.in-Ok.ensures.disk state is).reads) reads there c.software.ensures.shows c.in-Ok-start.ensures.started);
}

pub returns-in-Err-start-clause-disk : goal.returns-in-Err-start-clause-disk
returns-in-Err-start-clause-disk g c = unmounted (λ disk. Started g.D.Disk.seen g.D.Disk.may_leave g.D.Disk.clock g.D.Disk.left_since g.D.Disk.rig g.D.Disk.faults c.args.size c.args.disk disk false) c.in-Ok.images.state c.unmount.result c.unmount.ensures.some c.unmount.ensures.disk c.in-Ok.ensures.disk

pub returns-in-Err-clause-clear : goal.returns-in-Err-clause-clear
returns-in-Err-clause-clear g c = λ r told clear long. fault_is c.in-Err.refusal c.not_mounted.result c.not_mounted.ensures.value ∙ (mount_clear c.args.size _ _ _ c.in-Err.ensures.disk.made r told clear long).0

pub returns-in-Ok-start-clause-clear : goal.returns-in-Ok-start-clause-clear
returns-in-Ok-start-clause-clear g c = λ r told clear long state is.
    (mount_clear c.args.size _ _ _ (c.in-Ok.ensures.disk state (ap (λ (h : Held _). h.images.state) (sym c.start-in-Ok-start.ensures.value) ∙ is)).made r told clear long).1
