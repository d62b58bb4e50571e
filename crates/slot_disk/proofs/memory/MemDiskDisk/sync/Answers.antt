use Rattle.std.proofs.Common.{false, ap, sym, ◌∙◌, refl}
use Rattle.slot_spec.specs.Rig.{trap_is_met}
use Rattle.slot_disk.specs.Memory.{MemState, after_sync}
use Rattle.slot_disk.proofs.States.{synced_makes, sync_durable, sync_moments}
use Rattle.slot_disk.proofs.memory.MemDiskDisk.sync.Goals as goal

pub returns-clause-rig : goal.returns-clause-rig
returns-clause-rig c = synced_makes c.args.self.now c.settle.new.self false (c.settle.ensures.state ∙ ap after_sync c.step.ensures.state) (ap (λ (s : MemState). trap_is_met s.trap) (sym c.self.view_is) ∙ sym c.is_met-stops.ensures.met ∙ c.if-stops.false) refl

pub returns-clause-durable : goal.returns-clause-durable
returns-clause-durable c = λ bytes reads image left. sync_durable c.args.self.now c.settle.new.self bytes image (c.settle.ensures.state ∙ ap after_sync c.step.ensures.state) reads left

pub returns-clause-moments : goal.returns-clause-moments
returns-clause-moments c = sync_moments c.args.self.now c.settle.new.self (c.settle.ensures.state ∙ ap after_sync c.step.ensures.state)
