use Rattle.slot_disk.proofs.States.{restored_rig, restored_leaves}
use Rattle.slot_disk.proofs.memory.MemDisk.restore.Goals as goal

pub returns-clause-rig : goal.returns-clause-rig
returns-clause-rig c = restored_rig c.args.self.now c.take_cut.new.self c.take_cut.ensures.state

pub returns-clause-left : goal.returns-clause-left
returns-clause-left c = λ image left. restored_leaves c.args.self.now c.take_cut.new.self c.take_cut.ensures.state image left
