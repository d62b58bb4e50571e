use Rattle.std.proofs.Common.{arith, ap, length, take, drop, ◌∙◌}
use Rattle.slot_disk.specs.Memory.{MemState}
use Rattle.slot_disk.proofs.States.{finished_is_disk}
use Rattle.slot_disk.proofs.memory.MemDisk.finish.Goals as goal

pub invariant_of-self : goal.invariant_of-self
invariant_of-self c =
    let i = c.self.inside in
    let m : MemState = record { bytes = i.bytes.items; settled = i.settled.items; newest = i.newest.items; dirty = i.dirty.items; trap = i.trap; faults = i.faults } in
    rw c.overwrite.ensures.bytes (finished_is_disk m c.args.at c.args.from.now c.self.invariant (omega (arith, c.requires.within, ap (λ (s : MemState). length s.bytes) c.self.view_is)) (ap (λ (s : MemState). take (length c.args.from.now) (drop c.args.at s.dirty)) c.self.view_is ∙ c.requires.dirty))
