use Rattle.std.proofs.Common.{◌≡◌, length, take}
use Rattle.slot_disk.specs.Memory.{with_byte}
use Rattle.slot_disk.proofs.memory.fill_marked.Given as goal

abbrev pub invariant-loop-place : goal.invariant-loop-place
invariant-loop-place l = record { so_far : l.bytes.items ≡ with_byte l.byte (take l.place l.marks.items) l.fn.bytes.items; len : length l.bytes.items ≡ length l.fn.bytes.items }
