-- The register after the bytes so far.
use Rattle.std.proofs.Common.{◌≡◌, ◌≤◌, ◌-◌, length, take}
use Rattle.frame_spec.specs.Checksum.{bits_of, message_bits}
use Rattle.aal5_crc.specs.Register.{after_bits}
use Rattle.aal5_crc.proofs.advanced.Given as goal

abbrev pub invariant-loop-place : goal.invariant-loop-place
invariant-loop-place l = record {
  within : l.place ≤ length l.bytes;
  so_far : bits_of 32 l.register ≡ after_bits (bits_of 32 l.fn.register) (message_bits (take l.place l.bytes));
}

abbrev pub decreases-loop-place : goal.decreases-loop-place
decreases-loop-place l = length l.bytes - l.place
