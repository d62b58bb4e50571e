-- The register after the bytes so far.
use Rattle.std.proofs.Common.{◌≡◌, take}
use Rattle.frame_spec.specs.Checksum.{bits_of, message_bits}
use Rattle.aal5_crc.specs.Register.{after_bits}
use Rattle.aal5_crc.proofs.after_each.Given as goal

abbrev pub invariant-loop-byte : goal.invariant-loop-byte
invariant-loop-byte l = bits_of 32 l.register ≡ after_bits (bits_of 32 l.fn.register) (message_bits (take l.byte-index l.bytes))
