-- The check value of no bytes, evaluated.
use Rattle.std.proofs.Common.{refl}
use Rattle.frame_spec.specs.Checksum.{crc, dividend, divide, inverted, inverted_bit, number_of, message_bits}
use Rattle.aal5_crc.proofs.Crc.new.Goals as goal

pub returns : goal.returns
unfolding crc dividend divide inverted inverted_bit number_of message_bits
returns c = record { value = refl }
