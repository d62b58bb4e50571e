-- What the definitions give for an image worked by hand.
use Rattle.std.proofs.Common.{◌≡◌, [], ◌∷◌, refl}
use Rattle.frame_spec.specs.Checksum.{crc}
use Rattle.frame_spec.specs.Checksum as sum
use Rattle.slot_spec.specs.Layout.{entry, version}
use Rattle.slot_laws.specs.Rows.{one_byte_entry}

pub one_byte_entry-is : entry (255 ∷ []) ≡ one_byte_entry
unfolding entry version crc sum.number_of sum.inverted sum.divide sum.dividend sum.message_bits sum.bits_of sum.without_first sum.inverted_bit
one_byte_entry-is = refl
