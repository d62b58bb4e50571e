use Rattle.std.proofs.Common.{arith, refl, ◌∙◌}
use Rattle.frame_spec.specs.Checksum.{bits_of, number_of, add_to_front, generator, without_first}
use Rattle.aal5_crc.specs.Register.{after_bit, after_bits, zero_register, entry_bits, entries_are_right, entries_follow, table_is_right}
use Rattle.aal5_crc.proofs.Value.{value-added}
use Rattle.aal5_crc.proofs.Crc.add.Goals as goal

-- The table is tested entry by entry, by evaluation.
pub advanced-self-inside-requires : goal.advanced-self-inside-requires
unfolding table_is_right entries_are_right entries_follow entry_bits zero_register after_bits after_bit bits_of number_of add_to_front generator without_first
advanced-self-inside-requires c = refl

pub returns : goal.returns
returns c = record {
  value = λ before value.
      value-added c.self.inside.register c.advanced-self-inside.result before c.args.bytes.now (omega arith) (omega arith) c.advanced-self-inside.ensures.bits (c.self.view_is ∙ value);
}
