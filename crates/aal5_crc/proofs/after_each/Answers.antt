use Rattle.std.proofs.Common.{ap, sym, ◌∙◌, List, ℕ, get_or}
use Rattle.frame_spec.specs.Checksum.{bits_of}
use Rattle.aal5_crc.specs.Register.{after_bits}
use Rattle.aal5_crc.proofs.Steps.{after_bits-none, after_bits-more}
use Rattle.aal5_crc.proofs.after_each.Goals as goal

pub loop-byte-init : goal.loop-byte-init
loop-byte-init c = sym (after_bits-none (bits_of 32 c.args.register))

pub loop-byte-preserved : goal.loop-byte-preserved
loop-byte-preserved c =
    c.after_byte-register.ensures.bits
    ∙ ap (λ (l : List ℕ). after_bits l (bits_of 8 (get_or c.args.bytes.now c.loop-byte.byte-index 0))) c.loop-byte.invariant
    ∙ sym (after_bits-more (bits_of 32 c.args.register) c.loop-byte.byte-index c.args.bytes.now c.loop-byte-test.true)
