use Rattle.std.proofs.Common.{ℕ, List, get_or, ap, ◌∙◌}
use Rattle.aal5_crc.specs.Register.{entry_bits}
use Rattle.aal5_crc.proofs.Blocks.{after_half-bits}
use Rattle.aal5_crc.proofs.after_half.Goals as goal

pub returns : goal.returns
returns c =
    let half = c.args.half.now in
    record {
      bits = after_half-bits c.args.register half c.entry.result c.entry-2.result c.entry-3.result c.entry-4.result
          c.requires.whole
          (c.entry.ensures.bits ∙ ap (λ (l : List ℕ). entry_bits 3 (get_or l 0 0)) c.mixed.ensures.bytes)
          (c.entry-2.ensures.bits ∙ ap (λ (l : List ℕ). entry_bits 2 (get_or l 1 0)) c.mixed.ensures.bytes)
          (c.entry-3.ensures.bits ∙ ap (λ (l : List ℕ). entry_bits 1 (get_or l 2 0)) c.mixed.ensures.bytes)
          (c.entry-4.ensures.bits ∙ ap (λ (l : List ℕ). entry_bits 0 (get_or l 3 0)) c.mixed.ensures.bytes);
    }
