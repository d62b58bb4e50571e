use Rattle.std.proofs.Common.{ℕ, List, get_or, ap, ◌∙◌}
use Rattle.aal5_crc.specs.Register.{entry_bits}
use Rattle.aal5_crc.proofs.Blocks.{after_block-bits}
use Rattle.aal5_crc.proofs.after_block.Goals as goal

pub returns : goal.returns
returns c =
    let block = c.args.block.now in
    record {
      bits = after_block-bits c.args.register block c.entry.result c.entry-2.result c.entry-3.result c.entry-4.result c.entry-5.result c.entry-6.result c.entry-7.result c.entry-8.result
          c.requires.whole
          (c.entry.ensures.bits ∙ ap (λ (l : List ℕ). entry_bits 7 (get_or l 0 0)) c.mixed.ensures.bytes)
          (c.entry-2.ensures.bits ∙ ap (λ (l : List ℕ). entry_bits 6 (get_or l 1 0)) c.mixed.ensures.bytes)
          (c.entry-3.ensures.bits ∙ ap (λ (l : List ℕ). entry_bits 5 (get_or l 2 0)) c.mixed.ensures.bytes)
          (c.entry-4.ensures.bits ∙ ap (λ (l : List ℕ). entry_bits 4 (get_or l 3 0)) c.mixed.ensures.bytes)
          c.entry-5.ensures.bits c.entry-6.ensures.bits c.entry-7.ensures.bits c.entry-8.ensures.bits;
    }
