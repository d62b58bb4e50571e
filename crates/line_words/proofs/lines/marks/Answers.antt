use Rattle.std.proofs.Common.{◌==◌, w8, arith}
use Rattle.std.proofs.lemmas.Simd.{bitmask_splat}
use Rattle.line_words.proofs.lines.marks.Goals as goal

pub returns : goal.returns
returns c = record {
  value = bitmask_splat w8 (λ a b. a == b) c.args.bytes 16 c.args.wanted c.fits-bytes.0 (omega arith);
}
