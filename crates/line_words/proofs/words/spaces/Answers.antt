use Rattle.std.proofs.Common.{◌==◌, arith}
use Rattle.line_words.proofs.Vectors.{counts_on, counts_within}
use Rattle.line_words.proofs.words.spaces.Goals as goal

pub loop-rest-preserved : goal.loop-rest-preserved
loop-rest-preserved c = (
  counts_on (λ b. b == 32) c.loop-rest.rest.now 16 c.loop-rest.count c.marks.result _
      (omega (arith, c.loop-rest-test.true)) c.marks.ensures.value c.loop-rest.invariant.0,
  counts_within (λ b. b == 32) c.loop-rest.rest.now 16 c.loop-rest.count c.marks.result _
      (omega (arith, c.loop-rest-test.true)) c.marks.ensures.value c.loop-rest.invariant.1,
)
