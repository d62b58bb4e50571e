use Rattle.std.proofs.Common.{◌≡◌, ◌+◌, ◌==◌, map, sym, ap, arith}
use Rattle.line_words.proofs.Vectors.{found_at, goes_on}
use Rattle.line_words.proofs.lines.far_place_of.Goals as goal

pub returns-then-found-ne0 : goal.returns-then-found-ne0
returns-then-found-ne0 c = record {
  value =
      sym (found_at (λ b. b == c.args.wanted) c.args.bytes.now c.loop-passed.passed 16 c.marks-found.result
      (omega (arith, c.loop-passed-test.true)) (omega arith) c.marks-found.ensures.value
      (omega (arith, c.if-found-ne0.true)) c.loop-passed.invariant.1);
}

pub loop-passed-preserved : goal.loop-passed-preserved
loop-passed-preserved c = (
  omega (arith, c.loop-passed-test.true, c.loop-passed.invariant.0),
  goes_on (λ b. b == c.args.wanted) c.args.bytes.now c.loop-passed.passed 16 c.marks-found.result
      (omega (arith, c.loop-passed-test.true, c.loop-passed.invariant.0)) c.marks-found.ensures.value
      c.if-found-ne0.false c.loop-passed.invariant.1,
)
