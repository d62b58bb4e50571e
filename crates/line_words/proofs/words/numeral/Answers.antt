use Rattle.std.proofs.Common.{arith}
use Rattle.line_words.proofs.Numbers.{one_more_digit}
use Rattle.line_words.proofs.words.numeral.Goals as goal

pub overflow_mul-value : goal.overflow_mul-value
overflow_mul-value c =
    omega (
      arith,
      one_more_digit c.loop-digit.value c.loop-digit.digit-index c.loop-digit.invariant.1
          (omega arith),
    )

pub overflow_add-value : goal.overflow_add-value
overflow_add-value c =
    omega (
      arith,
      one_more_digit c.loop-digit.value c.loop-digit.digit-index c.loop-digit.invariant.1
          (omega arith),
    )
