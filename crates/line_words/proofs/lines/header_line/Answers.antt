use Rattle.std.proofs.Common.{sym, ap, ◌∙◌, arith, length, refl}
use Rattle.std.proofs.lemmas.Bool.{eqb-true}
use Rattle.script_spec.specs.Text.{lines_of, opening}
use Rattle.line_words.proofs.Opening.{passed_line, plain_line, no_line, lines_of-empty}
use Rattle.line_words.proofs.lines.header_line.Goals as goal

pub returns-then-not-is_passed_over-clause-value : goal.returns-then-not-is_passed_over-clause-value
returns-then-not-is_passed_over-clause-value c =
    sym c.loop-rest.invariant.1 ∙ ap (opening c.loop-rest.line) c.next_line.ensures.lines
    ∙ plain_line c.loop-rest.line c.next_line.result.0.now (lines_of c.next_line.result.1.now)
    (sym c.is_passed_over.ensures.value ∙ c.if-not-is_passed_over.true)

pub loop-rest-preserved : goal.loop-rest-preserved
loop-rest-preserved c = (
  omega arith,
  sym (passed_line c.loop-rest.line c.next_line.result.0.now (lines_of c.next_line.result.1.now)
      (sym c.is_passed_over.ensures.value ∙ c.if-not-is_passed_over.false))
      ∙ ap (opening c.loop-rest.line) (sym c.next_line.ensures.lines)
      ∙ c.loop-rest.invariant.1,
)

pub returns-clause-value : goal.returns-clause-value
returns-clause-value c = (
  c.loop-rest.line,
  sym c.loop-rest.invariant.1
      ∙ ap (opening c.loop-rest.line)
      (lines_of-empty c.loop-rest.rest.now
      (eqb-true (length c.loop-rest.rest.now) 0 (sym c.is_empty.ensures ∙ c.loop-rest-test.false)))
      ∙ no_line c.loop-rest.line,
  refl,
)
