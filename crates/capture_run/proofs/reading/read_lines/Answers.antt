use Rattle.std.proofs.Common.{◌+◌, sym, ap, ◌∙◌, arith, length}
use Rattle.std.proofs.lemmas.Bool.{eqb-true}
use Rattle.std.proofs.lemmas.Result.{err_from_is_err_and}
use Rattle.script_spec.specs.Text.{lines_of}
use Rattle.capture_spec.specs.Input.{lines_reading}
use Rattle.line_words.proofs.Opening.{lines_of-empty}
use Rattle.capture_run.proofs.Loops.{with_front, begins, goes_on, ends}
use Rattle.capture_run.proofs.Faults.{lines_fail}
use Rattle.capture_run.proofs.reading.read_lines.Goals as goal

pub returns-in_err-read_line : goal.returns-in_err-read_line
returns-in_err-read_line c =
    let p = err_from_is_err_and c.from_residual.result c.from_residual.ensures.1 in
    rw (p.1, p.2)
    (record {
      value =
          lines_fail c.in_err-read_line.field-0.0 c.loop-rest.capture
          c.loop-rest.line c.next_line.result.0.now (lines_of c.next_line.result.1.now)
          (lines_of c.loop-rest.rest.now) (lines_reading c.args.first (lines_of c.args.bytes.now))
          c.next_line.ensures.lines c.loop-rest.invariant.1 c.in_err-read_line.ensures.value;
    })

pub loop-rest-preserved : goal.loop-rest-preserved
loop-rest-preserved c =
    let added = c.in_ok-read_line.ensures.value in
    let lines = lines_of c.next_line.result.1.now in (
      omega arith,
      ap (λ so_far. with_front so_far (lines_reading (c.loop-rest.line + 1) lines)) added.2
          ∙ goes_on c.loop-rest.capture c.loop-rest.line c.next_line.result.0.now lines added.0 added.1
          ∙ ap (λ ls. with_front c.loop-rest.capture (lines_reading c.loop-rest.line ls))
          (sym c.next_line.ensures.lines) ∙ c.loop-rest.invariant.1,
    )

pub returns : goal.returns
returns c =
    record {
      value =
          sym c.loop-rest.invariant.1
          ∙ ap (λ ls. with_front c.loop-rest.capture (lines_reading c.loop-rest.line ls))
          (lines_of-empty c.loop-rest.rest.now
          (eqb-true (length c.loop-rest.rest.now) 0
          (sym c.is_empty.ensures ∙ c.loop-rest-test.false))) ∙ ends c.loop-rest.capture c.loop-rest.line;
    }
