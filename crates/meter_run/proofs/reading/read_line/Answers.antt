use Rattle.std.proofs.Common.{sym, ◌∙◌, Some, None}
use Rattle.std.proofs.lemmas.List.{append-nil}
use Rattle.std.proofs.lemmas.Result.{err_from_is_err_and}
use Rattle.meter_run.proofs.Fronts.{passed_line, some_line, line_fails}
use Rattle.meter_run.proofs.reading.read_line.Goals as goal

pub returns-then-is_passed_over : goal.returns-then-is_passed_over
returns-then-is_passed_over c = record {
  value = (
    None,
    passed_line c.args.number c.args.text.now
        (sym c.is_passed_over.ensures.value ∙ c.if-is_passed_over.true),
    sym (append-nil _),
  );
}

pub returns-in_err-line : goal.returns-in_err-line
returns-in_err-line c =
    let p = err_from_is_err_and c.from_residual.result c.from_residual.ensures.1 in
    rw (p.1, p.2)
    (record {
      value =
          line_fails c.in_err-line.field-0.0 c.args.number c.args.text.now
          (sym c.is_passed_over.ensures.value ∙ c.if-is_passed_over.false)
          c.in_err-line.ensures.value;
    })

pub returns : goal.returns
returns c = record {
  value = (
    Some c.in_ok-line.line,
    some_line c.args.number c.args.text.now c.in_ok-line.line
        (sym c.is_passed_over.ensures.value ∙ c.if-is_passed_over.false)
        c.in_ok-line.ensures.value,
    c.in_ok-push.ensures.items,
  );
}
