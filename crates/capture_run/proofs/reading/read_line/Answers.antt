use Rattle.std.proofs.Common.{sym, ap, ◌∙◌, Some, None}
use Rattle.std.proofs.lemmas.List.{append-nil}
use Rattle.std.proofs.lemmas.Result.{err_from_is_err_and}
use Rattle.capture_run.proofs.Loops.{passed_item, some_item}
use Rattle.capture_run.proofs.Faults.{item_fails}
use Rattle.capture_run.proofs.reading.read_line.Goals as goal

pub returns-then-is_passed_over : goal.returns-then-is_passed_over
returns-then-is_passed_over c = record {
  value = (
    None,
    passed_item c.args.line c.args.text.now
        (sym c.is_passed_over.ensures.value ∙ c.if-is_passed_over.true),
    sym (append-nil _),
  );
}

pub returns-in_err-item : goal.returns-in_err-item
returns-in_err-item c =
    let p = err_from_is_err_and c.from_residual.result c.from_residual.ensures.1 in
    rw (p.1, p.2)
    (record {
      value =
          item_fails c.in_err-item.field-0.0 c.args.line c.args.text.now
          (sym c.is_passed_over.ensures.value ∙ c.if-is_passed_over.false)
          c.in_err-item.ensures.value;
    })

pub returns-in-Ok : goal.returns-in-Ok
returns-in-Ok c = record {
  value = (
    Some c.in_ok-item.item,
    some_item c.args.line c.args.text.now c.in_ok-item.item
        (sym c.is_passed_over.ensures.value ∙ c.if-is_passed_over.false)
        c.in_ok-item.ensures.value,
    c.in-Ok.ensures.ok,
  );
}
