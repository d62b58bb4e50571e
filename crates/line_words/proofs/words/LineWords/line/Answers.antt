use Rattle.std.proofs.Common.{sym, ◌∙◌}
use Rattle.std.proofs.lemmas.Result.{err_from_is_err_and}
use Rattle.script_spec.specs.Reading.{line_named}
use Rattle.line_words.proofs.Names.{known_line, unknown_line, unnamed_line}
use Rattle.line_words.proofs.words.LineWords.line.Goals as goal

pub returns-in_err-line : goal.returns-in_err-line
returns-in_err-line c =
    let p = err_from_is_err_and c.from_residual.result c.from_residual.ensures.1 in
    rw (p.1, p.2)
    (record {
      value =
          unnamed_line c.in_err-line.field-0.0 c.args.document (line_named c.args.self.now)
          c.in_err-line.ensures.value;
    })

pub returns-then-has : goal.returns-then-has
returns-then-has c = record {
  value =
      known_line c.args.document (line_named c.args.self.now) _ c.in_ok-line.ensures.value
      (sym c.has.ensures.value ∙ c.if-has.true);
}

pub returns-else-has : goal.returns-else-has
returns-else-has c = record {
  value =
      unknown_line c.args.document (line_named c.args.self.now) _ c.in_ok-line.ensures.value
      (sym c.has.ensures.value ∙ c.if-has.false);
}
