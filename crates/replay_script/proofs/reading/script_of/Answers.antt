use Rattle.std.proofs.Common.{◌+◌, sym, ap, ◌∙◌, map, Ok}
use Rattle.std.proofs.lemmas.Result.{err_from_is_err_and}
use Rattle.script_spec.specs.declared.Document.TheVariants as documents
use Rattle.script_spec.specs.Text.{lines_of}
use Rattle.script_spec.specs.Reading.{header_at, script_of, reading}
use Rattle.script_laws.proofs.Ranges.{read_header_range, read_actions_range}
use Rattle.replay_script.specs.Events.{action_of, header_of}
use Rattle.replay_script.proofs.Loops.{whole}
use Rattle.replay_script.proofs.Faults.{opening_fails, header_fails, later_fails}
use Rattle.replay_script.proofs.reading.script_of.Goals as goal

pub returns-in_err-first : goal.returns-in_err-first
unfolding reading
returns-in_err-first c =
    let p = err_from_is_err_and c.from_residual.result c.from_residual.ensures.1 in
    rw (p.1, p.2)
    (record {
      exact =
          opening_fails header_at script_of documents.Script c.args.bytes.now c.in_err-first.field-0.0
          c.in_err-first.ensures.value;
    })

pub returns-in_err-header : goal.returns-in_err-header
unfolding reading
returns-in_err-header c =
    let p =
    err_from_is_err_and c.from_residual-in_err-header.result
    c.from_residual-in_err-header.ensures.1 in
    rw (p.1, p.2)
    (record {
      exact =
          header_fails header_at script_of documents.Script c.args.bytes.now c.in_err-header.field-0.0
          c.in_ok-first.first.line c.in_ok-first.first.text.now
          (lines_of c.in_ok-first.first.rest.now) c.in_ok-first.ensures.value
          c.in_err-header.ensures.value;
    })

pub returns-in_err-events : goal.returns-in_err-events
unfolding reading
returns-in_err-events c =
    let p =
    err_from_is_err_and c.from_residual-in_err-events.result
    c.from_residual-in_err-events.ensures.1 in
    rw (p.1, p.2)
    (record {
      exact =
          later_fails header_at script_of documents.Script c.args.bytes.now c.in_err-events.field-0.0
          c.in_ok-first.first.line c.in_ok-first.first.text.now
          (lines_of c.in_ok-first.first.rest.now) (header_of c.in_ok-header.header)
          c.in_ok-first.ensures.value c.in_ok-header.ensures.value c.in_err-events.ensures.value;
    })

pub new-requires-clause-header : goal.new-requires-clause-header
new-requires-clause-header c =
    read_header_range c.in_ok-first.first.line c.in_ok-first.first.text.now
    (header_of c.in_ok-header.header) c.in_ok-header.ensures.value

pub new-requires-clause-events : goal.new-requires-clause-events
new-requires-clause-events c =
    read_actions_range documents.Script (c.in_ok-first.first.line + 1)
    (lines_of c.in_ok-first.first.rest.now) (map action_of c.in_ok-events.events.items)
    c.in_ok-events.ensures.value

pub returns : goal.returns
unfolding reading
returns c = record {
  exact =
      whole header_at script_of documents.Script c.args.bytes.now c.in_ok-first.first.line
      c.in_ok-first.first.text.now (lines_of c.in_ok-first.first.rest.now)
      (header_of c.in_ok-header.header) (map action_of c.in_ok-events.events.items)
      c.in_ok-first.ensures.value c.in_ok-header.ensures.value c.in_ok-events.ensures.value
      ∙ ap Ok (sym c.new.ensures.value);
}
