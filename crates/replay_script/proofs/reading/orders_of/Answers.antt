use Rattle.std.proofs.Common.{◌+◌, sym, ap, ◌∙◌, map, Ok}
use Rattle.std.proofs.lemmas.Result.{err_from_is_err_and}
use Rattle.script_spec.specs.declared.Document.TheVariants as documents
use Rattle.script_spec.specs.Text.{lines_of}
use Rattle.script_spec.specs.Reading.{orders_header_at, orders_of, orders_reading}
use Rattle.script_laws.proofs.Ranges.{read_orders_header_range, read_actions_range, read_actions_kinds}
use Rattle.replay_script.specs.Events.{action_of, lanes_of}
use Rattle.replay_script.proofs.Loops.{whole}
use Rattle.replay_script.proofs.Faults.{opening_fails, header_fails, later_fails}
use Rattle.replay_script.proofs.reading.orders_of.Goals as goal

pub returns-in_err-first : goal.returns-in_err-first
unfolding orders_reading
returns-in_err-first c =
    let p = err_from_is_err_and c.from_residual.result c.from_residual.ensures.1 in
    rw (p.1, p.2)
    (record {
      exact =
          opening_fails orders_header_at orders_of documents.Orders c.args.bytes.now c.in_err-first.field-0.0
          c.in_err-first.ensures.value;
    })

pub returns-in_err-numbers : goal.returns-in_err-numbers
unfolding orders_reading
returns-in_err-numbers c =
    let p =
    err_from_is_err_and c.from_residual-in_err-numbers.result
    c.from_residual-in_err-numbers.ensures.1 in
    rw (p.1, p.2)
    (record {
      exact =
          header_fails orders_header_at orders_of documents.Orders c.args.bytes.now c.in_err-numbers.field-0.0
          c.in_ok-first.first.line c.in_ok-first.first.text.now
          (lines_of c.in_ok-first.first.rest.now) c.in_ok-first.ensures.value
          c.in_err-numbers.ensures.value;
    })

pub returns-in_err-events : goal.returns-in_err-events
unfolding orders_reading
returns-in_err-events c =
    let p =
    err_from_is_err_and c.from_residual-in_err-events.result
    c.from_residual-in_err-events.ensures.1 in
    rw (p.1, p.2)
    (record {
      exact =
          later_fails orders_header_at orders_of documents.Orders c.args.bytes.now c.in_err-events.field-0.0
          c.in_ok-first.first.line c.in_ok-first.first.text.now
          (lines_of c.in_ok-first.first.rest.now) (lanes_of c.in_ok-numbers.numbers)
          c.in_ok-first.ensures.value c.in_ok-numbers.ensures.value c.in_err-events.ensures.value;
    })

pub new-requires-clause-header : goal.new-requires-clause-header
new-requires-clause-header c =
    read_orders_header_range c.in_ok-first.first.line c.in_ok-first.first.text.now
    (lanes_of c.in_ok-numbers.numbers) c.in_ok-numbers.ensures.value

pub new-requires-clause-events : goal.new-requires-clause-events
new-requires-clause-events c =
    read_actions_range documents.Orders (c.in_ok-first.first.line + 1)
    (lines_of c.in_ok-first.first.rest.now) (map action_of c.in_ok-events.events.items)
    c.in_ok-events.ensures.value

pub new-requires-clause-manager : goal.new-requires-clause-manager
new-requires-clause-manager c =
    read_actions_kinds documents.Orders (c.in_ok-first.first.line + 1)
    (lines_of c.in_ok-first.first.rest.now) (map action_of c.in_ok-events.events.items)
    c.in_ok-events.ensures.value

pub returns : goal.returns
unfolding orders_reading
returns c = record {
  exact =
      whole orders_header_at orders_of documents.Orders c.args.bytes.now c.in_ok-first.first.line
      c.in_ok-first.first.text.now (lines_of c.in_ok-first.first.rest.now)
      (lanes_of c.in_ok-numbers.numbers) (map action_of c.in_ok-events.events.items)
      c.in_ok-first.ensures.value c.in_ok-numbers.ensures.value c.in_ok-events.ensures.value
      ∙ ap Ok (sym c.new.ensures.value);
}
