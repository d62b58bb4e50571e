use Rattle.std.proofs.Common.{sym, ap, ◌∙◌, Some, None, map}
use Rattle.std.proofs.lemmas.List.{append-nil, map_push}
use Rattle.std.proofs.lemmas.Result.{err_from_is_err_and}
use Rattle.replay_script.specs.Events.{action_of}
use Rattle.replay_script.proofs.Loops.{passed_event, some_event}
use Rattle.replay_script.proofs.Faults.{event_fails}
use Rattle.replay_script.proofs.reading.read_line.Goals as goal

pub returns-then-is_passed_over : goal.returns-then-is_passed_over
returns-then-is_passed_over c = record {
  value = (
    None,
    passed_event c.args.document c.args.line c.args.text.now
        (sym c.is_passed_over.ensures.value ∙ c.if-is_passed_over.true),
    sym (append-nil _),
  );
}

pub returns-in_err-event : goal.returns-in_err-event
returns-in_err-event c =
    let p = err_from_is_err_and c.from_residual.result c.from_residual.ensures.1 in
    rw (p.1, p.2)
    (record {
      value =
          event_fails c.in_err-event.field-0.0 c.args.document c.args.line c.args.text.now
          (sym c.is_passed_over.ensures.value ∙ c.if-is_passed_over.false)
          c.in_err-event.ensures.value;
    })

pub returns : goal.returns
returns c = record {
  value = (
    Some (action_of c.in_ok-event.event),
    some_event c.args.document c.args.line c.args.text.now (action_of c.in_ok-event.event)
        (sym c.is_passed_over.ensures.value ∙ c.if-is_passed_over.false)
        c.in_ok-event.ensures.value,
    ap (map action_of) c.in_ok-push.ensures.items
        ∙ map_push action_of c.args.events.now.items c.in_ok-event.event,
  );
}
