use Rattle.std.proofs.Common.{◌≡◌, Ok, Err, subst, sym}
use Rattle.omci_top.specs.Filters.{filtered}
use Rattle.omci_top.proofs.FilterLemmas.{filter_ran, filter_told}
use Rattle.omci_top.proofs.filter.answer.Goals as goal

pub returns-in-Ok : goal.returns-in-Ok
returns-in-Ok g c = record {
  ends =
      filter_ran c.args.filter _ _ _ _ c.write_text.result c.deref-in-Ok.result.now c.args.input.items
      (subst (λ text. filtered c.args.filter c.args.input.items ≡ Ok text) (sym c.deref-in-Ok.ensures.value)
      (subst (λ bytes. filtered c.args.filter bytes ≡ Ok c.in-Ok.text.items) c.deref.ensures.value c.in-Ok.ensures.value))
      c.write_text.ensures.ran;
}

pub returns-in-Err-Fault : goal.returns-in-Err-Fault
returns-in-Err-Fault g c = record {
  ends =
      filter_told c.args.filter _ _ _ _ c.tell_fault.result c.in-Err-Fault.line c.in-Err-Fault.reason c.args.input.items
      (subst (λ bytes. filtered c.args.filter bytes ≡ Err (c.in-Err-Fault.line, c.in-Err-Fault.reason)) c.deref.ensures.value (rw c.in-Err-Fault.field-0-is at c.in-Err-Fault.ensures.value))
      c.tell_fault.ensures.ran;
}
