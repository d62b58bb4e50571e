use Rattle.std.proofs.Common.{◌≡◌, Some, subst, refl}
use Rattle.script_spec.specs.Grammar.{WritesOrders}
use Rattle.script_spec.specs.Fault.{orders_fault}
use Rattle.omci_top.proofs.OltLemmas.{olt_ran, olt_told}
use Rattle.omci_top.proofs.olt.answer.Goals as goal

pub returns-in-Ok : goal.returns-in-Ok
returns-in-Ok g c = record {
  ends =
      olt_ran g.L.Link.left g.L.Link.sent g.L.Link.faults c.args.turns c.args.link.now c.run_orders.new.link _ _ _ _
      c.run_orders.result c.in-Ok.orders c.args.input.items
      (subst (λ bytes. WritesOrders c.in-Ok.orders bytes) c.deref.ensures.value c.in-Ok.ensures.written)
      c.run_orders.ensures.ran;
}

pub returns-in-Err-Fault : goal.returns-in-Err-Fault
returns-in-Err-Fault g c = record {
  ends =
      olt_told g.L.Link.left g.L.Link.sent g.L.Link.faults c.args.turns c.args.link.now c.args.link.now _ _ _ _
      c.tell_fault.result c.in-Err-Fault.line c.in-Err-Fault.reason c.args.input.items
      (subst (λ bytes. orders_fault bytes ≡ Some (c.in-Err-Fault.line, c.in-Err-Fault.reason)) c.deref.ensures.value (rw c.in-Err-Fault.field-0-is at c.in-Err-Fault.ensures.refused))
      refl c.tell_fault.ensures.ran;
}
