use Rattle.std.proofs.Common.{sym, ◌∙◌}
use Rattle.script_laws.proofs.Steps.{ok_same}
use Rattle.script_laws.proofs.Scripts.{orders_reading-Writes}
use Rattle.script_laws.proofs.bytes_write_one_orders.Goals as goal

pub returns : goal.returns
returns c = record {
  one =
      λ bytes orders other h i.
      ok_same (sym (orders_reading-Writes orders bytes h) ∙ orders_reading-Writes other bytes i);
}
