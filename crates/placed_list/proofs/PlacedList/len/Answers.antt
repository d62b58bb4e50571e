use Rattle.std.proofs.Common.{◌∙◌, ap, sym, length}
use Rattle.placed_list.proofs.Storage.{view_length}
use Rattle.placed_list.proofs.PlacedList.len.Goals as goal

pub returns : goal.returns
returns g c = record { value = sym (ap length (sym c.self.view_is) ∙ view_length c.self.inside.items.items c.self.inside.order.items c.self.inside.count c.self.invariant) }
