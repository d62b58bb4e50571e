use Rattle.std.proofs.Common.{◌≤◌, ◌∙◌, ap, sym, length, take, arith}
use Rattle.placed_list.proofs.Storage.{truncated_index, truncated_view, view_length}
use Rattle.placed_list.proofs.PlacedList.truncate.Goals as goal

pub invariant_of-self : goal.invariant_of-self
invariant_of-self g c =
    let size = ap length (sym c.self.view_is) ∙ view_length c.self.inside.items.items c.self.inside.order.items c.self.inside.count c.self.invariant in
    truncated_index c.self.inside.items.items c.self.inside.order.items c.self.inside.count c.args.count (omega (arith, size, c.requires)) c.self.invariant

pub returns : goal.returns
returns g c = record {
  front =
      let size = ap length (sym c.self.view_is) ∙ view_length c.self.inside.items.items c.self.inside.order.items c.self.inside.count c.self.invariant in
      truncated_view c.self.inside.items.items c.self.inside.order.items c.self.inside.count c.args.count (omega (arith, size, c.requires)) c.self.invariant ∙ ap (take c.args.count) c.self.view_is;
}
