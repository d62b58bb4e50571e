use Rattle.std.proofs.Common.{◌∙◌, ap, sym, length, get_or, arith}
use Rattle.placed_list.proofs.Storage.{view_length, item_is, place_inside}
use Rattle.placed_list.proofs.PlacedList.get.Goals as goal

pub index-requires : goal.index-requires
index-requires g c =
    omega (arith, c.requires, ap length (sym c.self.view_is), view_length c.self.inside.items.items c.self.inside.order.items c.self.inside.count c.self.invariant, c.self.invariant.used, c.self.invariant.places.same)

pub index-requires-2 : goal.index-requires-2
index-requires-2 g c =
    let size = ap length (sym c.self.view_is) ∙ view_length c.self.inside.items.items c.self.inside.order.items c.self.inside.count c.self.invariant in
    omega (arith, place_inside c.self.inside.items.items c.self.inside.order.items c.self.inside.count c.args.at c.index.result.now c.self.invariant (omega (arith, c.requires, size)) c.index.ensures)

pub returns : goal.returns
returns g c = record {
  value = λ other.
      let size = ap length (sym c.self.view_is) ∙ view_length c.self.inside.items.items c.self.inside.order.items c.self.inside.count c.self.invariant in
      item_is c.self.inside.items.items c.self.inside.order.items c.self.inside.count c.args.at c.index.result.now c.index-2.result.now other c.self.invariant (omega (arith, c.requires, size)) c.index.ensures c.index-2.ensures
      ∙ ap (λ l. get_or l c.args.at other) c.self.view_is;
}
