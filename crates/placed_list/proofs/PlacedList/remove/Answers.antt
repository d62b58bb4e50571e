use Rattle.std.proofs.Common.{◌≡◌, ◌+◌, ◌-◌, ◌∙◌, ap, sym, subst, rules, length, take, arith}
use Rattle.std.specs.List.{remove}
use Rattle.std.specs.List.Sorted.{IsPermutation}
use Rattle.std.proofs.lemmas.List.{with_items_is, places}
use Rattle.placed_list.proofs.Storage.{removed_index, removed_view, view_length}
use Rattle.placed_list.proofs.PlacedList.remove.Goals as goal

pub move_to_end-requires-clause-before : goal.move_to_end-requires-clause-before
move_to_end-requires-clause-before g c =
    omega (arith, c.requires, ap length (sym c.self.view_is), view_length c.self.inside.items.items c.self.inside.order.items c.self.inside.count c.self.invariant)

pub invariant_of-self : goal.invariant_of-self
invariant_of-self g c =
    removed_index c.self.inside.items.items c.self.inside.order.items c.self.inside.count c.move_to_end.new.order _ c.self.invariant
    (subst (λ o. IsPermutation o c.move_to_end.new.order) c.deref_mut.ensures.value c.move_to_end.ensures.moved)
    (with_items_is c.self.inside.order c.move_to_end.new.order (search (rules, places)))

pub returns : goal.returns
returns g c = record {
  removed =
      let size = ap length (sym c.self.view_is) ∙ view_length c.self.inside.items.items c.self.inside.order.items c.self.inside.count c.self.invariant in
      removed_view c.self.inside.items.items c.self.inside.order.items c.self.inside.count c.args.at c.move_to_end.new.order _ c.self.invariant (omega (arith, size, c.requires))
      (subst (λ o. IsPermutation o c.move_to_end.new.order) c.deref_mut.ensures.value c.move_to_end.ensures.moved)
      (subst (λ o. take (c.self.inside.count - 1) c.move_to_end.new.order ≡ remove (take (c.self.inside.count - 1 + 1) o) c.args.at) c.deref_mut.ensures.value c.move_to_end.ensures.front)
      (with_items_is c.self.inside.order c.move_to_end.new.order (search (rules, places)))
      ∙ ap (λ l. remove l c.args.at) c.self.view_is;
}
