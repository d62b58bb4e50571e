use Rattle.std.proofs.Common.{◌≡◌, ◌+◌, ◌∙◌, ap, sym, subst, rules, take, length, arith}
use Rattle.std.specs.List.{insert}
use Rattle.std.specs.List.Sorted.{IsPermutation}
use Rattle.std.proofs.lemmas.List.{with_items_is, places}
use Rattle.placed_list.specs.Places.{place_at}
use Rattle.placed_list.proofs.Storage.{inserted_index, inserted_view, view_length}
use Rattle.placed_list.proofs.PlacedList.insert.Goals as goal

pub move_to-requires-clause-before : goal.move_to-requires-clause-before
move_to-requires-clause-before g c =
    omega (arith, c.requires, ap length (sym c.self.view_is), view_length c.self.inside.items.items c.self.inside.order.items c.self.inside.count c.self.invariant)

pub invariant_of-self-2 : goal.invariant_of-self-2
invariant_of-self-2 g c =
    inserted_index c.self.inside.items.items c.self.inside.order.items c.self.inside.count c.lodge.new.items.items c.lodge.new.order.items c.move_to.new.order _ c.args.item c.in_ok-lodge.ensures.ok
    (subst (λ o. IsPermutation o c.move_to.new.order) c.deref_mut.ensures.value c.move_to.ensures.moved)
    (with_items_is c.lodge.new.order c.move_to.new.order (search (rules, places)))

pub returns-clause-ok : goal.returns-clause-ok
returns-clause-ok g c =
    inserted_view c.self.inside.items.items c.self.inside.order.items c.self.inside.count c.args.at c.lodge.new.items.items c.lodge.new.order.items c.move_to.new.order _ c.args.item c.in_ok-lodge.ensures.ok
    (subst (λ o. IsPermutation o c.move_to.new.order) c.deref_mut.ensures.value c.move_to.ensures.moved)
    (subst (λ o. take (c.self.inside.count + 1) c.move_to.new.order ≡ insert (take c.self.inside.count o) c.args.at (place_at o c.self.inside.count)) c.deref_mut.ensures.value c.move_to.ensures.front)
    (with_items_is c.lodge.new.order c.move_to.new.order (search (rules, places)))
    ∙ ap (λ l. insert l c.args.at c.args.item) c.self.view_is
