use Rattle.std.proofs.Common.{ap, sym, length, length-take, arith}
use Rattle.placed_list.proofs.Storage.{distinct_take, view_length}
use Rattle.placed_list.proofs.PlacedList.set.Goals as goal

pub write_in-requires-clause-distinct : goal.write_in-requires-clause-distinct
write_in-requires-clause-distinct g c = rw c.deref.ensures.value (distinct_take _ _ c.self.invariant.places.distinct)

pub write_in-requires-clause-there : goal.write_in-requires-clause-there
write_in-requires-clause-there g c =
    omega (arith, c.requires, ap length (sym c.self.view_is), view_length c.self.inside.items.items c.self.inside.order.items c.self.inside.count c.self.invariant, length-take c.self.inside.count c.deref.result.now, ap length c.deref.ensures.value, c.self.invariant.used, c.self.invariant.places.same)
