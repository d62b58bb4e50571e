use Rattle.std.proofs.Common.{rules}
use Rattle.placed_list.proofs.Storage.{empty_index}
use Rattle.placed_list.proofs.PlacedList.new.Goals as goal

pub invariant_of-result : goal.invariant_of-result
invariant_of-result g c = empty_index c.new.result.items c.new-2.result.items (search rules) (search rules)
