use Rattle.std.proofs.Common.{refl}
use Rattle.std.proofs.lemmas.List.Sorted.{IsPermutation-put_mid}
use Rattle.placed_list.proofs.Storage.{moved_down}
use Rattle.placed_list.proofs.move_to_end.Goals as goal

pub returns-clause-front : goal.returns-clause-front
returns-clause-front c = moved_down c.args.order.now c.rotate_left.new.self c.args.last c.args.at _ c.requires.before c.requires.there refl c.rotate_left.ensures.len c.rotate_left.ensures.after

pub returns-clause-moved : goal.returns-clause-moved
returns-clause-moved c = IsPermutation-put_mid c.args.at _ c.args.order.now c.rotate_left.new.self c.rotate_left.ensures.permutation
