use Rattle.std.proofs.Common.{refl}
use Rattle.std.proofs.lemmas.List.Sorted.{IsPermutation-put_mid}
use Rattle.placed_list.proofs.Storage.{moved_up}
use Rattle.placed_list.proofs.move_to.Goals as goal

pub returns-clause-front : goal.returns-clause-front
returns-clause-front c = moved_up c.args.order.now c.rotate_right.new.self c.args.from c.args.at _ c.requires.before c.requires.there refl c.rotate_right.ensures.len c.rotate_right.ensures.after

pub returns-clause-moved : goal.returns-clause-moved
returns-clause-moved c = IsPermutation-put_mid c.args.at _ c.args.order.now c.rotate_right.new.self c.rotate_right.ensures.permutation
