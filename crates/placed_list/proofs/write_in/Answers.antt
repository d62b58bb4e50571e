use Rattle.placed_list.proofs.Storage.{written_order}
use Rattle.placed_list.proofs.write_in.Goals as goal

pub returns-clause-written : goal.returns-clause-written
returns-clause-written g c = written_order c.args.items.now c.args.item c.args.order.now c.args.at c.requires.inside c.requires.distinct c.requires.there
