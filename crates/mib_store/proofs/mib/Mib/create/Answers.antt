use Rattle.mib_store.proofs.Kept.{created_whole, created_counts}
use Rattle.mib_store.proofs.mib.Mib.create.Goals as goal

pub invariant_of-self : goal.invariant_of-self
invariant_of-self c = record {
  table = c.create_in.ensures.table;
  whole = created_whole c.create_in.result c.self.inside.table c.create_in.new.table c.args.entity c.args.values.now c.create_in.ensures.ok c.create_in.ensures.err c.self.invariant.whole;
}

pub returns-clause-counter : goal.returns-clause-counter
returns-clause-counter c = created_counts c.create_in.result c.self.inside.table c.create_in.new.table _ c.args.entity c.args.values.now c.create_in.ensures.code c.create_in.ensures.ok c.self.invariant.whole c.self.view_is
