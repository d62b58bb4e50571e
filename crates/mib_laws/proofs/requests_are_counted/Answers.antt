use Rattle.mib_laws.proofs.Counting.{counter_grown, create_counts, delete_counts}
use Rattle.mib_laws.proofs.requests_are_counted.Goals as goal

pub returns-clause-grown : goal.returns-clause-grown
returns-clause-grown c database is = counter_grown database is

pub returns-clause-create : goal.returns-clause-create
returns-clause-create c one given database is done = create_counts one given database is done

pub returns-clause-delete : goal.returns-clause-delete
returns-clause-delete c one database is done = delete_counts one database is done
