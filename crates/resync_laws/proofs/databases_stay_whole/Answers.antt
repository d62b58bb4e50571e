use Rattle.resync_laws.proofs.Databases.{first_whole, create_whole, delete_whole, set_whole, reset_whole, sense_whole}
use Rattle.resync_laws.proofs.databases_stay_whole.Goals as goal

pub returns-clause-first : goal.returns-clause-first
returns-clause-first c software h = first_whole software h

pub returns-clause-create : goal.returns-clause-create
returns-clause-create c one given database instance long h = create_whole one given database instance long h

pub returns-clause-delete : goal.returns-clause-delete
returns-clause-delete c one database h = delete_whole one database h

pub returns-clause-set : goal.returns-clause-set
returns-clause-set c one mask given database h = set_whole one mask given database h

pub returns-clause-reset : goal.returns-clause-reset
returns-clause-reset c database h = reset_whole database h

pub returns-clause-sense : goal.returns-clause-sense
returns-clause-sense c one number value database h = sense_whole one number value database h
