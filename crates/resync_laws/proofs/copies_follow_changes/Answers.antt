use Rattle.resync_laws.proofs.Following.{snapshot_copied, counters_agree, created_copied, deleted_copied, set_copied, create_refused, delete_refused, set_refused}
use Rattle.resync_laws.proofs.copies_follow_changes.Goals as goal

pub returns-clause-snapshot : goal.returns-clause-snapshot
returns-clause-snapshot c database whole counted = snapshot_copied database whole counted

pub returns-clause-counter : goal.returns-clause-counter
returns-clause-counter c database copy h = counters_agree database copy h

pub returns-clause-create : goal.returns-clause-create
returns-clause-create c phase one given database copy instance long h code =
    created_copied one given database copy instance long h code

pub returns-clause-delete : goal.returns-clause-delete
returns-clause-delete c phase one database copy h code = deleted_copied one database copy h code

pub returns-clause-set : goal.returns-clause-set
returns-clause-set c phase one mask given database copy h code =
    set_copied one mask given database copy h code

pub returns-clause-create_refused : goal.returns-clause-create_refused
returns-clause-create_refused c one given database other = create_refused one given database other

pub returns-clause-delete_refused : goal.returns-clause-delete_refused
returns-clause-delete_refused c one database other = delete_refused one database other

pub returns-clause-set_refused : goal.returns-clause-set_refused
returns-clause-set_refused c one mask given database other =
    set_refused one mask given database other
