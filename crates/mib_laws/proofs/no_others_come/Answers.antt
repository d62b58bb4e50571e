use Rattle.mib_spec.specs.Database.{first, image_values}
use Rattle.mib_laws.proofs.Made.{made_first, made_create, made_delete, made_set, made_reset, made_sense, made_grown, made_software}
use Rattle.mib_laws.proofs.no_others_come.Goals as goal

pub returns-clause-first : goal.returns-clause-first
unfolding first
returns-clause-first c software = made_first (image_values 0 software) (image_values 1 software)

pub returns-clause-create : goal.returns-clause-create
returns-clause-create c one given database h = made_create one given database h

pub returns-clause-delete : goal.returns-clause-delete
returns-clause-delete c one database h = made_delete one database h

pub returns-clause-set : goal.returns-clause-set
returns-clause-set c one mask given database h = made_set one mask given database h

pub returns-clause-reset : goal.returns-clause-reset
returns-clause-reset c database = made_reset database

pub returns-clause-sense : goal.returns-clause-sense
returns-clause-sense c one number value database h = made_sense one number value database h

pub returns-clause-grown : goal.returns-clause-grown
returns-clause-grown c database h = made_grown database h

pub returns-clause-software : goal.returns-clause-software
returns-clause-software c software database h = made_software software database h
