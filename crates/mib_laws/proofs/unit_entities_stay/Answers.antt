use Rattle.mib_spec.specs.Database.{first, image_values}
use Rattle.mib_laws.proofs.UnitEntities.{first_has, keeps_create, keeps_delete, keeps_set, keeps_reset, keeps_sense, keeps_grown, keeps_software}
use Rattle.mib_laws.proofs.unit_entities_stay.Goals as goal

pub returns-clause-first : goal.returns-clause-first
unfolding first
returns-clause-first c software = first_has (image_values 0 software) (image_values 1 software)

pub returns-clause-create : goal.returns-clause-create
returns-clause-create c one given database h = keeps_create one given database h

pub returns-clause-delete : goal.returns-clause-delete
returns-clause-delete c one database h = keeps_delete one database h

pub returns-clause-set : goal.returns-clause-set
returns-clause-set c one mask given database h = keeps_set one mask given database h

pub returns-clause-reset : goal.returns-clause-reset
returns-clause-reset c database = keeps_reset database

pub returns-clause-sense : goal.returns-clause-sense
returns-clause-sense c one number value database h = keeps_sense one number value database h

pub returns-clause-grown : goal.returns-clause-grown
returns-clause-grown c database h = keeps_grown database h

pub returns-clause-software : goal.returns-clause-software
returns-clause-software c software database h = keeps_software software database h
