use Rattle.mib_laws.proofs.Others.{other_with_entity, other_without_entity, other_with_values, here_with_entity, here_with_values}
use Rattle.mib_laws.proofs.others_stay.Goals as goal

pub returns-clause-with_entity : goal.returns-clause-with_entity
returns-clause-with_entity c one other managed database differ = other_with_entity one other differ managed database

pub returns-clause-without_entity : goal.returns-clause-without_entity
returns-clause-without_entity c one other database differ = other_without_entity one other differ database

pub returns-clause-with_values : goal.returns-clause-with_values
returns-clause-with_values c one other values database differ = other_with_values one other differ values database

pub returns-clause-entity_is_there : goal.returns-clause-entity_is_there
returns-clause-entity_is_there c one managed database = here_with_entity one managed database

pub returns-clause-values_are_there : goal.returns-clause-values_are_there
returns-clause-values_are_there c one values database = here_with_values one values database
