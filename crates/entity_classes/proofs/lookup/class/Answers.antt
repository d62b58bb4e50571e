use Rattle.entity_classes.proofs.Rows.{row_rule}
use Rattle.entity_classes.proofs.lookup.class.Goals as goal

pub returns-in-Some-clause-rule : goal.returns-in-Some-clause-rule
returns-in-Some-clause-rule c = rw c.of.ensures (row_rule c.in-Some.kind)
