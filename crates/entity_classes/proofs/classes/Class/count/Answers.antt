use Rattle.std.proofs.Common.{length, subst, ap, arith}
use Rattle.std.proofs.lemmas.List.{length-map}
use Rattle.entity_classes.specs.Rule.{IsRow, listed_as}
use Rattle.entity_classes.specs.Kinds.{row_of}
use Rattle.entity_classes.proofs.Rows.{row_rule}
use Rattle.entity_classes.proofs.classes.Class.count.Goals as goal

pub overflow_cast-result : goal.overflow_cast-result
overflow_cast-result c =
    let few = (row_rule c.self.inside.kind).count in
    omega (arith, few, ap length c.shapes.ensures, length-map (row_of c.self.inside.kind).attributes listed_as)

pub returns-clause-rule : goal.returns-clause-rule
returns-clause-rule c = subst IsRow c.self.view_is (row_rule c.self.inside.kind)
