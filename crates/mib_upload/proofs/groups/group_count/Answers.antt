use Rattle.std.proofs.Common.{List, ap, length, arith}
use Rattle.class_spec.specs.Classes.{Attribute}
use Rattle.mib_upload.specs.Groups.{groups_of}
use Rattle.mib_upload.proofs.Cutting.{few_groups, row_attributes}
use Rattle.mib_upload.proofs.groups.group_count.Goals as goal

pub returns-in-Some-clause-few : goal.returns-in-Some-clause-few
returns-in-Some-clause-few c =
    let same = ap (λ (l : List Attribute). length (groups_of l)) (row_attributes c.args.number c.in-Some.class c.in-Some.ensures.row) in
    omega (arith, c.count_in.ensures, same, few_groups c.args.number)
