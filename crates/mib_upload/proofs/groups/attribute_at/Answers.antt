use Rattle.std.proofs.Common.{arith}
use Rattle.omci_attributes.proofs.Sums.{opened_next}
use Rattle.mib_upload.proofs.groups.attribute_at.Goals as goal

pub returns : goal.returns
returns c =
    let o = opened_next c.args.class.now.attributes c.args.place c.in-Some.attribute (c.in-Some.ensures.place (omega arith)) in
    record { one = o.one; is = o.is; rest = o.rest; number = c.in-Some.ensures.numbered }
