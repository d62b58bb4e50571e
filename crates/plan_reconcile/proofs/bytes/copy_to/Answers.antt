use Rattle.std.proofs.Common.{arith}
use Rattle.std.proofs.lemmas.Slice.{drop-put_mid}
use Rattle.plan_reconcile.proofs.bytes.copy_to.Goals as goal

pub returns-clause-back : goal.returns-clause-back
returns-clause-back c =
    let room = c.requires in
    let len = c.copy_from_slice.ensures.len in
    drop-put_mid c.args.at _ c.args.into.now _ _ (omega arith) (omega (arith, room)) (omega (arith, len))
