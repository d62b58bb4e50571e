use Rattle.std.proofs.Common.{◌≡◌, ◌+◌, ◌∙◌, sym, subst, cond, arith}
use Rattle.plan_reconcile.proofs.Planning.{NewSoFar, new_next, first_not_made}
use Rattle.plan_reconcile.proofs.matches.count_new.Goals as goal

pub returns-then-is_not_made-clause-not_made : goal.returns-then-is_not_made-clause-not_made
returns-then-is_not_made-clause-not_made c have is =
    first_not_made c.args.want.now c.args.places.now c.loop-at.at (omega (arith, c.loop-at-test.true, c.len-at-end.ensures.value)) c.item_at.result.now c.item_at.ensures c.is_new-is_new.result c.is_new-is_new.ensures c.loop-at.count c.loop-at.invariant (sym c.is_not_made.ensures ∙ c.if-is_not_made.true) have is

pub loop-at-preserved : goal.loop-at-preserved
loop-at-preserved c =
    let one : c.if_so-count.result ≡ cond c.is_new-is_new.result 1 0 = c.if_so-count.ensures in
    subst (λ n. NewSoFar c.args.want.now c.args.places.now (c.loop-at.at + 1) (c.loop-at.count + n)) (sym one)
    (new_next c.args.want.now c.args.places.now c.loop-at.at (omega (arith, c.loop-at-test.true, c.len-at-end.ensures.value)) c.item_at.result.now c.item_at.ensures c.is_new-is_new.result c.is_new-is_new.ensures c.loop-at.count c.loop-at.invariant (sym c.is_not_made.ensures ∙ c.if-is_not_made.false))
