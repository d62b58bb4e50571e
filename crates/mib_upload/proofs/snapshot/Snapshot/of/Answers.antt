use Rattle.std.proofs.Common.{◌+◌, ◌<◌, ◌∙◌, List, length, sym, subst, arith}
use Rattle.mib_upload.specs.declared.taken.Taken.{Taken}
use Rattle.mib_upload.proofs.Taking.{TakenSoFar, takes_none, takes_next}
use Rattle.mib_upload.proofs.Carried.{entity_count}
use Rattle.mib_upload.proofs.snapshot.Snapshot.of.Goals as goal

pub loop-place-init : goal.loop-place-init
loop-place-init c = subst (λ (l : List Taken). TakenSoFar c.args.mib.now 0 l 0) (sym c.new-entries.ensures.items) (takes_none c.args.mib.now)

pub loop-place-preserved : goal.loop-place-preserved
loop-place-preserved c =
    let taken : Taken = c.take_entity-taken.result in
    let lt : c.loop-place.place < length c.args.mib.now = omega arith in
    subst (λ (l : List Taken). TakenSoFar c.args.mib.now (c.loop-place.place + 1) l (c.loop-place.count + c.group_count-count.result)) (sym c.in_ok-push.ensures.items)
    (takes_next c.args.mib.now c.loop-place.place c.loop-place.entries.items c.loop-place.count c.group_count-count.result taken lt c.take_entity-taken.ensures.held c.take_entity-taken.ensures.first
    (c.group_count-count.ensures.count ∙ entity_count taken.entity taken.values c.take_entity-taken.ensures.wide) c.group_count-count.ensures.few c.loop-place.invariant)
