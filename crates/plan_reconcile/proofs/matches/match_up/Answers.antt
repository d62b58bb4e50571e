use Rattle.std.proofs.Common.{◌≡◌, ℕ, ◌+◌, ◌-◌, ◌∙◌, ap, sym, subst, cond, replicate, set, List, Option, None, Bool, false, rules}
use Rattle.plan_reconcile.proofs.Planning.{MatchedSoFar, matched_start, matched_next}
use Rattle.plan_reconcile.proofs.matches.match_up.Goals as goal

pub loop-place-init : goal.loop-place-init
loop-place-init c =
    let places : c.in_ok-places.places.items ≡ replicate c.len.result None = c.in_ok-places.ensures.items_if_clones_equal (λ y h. search (rules, h)) in
    let flags : c.in_ok-stays.stays.items ≡ replicate c.len-2.result false = c.in_ok-stays.ensures.items_if_clones_equal (λ y h. h) in
    let size : c.len-2.result ≡ c.len-place.result = c.len-2.ensures ∙ sym c.len-place.ensures in
    let start = matched_start c.args.have.now c.args.want.now c.len-place.result c.len.result c.len-place.ensures c.len.ensures.value in
    subst (λ (l : List (Option ℕ)). MatchedSoFar c.args.have.now c.args.want.now c.len-place.result 0 l c.in_ok-stays.stays.items) (sym places)
    (subst (λ (l : List Bool). MatchedSoFar c.args.have.now c.args.want.now c.len-place.result 0 (replicate c.len.result None) l) (sym (flags ∙ ap (λ n. replicate n false) size)) start)

pub loop-place-preserved : goal.loop-place-preserved
loop-place-preserved c =
    let one : c.if_so-count.result ≡ cond c.note-stay.result 1 0 = c.if_so-count.ensures in
    subst (λ n. MatchedSoFar c.args.have.now c.args.want.now (c.loop-place.place - 1) (c.loop-place.count + n) c.note-stay.new.places.items (set c.loop-place.stays.items (c.loop-place.place - 1) c.note-stay.result)) (sym one)
    (matched_next c.args.have.now c.args.want.now c.loop-place.place c.loop-place.count c.loop-place.places.items c.loop-place.stays.items c.loop-place.invariant c.loop-place-test.true c.entry.result.entity c.note-stay.result c.note-stay.new.places.items c.entry.ensures.entity c.note-stay.ensures.stays c.note-stay.ensures.noted)
