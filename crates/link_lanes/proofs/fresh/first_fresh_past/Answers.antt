use Rattle.std.proofs.Common.{◌+◌, Some, not, ap, sym, ◌∙◌, arith}
use Rattle.link_spec.specs.Link.{is_down}
use Rattle.link_lanes.specs.Latest.{first_of}
use Rattle.link_lanes.proofs.Search.{fresh_here, fresh_later}
use Rattle.link_lanes.proofs.fresh.first_fresh_past.Goals as goal

pub returns-then-is_fresh_at : goal.returns-then-is_fresh_at
returns-then-is_fresh_at c = record {
  value =
      ap (λ n. Some (n + c.loop-place.place)) c.first-first.ensures.value
      ∙ sym (fresh_here (is_down c.args.direction) (not (is_down c.args.direction)) (first_of c.args.latest.now) c.loop-place.place
      c.args.latest.now.last c.args.ways.now c.args.latest.now.count c.is_fresh_at.result (omega (arith, c.len-place-end.ensures.value))
      c.is_fresh_at.ensures.value c.if-is_fresh_at.true)
      ∙ c.loop-place.invariant;
}

pub loop-place-preserved : goal.loop-place-preserved
loop-place-preserved c =
    fresh_later (is_down c.args.direction) (not (is_down c.args.direction)) (first_of c.args.latest.now) c.loop-place.place
    c.args.latest.now.last c.args.ways.now c.args.latest.now.count c.is_fresh_at.result (omega (arith, c.len-place-end.ensures.value))
    c.is_fresh_at.ensures.value c.if-is_fresh_at.false
    ∙ c.loop-place.invariant
