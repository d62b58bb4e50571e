use Rattle.std.proofs.Common.{◌+◌, ◌≤◌, Some, length, not, ap, sym, ◌∙◌, arith}
use Rattle.link_spec.specs.Link.{is_down}
use Rattle.link_lanes.specs.Latest.{first_of}
use Rattle.link_lanes.proofs.Search.{fresh_here, fresh_later, fresh_nowhere}
use Rattle.link_lanes.proofs.fresh.first_fresh_from.Goals as goal

pub returns-then-is_fresh_at : goal.returns-then-is_fresh_at
returns-then-is_fresh_at c = record {
  value =
      ap (λ n. Some (n + c.args.start)) c.first.ensures.value
      ∙ sym (fresh_here (is_down c.args.direction) (not (is_down c.args.direction)) (first_of c.args.latest.now) c.args.start
      c.args.latest.now.last c.args.ways.now c.args.latest.now.count c.is_fresh_at.result (omega (arith, c.len.ensures.value))
      c.is_fresh_at.ensures.value c.if-is_fresh_at.true);
}

pub returns-then-start-len-2 : goal.returns-then-start-len-2
returns-then-start-len-2 c =
    let next = c.args.start + 1 in
    let past : length c.args.latest.now.last ≤ next = omega (arith, c.len-2.ensures.value) in
    record {
      value =
          sym (fresh_nowhere (is_down c.args.direction) (not (is_down c.args.direction)) (first_of c.args.latest.now + next) next
          c.args.latest.now.last c.args.ways.now c.args.latest.now.count past)
          ∙ fresh_later (is_down c.args.direction) (not (is_down c.args.direction)) (first_of c.args.latest.now) c.args.start
          c.args.latest.now.last c.args.ways.now c.args.latest.now.count c.is_fresh_at.result (omega (arith, c.len.ensures.value))
          c.is_fresh_at.ensures.value c.if-is_fresh_at.false;
    }

pub returns : goal.returns
returns c = record {
  value =
      c.first_fresh_past.ensures.value
      ∙ fresh_later (is_down c.args.direction) (not (is_down c.args.direction)) (first_of c.args.latest.now) c.args.start
      c.args.latest.now.last c.args.ways.now c.args.latest.now.count c.is_fresh_at.result (omega (arith, c.len.ensures.value))
      c.is_fresh_at.ensures.value c.if-is_fresh_at.false;
}
