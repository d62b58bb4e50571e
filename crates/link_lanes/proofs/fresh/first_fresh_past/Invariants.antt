use Rattle.std.proofs.Common.{◌≡◌, ◌+◌, not, drop}
use Rattle.link_spec.specs.Link.{is_down, first_fresh}
use Rattle.link_lanes.specs.Latest.{first_of}
use Rattle.link_lanes.proofs.fresh.first_fresh_past.Given as goal

abbrev pub invariant-loop-place : goal.invariant-loop-place
invariant-loop-place l =
    first_fresh (is_down l.direction) (not (is_down l.direction)) (first_of l.latest + l.place) (drop l.place l.latest.last) l.ways l.latest.count
    ≡ first_fresh (is_down l.direction) (not (is_down l.direction)) (first_of l.latest + l.start) (drop l.start l.latest.last) l.ways l.latest.count
