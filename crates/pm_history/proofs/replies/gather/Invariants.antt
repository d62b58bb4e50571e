use Rattle.std.proofs.Common.{◌≡◌, ◌≤◌, ◌++◌, ◌∷◌, length}
use Rattle.std.specs.Int.{w16, to_be_bytes}
use Rattle.meter_spec.specs.Replies.{values_of}
use Rattle.pm_history.proofs.replies.gather.Given as goal

abbrev pub invariant-loop-earlier : goal.invariant-loop-earlier
invariant-loop-earlier l =
    (l.contents ≡ 0 ∷ to_be_bytes w16 l.mask ++ values_of l.monitor l.row l.mask l.earlier)
    × (length l.contents ≤ 28)
