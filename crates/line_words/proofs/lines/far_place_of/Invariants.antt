use Rattle.std.proofs.Common.{◌≡◌, ◌+◌, ◌-◌, ◌==◌, ◌≤◌, length, drop}
use Rattle.std.specs.List.{position_or_len}
use Rattle.line_words.proofs.lines.far_place_of.Given as goal

abbrev pub invariant-loop-passed : goal.invariant-loop-passed
invariant-loop-passed l =
    (l.passed ≤ length l.bytes)
    × (position_or_len (λ b. b == l.wanted) l.bytes
    ≡ l.passed + position_or_len (λ b. b == l.wanted) (drop l.passed l.bytes))

abbrev pub decreases-loop-passed : goal.decreases-loop-passed
decreases-loop-passed l = length l.bytes - l.passed
