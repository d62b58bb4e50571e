use Rattle.std.proofs.Common.{◌≡◌, ◌≤◌, ◌-◌, length, drop}
use Rattle.extended_spec.specs.Layouts.{need_after}
use Rattle.extended_contents.specs.Members.{member_size}
use Rattle.extended_contents.proofs.needs.members_need.Given as goal

abbrev pub invariant-loop-place : goal.invariant-loop-place
invariant-loop-place l =
    (l.place ≤ length l.contents)
    × (need_after (member_size l.member) l.place 0 (drop l.place l.contents) ≡ need_after (member_size l.member) 0 0 l.contents)

abbrev pub decreases-loop-place : goal.decreases-loop-place
decreases-loop-place l = length l.contents - l.place
