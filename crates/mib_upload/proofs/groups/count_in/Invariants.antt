use Rattle.std.proofs.Common.{◌≡◌, ◌+◌, drop, length}
use Rattle.mib_upload.specs.Groups.{groups_after, groups_of}
use Rattle.mib_upload.proofs.Cutting.{IsGroup}
use Rattle.mib_upload.proofs.groups.count_in.Given as goal

abbrev pub invariant-loop-place : goal.invariant-loop-place
invariant-loop-place l = record {
  count : l.count + length (groups_after l.group (drop l.place l.class.attributes)) ≡ length (groups_of l.class.attributes) + 1;
  group : IsGroup l.class.attributes l.place l.group;
}
