use Rattle.std.proofs.Common.{◌≡◌, drop, slice_get}
use Rattle.mib_upload.specs.Groups.{groups_after, groups_of}
use Rattle.mib_upload.proofs.Cutting.{IsGroup}
use Rattle.mib_upload.proofs.groups.group_in.Given as goal

abbrev pub invariant-loop-place : goal.invariant-loop-place
invariant-loop-place l = record {
  found : slice_get (groups_after l.group (drop l.place l.class.attributes)) l.left ≡ slice_get (groups_of l.class.attributes) l.fn.number;
  group : IsGroup l.class.attributes l.place l.group;
}
