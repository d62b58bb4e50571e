use Rattle.std.proofs.Common.{◌≡◌, ◌+◌, length, take}
use Rattle.std.specs.List.{flat_map}
use Rattle.extended_spec.specs.Layouts.{row_bytes}
use Rattle.extended_contents.proofs.room.rows_fit.Given as goal

abbrev pub invariant-loop-place : goal.invariant-loop-place
invariant-loop-place l = l.room + length (flat_map row_bytes (take l.place l.rows)) ≡ 1966
