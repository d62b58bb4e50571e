use Rattle.std.proofs.Common.{◌≡◌, ◌+◌, length, take}
use Rattle.std.specs.List.{flat_map}
use Rattle.extended_spec.specs.Layouts.{piece_bytes}
use Rattle.extended_contents.proofs.room.pieces_fit.Given as goal

abbrev pub invariant-loop-place : goal.invariant-loop-place
invariant-loop-place l = l.room + length (flat_map piece_bytes (take l.place l.pieces)) ≡ 1966
