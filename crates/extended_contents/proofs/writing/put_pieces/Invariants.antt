use Rattle.std.proofs.Common.{◌≡◌, ◌++◌, take}
use Rattle.std.specs.List.{flat_map}
use Rattle.extended_spec.specs.Layouts.{piece_bytes}
use Rattle.extended_contents.proofs.writing.put_pieces.Given as goal

abbrev pub invariant-loop-place : goal.invariant-loop-place
invariant-loop-place l = l.out.items ≡ l.initial.out.items ++ flat_map piece_bytes (take l.place l.pieces)
