use Rattle.std.proofs.Common.{◌≡◌, ◌≤◌, ◌-◌, ◌++◌, length, drop, None}
use Rattle.extended_spec.specs.Layouts.{need_after, each_after, pieces_in, piece_size, piece_of}
use Rattle.extended_contents.proofs.reading.read_pieces.Given as goal

abbrev pub invariant-loop-place : goal.invariant-loop-place
invariant-loop-place l =
    (l.place ≤ length l.contents)
    × (need_after piece_size l.place 0 (drop l.place l.contents) ≡ None)
    × (l.pieces ++ each_after piece_size piece_of 0 (drop l.place l.contents) ≡ pieces_in l.contents)

abbrev pub decreases-loop-place : goal.decreases-loop-place
decreases-loop-place l = length l.contents - l.place
