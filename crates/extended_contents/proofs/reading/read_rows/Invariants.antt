use Rattle.std.proofs.Common.{◌≡◌, ◌≤◌, ◌-◌, ◌++◌, length, drop, None}
use Rattle.extended_spec.specs.Layouts.{need_after, each_after, rows_in, row_size, row_of}
use Rattle.extended_contents.proofs.reading.read_rows.Given as goal

abbrev pub invariant-loop-place : goal.invariant-loop-place
invariant-loop-place l =
    (l.place ≤ length l.contents)
    × (need_after row_size l.place 0 (drop l.place l.contents) ≡ None)
    × (l.rows ++ each_after row_size row_of 0 (drop l.place l.contents) ≡ rows_in l.contents)

abbrev pub decreases-loop-place : goal.decreases-loop-place
decreases-loop-place l = length l.contents - l.place
