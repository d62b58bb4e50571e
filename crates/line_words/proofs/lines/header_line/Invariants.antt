use Rattle.std.proofs.Common.{◌≡◌, ◌+◌, ◌≤◌, length}
use Rattle.script_spec.specs.Text.{lines_of, opening}
use Rattle.line_words.proofs.lines.header_line.Given as goal

abbrev pub invariant-loop-rest : goal.invariant-loop-rest
invariant-loop-rest l =
    (l.line + length l.rest ≤ 1 + length l.fn.bytes)
    × (opening l.line (lines_of l.rest) ≡ opening 1 (lines_of l.fn.bytes))

abbrev pub decreases-loop-rest : goal.decreases-loop-rest
decreases-loop-rest l = length l.rest
