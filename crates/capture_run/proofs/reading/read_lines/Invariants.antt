use Rattle.std.proofs.Common.{◌≡◌, ◌+◌, ◌≤◌, length}
use Rattle.script_spec.specs.Text.{lines_of}
use Rattle.capture_spec.specs.Input.{lines_reading}
use Rattle.capture_run.proofs.Loops.{with_front}
use Rattle.capture_run.proofs.reading.read_lines.Given as goal

abbrev pub invariant-loop-rest : goal.invariant-loop-rest
invariant-loop-rest l =
    (l.line + length l.rest ≤ l.first + length l.fn.bytes)
    × (with_front l.capture (lines_reading l.line (lines_of l.rest))
    ≡ lines_reading l.first (lines_of l.fn.bytes))

abbrev pub decreases-loop-rest : goal.decreases-loop-rest
decreases-loop-rest l = length l.rest
