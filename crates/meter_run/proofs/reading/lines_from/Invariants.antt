use Rattle.std.proofs.Common.{◌≡◌, ◌+◌, ◌≤◌, length}
use Rattle.script_spec.specs.Text.{lines_of}
use Rattle.meter_lines_spec.specs.Lines.{lines_reading}
use Rattle.meter_run.proofs.Fronts.{with_front}
use Rattle.meter_run.proofs.reading.lines_from.Given as goal

abbrev pub invariant-loop-rest : goal.invariant-loop-rest
invariant-loop-rest l =
    (l.number + length l.rest ≤ l.first + length l.fn.bytes)
    × (with_front l.lines.items (lines_reading l.number (lines_of l.rest))
    ≡ lines_reading l.first (lines_of l.fn.bytes))

abbrev pub decreases-loop-rest : goal.decreases-loop-rest
decreases-loop-rest l = length l.rest
