use Rattle.std.proofs.Common.{◌≡◌, ◌<◌, ◌≤◌, [], drop}
use Rattle.meter_lines_spec.specs.Replies.{lines_text}
use Rattle.meter_run.proofs.Running.{RunSoFar}
use Rattle.meter_run.proofs.replies.run.Given as goal

abbrev pub invariant-loop-line : goal.invariant-loop-line
invariant-loop-line l =
    (l.event ≡ l.line-index) × (0 < l.tci) × (l.tci ≤ 32767)
    × RunSoFar l.pm l.event l.tci l.out.items (drop l.line-index l.lines)
    (lines_text 1 1 l.lines [])
