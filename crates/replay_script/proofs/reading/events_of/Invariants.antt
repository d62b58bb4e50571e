use Rattle.std.proofs.Common.{◌≡◌, ◌+◌, ◌≤◌, map, length}
use Rattle.script_spec.specs.Text.{lines_of}
use Rattle.script_spec.specs.Reading.{events_reading}
use Rattle.replay_script.specs.Events.{action_of}
use Rattle.replay_script.proofs.Loops.{with_front}
use Rattle.replay_script.proofs.reading.events_of.Given as goal

abbrev pub invariant-loop-rest : goal.invariant-loop-rest
invariant-loop-rest l =
    (l.line + length l.rest ≤ l.first + length l.fn.bytes)
    × (with_front (map action_of l.events.items) (events_reading l.fn.document l.line (lines_of l.rest))
    ≡ events_reading l.fn.document l.first (lines_of l.fn.bytes))

abbrev pub decreases-loop-rest : goal.decreases-loop-rest
decreases-loop-rest l = length l.rest
