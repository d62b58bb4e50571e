use Rattle.std.proofs.Common.{◌≡◌, take}
use Rattle.alarm_spec.specs.Alarms.{after}
use Rattle.alarm_log.proofs.table.told_all.Given as goal

abbrev pub invariant-loop-place : goal.invariant-loop-place
invariant-loop-place l = l.told ≡ after l.fn.rows (take l.place l.fn.waiting.items)
