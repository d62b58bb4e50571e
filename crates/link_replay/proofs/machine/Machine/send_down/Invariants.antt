use Rattle.std.proofs.Common.{drop}
use Rattle.link_replay.proofs.Loops.{DownsSoFar}
use Rattle.link_replay.proofs.machine.Machine.send_down.Given as goal

abbrev pub invariant-loop-place : goal.invariant-loop-place
invariant-loop-place l = DownsSoFar l.fn.self l.self l.packets (drop l.place l.packets) l.fn.out l.out
