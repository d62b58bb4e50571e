use Rattle.std.proofs.Common.{◌≡◌, take}
use Rattle.drill_run.specs.Tallied.{text_tallied}
use Rattle.drill_run.proofs.tally.Tally.add.Given as goal

abbrev pub invariant-loop-byte : goal.invariant-loop-byte
invariant-loop-byte l = l.self ≡ text_tallied (take l.byte-index l.text) l.fn.self
