use Rattle.std.specs.Prelude.{◌-◌}
use Rattle.mib_upload.specs.declared.part.Part.{Part}
use Rattle.mib_upload.specs.Parts.{no_part}
use Rattle.mib_store.proofs.Order.{Narrows}
use Rattle.mib_upload.proofs.parts.find.Given as goal

abbrev pub invariant-loop-low : goal.invariant-loop-low
invariant-loop-low l = Narrows (λ (p : Part). p.entity) no_part l.fn.parts l.fn.entity l.low l.high

abbrev pub decreases-loop-low : goal.decreases-loop-low
decreases-loop-low l = l.high - l.low
