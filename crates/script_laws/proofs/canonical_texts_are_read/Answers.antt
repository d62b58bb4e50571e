use Rattle.script_spec.specs.Canonical.{canonical}
use Rattle.script_laws.proofs.Canonical.{canonical_written}
use Rattle.script_laws.proofs.Scripts.{reading-Writes}
use Rattle.script_laws.proofs.canonical_texts_are_read.Goals as goal

pub returns-clause-written : goal.returns-clause-written
returns-clause-written c = canonical_written

pub returns-clause-read : goal.returns-clause-read
returns-clause-read c =
    λ script h. reading-Writes script (canonical script) (canonical_written script h)
