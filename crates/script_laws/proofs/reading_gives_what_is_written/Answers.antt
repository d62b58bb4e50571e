use Rattle.script_laws.proofs.Scripts.{reading-Writes, Writes-reading}
use Rattle.script_laws.proofs.reading_gives_what_is_written.Goals as goal

pub returns-clause-written : goal.returns-clause-written
returns-clause-written c = λ bytes script h. Writes-reading script bytes h

pub returns-clause-read : goal.returns-clause-read
returns-clause-read c = λ bytes script h. reading-Writes script bytes h
