use Rattle.std.proofs.Common.{[]}
use Rattle.window_laws.proofs.Gathering.{after_all, gapless}
use Rattle.window_laws.proofs.windows_are_their_sections.Goals as goal

pub returns-clause-held : goal.returns-clause-held
returns-clause-held c came = after_all came []

pub returns-clause-gapless : goal.returns-clause-gapless
returns-clause-gapless c came = gapless came [] tt
