use Rattle.frame_laws.proofs.Spelling.{length-spelling, Spells-spelling, spelling-unique}
use Rattle.frame_laws.proofs.Reading.{IsBytes-spelling}
use Rattle.frame_laws.proofs.spelling_is_the_relation.Goals as goal

pub returns-clause-length : goal.returns-clause-length
returns-clause-length c = length-spelling

pub returns-clause-bytes : goal.returns-clause-bytes
returns-clause-bytes c = IsBytes-spelling

pub returns-clause-spells : goal.returns-clause-spells
returns-clause-spells c = Spells-spelling

pub returns-clause-only : goal.returns-clause-only
returns-clause-only c = spelling-unique
