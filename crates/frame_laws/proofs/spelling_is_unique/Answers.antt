use Rattle.frame_laws.proofs.Reading.{same_bytes, no_front}
use Rattle.frame_laws.proofs.spelling_is_unique.Goals as goal

pub returns-clause-same_bytes : goal.returns-clause-same_bytes
returns-clause-same_bytes c = same_bytes

pub returns-clause-no_front : goal.returns-clause-no_front
returns-clause-no_front c = no_front
