use Rattle.slot_laws.proofs.Either.{outcome_either}
use Rattle.slot_laws.proofs.cut_leaves_either.Goals as goal

pub returns : goal.returns
returns c = record { either = outcome_either }
