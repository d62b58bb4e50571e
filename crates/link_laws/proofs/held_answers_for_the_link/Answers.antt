use Rattle.link_laws.proofs.Held.{held_of-allowed, held_of-fresh}
use Rattle.link_laws.proofs.held_answers_for_the_link.Goals as goal

pub returns : goal.returns
returns c = record { allowed = held_of-allowed; fresh = held_of-fresh }
