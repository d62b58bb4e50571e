use Rattle.message_laws.proofs.Causes.{unknown_is, is_unknown}
use Rattle.message_laws.proofs.unknown_type.Goals as goal

pub returns : goal.returns
returns c = record { law = λ f number. (unknown_is f number, is_unknown f number) }
