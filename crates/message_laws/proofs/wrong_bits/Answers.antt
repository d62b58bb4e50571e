use Rattle.message_laws.proofs.Causes.{bits_are, wrong_is}
use Rattle.message_laws.proofs.wrong_bits.Goals as goal

pub returns : goal.returns
returns c = record { law = λ f byte lt. (bits_are f byte, wrong_is f byte lt) }
