use Rattle.message_laws.proofs.Reading.{one_reading}
use Rattle.message_laws.proofs.one_reading.Goals as goal

pub returns : goal.returns
returns c = record { law = one_reading }
