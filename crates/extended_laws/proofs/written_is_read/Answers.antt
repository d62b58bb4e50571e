use Rattle.extended_laws.proofs.Messages.{written_is_read}
use Rattle.extended_laws.proofs.written_is_read.Goals as goal

pub returns : goal.returns
returns c = record { law = written_is_read }
