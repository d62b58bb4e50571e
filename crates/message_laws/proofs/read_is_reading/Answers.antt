use Rattle.message_laws.proofs.Reading.{read_reads, reads_read}
use Rattle.message_laws.proofs.read_is_reading.Goals as goal

pub returns : goal.returns
returns c = record { law = λ f m lt. (read_reads f m lt, reads_read f m) }
