use Rattle.message_laws.proofs.Reading.{plain_in_range, plain_reads, plain_padding}
use Rattle.message_laws.proofs.plain_frame.Goals as goal

pub returns : goal.returns
returns c = record { range = plain_in_range; reads = plain_reads; padding = plain_padding }
