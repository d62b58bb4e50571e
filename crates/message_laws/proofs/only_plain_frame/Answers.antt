use Rattle.message_laws.proofs.Reading.{only_plain, read_in_range, reads_read}
use Rattle.message_laws.proofs.only_plain_frame.Goals as goal

pub returns : goal.returns
returns c = record { law = λ f m fits reads zero. only_plain f m fits (read_in_range f m fits (reads_read f m reads)) reads zero }
