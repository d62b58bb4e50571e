use Rattle.message_laws.proofs.Reading.{read_in_range, window_in_range}
use Rattle.message_laws.proofs.read_in_range.Goals as goal

pub returns : goal.returns
returns c = record { message = read_in_range; window = window_in_range }
