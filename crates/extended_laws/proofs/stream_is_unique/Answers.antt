use Rattle.stream_laws.proofs.Unique.{unique}
use Rattle.extended_spec.specs.Frames.{IsAny, any_spelling}
use Rattle.extended_spec.specs.Streams.{any_front}
use Rattle.extended_laws.proofs.Sets.{set}
use Rattle.extended_laws.proofs.stream_is_unique.Goals as goal

pub returns : goal.returns
returns c = record { law = λ bytes rest others frames more one other. unique IsAny any_spelling any_front set bytes frames more rest others one other }
