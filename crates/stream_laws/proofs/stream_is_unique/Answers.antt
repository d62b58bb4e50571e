use Rattle.frame_spec.specs.Baseline.{IsFrame, spelling}
use Rattle.stream_spec.specs.Baseline.{front_of}
use Rattle.stream_laws.proofs.Baseline.{set}
use Rattle.stream_laws.proofs.Unique.{unique}
use Rattle.stream_laws.proofs.stream_is_unique.Goals as goal

pub returns : goal.returns
returns c = record { law = λ bytes rest others frames more one other. unique IsFrame spelling front_of set bytes frames more rest others one other }
