use Rattle.stream_laws.proofs.Baseline.{shows_frames}
use Rattle.stream_laws.proofs.front_shows_frames.Goals as goal

pub returns : goal.returns
returns c = record { shown = shows_frames }
