-- What each answer of a drill says of the sink, and of the world.
use Rattle.std.specs.Prelude.{ℕ, ◌≡◌, List, Option}
use Rattle.drill_spec.specs.Summary.{drill_nodes, drill_summary}
use Rattle.link_replay.specs.Seen.{State}
use Rattle.omci_top.specs.Answers.{StandsFor, Ran}
use Rattle.omci_top.specs.declared.status.Status.{Status}
use Rattle.omci_top.specs.declared.status.Status.TheVariants.{Done}

-- What the drill of a number comes to, by its answer: where it is done, the one line that sums up
-- the trace of that number's script was written, and the world ran all events of the script; else a
-- front of the line was written, for want of memory or by a fault of the sink. No other answer
-- comes.
pub record AnswersDrill (status : Status) (world : Option State) (seed : ℕ)
    (written_before written_now : Option (List ℕ)) (faults_before faults_now : ℕ) : Type 0 where
  pub ran : Ran status (drill_summary seed) written_before written_now faults_before faults_now
  pub ended : status ≡ Done → StandsFor (drill_nodes seed) world
