-- What some lines of the drill have made of the world, and what was counted of their trace.
use Rattle.std.specs.Prelude.{◌≡◌, ◌≤◌, ℕ, List, length}
use Rattle.script_spec.specs.Script.{Script, Action}
use Rattle.world_spec.specs.Nodes.{first_nodes, nodes_after}
use Rattle.world_spec.specs.Trace.{trace}
use Rattle.link_replay.specs.Seen.{State, WorldStands}
use Rattle.drill_spec.specs.Drill.{drill_header}
use Rattle.drill_run.specs.Tallied.{Tallied, no_tally, text_tallied}

-- a script of these lines under the drill's header
abbrev pub script_of : List Action → Script
script_of done = record { header = drill_header; actions = done }

-- after these lines the world stands for the nodes after them, and the tally is that of their trace
pub record Drilled (done : List Action) (world : State) (tally : Tallied) : Type 0 where
  pub stands : WorldStands world (nodes_after done (first_nodes drill_header))
  pub counted : tally ≡ text_tallied (trace (script_of done)) no_tally

-- some lines were run, so many at most
pub record DrilledSome (most : ℕ) (world : State) (tally : Tallied) : Type 0 where
  pub done : List Action
  pub drilled : Drilled done world tally
  pub few : length done ≤ most
