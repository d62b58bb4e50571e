-- The same over the lines of a script of both ends.
use Rattle.std.specs.Prelude.{◌≡◌, ◌⊎◌, ℕ, ◌+◌, Bool, true, false, List, [], ◌∷◌}
use Rattle.omci_types.specs.declared.Priority.{Priority}
use Rattle.script_spec.specs.Script.{Action, Tick, CutOlt}
use Rattle.manager_spec.specs.declared.Job.{Job}
use Rattle.world_spec.specs.Happenings.{Happening, ReplyTaken, Reported as WasReported}
use Rattle.world_spec.specs.Nodes.{Nodes, step}
use Rattle.ending_spec.specs.Moves.{Telling, Replied, Reported, is_told}
use Rattle.ending_spec.specs.Commands.{ends_command}
use Rattle.ending_spec.specs.Jobs.{ends_job}

-- how many of the manager's seconds pass
abbrev pub ticks_of : Action → ℕ
ticks_of Tick = 1
ticks_of _ = 0

abbrev pub ticks_in : List Action → ℕ
ticks_in [] = 0
ticks_in (a ∷ rest) = ticks_of a + ticks_in rest

-- the manager's power stays in a line, and in all lines
abbrev pub IsOn : Action → Type 0
IsOn CutOlt = ⊥
IsOn _ = Unit {0}

abbrev pub StaysOn : List Action → Type 0
StaysOn [] = Unit {0}
StaysOn (a ∷ rest) = IsOn a × StaysOn rest

-- whether what happened is such a telling
abbrev pub tells : (Telling → Bool) → Happening → Bool
tells such (ReplyTaken lane) = such (Replied lane)
tells such (WasReported what) = such (Reported what)
tells such _ = false

-- one of these lines tells such
abbrev pub LinesTell : (Telling → Bool) → List Action → Nodes → Type 0
LinesTell such [] n = ⊥
LinesTell such (a ∷ rest) n =
    (is_told (tells such) (step a n).happenings ≡ true) ⊎ LinesTell such rest (step a n).nodes

-- one of these lines tells that the command under this TCI, which is outstanding in the lane, ended
abbrev pub CommandEndsIn : Priority → (tci : ℕ) → List Action → Nodes → Type 0
CommandEndsIn lane tci lines n = LinesTell (ends_command lane tci) lines n

-- one of these lines tells that the job ended
abbrev pub JobEndsIn : Job → List Action → Nodes → Type 0
JobEndsIn j lines n = LinesTell (ends_job j) lines n
