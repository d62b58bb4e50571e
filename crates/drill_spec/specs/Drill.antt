-- The script of the drill with a number: its draws, what a step does by its kind, and all its
-- lines.
use Rattle.std.specs.Prelude.{ℕ, zero, suc, ◌+◌, ◌-◌, ◌*◌, ◌/◌, ◌%◌, ◌==◌, nat_lt, if◌then◌else◌}
use Rattle.std.specs.Prelude.{List, [], ◌∷◌, ◌++◌}
use Rattle.omci_types.specs.declared.EntityId.{EntityId}
use Rattle.omci_types.specs.declared.Priority.TheVariants.{Low, High}
use Rattle.script_spec.specs.Script.{Script, Header, Action, Create, Set, Delete, Get, Flow, Tick}
use Rattle.script_spec.specs.Script.{Alarm, Audit, Resync, CutUnit, StartUnit}
use Rattle.drill_spec.specs.declared.StepKind.{StepKind}
use Rattle.drill_spec.specs.declared.StepKind.TheVariants as kind
use Rattle.drill_spec.specs.declared.TheConstants.{STEPS, STEPS_TO_A_CUT, DRAW_FACTOR, DRAW_SUMMAND}
use Rattle.drill_spec.specs.declared.TheConstants.{DRAW_STATES, DRAWN_PART, ALL_WEIGHTS, DRILL_CLASS}
use Rattle.drill_spec.specs.declared.TheConstants.{DRILL_INSTANCES, FIRST_ATTRIBUTE, PORT_CLASS}
use Rattle.drill_spec.specs.declared.TheConstants.{PORT_INSTANCE, DRILL_ROOM, FIRST_FLOW, FLOW_BOTH}
use Rattle.drill_spec.specs.declared.TheConstants.{FLOW_ONE, FLOW_AUDIT, FLOW_RESYNC}

-- ---- draws

-- the state of the draws after one more draw
unfoldable pub state_after : ℕ → ℕ
state_after state = (state * DRAW_FACTOR + DRAW_SUMMAND) % DRAW_STATES

-- what is drawn where that is the state after the draw
unfoldable pub drawn : ℕ → ℕ
drawn state = state / DRAWN_PART

-- the state before the step after so many steps, each of which draws twice; the number is the first
unfoldable pub state_before : (number steps : ℕ) → ℕ
state_before number zero = number
state_before number (suc steps) = state_after (state_after (state_before number steps))

-- ---- the kinds of steps

-- the kinds of steps, each with its weight
abbrev pub weights : List (ℕ × StepKind)
weights =
    (4, kind.Create) ∷ (3, kind.Set) ∷ (2, kind.Delete) ∷ (2, kind.Get) ∷ (1, kind.Flow)
    ∷ (1, kind.Tick) ∷ (1, kind.Alarm) ∷ (1, kind.Audit) ∷ (1, kind.Resync) ∷ []

-- the kind that a number below the sum of the weights has: each kind has as many numbers as its
-- weight
abbrev pub kind_among : List (ℕ × StepKind) → ℕ → StepKind
kind_among [] number = kind.Resync
kind_among (row ∷ rows) number =
    if nat_lt number row.0 then row.1 else kind_among rows (number - row.0)

-- the kind of a step that draws this
unfoldable pub kind_of : ℕ → StepKind
kind_of draw = kind_among weights (draw % ALL_WEIGHTS)

-- ---- the lines of a step

-- the entity that a step is about which draws this
abbrev pub profile : ℕ → EntityId
profile draw = record { class = DRILL_CLASS; instance = draw % DRILL_INSTANCES }

-- the port whose alarms change
abbrev pub port : EntityId
port = record { class = PORT_CLASS; instance = PORT_INSTANCE }

-- the high byte of what was drawn
abbrev pub high_byte : ℕ → List ℕ
high_byte draw = draw / 256 ∷ []

-- both bytes of what was drawn, the high one first
abbrev pub both_bytes : ℕ → List ℕ
both_bytes draw = draw / 256 ∷ draw % 256 ∷ []

-- the lines of a step of that kind that draws this
unfoldable pub lines_of_kind : StepKind → ℕ → List Action
lines_of_kind kind.Create draw =
    Create Low (profile draw) (both_bytes draw) ∷ Flow FLOW_BOTH ∷ []
lines_of_kind kind.Set draw =
    Set Low (profile draw) FIRST_ATTRIBUTE (both_bytes draw) ∷ Flow FLOW_ONE ∷ []
lines_of_kind kind.Delete draw = Delete Low (profile draw) ∷ Flow FLOW_BOTH ∷ []
lines_of_kind kind.Get draw = Get High (profile draw) FIRST_ATTRIBUTE ∷ Flow FLOW_BOTH ∷ []
lines_of_kind kind.Flow draw = Flow FLOW_ONE ∷ []
lines_of_kind kind.Tick draw = Tick ∷ []
lines_of_kind kind.Alarm draw = Alarm port (high_byte draw) ∷ Flow FLOW_ONE ∷ []
lines_of_kind kind.Audit draw = Audit ∷ Flow FLOW_AUDIT ∷ []
lines_of_kind kind.Resync draw = Resync ∷ Flow FLOW_RESYNC ∷ []

-- the lines of a step before which that is the state: the first draw is for its kind, the second
-- for what it is about
unfoldable pub step_lines : ℕ → List Action
step_lines state =
    lines_of_kind (kind_of (drawn (state_after state))) (drawn (state_after (state_after state)))

-- the unit's power goes and comes again, and the manager takes its database over
abbrev pub cut_lines : List Action
cut_lines = CutUnit ∷ StartUnit ∷ Resync ∷ Flow FLOW_RESYNC ∷ []

-- the lines between that many steps and the next one
unfoldable pub lines_after : ℕ → List Action
lines_after steps = if steps % STEPS_TO_A_CUT == 0 then cut_lines else []

-- ---- the whole

-- the lines before the first step
abbrev pub first_lines : List Action
first_lines = Resync ∷ Flow FIRST_FLOW ∷ []

-- the lines of so many steps, from the first line on
unfoldable pub lines_until : (number steps : ℕ) → List Action
lines_until number zero = first_lines
lines_until number (suc steps) =
    lines_until number steps ++ (step_lines (state_before number steps) ++ lines_after (suc steps))

-- both lanes begin at 1, and the image that the unit leaves the factory with is one byte
abbrev pub drill_header : Header
drill_header = record { room = DRILL_ROOM; low = 1; high = 1; factory = 255 ∷ [] }

-- the script of the drill with that number
unfoldable pub drill : ℕ → Script
drill number = record { header = drill_header; actions = lines_until number STEPS }
