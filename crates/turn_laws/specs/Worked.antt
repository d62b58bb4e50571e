-- A unit's run worked by hand: the first get of a manager that probes, a second without a packet,
-- and the link's end. And a unit that is rebooted, and starts again in the second after.
use Rattle.std.specs.Prelude.{ℕ, false, List, [], ◌∷◌, ◌++◌, codes, map}
use Rattle.omci_types.specs.declared.EntityId.{EntityId}
use Rattle.message_spec.specs.declared.Message.TheVariants.{Asked}
use Rattle.message_spec.specs.declared.Request.{Request}
use Rattle.message_spec.specs.declared.Request.TheVariants.{Get, Reboot}
use Rattle.message_spec.specs.Reading.{plain}
use Rattle.message_spec.specs.Text.{message_text}
use Rattle.frame_spec.specs.Baseline.{spelling, frame_of}
use Rattle.world_spec.specs.Ends.{factory_slots}
use Rattle.turn_spec.specs.Arrivals.{Arrival, Came, Quiet, Closed}
use Rattle.turn_spec.specs.UnitTurns.{Turn, UnitRun, unit_run}

abbrev pub entity : ℕ → ℕ → EntityId
entity class instance = record { class = class; instance = instance }

-- a turn in which no device call fails
abbrev pub turn : Arrival → Turn
turn arrival = record { arrival = arrival; fails = false; made = false }

abbrev pub asks : (tci : ℕ) → EntityId → Request → Turn
asks tci one request = turn (Came (spelling (plain (Asked tci one request))))

-- the turns, newest first, of a unit whose disk has the image `ff`
abbrev pub run : List Turn → UnitRun
run turns = unit_run 1048576 (factory_slots (255 ∷ [])) turns

unfoldable pub probed : UnitRun
probed = run (turn Closed ∷ turn Quiet ∷ asks 1 (entity 2 0) (Get 32768) ∷ [])

unfoldable pub rebooted : UnitRun
rebooted = run (turn Quiet ∷ turn Quiet ∷ asks 1 (entity 256 0) (Reboot 0) ∷ [])

-- the texts of the packets that a run sent
abbrev pub texts : UnitRun → List (List ℕ)
texts r = map (λ bytes. message_text (frame_of bytes)) r.sent

abbrev pub line : List ℕ → List ℕ
line text = text ++ (10 ∷ [])
