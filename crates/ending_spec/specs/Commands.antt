-- A command that is outstanding in a lane, and within how many seconds its end is told.
use Rattle.std.specs.Prelude.{ℕ, ◌+◌, ◌*◌, ◌==◌, Bool, true, false, List}
use Rattle.omci_types.specs.declared.Priority.{Priority}
use Rattle.omci_types.specs.declared.Priority.TheVariants.{Low, High}
use Rattle.lane_spec.specs.declared.TheConstants.{MOST_REPEATS}
use Rattle.lane_spec.specs.Lane.{Waiting, timeout_of}
use Rattle.manager_spec.specs.declared.Report.{Report}
use Rattle.manager_spec.specs.declared.Report.TheVariants as report
use Rattle.manager_spec.specs.Manager.{Manager}
use Rattle.ending_spec.specs.Moves.{Move, Telling, Replied, Reported, AnyTells}

-- The seconds within which a command of a lane ends: its timeout, and once more for each time that
-- it is sent again. They are 9 in the low lane and 3 in the high lane.
abbrev pub most_seconds : Priority → ℕ
most_seconds lane = timeout_of lane * (MOST_REPEATS + 1)

-- the seconds since a command was drawn, by its repeats and the seconds since it was last sent
abbrev pub seconds_waited : Priority → Waiting → ℕ
seconds_waited lane w = timeout_of lane * w.repeats + w.ticks

abbrev pub same_lane : Priority → Priority → Bool
same_lane Low Low = true
same_lane High High = true
same_lane Low High = false
same_lane High Low = false

-- a lane's probe was answered, or the command under this TCI was given up
abbrev pub reports_end : Priority → (tci : ℕ) → Report → Bool
reports_end lane tci (report.Proved other) = same_lane lane other
reports_end lane tci (report.GaveUp other) = tci == other
reports_end lane tci _ = false

-- whether that tells the end of the command under this TCI, which is outstanding in the lane: its
-- reply was taken, or it was given up
abbrev pub ends_command : Priority → (tci : ℕ) → Telling → Bool
ends_command lane tci (Replied other) = same_lane lane other
ends_command lane tci (Reported what) = reports_end lane tci what

-- one of these moves tells that the command ended
abbrev pub CommandEnds : Priority → (tci : ℕ) → List Move → Manager → Type 0
CommandEnds lane tci moves m = AnyTells (ends_command lane tci) moves m
