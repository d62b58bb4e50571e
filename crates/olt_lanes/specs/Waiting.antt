-- What holds of a command that waits in a lane.
use Rattle.std.specs.Prelude.{◌≡◌, ℕ, ◌<◌, ◌≤◌}
use Rattle.omci_types.specs.declared.Frame.{Frame}
use Rattle.lane_spec.specs.declared.TheConstants.{LOW_TIMEOUT, MOST_REPEATS}
use Rattle.lane_spec.specs.Command.{Command, command_frame}

-- the frame is the command's, its time isn't over, and it was sent again no more often than it may
-- be
pub record IsWaiting (command : Command) (frame : Frame) (ticks repeats : ℕ) : Type 0 where
  pub sent : frame ≡ command_frame frame.tci command
  pub early : ticks < LOW_TIMEOUT
  pub few : repeats ≤ MOST_REPEATS
