-- One lane of the manager (ITU-T G.988, clause 11.2.2): at most one command outstanding, sent again
-- when its time is over.
use Rattle.std.specs.Prelude.{ℕ, ◌+◌, ◌||◌, Bool, true, false, nat_le, nat_lt, List, [], Option, Some, None}
use Rattle.omci_types.specs.declared.Frame.{Frame}
use Rattle.omci_types.specs.declared.Priority.{Priority}
use Rattle.omci_types.specs.declared.Priority.TheVariants.{Low, High}
use Rattle.tci_spec.specs.Tci.{number_after, tci_of}
use Rattle.lane_spec.specs.declared.LaneTick.{LaneTick}
use Rattle.lane_spec.specs.declared.LaneTick.TheVariants.{Quiet, Repeat, GaveUp}
use Rattle.lane_spec.specs.declared.TheConstants.{LOW_TIMEOUT, HIGH_TIMEOUT, MOST_REPEATS}
use Rattle.lane_spec.specs.Command.{Command, command_packets, is_changing, is_probe, answers}

-- A command that waits for its reply: the seconds since it was last sent, and how many times it was
-- sent again.
pub record Waiting : Type 0 where
  pub tci : ℕ
  pub command : Command
  pub ticks : ℕ
  pub repeats : ℕ

-- Its priority, whether it is proved, the number that its next command draws, and the command that
-- is outstanding.
pub record Lane : Type 0 where
  pub priority : Priority
  pub proved : Bool
  pub next : ℕ
  pub outstanding : Option Waiting

-- a lane whose manager starts with that number
abbrev pub new_lane : Priority → ℕ → Lane
new_lane priority number = record {
  priority = priority;
  proved = false;
  next = number;
  outstanding = None;
}

abbrev pub next_tci : Lane → ℕ
next_tci l = tci_of l.priority l.next

-- a command draws the next number, and waits
abbrev pub with_command : Command → Lane → Lane
with_command c l =
    record l {
      next = number_after l.next;
      outstanding = Some (record { tci = next_tci l; command = c; ticks = 0; repeats = 0 });
    }

-- whether the command that waits is a probe
abbrev pub is_probing : Option Waiting → Bool
is_probing None = false
is_probing (Some w) = is_probe w.command.purpose

-- whether the command that waits changes what the unit holds or runs
abbrev pub is_changed_by : Option Waiting → Bool
is_changed_by None = false
is_changed_by (Some w) = is_changing w.command.request

-- the packets that the command that waits sends each time
abbrev pub waiting_packets : Option Waiting → List (List ℕ)
waiting_packets None = []
waiting_packets (Some w) = command_packets w.tci w.command

-- the seconds after which a command of the priority is sent again
abbrev pub timeout_of : Priority → ℕ
timeout_of Low = LOW_TIMEOUT
timeout_of High = HIGH_TIMEOUT

-- ---- a second passes

pub record Ticked : Type 0 where
  pub lane : Lane
  pub tick : LaneTick

abbrev pub counts_on : Waiting → Lane → Ticked
counts_on w l = record {
  lane = record l { outstanding = Some (record w { ticks = w.ticks + 1 }) };
  tick = Quiet;
}

abbrev pub repeats_it : Waiting → Lane → Ticked
repeats_it w l =
    record {
      lane = record l {
        outstanding = Some (record w { ticks = 0; repeats = w.repeats + 1 });
      };
      tick = Repeat;
    }

abbrev pub gives_up : Waiting → Lane → Ticked
gives_up w l = record {
  lane = record l { proved = false; outstanding = None };
  tick = GaveUp w.tci;
}

-- its time isn't over; or it is, and it was not yet sent again as often as it may be; or it was
abbrev pub tick_by : (is_over may_repeat : Bool) → Waiting → Lane → Ticked
tick_by false may_repeat w l = counts_on w l
tick_by true true w l = repeats_it w l
tick_by true false w l = gives_up w l

abbrev pub tick_waiting : Option Waiting → Lane → Ticked
tick_waiting None l = record { lane = l; tick = Quiet }
tick_waiting (Some w) l = tick_by (nat_le (timeout_of l.priority) (w.ticks + 1))
    (nat_lt w.repeats MOST_REPEATS) w l

unfoldable pub lane_tick : Lane → Ticked
lane_tick l = tick_waiting l.outstanding l

-- ---- a frame comes

pub record Replied : Type 0 where
  pub lane : Lane
  pub taken : Bool

-- the outstanding command is answered; an answered probe proves the lane
abbrev pub end_command : Waiting → Lane → Lane
end_command w l =
    record l { proved = is_probe w.command.purpose || l.proved; outstanding = None }

abbrev pub reply_by : Bool → Waiting → Lane → Replied
reply_by true w l = record { lane = end_command w l; taken = true }
reply_by false w l = record { lane = l; taken = false }

abbrev pub reply_to : Option Waiting → Frame → Lane → Replied
reply_to None f l = record { lane = l; taken = false }
reply_to (Some w) f l = reply_by (answers w.tci w.command f) w l

-- the frame is taken where it answers the outstanding command, and changes nothing elsewhere
unfoldable pub lane_reply : Frame → Lane → Replied
lane_reply f l = reply_to l.outstanding f l
