-- What each event does to the counters as they stand, without the list of events.
use Rattle.std.specs.Prelude.{ℕ, ◌+◌, ◌-◌, ◌/◌, ◌%◌, ◌==◌, ◌&&◌, not, min, if◌then◌else◌, List, map, take, replicate, slice_get, slice_index, slice_set, Option, Some, None, is_some}
use Rattle.std.specs.Option.{option_map}
use Rattle.omci_types.specs.declared.Frame.{Frame}
use Rattle.omci_types.specs.declared.Priority.{Priority}
use Rattle.omci_types.specs.declared.Priority.TheVariants.{Low, High}
use Rattle.tci_spec.specs.Tci.{priority_of}
use Rattle.meter_spec.specs.declared.TheConstants.{FIRST_MONITOR, FIRST_COUNTER, COUNTERS, INTERVAL_TICKS}
use Rattle.meter_spec.specs.declared.Command.{Command}
use Rattle.meter_spec.specs.declared.Command.TheVariants.{Create, Delete, Get, GetCurrent, SynchronizeTime}
use Rattle.meter_spec.specs.declared.Monitor.{Monitor}
use Rattle.meter_spec.specs.declared.Counted.{Counted}
use Rattle.meter_spec.specs.declared.Counted.TheVariants.{Absent, Added}
use Rattle.meter_spec.specs.Events.{is_monitor, command_of}
use Rattle.meter_spec.specs.Marks.{most}
use Rattle.meter_spec.specs.Replies.{reply_to}
use Rattle.meter_spec.specs.Meter.{Meter, is_counter}

-- counters that are all 0
abbrev pub no_counts : List ℕ
no_counts = replicate COUNTERS 0

-- a monitor that is made now
abbrev pub fresh : List ℕ → Monitor
fresh setting = record {
  number = 0;
  setting = setting;
  running = no_counts;
  finished = no_counts;
}

-- a monitor after so many marks that are ticks
unfoldable pub marked : ℕ → Monitor → Monitor
marked marks m =
    if marks == 0 then m
    else record {
      number = (m.number + marks) % 256;
      setting = m.setting;
      running = no_counts;
      finished = if marks == 1 then m.running else no_counts;
    }

-- the monitors after so many marks
unfoldable pub marked_all : ℕ → List (Option Monitor) → List (Option Monitor)
marked_all marks monitors = map (option_map (marked marks)) monitors

-- a monitor after a synchronize time
abbrev pub synchronized : Monitor → Monitor
synchronized m = fresh m.setting

unfoldable pub synchronized_all : List (Option Monitor) → List (Option Monitor)
synchronized_all monitors = map (option_map synchronized) monitors

-- a monitor whose counter at a place has grown
unfoldable pub grown : (at n : ℕ) → Monitor → Monitor
grown at n m = record {
  number = m.number;
  setting = m.setting;
  running = slice_set m.running at (min most (slice_index m.running at + n));
  finished = m.finished;
}

abbrev pub inner : Option (Option Monitor) → Option Monitor
inner None = None
inner (Some monitor) = monitor

-- the monitor of an instance, if it is there
unfoldable pub monitor_at : ℕ → List (Option Monitor) → Option Monitor
monitor_at i monitors = if is_monitor i then inner (slice_get monitors (i - FIRST_MONITOR)) else None

-- the monitor of an instance is another one
unfoldable pub with_monitor : ℕ → Option Monitor → List (Option Monitor) → List (Option Monitor)
with_monitor i monitor monitors =
    if is_monitor i then slice_set monitors (i - FIRST_MONITOR) monitor else monitors

-- ticks pass
unfoldable pub passed : ℕ → Meter → Meter
passed n s = record {
  monitors = marked_all ((s.ticks + n) / INTERVAL_TICKS) s.monitors;
  ticks = (s.ticks + n) % INTERVAL_TICKS;
  low = s.low;
  high = s.high;
}

-- the kept reply, where it is one to a request of that TCI
abbrev pub if_answers : ℕ → Option Frame → Option Frame
if_answers tci None = None
if_answers tci (Some reply) = if reply.tci == tci then Some reply else None

abbrev pub kept_in : Priority → Meter → Option Frame
kept_in Low s = s.low
kept_in High s = s.high

-- the kept reply to a request of that TCI
unfoldable pub kept_for : ℕ → Meter → Option Frame
kept_for tci s = if_answers tci (kept_in (priority_of tci) s)

abbrev pub keep_in : Priority → Frame → Meter → Meter
keep_in Low reply s = record s { low = Some reply }
keep_in High reply s = record s { high = Some reply }

-- a reply is kept in its priority
unfoldable pub with_reply : Frame → Meter → Meter
with_reply reply s = keep_in (priority_of reply.tci) reply s

abbrev pub with_monitors : List (Option Monitor) → Meter → Meter
with_monitors monitors s = record s { monitors = monitors }

-- a monitor is created, where it may be and isn't there
unfoldable pub created : Frame → Meter → Meter
created f s =
    if is_monitor f.entity.instance && not (is_some (monitor_at f.entity.instance s.monitors))
    then with_monitors (with_monitor f.entity.instance (Some (fresh (take 2 f.contents))) s.monitors) s
    else s

-- a monitor is deleted, where it is there
unfoldable pub deleted : ℕ → Meter → Meter
deleted i s =
    if is_some (monitor_at i s.monitors) then with_monitors (with_monitor i None s.monitors) s
    else s

-- the time is synchronized, where the ONU-G is named
unfoldable pub timed : ℕ → Meter → Meter
timed i s =
    if i == 0 then record {
      monitors = synchronized_all s.monitors;
      ticks = 0;
      low = s.low;
      high = s.high;
    } else s

abbrev pub changed : Command → Frame → Meter → Meter
changed Create f s = created f s
changed Delete f s = deleted f.entity.instance s
changed Get f s = s
changed GetCurrent f s = s
changed SynchronizeTime f s = timed f.entity.instance s

-- the reply to a command that is carried out
unfoldable pub reply_now : Command → Frame → Meter → Frame
reply_now command f s = reply_to command f (monitor_at f.entity.instance s.monitors)

-- a command is carried out, and its reply is kept
unfoldable pub carried_out : Command → Frame → Meter → Meter
carried_out command f s = with_reply (reply_now command f s) (changed command f s)

abbrev pub after_found : Option Frame → Command → Frame → Meter → Meter
after_found (Some reply) command f s = s
after_found None command f s = carried_out command f s

abbrev pub after_asked : Option Command → Frame → Meter → Meter
after_asked None f s = s
after_asked (Some command) f s = after_found (kept_for f.tci s) command f s

-- a frame is taken
unfoldable pub asked : Frame → Meter → Meter
asked f s = after_asked (command_of f) f s

abbrev pub reply_found : Option Frame → Command → Frame → Meter → Option Frame
reply_found (Some reply) command f s = Some reply
reply_found None command f s = Some (reply_now command f s)

abbrev pub reply_asked : Option Command → Frame → Meter → Option Frame
reply_asked None f s = None
reply_asked (Some command) f s = reply_found (kept_for f.tci s) command f s

-- what a frame is answered
unfoldable pub answered : Frame → Meter → Option Frame
answered f s = reply_asked (command_of f) f s

-- whether a count is added
unfoldable pub counts_in : (i a : ℕ) → Meter → Counted
counts_in i a s = if is_some (monitor_at i s.monitors) && is_counter a then Added else Absent

abbrev pub grown_in : (i a n : ℕ) → Option Monitor → Meter → Meter
grown_in i a n None s = s
grown_in i a n (Some m) s =
    with_monitors (with_monitor i (Some (grown (a - FIRST_COUNTER) n m)) s.monitors) s

-- a count comes
unfoldable pub counted_in : (i a n : ℕ) → Meter → Meter
counted_in i a n s =
    if is_counter a then grown_in i a n (monitor_at i s.monitors) s else s
