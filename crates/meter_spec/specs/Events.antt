-- What happens at a unit's interval counters, and which requests are carried out. A list of events
-- has the last one first: it begins with what happened just now.
use Rattle.std.specs.Prelude.{ℕ, ◌+◌, ◌==◌, ◌&&◌, not, nat_le, nat_lt, Bool, true, false, if◌then◌else◌, List, [], ◌∷◌, Option, Some, None, is_some}
use Rattle.omci_types.specs.declared.Frame.{Frame}
use Rattle.omci_types.specs.declared.Priority.{Priority}
use Rattle.omci_types.specs.declared.Priority.TheVariants.{Low, High}
use Rattle.tci_spec.specs.Tci.{is_low, priority_of}
use Rattle.meter_spec.specs.declared.TheConstants.{MONITOR_CLASS, ONU_CLASS, FIRST_MONITOR, MONITORS, CREATE, DELETE, GET, GET_CURRENT_DATA, SYNCHRONIZE_TIME}
use Rattle.meter_spec.specs.declared.Command.{Command}
use Rattle.meter_spec.specs.declared.Command.TheVariants.{Create, Delete, Get, GetCurrent, SynchronizeTime}

pub data Event : Type 0 where
  -- a frame comes
  Asked : Frame → Event
  -- an instance's attribute is to grow by a number
  Grown : ℕ → ℕ → ℕ → Event
  -- a tick passes
  Ticked : Event

-- the events so far, the last one first
abbrev pub History : Type 0
History = List Event

-- what a type byte asks of a monitor
abbrev pub monitor_command : ℕ → Option Command
monitor_command kind =
    if kind == CREATE then Some Create
    else if kind == DELETE then Some Delete
    else if kind == GET then Some Get
    else if kind == GET_CURRENT_DATA then Some GetCurrent
    else None

-- what a frame asks of the monitors, if it is a request to them
unfoldable pub command_of : Frame → Option Command
command_of f =
    if f.entity.class == MONITOR_CLASS then monitor_command f.kind
    else if f.entity.class == ONU_CLASS && f.kind == SYNCHRONIZE_TIME then Some SynchronizeTime
    else None

-- whether a TCI is of a priority
abbrev pub is_in : Priority → ℕ → Bool
is_in Low tci = is_low tci
is_in High tci = not (is_low tci)

-- The TCI of the last request of a priority.
unfoldable pub last_tci : Priority → History → Option ℕ
last_tci p [] = None
last_tci p (Asked f ∷ before) =
    if is_some (command_of f) && is_in p f.tci then Some f.tci else last_tci p before
last_tci p (Grown i a n ∷ before) = last_tci p before
last_tci p (Ticked ∷ before) = last_tci p before

abbrev pub is_tci : ℕ → Option ℕ → Bool
is_tci tci None = false
is_tci tci (Some other) = other == tci

-- Whether a frame comes again: the last request of its priority had its TCI.
unfoldable pub is_repeat : Frame → History → Bool
is_repeat f before = is_tci f.tci (last_tci (priority_of f.tci) before)

-- The command of a frame that is carried out: that of a request which doesn't come again.
unfoldable pub carried : Frame → History → Option Command
carried f before = if is_repeat f before then None else command_of f

-- the command that an event carries out
abbrev pub command_in : Event → History → Option Command
command_in (Asked f) before = carried f before
command_in (Grown i a n) before = None
command_in Ticked before = None

-- the instance that an event names
abbrev pub instance_in : Event → ℕ
instance_in (Asked f) = f.entity.instance
instance_in (Grown i a n) = i
instance_in Ticked = 0

-- whether a monitor may have the instance
unfoldable pub is_monitor : ℕ → Bool
is_monitor i = nat_le FIRST_MONITOR i && nat_lt i (FIRST_MONITOR + MONITORS)

-- whether a monitor is there after a command that names it or another one
abbrev pub is_there_after : Option Command → (names_it may_be was : Bool) → Bool
is_there_after (Some Create) true may_be was = may_be
is_there_after (Some Delete) true may_be was = false
is_there_after command names_it may_be was = was

-- Whether the monitor of an instance is there.
unfoldable pub is_there : ℕ → History → Bool
is_there i [] = false
is_there i (e ∷ before) =
    is_there_after (command_in e before) (instance_in e == i) (is_monitor i) (is_there i before)

abbrev pub is_created_by : Option Command → (names_it may_be was : Bool) → Bool
is_created_by (Some Create) true may_be was = may_be && not was
is_created_by command names_it may_be was = false

-- Whether an event creates the monitor of an instance.
unfoldable pub creates : ℕ → Event → History → Bool
creates i e before =
    is_created_by (command_in e before) (instance_in e == i) (is_monitor i) (is_there i before)

abbrev pub is_synchronized_by : Option Command → ℕ → Bool
is_synchronized_by (Some SynchronizeTime) instance = instance == 0
is_synchronized_by command instance = false

-- Whether an event is a synchronize time that is carried out with code 0.
unfoldable pub synchronizes : Event → History → Bool
synchronizes e before = is_synchronized_by (command_in e before) (instance_in e)
