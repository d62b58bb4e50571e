-- What the counters hold after a list of events, and what a frame is answered.
use Rattle.std.specs.Prelude.{ℕ, ◌&&◌, nat_le, zero, suc, ◌+◌, ◌%◌, Bool, true, false, if◌then◌else◌, List, [], ◌∷◌, take, Option, Some, None}
use Rattle.omci_types.specs.declared.Frame.{Frame}
use Rattle.omci_types.specs.declared.Priority.{Priority}
use Rattle.omci_types.specs.declared.Priority.TheVariants.{Low, High}
use Rattle.tci_spec.specs.Tci.{priority_of}
use Rattle.meter_spec.specs.declared.TheConstants.{FIRST_COUNTER, COUNTERS, ATTRIBUTES, FIRST_MONITOR}
use Rattle.meter_spec.specs.declared.Command.{Command}
use Rattle.meter_spec.specs.declared.Monitor.{Monitor}
use Rattle.meter_spec.specs.declared.Counted.{Counted}
use Rattle.meter_spec.specs.declared.Counted.TheVariants.{Absent, Added}
use Rattle.meter_spec.specs.Events.{Event, History, Asked, Grown, Ticked, command_of, command_in, is_in, is_repeat, is_there, creates}
use Rattle.meter_spec.specs.Marks.{current, interval, tick_marks, ticks_since_mark}
use Rattle.meter_spec.specs.Replies.{reply_to}

-- whether an attribute is a counter
abbrev pub is_counter : ℕ → Bool
is_counter a = nat_le FIRST_COUNTER a && nat_le a ATTRIBUTES

-- the values of so many attributes in a row, from one on
unfoldable pub row_of : (many from : ℕ) → (ℕ → ℕ) → List ℕ
row_of zero from value = []
row_of (suc many) from value = value from ∷ row_of many (suc from) value

-- the first two bytes of the values of a create
abbrev pub setting_in : Event → List ℕ
setting_in (Asked f) = take 2 f.contents
setting_in (Grown i a n) = []
setting_in Ticked = []

-- Attribute 2: the first two bytes of the values of the request that last created the monitor.
unfoldable pub setting : ℕ → History → List ℕ
setting i [] = []
setting i (e ∷ before) = if creates i e before then setting_in e else setting i before

-- What the monitor of an instance holds where it is there.
unfoldable pub monitor_with : ℕ → History → Monitor
monitor_with i h = record {
  number = tick_marks i h % 256;
  setting = setting i h;
  running = row_of COUNTERS FIRST_COUNTER (λ a. current i a h);
  finished = row_of COUNTERS FIRST_COUNTER (λ a. interval i a h);
}

-- The monitor of an instance, if it is there.
unfoldable pub monitor_of : ℕ → History → Option Monitor
monitor_of i h = if is_there i h then Some (monitor_with i h) else None

-- the reply that an event keeps in a priority, or the one that was kept before it
abbrev pub kept_by : Priority → Event → Option Command → Option Monitor → Option Frame
    → Option Frame
kept_by p (Asked f) (Some command) monitor was =
    if is_in p f.tci then Some (reply_to command f monitor) else was
kept_by p (Asked f) None monitor was = was
kept_by p (Grown i a n) command monitor was = was
kept_by p Ticked command monitor was = was

-- the monitor that an event names
abbrev pub named_in : Event → History → Option Monitor
named_in (Asked f) before = monitor_of f.entity.instance before
named_in (Grown i a n) before = monitor_of i before
named_in Ticked before = None

-- The kept reply of a priority: that to the last request of the priority which was carried out.
unfoldable pub kept : Priority → History → Option Frame
kept p [] = None
kept p (e ∷ before) = kept_by p e (command_in e before) (named_in e before) (kept p before)

-- what the counters are: the monitors of the four instances, the ticks since the last mark, and the
-- kept reply of each priority
pub record Meter : Type 0 where
  pub monitors : List (Option Monitor)
  pub ticks : ℕ
  pub low : Option Frame
  pub high : Option Frame

abbrev pub answer_by : Option Command → Bool → Option Frame → Frame → Option Monitor
    → Option Frame
answer_by None comes_again kept_one f monitor = None
answer_by (Some command) true kept_one f monitor = kept_one
answer_by (Some command) false kept_one f monitor = Some (reply_to command f monitor)

-- What a frame is answered after a list of events. No request of a monitor and no synchronize time:
-- nothing. One that comes again: the kept reply of its priority. Else the reply to it.
unfoldable pub answer : Frame → History → Option Frame
answer f h = answer_by (command_of f) (is_repeat f h) (kept (priority_of f.tci) h) f
    (monitor_of f.entity.instance h)

-- What the counters are after a list of events.
unfoldable pub meter_of : History → Meter
meter_of h = record {
  monitors = monitor_of FIRST_MONITOR h
      ∷ monitor_of (FIRST_MONITOR + 1) h
      ∷ monitor_of (FIRST_MONITOR + 2) h
      ∷ monitor_of (FIRST_MONITOR + 3) h
      ∷ [];
  ticks = ticks_since_mark h;
  low = kept Low h;
  high = kept High h;
}

-- Whether a count is added: the monitor is there, and the attribute is a counter.
unfoldable pub counted : (i a : ℕ) → History → Counted
counted i a h = if is_there i h && is_counter a then Added else Absent

-- so many ticks after some events
unfoldable pub with_ticks : ℕ → History → History
with_ticks zero h = h
with_ticks (suc n) h = Ticked ∷ with_ticks n h
