-- Marks, and the sums of the counts between two places of a list of events. A place is a number of
-- events: what stands before the place are so many events from the start.
use Rattle.std.specs.Prelude.{ℕ, suc, ◌+◌, ◌==◌, ◌&&◌, ◌||◌, nat_le, nat_lt, min, Bool, false, if◌then◌else◌, [], ◌∷◌, length}
use Rattle.meter_spec.specs.declared.TheConstants.{INTERVAL_TICKS}
use Rattle.meter_spec.specs.Events.{Event, History, Asked, Grown, Ticked, creates, synchronizes}

-- the ticks of an event
abbrev pub ticks_in : Event → ℕ
ticks_in Ticked = 1
ticks_in (Asked f) = 0
ticks_in (Grown i a n) = 0

-- whether an event is a mark, so many ticks after the last mark
abbrev pub is_mark_after : ℕ → Event → History → Bool
is_mark_after ticks Ticked before = ticks + 1 == INTERVAL_TICKS
is_mark_after ticks (Asked f) before = synchronizes (Asked f) before
is_mark_after ticks (Grown i a n) before = false

-- The ticks since the last mark. The start is a mark.
unfoldable pub ticks_since_mark : History → ℕ
ticks_since_mark [] = 0
ticks_since_mark (e ∷ before) =
    if is_mark_after (ticks_since_mark before) e before then 0
    else ticks_since_mark before + ticks_in e

-- Whether an event is a mark: a synchronize time that is carried out with code 0, or the 900th tick
-- after the last mark.
unfoldable pub is_mark : Event → History → Bool
is_mark e before = is_mark_after (ticks_since_mark before) e before

-- The place of the last mark.
unfoldable pub last_mark : History → ℕ
last_mark [] = 0
last_mark (e ∷ before) = if is_mark e before then suc (length before) else last_mark before

-- The place of the mark before the last one.
unfoldable pub mark_before : History → ℕ
mark_before [] = 0
mark_before (e ∷ before) = if is_mark e before then last_mark before else mark_before before

-- Whether the last mark is a tick.
unfoldable pub is_tick_mark : History → Bool
is_tick_mark [] = false
is_tick_mark (e ∷ before) = if is_mark e before then ticks_in e == 1 else is_tick_mark before

-- how much an event counts for an instance's attribute
abbrev pub count_in : (i a : ℕ) → Event → ℕ
count_in i a (Grown instance attribute n) = if instance == i && attribute == a then n else 0
count_in i a (Asked f) = 0
count_in i a Ticked = 0

-- whether a place is one of those between two places
abbrev pub is_between : (from to place : ℕ) → Bool
is_between from to place = nat_le from place && nat_lt place to

-- The counts of an instance's attribute between two places, without those before the monitor's last
-- creation.
unfoldable pub counts : (i a from to : ℕ) → History → ℕ
counts i a from to [] = 0
counts i a from to (e ∷ before) =
    if creates i e before then 0
    else counts i a from to before
    + (if is_between from to (length before) then count_in i a e else 0)

-- A sum that is above the greatest number of a counter stays at that number.
abbrev pub most : ℕ
most = 4294967295

unfoldable pub sum : (i a from to : ℕ) → History → ℕ
sum i a from to h = min most (counts i a from to h)

-- The sum since the last mark: get current data gives it.
unfoldable pub current : (i a : ℕ) → History → ℕ
current i a h = sum i a (last_mark h) (length h) h

-- The sum of the interval that is over: get gives it. Where the last mark is no tick, no interval is
-- over, and it is 0.
unfoldable pub interval : (i a : ℕ) → History → ℕ
interval i a h = if is_tick_mark h then sum i a (mark_before h) (last_mark h) h else 0

-- The tick marks since the last of these: a synchronize time that is carried out with code 0, the
-- start, and the monitor's creation.
unfoldable pub tick_marks : ℕ → History → ℕ
tick_marks i [] = 0
tick_marks i (e ∷ before) =
    if synchronizes e before || creates i e before then 0
    else if is_mark e before then tick_marks i before + 1
    else tick_marks i before
