-- The unit alone, over what a link gives to it and over a disk whose calls may fail.
use Rattle.std.specs.Prelude.{◌≡◌, ℕ, ◌+◌, Bool, true, false, if◌then◌else◌, nat_le, ◌||◌, List, [], ◌∷◌, ◌++◌}
use Rattle.std.specs.Prelude.{length, Option, Some, None, IfSome}
use Rattle.std.specs.Option.{option_map}
use Rattle.omci_types.specs.declared.Boot.{Boot}
use Rattle.omci_types.specs.declared.Boot.TheVariants.{PowerUp}
use Rattle.slot_spec.specs.Slots.{SlotPair, after_change}
use Rattle.store_spec.specs.History.{StoreEntry}
use Rattle.store_spec.specs.State.{StoreState, software_of}
use Rattle.store_spec.specs.Deeds.{Deed, Ignore}
use Rattle.store_spec.specs.Effects.{calls_device}
use Rattle.unit_spec.specs.declared.Did.{Did}
use Rattle.unit_spec.specs.declared.Did.TheVariants as did
use Rattle.unit_spec.specs.Onu.{Onu, Reception, onu_started, onu_received, onu_ticked, packet_deed}
use Rattle.world_spec.specs.declared.Effect.TheVariants as effect
use Rattle.world_spec.specs.Trace.{line_text}
use Rattle.turn_spec.specs.Arrivals.{Arrival, Came, Quiet, Closed, next_arrival, later_arrivals}

-- ---- a turn

-- A turn: what the link gives, and what the disk decides in it, which are whether a device call
-- fails while the unit takes a packet, and whether a start finds what the request in doubt makes of
-- the slots, where the store was broken.
pub record Turn : Type 0 where
  pub arrival : Arrival
  pub fails : Bool
  pub made : Bool

-- How far a run has come: the turns taken, the unit's life, the unit, the packets that were sent
-- and the lines that were written, both in order, and the entries of the history, newest first.
pub record UnitRun : Type 0 where
  pub turns : ℕ
  pub life : ℕ
  pub unit : Onu
  pub sent : List (List ℕ)
  pub text : List ℕ
  pub stored : List StoreEntry

-- the line of a unit that starts in a turn
abbrev pub start_line : (turn life : ℕ) → Onu → List ℕ
start_line turn life u = line_text turn (effect.UnitStarted life (software_of u.store))

-- before the first turn: the unit's first life, on a disk of these slots with so much room in each
abbrev pub run_started : (room : ℕ) → SlotPair → UnitRun
run_started room s =
    record {
      turns = 0;
      life = 1;
      unit = onu_started PowerUp room s;
      sent = [];
      text = start_line 0 1 (onu_started PowerUp room s);
      stored = [];
    }

-- the packet that a unit answers with, where it does
abbrev pub reply_of : Did → (reply : List ℕ) → List (List ℕ)
reply_of did.Dropped reply = []
reply_of did.Held reply = []
reply_of did.Kept reply = reply ∷ []
reply_of (did.Carried what) reply = reply ∷ []

-- a packet comes: its reply is sent
abbrev pub packet_came : Reception → UnitRun → UnitRun
packet_came r run =
    record run {
      unit = r.unit;
      sent = run.sent ++ reply_of r.did r.reply;
      stored = r.stored ++ run.stored;
    }

-- the slots that a start finds
abbrev pub slots_found : (made : Bool) → StoreState → SlotPair
slots_found true m = after_change m.doubt m.slots
slots_found false m = m.slots

-- the unit's next life, and its line
abbrev pub lives_again : Onu → UnitRun → UnitRun
lives_again u run =
    record run {
      life = run.life + 1;
      unit = u;
      text = run.text ++ start_line run.turns (run.life + 1) u;
    }

-- A second passes. A unit that is leaving then starts again so, which leaves nothing of what the
-- second made older.
abbrev pub second_by : Option Boot → (made : Bool) → UnitRun → UnitRun
second_by None made run = record run { unit = onu_ticked run.unit }
second_by (Some boot) made run =
    lives_again (onu_started boot run.unit.room (slots_found made run.unit.store)) run

-- what the link gives comes to the unit
abbrev pub arrives : Arrival → (fails made : Bool) → UnitRun → UnitRun
arrives (Came bytes) fails made run = packet_came (onu_received fails bytes run.unit) run
arrives Quiet fails made run = second_by run.unit.leaving made run
arrives Closed fails made run = run

-- a turn is counted, and taken
abbrev pub after_turn : Turn → UnitRun → UnitRun
after_turn t run = arrives t.arrival t.fails t.made (record run { turns = run.turns + 1 })

-- the run after these turns, newest first
abbrev pub run_of : List Turn → UnitRun → UnitRun
run_of [] run = run
run_of (t ∷ earlier) run = after_turn t (run_of earlier run)

-- that of a unit whose disk had these slots
abbrev pub unit_run : (room : ℕ) → SlotPair → List Turn → UnitRun
unit_run room s turns = run_of turns (run_started room s)

-- ---- which turns a run takes

-- whether an event is the link's end
abbrev pub closes : Arrival → Bool
closes (Came bytes) = false
closes Quiet = false
closes Closed = true

-- whether the last of these turns, newest first, found the link closed
abbrev pub is_closed : List Turn → Bool
is_closed [] = false
is_closed (t ∷ earlier) = closes t.arrival

-- whether a run of so many turns is over after these: all were taken, or the last one found the
-- link closed
abbrev pub is_over : (limit : ℕ) → List Turn → Bool
is_over limit turns = nat_le limit (length turns) || is_closed turns

-- what is asked of the store of images in a turn
abbrev pub deed_in : Arrival → Onu → Deed
deed_in (Came bytes) u = packet_deed bytes u
deed_in Quiet u = Ignore
deed_in Closed u = Ignore

-- turns, newest first, that a run may take: each while it isn't over, and a device call fails in
-- one only where its packet's deed makes any
abbrev pub AreTurns : (limit : ℕ) → List Turn → UnitRun → Type 0
AreTurns limit [] run = Unit {0}
AreTurns limit (t ∷ earlier) run =
    (is_over limit earlier ≡ false)
    × (t.fails ≡ true → calls_device (deed_in t.arrival (run_of earlier run).unit) ≡ true)
    × AreTurns limit earlier run

-- how many of them a device call failed in
abbrev pub faults_in : List Turn → ℕ
faults_in [] = 0
faults_in (t ∷ earlier) = if t.fails then faults_in earlier + 1 else faults_in earlier

-- what the link gave in them, newest first
abbrev pub given_in : List Turn → List Arrival
given_in [] = []
given_in (t ∷ earlier) = t.arrival ∷ given_in earlier

-- Events, newest first, that were taken of those that a link tells: each was the first of those
-- that were left, or the link's end where none was.
abbrev pub TakenFrom : List Arrival → (before now : Option (List Arrival)) → Type 0
TakenFrom [] before now = now ≡ before
TakenFrom (arrival ∷ earlier) before now =
    (left : Option (List Arrival)) × TakenFrom earlier before left
    × IfSome left (λ events. arrival ≡ next_arrival events)
    × (now ≡ option_map later_arrivals left)
