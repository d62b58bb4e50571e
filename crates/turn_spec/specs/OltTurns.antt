-- The manager alone, over its orders and over what a link gives to it. It is the manager of the two
-- ends with a unit that is off: what an order asks for, what comes and what a second does are steps
-- of these ends, and the lines are theirs, with the turn in the place of the event.
use Rattle.std.specs.Prelude.{ℕ, ◌+◌, Bool, true, false, ◌&&◌, nat_le, List, [], ◌∷◌, ◌++◌, length, Option, Some, None, is_none, codes}
use Rattle.std.specs.List.{flat_map}
use Rattle.std.specs.Fmt.{decimal}
use Rattle.slot_spec.specs.Slots.{SlotPair}
use Rattle.script_spec.specs.Script.{Action, Orders}
use Rattle.link_spec.specs.Link.{empty_link}
use Rattle.manager_spec.specs.Manager.{Manager, manager_started}
use Rattle.world_spec.specs.Happenings.{Happening, PacketSent, next_after_all}
use Rattle.world_spec.specs.Ends.{Ends, Step, still, manager_got, manager_ticks}
use Rattle.world_spec.specs.Nodes.{acted}
use Rattle.world_spec.specs.Trace.{lines_text}
use Rattle.turn_spec.specs.Arrivals.{Arrival, Came, Quiet, Closed}

-- ---- how far a run has come

-- the ends whose event is the number of turns taken and whose unit is off, how many packets were
-- sent, and the orders that are left
pub record OltState : Type 0 where
  pub ends : Ends
  pub sent : ℕ
  pub orders : List Action

-- a unit that is off, and of which nothing is known
abbrev pub no_slots : SlotPair
no_slots = record { first = None; second = None; committed = 0 }

-- a manager whose unit is off, in a turn of that number
abbrev pub alone : (turn : ℕ) → Manager → Ends
alone turn m = record {
  event = turn;
  lives = 0;
  room = 0;
  slots = no_slots;
  unit = None;
  manager = Some m;
}

-- before its first turn the manager has just started, and no order was given
abbrev pub olt_first : Orders → OltState
olt_first orders =
    record {
      ends = alone 0 (manager_started orders.header.low orders.header.high);
      sent = 0;
      orders = orders.actions;
    }

-- ---- before a turn

-- neither lane has a command outstanding, and no job runs
abbrev pub is_idle : Manager → Bool
is_idle m = is_none m.low.outstanding && (is_none m.high.outstanding && is_none m.job)

-- a manager that is off waits for nothing
abbrev pub idle_in : Option Manager → Bool
idle_in None = true
idle_in (Some m) = is_idle m

-- What stands before the next turn: the run is over, an order is given first, or the manager still
-- waits and is given none.
pub data Opening : Type 0 where
  Over : Opening
  Gives : (order : Action) (later : List Action) → Opening
  Waits : Opening

-- a manager that waits for nothing is given the next order, and where none is left the run is over
abbrev pub opening_idle : List Action → Opening
opening_idle [] = Over
opening_idle (order ∷ later) = Gives order later

abbrev pub opening_by : (all_taken idle : Bool) → List Action → Opening
opening_by true idle orders = Over
opening_by false true orders = opening_idle orders
opening_by false false orders = Waits

-- what stands before the next turn of a run of so many turns
abbrev pub opening : (turns : ℕ) → OltState → Opening
opening turns s = opening_by (nat_le turns s.ends.event) (idle_in s.ends.manager) s.orders

-- ---- the parts of a turn

-- the next turn is begun
abbrev pub turn_begun : OltState → OltState
turn_begun s = record s { ends = record s.ends { event = s.ends.event + 1 } }

-- what an order asks for
abbrev pub ordered : Action → Ends → Step
ordered order e = acted order (record { ends = e; link = empty_link })

-- what the link gives: a packet comes to the manager, and a second without one passes
abbrev pub arrived : Arrival → Ends → Step
arrived (Came bytes) e = manager_got [] bytes e.manager e
arrived Quiet e = manager_ticks e.manager e
arrived Closed e = still e

-- the packets that go out in a step, in order
abbrev pub packet_in : Happening → List (List ℕ)
packet_in (PacketSent whose packet) = packet.bytes ∷ []
packet_in _ = []

abbrev pub packets_in : List Happening → List (List ℕ)
packets_in happenings = flat_map packet_in happenings

-- the state after a step, which leaves these orders
abbrev pub after_step : Step → List Action → OltState → OltState
after_step step orders s =
    record { ends = step.ends; sent = next_after_all step.happenings s.sent; orders = orders }

-- ---- what a run comes to

-- the packets that it sends, the lines that it writes, and whether it has come to its end
pub record OltRun : Type 0 where
  pub packets : List (List ℕ)
  pub text : List ℕ
  pub ended : Bool

-- a run whose link gives no more before its end
abbrev pub broken_off : OltRun
broken_off = record { packets = []; text = []; ended = false }

-- the last line: the turns taken and the orders not given
abbrev pub left_text : OltState → List ℕ
left_text s = decimal s.ends.event ++ codes " left " ++ decimal (length s.orders) ++ codes "\n"

-- a run that is at its end
abbrev pub at_end : OltState → OltRun
at_end s = record { packets = []; text = left_text s; ended = true }

-- these packets and lines, and then the rest of a run
abbrev pub led : (packets : List (List ℕ)) (text : List ℕ) → OltRun → OltRun
led packets text rest =
    record { packets = packets ++ rest.packets; text = text ++ rest.text; ended = rest.ended }

-- a step and what comes after it, which leaves these orders
abbrev pub goes_on : Step → List Action → (OltState → OltRun) → OltState → OltRun
goes_on step orders rest s =
    led (packets_in step.happenings) (lines_text s.ends.event s.sent step.happenings)
    (rest (after_step step orders s))

-- the link's end is the run's
abbrev pub after_arrival : Arrival → (OltState → OltRun) → OltState → OltRun
after_arrival (Came bytes) rest s = rest s
after_arrival Quiet rest s = rest s
after_arrival Closed rest s = at_end s

-- what the link gives in the turn, and the run after it
abbrev pub heard : Arrival → (OltState → OltRun) → OltState → OltRun
heard arrival rest s = goes_on (arrived arrival s.ends) s.orders (after_arrival arrival rest) s

-- a turn by what stands before it: the order is given, and then comes what the link gives
abbrev pub turned : Opening → (OltState → OltRun) → OltState → OltRun
turned Over listens s = at_end s
turned (Gives order later) listens s =
    goes_on (ordered order (turn_begun s).ends) later listens (turn_begun s)
turned Waits listens s = listens (turn_begun s)

-- the run of at most so many turns over what the link gives, from there on
unfoldable pub olt_run_from : (turns : ℕ) → List Arrival → OltState → OltRun
olt_run_from turns [] s = turned (opening turns s) (λ listening. broken_off) s
olt_run_from turns (arrival ∷ later) s =
    turned (opening turns s) (heard arrival (olt_run_from turns later)) s

-- the run of the manager over its orders
abbrev pub olt_run : (turns : ℕ) → Orders → List Arrival → OltRun
olt_run turns orders arrivals = olt_run_from turns arrivals (olt_first orders)
