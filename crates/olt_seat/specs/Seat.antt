-- The manager that runs alone as its code holds it, and what a step makes of it, of the lines and
-- of the link.
use Rattle.std.specs.Prelude.{◌≡◌, ℕ, ◌+◌, Bool, true, false, List, [], ◌∷◌, ◌++◌, length, ◌≤◌, drop, Option}
use Rattle.std.specs.Option.{option_map}
use Rattle.omci_core.specs.Causes.{Rose}
use Rattle.frame_spec.specs.Baseline.{frame_of}
use Rattle.link_spec.specs.declared.Direction.TheVariants.{Down}
use Rattle.script_spec.specs.Script.{Action}
use Rattle.manager_spec.specs.Manager.{Manager}
use Rattle.world_spec.specs.declared.Effect.TheVariants as effect
use Rattle.world_spec.specs.Happenings.{next_after_all}
use Rattle.world_spec.specs.Ends.{Ends, Step}
use Rattle.world_spec.specs.Trace.{line_text, lines_text}
use Rattle.turn_spec.specs.Arrivals.{Arrival, Came, Quiet, Closed}
use Rattle.turn_spec.specs.OltTurns.{OltState, OltRun, Over, alone, packets_in, opening, turned, led, arrived, broken_off}
use Rattle.omci_link.specs.Arrivals.{IsFirst, left_after}
use Rattle.olt_seat.specs.declared.fault.OltFault.{OltFault}
use Rattle.olt_seat.specs.declared.fault.OltFault.TheVariants as fault

-- the manager, the turns that were begun, the packets that were sent, and the orders that were
-- given
pub record Seat : Type 0 where
  pub manager : Manager
  pub turn : ℕ
  pub sent : ℕ
  pub given : ℕ

-- the ends that it is
abbrev pub seat_ends : Seat → Ends
seat_ends s = alone s.turn s.manager

-- the state of the run over these orders
abbrev pub state_of : List Action → Seat → OltState
state_of actions s =
    record { ends = seat_ends s; sent = s.sent; orders = drop s.given actions }

-- ---- packets that were sent

-- the packets sent once these are among them, where they are told
abbrev pub packets_after : List (List ℕ) → Option (List (List ℕ)) → Option (List (List ℕ))
packets_after packets told = option_map (λ before. before ++ packets) told

-- some of the first of these packets were sent
pub record SendsFront (packets : List (List ℕ)) (before now : Option (List (List ℕ))) : Type 0 where
  pub front : List (List ℕ)
  pub rest : List (List ℕ)
  pub parts : front ++ rest ≡ packets
  pub added : now ≡ packets_after front before

-- a line for each packet that goes down, from that number on
abbrev pub downs_text : (turn next : ℕ) → List (List ℕ) → List ℕ
downs_text turn next [] = []
downs_text turn next (p ∷ rest) =
    line_text turn (effect.PacketSent next Down (frame_of p)) ++ downs_text turn (next + 1) rest

-- ---- what the link gave

-- these are what a link answered, one after the other
abbrev pub TookAll : List Arrival → Option (List Arrival) → Option (List Arrival) → Type 0
TookAll [] before now = now ≡ before
TookAll (arrival ∷ rest) before now = IsFirst before arrival × TookAll rest (left_after before) now

abbrev pub is_closed : Arrival → Bool
is_closed (Came bytes) = false
is_closed Quiet = false
is_closed Closed = true

-- ---- steps

-- a call of the link alone stops a run: for want of memory with no fault of the link, or for such a
-- fault
abbrev pub StopsLink : OltFault → ℕ → ℕ → Type 0
StopsLink fault.NoMemory before now = now ≡ before
StopsLink fault.Link before now = Rose before now
StopsLink fault.Write before now = ⊥

-- the step was made: the ends after it are the manager's, its lines are added, and its packets sent
pub record Plays (step : Step) (old new : Seat) (before after : List ℕ)
    (sent_before sent_now : Option (List (List ℕ))) : Type 0 where
  pub ends : seat_ends new ≡ step.ends
  pub turn : new.turn ≡ old.turn
  pub count : new.sent ≡ next_after_all step.happenings old.sent
  pub given : new.given ≡ old.given
  pub text : after ≡ before ++ lines_text old.turn old.sent step.happenings
  pub packets : sent_now ≡ packets_after (packets_in step.happenings) sent_before

-- what the link gave in a turn was taken, and its step made
pub record Hears (old new : Seat) (before after : List ℕ)
    (left_before left_now : Option (List Arrival)) (sent_before sent_now : Option (List (List ℕ)))
    (closed : Bool) : Type 0 where
  pub arrival : Arrival
  pub first : IsFirst left_before arrival
  pub left : left_now ≡ left_after left_before
  pub plays : Plays (arrived arrival (seat_ends old)) old new before after sent_before sent_now
  pub closed_is : closed ≡ is_closed arrival

-- the packets of what came, where something did
abbrev pub packets_heard : Ends → List Arrival → List (List ℕ)
packets_heard e [] = []
packets_heard e (arrival ∷ later) = packets_in (arrived arrival e).happenings

-- what the link gave was taken or not, and some of the packets of its step were sent
pub record HearsInPart (old : Seat) (left_before left_now : Option (List Arrival))
    (sent_before sent_now : Option (List (List ℕ))) : Type 0 where
  pub taken : List Arrival
  pub one : length taken ≤ 1
  pub took : TookAll taken left_before left_now
  pub sent : SendsFront (packets_heard (seat_ends old) taken) sent_before sent_now

-- the turn was begun, and its order given where it has one
pub record Opens (turns : ℕ) (st now : OltState) (before after : List ℕ)
    (sent_before sent_now : Option (List (List ℕ))) : Type 0 where
  pub packets : List (List ℕ)
  pub text : List ℕ
  pub sent : sent_now ≡ packets_after packets sent_before
  pub lines : after ≡ before ++ text
  pub rest : (listens : OltState → OltRun) → turned (opening turns st) listens st
      ≡ led packets text (listens now)

-- the run is over, and nothing was done
pub record StaysOver (turns : ℕ) (st now : OltState) (before after : List ℕ)
    (sent_before sent_now : Option (List (List ℕ))) : Type 0 where
  pub over : opening turns st ≡ Over
  pub kept : now ≡ st
  pub lines : after ≡ before
  pub sent : sent_now ≡ sent_before

-- what stands before a turn was done: the turn is begun, or the run is over
abbrev pub Begins : (goes_on : Bool) → (turns : ℕ) → (st now : OltState) → (before after : List ℕ)
    → (sent_before sent_now : Option (List (List ℕ))) → Type 0
Begins true turns st now before after sent_before sent_now =
    Opens turns st now before after sent_before sent_now
Begins false turns st now before after sent_before sent_now =
    StaysOver turns st now before after sent_before sent_now

-- where a fault breaks it off, some of the packets of its order were sent
abbrev pub opening_packets : (turns : ℕ) → OltState → List (List ℕ)
opening_packets turns st = (turned (opening turns st) (λ listening. broken_off) st).packets
