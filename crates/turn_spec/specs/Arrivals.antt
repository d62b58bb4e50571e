-- What a link gives to the end that listens to it.
use Rattle.std.specs.Prelude.{ℕ, List, [], ◌∷◌}

-- what one turn takes from the link: a packet that came, a second without one, or the link's end
pub data Arrival : Type 0 where
  Came : List ℕ → Arrival
  Quiet : Arrival
  Closed : Arrival

-- what the next turn takes of the events that are left: the first, or the link's end where none is
abbrev pub next_arrival : List Arrival → Arrival
next_arrival [] = Closed
next_arrival (arrival ∷ later) = arrival

-- the events that are left after it
abbrev pub later_arrivals : List Arrival → List Arrival
later_arrivals [] = []
later_arrivals (arrival ∷ later) = later
