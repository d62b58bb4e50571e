-- What is held of a link: how many packets were sent, the last of them, and the ways. The link's
-- answers need no more.
use Rattle.std.specs.Prelude.{ℕ, ◌+◌, ◌-◌, Bool, if◌then◌else◌, nat_le, List, [], ◌∷◌, ◌++◌, length, slice_get, Option, Some, None}
use Rattle.circular_buffer.specs.Buffer.{keep_last}
use Rattle.link_spec.specs.declared.TheConstants.{WINDOW}
use Rattle.link_spec.specs.Link.{Sent, Ways, ways_from, Link, count, allowed_one, ways_past, first_fresh}

-- the count of packets that were sent, the last WINDOW of them, and the ways
pub record Held : Type 0 where
  pub count : ℕ
  pub last : List Sent
  pub ways : Ways

-- what is held of a link
unfoldable pub held_of : Link → Held
held_of l = record { count = count l; last = keep_last WINDOW l.packets; ways = l.ways }

abbrev pub nothing_held : Held
nothing_held = record { count = 0; last = []; ways = ways_from 0 }

-- the number of the oldest packet that is held
abbrev pub first_held : Held → ℕ
first_held h = h.count - length h.last

-- the packet of that number, where it is held
abbrev pub held_packet : ℕ → Held → Option Sent
held_packet number h = if nat_le (first_held h) number then slice_get h.last (number - first_held h)
    else None

-- a packet goes onto the link
unfoldable pub held_sent : Sent → Held → Held
held_sent s h = record h { count = h.count + 1; last = keep_last WINDOW (h.last ++ s ∷ []) }

-- the packet of that number, where it may come
unfoldable pub held_allowed : ℕ → Held → Option Sent
held_allowed number h = allowed_one number (held_packet number h) h.ways h.count

-- the packet of that number was delivered
abbrev pub held_delivered : ℕ → Sent → Held → Held
held_delivered number s h = record h { ways = ways_past number s h.ways }

abbrev pub held_carried : ℕ → Option Sent → Held → Held
held_carried number None h = h
held_carried number (Some s) h = held_delivered number s h

-- what is held after a delivery of that number
unfoldable pub held_after : ℕ → Held → Held
held_after number h = held_carried number (held_allowed number h) h

-- the oldest fresh packet
unfoldable pub held_fresh : Bool → Bool → Held → Option ℕ
held_fresh unit_on manager_on h = first_fresh unit_on manager_on (first_held h) h.last h.ways
    h.count

-- an end starts
abbrev pub held_emptied : Held → Held
held_emptied h = record h { ways = ways_from h.count }
