-- What the answer of a link means, and what its call says of the arrivals that the link tells.
use Rattle.std.specs.Prelude.{◌≡◌, ℕ, ◌≤◌, List, [], ◌∷◌, ◌++◌, take, Option, IfSome, ⊤}
use Rattle.std.specs.Option.{option_map}
use Rattle.frame_spec.specs.declared.TheConstants.{MAX_PACKET_BYTES}
use Rattle.turn_spec.specs.Arrivals as turn
use Rattle.omci_link.specs.declared.arrival.Arrival as answer
use Rattle.omci_link.specs.declared.arrival.Arrival.TheVariants as answers

-- what an answer and the buffer beside it say that came
abbrev pub arrived : answer.Arrival → List ℕ → turn.Arrival
arrived (answers.Packet count) buffer = turn.Came (take count buffer)
arrived answers.Quiet buffer = turn.Quiet
arrived answers.Closed buffer = turn.Closed

-- a packet in an answer has at most 1,980 bytes
abbrev pub HasPacketBound : answer.Arrival → Type 0
HasPacketBound (answers.Packet count) = count ≤ MAX_PACKET_BYTES
HasPacketBound answers.Quiet = ⊤
HasPacketBound answers.Closed = ⊤

-- where the arrivals left are told, this is the first of them, or the link's end where none is left
abbrev pub IsFirst : Option (List turn.Arrival) → turn.Arrival → Type 0
IsFirst told arrival = IfSome told (λ arrivals. arrival ≡ turn.next_arrival arrivals)

-- the arrivals left after the first was taken, where they are told
abbrev pub left_after : Option (List turn.Arrival) → Option (List turn.Arrival)
left_after told = option_map turn.later_arrivals told

-- the packets sent once this one is among them, where they are told
abbrev pub sent_after : List ℕ → Option (List (List ℕ)) → Option (List (List ℕ))
sent_after packet told = option_map (λ packets. packets ++ packet ∷ []) told
