-- What a link in memory is, and what one call makes of it.
use Rattle.std.specs.Prelude.{◌==◌, ℕ, Bool, ◌||◌, List, [], ◌∷◌, ◌++◌, length, nat_le}
use Rattle.std.specs.List.{list_any}
use Rattle.omci_core.specs.Memory.{one_more}
use Rattle.turn_spec.specs.Arrivals as turn
use Rattle.omci_link.specs.declared.arrival.MemArrival as given
use Rattle.omci_link.specs.declared.arrival.MemArrival.TheVariants as gives

-- what is to come, as the definition has it
abbrev pub arrival_of : given.MemArrival → turn.Arrival
arrival_of (gives.Packet packet) = turn.Came packet
arrival_of gives.Quiet = turn.Quiet
arrival_of gives.Closed = turn.Closed

-- a link in memory: the arrivals left, the packets sent, how many it has room for, the calls so
-- far, the calls that are to fail, and the faults so far
pub record LinkState : Type 0 where
  pub left : List turn.Arrival
  pub sent : List (List ℕ)
  pub room : ℕ
  pub calls : ℕ
  pub fails : List ℕ
  pub faults : ℕ

-- whether the next call fails by the list of calls that are to fail
abbrev pub call_fails : LinkState → Bool
call_fails s = list_any (λ call. call == one_more s.calls) s.fails

-- whether a next call that sends fails: the list names it, or the link is full
abbrev pub send_fails : LinkState → Bool
send_fails s = call_fails s || nat_le s.room (length s.sent)

-- a link after one more call
abbrev pub after_call : LinkState → LinkState
after_call s = record s { calls = one_more s.calls }

-- a link after one more fault
abbrev pub after_fault : LinkState → LinkState
after_fault s = record s { faults = one_more s.faults }

-- a link after a call that failed
abbrev pub link_failed : LinkState → LinkState
link_failed s = after_fault (after_call s)

-- a link after a call that took the first arrival left
abbrev pub link_took : LinkState → LinkState
link_took s = record (after_call s) { left = turn.later_arrivals s.left }

-- a link after a call that sent this packet
abbrev pub link_sent : List ℕ → LinkState → LinkState
link_sent packet s = record (after_call s) { sent = s.sent ++ packet ∷ [] }
