-- What may happen next in a channel that moves have led to.
use Rattle.std.specs.Prelude.{ℕ, ◌≡◌, ◌≢◌, true, List, Some, slice_get}
use Rattle.omci_types.specs.declared.Priority.{Priority}
use Rattle.moves_spec.specs.Channel.{Transaction, place_number, RequestOf, ReplyTo, KeptReply, Outstanding, Channel, lane_view, first_channel}
use Rattle.moves_spec.specs.Moves.{Move, may_go_down, may_go_up, after_moves}

-- moves lead there from the start of both ends
pub record IsReached (w : Channel) : Type 0 where
  pub low : ℕ
  pub high : ℕ
  pub moves : List Move
  pub is : after_moves moves (first_channel low high) ≡ w

-- a request of the command stands there, and may come to the unit
pub record MayGoDown (l : Priority) (w : Channel) (at : ℕ) (c : Transaction) : Type 0 where
  pub request : slice_get w.shared.packets at ≡ Some (RequestOf l c)
  pub may : may_go_down at (lane_view l w) ≡ true

-- and the unit doesn't keep its number, so that it is carried out where it is answered
pub record MayBeCarriedOut (l : Priority) (w : Channel) (at : ℕ) (c : Transaction) : Type 0 where
  pub comes : MayGoDown l w at c
  pub differs : (k : KeptReply) → (lane_view l w).lane.kept ≡ Some k
      → place_number k.transaction.place ≢ place_number c.place

-- a reply to the command stands there, and may come to the manager
pub record MayGoUp (l : Priority) (w : Channel) (at : ℕ) (c : Transaction)
    (bytes : List ℕ) : Type 0 where
  pub reply : slice_get w.shared.packets at ≡ Some (ReplyTo l c bytes)
  pub may : may_go_up at (lane_view l w) ≡ true

-- and it has the number of the outstanding command, so that the manager may take it
pub record MayBeTaken (l : Priority) (w : Channel) (at : ℕ) (c : Transaction) (bytes : List ℕ)
    (o : Outstanding) : Type 0 where
  pub comes : MayGoUp l w at c bytes
  pub waits : (lane_view l w).lane.outstanding ≡ Some o
  pub same : place_number c.place ≡ place_number o.transaction.place

-- the manager waits for the reply to that command
pub record IsAwaited (l : Priority) (w : Channel) (c : Transaction) : Type 0 where
  pub outstanding : Outstanding
  pub waits : (lane_view l w).lane.outstanding ≡ Some outstanding
  pub same : outstanding.transaction ≡ c

-- the unit keeps a reply under the number of that command
pub record KeepsNumber (l : Priority) (w : Channel) (c : Transaction) : Type 0 where
  pub kept : KeptReply
  pub is : (lane_view l w).lane.kept ≡ Some kept
  pub same : place_number kept.transaction.place ≡ place_number c.place
