-- The channel between the two ends: the packets that were ever sent, what both ends hold of each
-- lane, and the history.
use Rattle.std.specs.Prelude.{ℕ, ◌+◌, ◌%◌, Bool, false, List, [], Option, None}
use Rattle.omci_types.specs.declared.Priority.{Priority}
use Rattle.omci_types.specs.declared.Priority.TheVariants.{Low, High}
use Rattle.history_spec.specs.History.{Entry}
use Rattle.frame_spec.specs.declared.TheConstants.{LAST_NUMBER}

-- A command as a manager drew it. Its id is its number over the whole run. Its place counts the
-- draws in its lane, and gives the number in its TCI. The packets are those of each time that it is
-- sent.
pub record Transaction : Type 0 where
  pub id : ℕ
  pub place : ℕ
  pub probe : Bool
  pub packets : List (List ℕ)

-- the number in the TCI of the transaction at that place of its lane
unfoldable pub place_number : ℕ → ℕ
place_number place = place % LAST_NUMBER + 1

-- A packet on the link with the transaction that it belongs to. A notice belongs to none.
pub data LinkPacket : Type 0 where
  RequestOf : (lane : Priority) (transaction : Transaction) → LinkPacket
  ReplyTo : (lane : Priority) (transaction : Transaction) (bytes : List ℕ) → LinkPacket
  Unasked : LinkPacket

-- what the unit keeps of the last command that it carried out in a lane
pub record KeptReply : Type 0 where
  pub transaction : Transaction
  pub reply : List ℕ

-- the command for whose reply the manager waits in a lane, and how many packets of it were sent
pub record Outstanding : Type 0 where
  pub transaction : Transaction
  pub sent : ℕ

-- What the two ends and the link hold of one lane. No packet below a floor may come. The place is
-- that of the outstanding command, or of the next one where there is none. Since is how many
-- packets had been sent when the outstanding command was drawn, or when the last one ended.
pub record LaneState : Type 0 where
  pub floor_down : ℕ
  pub floor_up : ℕ
  pub kept : Option KeptReply
  pub proved : Bool
  pub place : ℕ
  pub since : ℕ
  pub outstanding : Option Outstanding

-- What the lanes share: the packets, oldest first; the lane of each command, by its id; in which
-- life the unit is; and the history, newest first.
pub record Shared : Type 0 where
  pub packets : List LinkPacket
  pub draws : List Priority
  pub life : ℕ
  pub history : List Entry

pub record Channel : Type 0 where
  pub shared : Shared
  pub low : LaneState
  pub high : LaneState

-- one lane, and what it shares with the other
pub record View : Type 0 where
  pub shared : Shared
  pub lane : LaneState

abbrev pub lane_view : Priority → Channel → View
lane_view Low w = record { shared = w.shared; lane = w.low }
lane_view High w = record { shared = w.shared; lane = w.high }

abbrev pub with_lane_view : Priority → View → Channel → Channel
with_lane_view Low v w = record { shared = v.shared; low = v.lane; high = w.high }
with_lane_view High v w = record { shared = v.shared; low = w.low; high = v.lane }

-- The channel when both ends have just started. The first number of a lane is that of a place.
abbrev pub first_lane_state : ℕ → LaneState
first_lane_state place = record {
  floor_down = 0;
  floor_up = 0;
  kept = None;
  proved = false;
  place = place;
  since = 0;
  outstanding = None;
}

abbrev pub first_shared : Shared
first_shared = record { packets = []; draws = []; life = 1; history = [] }

abbrev pub first_channel : ℕ → ℕ → Channel
first_channel low high = record {
  shared = first_shared;
  low = first_lane_state low;
  high = first_lane_state high;
}
