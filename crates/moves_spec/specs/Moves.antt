-- The moves of the channel, and what each changes. A move that isn't enabled changes nothing.
use Rattle.std.specs.Prelude.{ℕ, ◌+◌, Bool, true, false, ◌&&◌, List, [], ◌∷◌, ◌++◌, length, Option, Some, None, slice_get, nat_le, nat_eq}
use Rattle.omci_types.specs.declared.Priority.{Priority}
use Rattle.omci_types.specs.declared.Priority.TheVariants.{Low, High}
use Rattle.mib_spec.specs.Database.{Database}
use Rattle.history_spec.specs.History.{Remark, Entry, CarriedOut, TookReply, Remarked}
use Rattle.link_spec.specs.Link.{is_young}
use Rattle.moves_spec.specs.Channel.{Transaction, place_number, LinkPacket, RequestOf, ReplyTo, Unasked, KeptReply, Outstanding, Channel, View, lane_view, with_lane_view}

-- what carrying a request out comes to: the reply's packet, and the database before it
pub record Execution : Type 0 where
  pub reply : List ℕ
  pub before : Database

pub data Move : Type 0 where
  -- the manager draws a lane's next command, which sends these packets each time
  Draw : (lane : Priority) (probe : Bool) (packets : List (List ℕ)) → Move
  -- it sends the packets of the lane's outstanding command
  Send : (lane : Priority) → Move
  -- it waits no more for the lane's outstanding command
  GiveUp : (lane : Priority) → Move
  -- the request at that place of the link comes to the unit, which carries it out so unless it
  -- keeps the number; or the unit takes it from the link and does nothing with it
  RequestComes : (at : ℕ) (execution : Option Execution) → Move
  -- the reply or notice at that place of the link comes to the manager, which takes the reply where
  -- it wants it and waits for its number
  ReplyComes : (at : ℕ) (wanted : Bool) → Move
  -- the unit sends a notice
  Notify : Move
  -- something is noted in the history
  Write : (remark : Remark) → Move
  -- the unit starts
  UnitStarts : Move
  -- a manager starts; the first number of a lane is that of the place given for it
  ManagerStarts : (low high : ℕ) → Move

-- ---- the manager draws, sends and gives up

abbrev pub drawn_transaction : Bool → List (List ℕ) → View → Transaction
drawn_transaction probe packets v =
    record { id = length v.shared.draws; place = v.lane.place; probe = probe; packets = packets }

-- nothing of it was sent yet
abbrev pub outstanding_of : Transaction → Outstanding
outstanding_of t = record { transaction = t; sent = 0 }

abbrev pub with_draw : Priority → Bool → List (List ℕ) → View → View
with_draw l probe packets v =
    record {
      shared = record v.shared { draws = v.shared.draws ++ l ∷ [] };
      lane = record v.lane {
        since = length v.shared.packets;
        outstanding = Some (outstanding_of (drawn_transaction probe packets v));
      };
    }

-- a lane that waits draws nothing, and one that isn't proved draws nothing but a probe
abbrev pub draw_if : Priority → Bool → List (List ℕ) → View → Option Outstanding → Bool → View
draw_if l probe packets v (Some o) proved = v
draw_if l probe packets v None true = with_draw l probe packets v
draw_if l true packets v None false = with_draw l true packets v
draw_if l false packets v None false = v

abbrev pub with_packet : LinkPacket → View → View
with_packet p v = record v { shared = record v.shared { packets = v.shared.packets ++ p ∷ [] } }

-- a request for each of these packets
abbrev pub with_requests : Priority → Transaction → List (List ℕ) → View → View
with_requests l t [] v = v
with_requests l t (bytes ∷ rest) v = with_requests l t rest (with_packet (RequestOf l t) v)

-- so many packets more were sent of it
abbrev pub with_sent : ℕ → Outstanding → View → View
with_sent count o v =
    record v { lane = record v.lane { outstanding = Some (record o { sent = o.sent + count }) } }

abbrev pub send_if : Priority → View → Option Outstanding → View
send_if l v None = v
send_if l v (Some o) =
    with_sent (length o.transaction.packets) o
    (with_requests l o.transaction o.transaction.packets v)

-- the outstanding command ends, and the next one has the next place
abbrev pub with_end : Bool → View → View
with_end proved v =
    record v {
      lane = record v.lane {
        outstanding = None;
        proved = proved;
        place = v.lane.place + 1;
        since = length v.shared.packets;
      };
    }

abbrev pub end_if : View → Bool → View
end_if v true = with_end false v
end_if v false = v

-- at least two packets of a command were sent before it is given up
abbrev pub give_up_if : View → Option Outstanding → View
give_up_if v None = v
give_up_if v (Some o) = end_if v (nat_le 2 o.sent)

-- ---- a request comes to the unit

abbrev pub with_written : Entry → View → View
with_written e v = record v { shared = record v.shared { history = e ∷ v.shared.history } }

abbrev pub with_floor_down : ℕ → View → View
with_floor_down at v = record v { lane = record v.lane { floor_down = at } }

-- the request is carried out, and its reply is kept
abbrev pub with_execution : Transaction → Execution → View → View
with_execution t e v =
    record {
      shared = record v.shared {
        history = CarriedOut v.shared.life t.id e.reply e.before ∷ v.shared.history;
      };
      lane = record v.lane { kept = Some (record { transaction = t; reply = e.reply }) };
    }

abbrev pub execute : Priority → Transaction → Execution → View → View
execute l t e v = with_packet (ReplyTo l t e.reply) (with_execution t e v)

-- under the kept number the kept reply is sent again, and nothing is carried out
abbrev pub execute_unless : Priority → Transaction → Execution → View → KeptReply → Bool → View
execute_unless l t e v k true = with_packet (ReplyTo l t k.reply) v
execute_unless l t e v k false = execute l t e v

abbrev pub serve : Priority → Transaction → Execution → View → Option KeptReply → View
serve l t e v None = execute l t e v
serve l t e v (Some k) =
    execute_unless l t e v k (nat_eq (place_number k.transaction.place) (place_number t.place))

abbrev pub request_if : Priority → Transaction → ℕ → Option Execution → View → Bool → View
request_if l t at execution v false = v
request_if l t at None v true = with_floor_down at v
request_if l t at (Some e) v true = serve l t e (with_floor_down at v) v.lane.kept

-- ---- a reply comes to the manager

abbrev pub with_floor_up : ℕ → View → View
with_floor_up at v = record v { lane = record v.lane { floor_up = at } }

-- the reply to a probe proves the lane, and another command's is written into the history
abbrev pub take_reply : List ℕ → View → Outstanding → Bool → View
take_reply bytes v o true = with_end true v
take_reply bytes v o false =
    with_written (TookReply o.transaction.id bytes) (with_end v.lane.proved v)

abbrev pub take_if_same : List ℕ → View → Outstanding → Bool → View
take_if_same bytes v o true = take_reply bytes v o o.transaction.probe
take_if_same bytes v o false = v

abbrev pub take_if_waiting : Transaction → List ℕ → View → Option Outstanding → View
take_if_waiting t bytes v None = v
take_if_waiting t bytes v (Some o) =
    take_if_same bytes v o (nat_eq (place_number t.place) (place_number o.transaction.place))

abbrev pub reply_if : Transaction → List ℕ → ℕ → Bool → View → Bool → View
reply_if t bytes at wanted v false = v
reply_if t bytes at false v true = with_floor_up at v
reply_if t bytes at true v true = take_if_waiting t bytes (with_floor_up at v) v.lane.outstanding

-- ---- an end starts, and finds the link empty

-- the unit keeps no reply of its last life
abbrev pub with_unit_start : View → View
with_unit_start v =
    record {
      shared = record v.shared { life = v.shared.life + 1 };
      lane = record v.lane {
        kept = None;
        floor_down = length v.shared.packets;
        floor_up = length v.shared.packets;
      };
    }

-- the lane isn't proved, and waits for nothing
abbrev pub with_manager_start : ℕ → View → View
with_manager_start place v =
    record v {
      lane = record v.lane {
        outstanding = None;
        proved = false;
        place = place;
        since = length v.shared.packets;
        floor_down = length v.shared.packets;
        floor_up = length v.shared.packets;
      };
    }

-- ---- the channel

-- Of so many packets the one at a place may go to its end where it isn't below the floor, and where
-- no more packets stand from it on than the link remembers.
abbrev pub may_go : ℕ → ℕ → ℕ → Bool
may_go floor at count = nat_le floor at && is_young at count

abbrev pub may_go_down : ℕ → View → Bool
may_go_down at v = may_go v.lane.floor_down at (length v.shared.packets)

abbrev pub may_go_up : ℕ → View → Bool
may_go_up at v = may_go v.lane.floor_up at (length v.shared.packets)

abbrev pub with_request : Priority → Transaction → ℕ → Option Execution → Channel → Channel
with_request l t at execution w =
    with_lane_view l
    (request_if l t at execution (lane_view l w) (may_go_down at (lane_view l w))) w

abbrev pub request_at : ℕ → Option Execution → Channel → Option LinkPacket → Channel
request_at at execution w None = w
request_at at execution w (Some (RequestOf l t)) = with_request l t at execution w
request_at at execution w (Some (ReplyTo l t bytes)) = w
request_at at execution w (Some Unasked) = w

abbrev pub with_reply : Priority → Transaction → List ℕ → ℕ → Bool → Channel → Channel
with_reply l t bytes at wanted w =
    with_lane_view l
    (reply_if t bytes at wanted (lane_view l w) (may_go_up at (lane_view l w))) w

-- notices go in the low lane
abbrev pub notice_if : ℕ → Channel → Bool → Channel
notice_if at w true = with_lane_view Low (with_floor_up at (lane_view Low w)) w
notice_if at w false = w

abbrev pub reply_at : ℕ → Bool → Channel → Option LinkPacket → Channel
reply_at at wanted w None = w
reply_at at wanted w (Some (RequestOf l t)) = w
reply_at at wanted w (Some (ReplyTo l t bytes)) = with_reply l t bytes at wanted w
reply_at at wanted w (Some Unasked) = notice_if at w (may_go_up at (lane_view Low w))

abbrev pub after_unit_start : Channel → Channel
after_unit_start w =
    record {
      shared = (with_unit_start (lane_view Low w)).shared;
      low = (with_unit_start (lane_view Low w)).lane;
      high = (with_unit_start (lane_view High w)).lane;
    }

abbrev pub after_manager_start : ℕ → ℕ → Channel → Channel
after_manager_start low high w =
    record {
      shared = w.shared;
      low = (with_manager_start low (lane_view Low w)).lane;
      high = (with_manager_start high (lane_view High w)).lane;
    }

abbrev pub after_move : Move → Channel → Channel
after_move (Draw l probe packets) w =
    let v = lane_view l w in
    with_lane_view l (draw_if l probe packets v v.lane.outstanding v.lane.proved) w
after_move (Send l) w =
    let v = lane_view l w in with_lane_view l (send_if l v v.lane.outstanding) w
after_move (GiveUp l) w =
    let v = lane_view l w in with_lane_view l (give_up_if v v.lane.outstanding) w
after_move (RequestComes at execution) w =
    request_at at execution w (slice_get w.shared.packets at)
after_move (ReplyComes at wanted) w = reply_at at wanted w (slice_get w.shared.packets at)
after_move Notify w = record w { shared = (with_packet Unasked (lane_view Low w)).shared }
after_move (Write remark) w =
    record w { shared = (with_written (Remarked remark) (lane_view Low w)).shared }
after_move UnitStarts w = after_unit_start w
after_move (ManagerStarts low high) w = after_manager_start low high w

abbrev pub after_moves : List Move → Channel → Channel
after_moves [] w = w
after_moves (m ∷ rest) w = after_moves rest (after_move m w)
