-- Every move keeps the invariant of both lanes, and so does every list of moves.
use Rattle.std.proofs.Common.{◌≡◌, ◌≢◌, ℕ, Bool, true, false, List, [], ◌∷◌, length, Option, Some, None, slice_get, refl, arith}
use Rattle.omci_types.specs.declared.Priority.{Priority}
use Rattle.omci_types.specs.declared.Priority.TheVariants.{Low, High}
use Rattle.history_spec.specs.History.{Once, Answered}
use Rattle.moves_spec.specs.Channel.{LinkPacket, RequestOf, ReplyTo, Unasked, Channel, View, lane_view, with_lane_view, first_lane_state, first_shared, first_channel}
use Rattle.moves_spec.specs.Moves.{Execution, Move, Draw, Send, GiveUp, RequestComes, ReplyComes, Notify, Write, UnitStarts, ManagerStarts, may_go, request_at, notice_if, reply_at, after_move, after_moves}
use Rattle.moves_laws.proofs.Parts.{SoundLane, SoundChannel}
use Rattle.moves_laws.proofs.Others.{lane_unit_start, lane_manager_start, Foreign, lane_beside, lane_noted}
use Rattle.moves_laws.proofs.Steps.{LaneStep, step_draw, step_send, step_give_up, step_request, step_reply, step_up, may_floor}

pub lane_of : (l : Priority) (w : Channel) → SoundChannel w → SoundLane l (lane_view l w)
lane_of Low w h = h.low
lane_of High w h = h.high

low_not_high : Low ≢ High
low_not_high e = cc

high_not_low : High ≢ Low
high_not_low e = cc

kept_by_step : (l : Priority) (w : Channel) (v : View) → SoundChannel w
    → LaneStep l (lane_view l w) v → SoundChannel (with_lane_view l v w)
kept_by_step Low w v h s = record {
  low = s.lane;
  high = s.other High w.high low_not_high h.high;
  once = s.once h.once;
  answered = s.answered h.answered;
}
kept_by_step High w v h s = record {
  low = s.other Low w.low high_not_low h.low;
  high = s.lane;
  once = s.once h.once;
  answered = s.answered h.answered;
}

kept_by_request : (w : Channel) (i : ℕ) (a : Option Execution) (p : Option LinkPacket)
    → slice_get w.shared.packets i ≡ p → SoundChannel w → SoundChannel (request_at i a w p)
kept_by_request w i a None e h = h
kept_by_request w i a (Some (RequestOf Low c)) e h = kept_by_step Low w _ h
    (step_request Low (lane_view Low w) i c a _ e refl h.low)
kept_by_request w i a (Some (RequestOf High c)) e h = kept_by_step High w _ h
    (step_request High (lane_view High w) i c a _ e refl h.high)
kept_by_request w i a (Some (ReplyTo l c r)) e h = h
kept_by_request w i a (Some Unasked) e h = h

kept_by_notice : (w : Channel) (j : ℕ) (b : Bool)
    → may_go w.low.floor_up j (length w.shared.packets) ≡ b → SoundChannel w
    → SoundChannel (notice_if j w b)
kept_by_notice w j true t h = kept_by_step Low w _ h
    (step_up Low (lane_view Low w) j (may_floor _ j _ t) h.low)
kept_by_notice w j false t h = h

kept_by_reply : (w : Channel) (j : ℕ) (wanted : Bool) (p : Option LinkPacket)
    → slice_get w.shared.packets j ≡ p → SoundChannel w → SoundChannel (reply_at j wanted w p)
kept_by_reply w j wanted None e h = h
kept_by_reply w j wanted (Some (RequestOf l c)) e h = h
kept_by_reply w j wanted (Some (ReplyTo Low c r)) e h = kept_by_step Low w _ h
    (step_reply Low (lane_view Low w) j c r wanted _ e refl h.low)
kept_by_reply w j wanted (Some (ReplyTo High c r)) e h = kept_by_step High w _ h
    (step_reply High (lane_view High w) j c r wanted _ e refl h.high)
kept_by_reply w j wanted (Some Unasked) e h = kept_by_notice w j _ refl h

foreign_notice : (l : Priority) → Foreign l Unasked
foreign_notice l = record { no_request = λ c e. absurd (cc); no_reply = λ c r e. absurd (cc) }

pub kept_by_move : (m : Move) (w : Channel) → SoundChannel w → SoundChannel (after_move m w)
kept_by_move (Draw l probe packets) w h = kept_by_step l w _ h
    (step_draw l probe packets (lane_view l w) _ _ refl refl (lane_of l w h))
kept_by_move (Send l) w h = kept_by_step l w _ h
    (step_send l (lane_view l w) _ refl (lane_of l w h))
kept_by_move (GiveUp l) w h = kept_by_step l w _ h
    (step_give_up l (lane_view l w) _ refl (lane_of l w h))
kept_by_move (RequestComes i a) w h = kept_by_request w i a _ refl h
kept_by_move (ReplyComes j wanted) w h = kept_by_reply w j wanted _ refl h
kept_by_move Notify w h = record {
  low = lane_beside Low (lane_view Low w) Unasked (foreign_notice Low) h.low;
  high = lane_beside High (lane_view High w) Unasked (foreign_notice High) h.high;
  once = h.once;
  answered = h.answered;
}
kept_by_move (Write remark) w h = record {
  low = lane_noted Low (lane_view Low w) remark h.low;
  high = lane_noted High (lane_view High w) remark h.high;
  once = h.once;
  answered = h.answered;
}
kept_by_move UnitStarts w h = record {
  low = lane_unit_start Low (lane_view Low w) h.low;
  high = lane_unit_start High (lane_view High w) h.high;
  once = h.once;
  answered = h.answered;
}
kept_by_move (ManagerStarts low high) w h = record {
  low = lane_manager_start Low (lane_view Low w) low h.low;
  high = lane_manager_start High (lane_view High w) high h.high;
  once = h.once;
  answered = h.answered;
}

pub kept_by_moves : (ms : List Move) (w : Channel) → SoundChannel w
    → SoundChannel (after_moves ms w)
kept_by_moves [] w h = h
kept_by_moves (m ∷ rest) w h = kept_by_moves rest (after_move m w) (kept_by_move m w h)

-- at the start of both ends nothing was sent, drawn or carried out
lane_at_first : (l : Priority) (place : ℕ)
    → SoundLane l (record { shared = first_shared; lane = first_lane_state place })
lane_at_first l place = record {
  order = record {
    sorted = λ i j c d e f le. absurd (cc);
    owner = λ i c e. absurd (cc);
    newest = λ i c o e f. absurd (cc);
    waiting_owner = λ o e. absurd (cc);
  };
  held = record {
    below = λ k i c e f le. absurd (cc);
    newest = λ k o e f. absurd (cc);
    fresh = λ k e. absurd (cc);
    made = λ k e. absurd (cc);
    carried = λ id was own. absurd was;
    past = λ life id was. absurd was;
    known = λ life id was. absurd was;
  };
  places = record {
    begun = omega arith;
    shape = λ o e. absurd (cc);
    cost = λ o e. absurd (cc);
    requests = λ i c e le. absurd (cc);
    replies = λ j c r e le. absurd (cc);
  };
  replies = record {
    below = λ j i d c r e le f lf. absurd (cc);
    newest = λ j d r o e le f. absurd (cc);
    fresh = λ j d r e le. absurd (cc);
  };
  proved = record {
    unproven = λ o e f. absurd (cc);
    kept = λ k e f. absurd (cc);
    quiet = λ i c pr e le. absurd (cc);
    answered = λ o j r w e le. absurd (cc);
    reply = λ o j r w b e le. absurd (cc);
    kept_reply = λ o k w b e f. absurd (cc);
  };
}

pub channel_at_first : (low high : ℕ) → SoundChannel (first_channel low high)
channel_at_first low high = record {
  low = lane_at_first Low low;
  high = lane_at_first High high;
  once = tt;
  answered = tt;
}

pub channel_after : (low high : ℕ) (ms : List Move)
    → SoundChannel (after_moves ms (first_channel low high))
channel_after low high ms = kept_by_moves ms (first_channel low high) (channel_at_first low high)

pub runs_once : (low high : ℕ) (ms : List Move)
    → Once (after_moves ms (first_channel low high)).shared.history
runs_once low high ms = (channel_after low high ms).once

pub runs_answered : (low high : ℕ) (ms : List Move)
    → Answered (after_moves ms (first_channel low high)).shared.history
runs_answered low high ms = (channel_after low high ms).answered
