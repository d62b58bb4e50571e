-- One lane moves on, and the other is none the worse.
use Rattle.std.proofs.Common.{◌≡◌, ◌≢◌, ℕ, ◌+◌, ◌≤◌, Bool, true, false, List, [], ◌∷◌, length, Option, Some, None, refl, sym, subst, arith, nat_le, nat_eq}
use Rattle.std.proofs.lemmas.Bool.Decides.{nat_tests}
use Rattle.omci_types.specs.declared.Priority.{Priority}
use Rattle.history_spec.specs.History.{Once, Answered}
use Rattle.link_spec.specs.declared.TheConstants.{WINDOW}
use Rattle.moves_spec.specs.Channel.{Transaction, place_number, RequestOf, ReplyTo, KeptReply, Outstanding, LaneState, View}
use Rattle.moves_spec.specs.Moves.{Execution, with_draw, draw_if, with_packet, with_requests, send_if, end_if, give_up_if, with_floor_down, with_floor_up, with_execution, execute, execute_unless, serve, request_if, take_reply, take_if_same, take_if_waiting, reply_if, may_go}
use Rattle.moves_laws.proofs.Parts.{Asks, Replies, SoundLane}
use Rattle.moves_laws.proofs.Sending.{lane_after_send}
use Rattle.moves_laws.proofs.Serving.{Comes, Unkept, carry_once, lane_carried, KeepsReply, lane_replied}
use Rattle.moves_laws.proofs.Ending.{Takes, lane_given_up, lane_taken, taken_last, lane_drawn}
use Rattle.moves_laws.proofs.Others.{lane_lowered_down, lane_lowered_up, Foreign, lane_beside, lane_beside_all, lane_more_drawn, lane_took, lane_carried_beside}

abbrev beside : View → LaneState → View
beside v lane = record { shared = v.shared; lane = lane }

pub record LaneStep (l : Priority) (v u : View) : Type 0 where
  pub lane : SoundLane l u
  pub other : (m : Priority) (lane : LaneState) → l ≢ m
      → SoundLane m (record { shared = v.shared; lane = lane })
      → SoundLane m (record { shared = u.shared; lane = lane })
  pub once : Once v.shared.history → Once u.shared.history
  pub answered : Answered v.shared.history → Answered u.shared.history

-- where the lanes share the same as before
step_within : (l : Priority) (v u : View) → v.shared ≡ u.shared → SoundLane l u → LaneStep l v u
step_within l v u same h = record {
  lane = h;
  other = λ m lane ne k. subst (λ x. SoundLane m (record { shared = x; lane = lane })) same k;
  once = subst (λ x. Once x.history) same;
  answered = subst (λ x. Answered x.history) same;
}

step_none : (l : Priority) (v : View) → SoundLane l v → LaneStep l v v
step_none l v h = step_within l v v refl h

step_then : {l : Priority} {v u t : View} → LaneStep l v u → LaneStep l u t → LaneStep l v t
step_then a b = record {
  lane = b.lane;
  other = λ m lane ne k. b.other m lane ne (a.other m lane ne k);
  once = λ x. b.once (a.once x);
  answered = λ x. b.answered (a.answered x);
}

foreign_request : (l m : Priority) (c : Transaction) → l ≢ m → Foreign m (RequestOf l c)
foreign_request l m c ne = record { no_request = λ d e. ne (cc); no_reply = λ d r e. absurd (cc) }

foreign_reply : (l m : Priority) (c : Transaction) (r : List ℕ) → l ≢ m → Foreign m (ReplyTo l c r)
foreign_reply l m c r ne = record { no_request = λ d e. absurd (cc); no_reply = λ d q e. ne (cc) }

-- the manager's moves

step_drawn : (l : Priority) (probe : Bool) (packets : List (List ℕ)) (v : View)
    → v.lane.outstanding ≡ None → (v.lane.proved ≡ false → probe ≡ true) → SoundLane l v
    → LaneStep l v (with_draw l probe packets v)
step_drawn l probe packets v w a h = record {
  lane = lane_drawn l v probe packets w a h;
  other = λ m lane ne k. lane_more_drawn m l _ ne k;
  once = λ x. x;
  answered = λ x. x;
}

pub step_draw : (l : Priority) (probe : Bool) (packets : List (List ℕ)) (v : View)
    (o : Option Outstanding) (proved : Bool)
    → v.lane.outstanding ≡ o → v.lane.proved ≡ proved → SoundLane l v
    → LaneStep l v (draw_if l probe packets v o proved)
step_draw l probe packets v (Some o) proved w p h = step_none l v h
step_draw l probe packets v None true w p h = step_drawn l probe packets v w (λ q. absurd (cc)) h
step_draw l true packets v None false w p h = step_drawn l true packets v w (λ q. refl) h
step_draw l false packets v None false w p h = step_none l v h

requests_history : (l : Priority) (c : Transaction) (packets : List (List ℕ)) (v : View)
    → (with_requests l c packets v).shared.history ≡ v.shared.history
requests_history l c [] v = refl
requests_history l c (p ∷ rest) v = requests_history l c rest (with_packet (RequestOf l c) v)

requests_beside : (l : Priority) (c : Transaction) (packets : List (List ℕ)) (v : View)
    (lane : LaneState)
    → with_requests l c packets (record { shared = v.shared; lane = lane })
    ≡ record { shared = (with_requests l c packets v).shared; lane = lane }
requests_beside l c [] v lane = refl
requests_beside l c (p ∷ rest) v lane = requests_beside l c rest
    (with_packet (RequestOf l c) v) lane

pub step_send : (l : Priority) (v : View) (o : Option Outstanding) → v.lane.outstanding ≡ o
    → SoundLane l v → LaneStep l v (send_if l v o)
step_send l v None w h = step_none l v h
step_send l v (Some o) w h = record {
  lane = lane_after_send l v o w h;
  other = λ m lane ne k. subst (λ x. SoundLane m x)
      (requests_beside l o.transaction o.transaction.packets v lane)
      (lane_beside_all m l o.transaction o.transaction.packets _
      (foreign_request l m o.transaction ne) k);
  once = subst Once (sym (requests_history l o.transaction o.transaction.packets v));
  answered = subst Answered (sym (requests_history l o.transaction o.transaction.packets v));
}

step_end : (l : Priority) (v : View) (o : Outstanding) (b : Bool) → v.lane.outstanding ≡ Some o
    → nat_le 2 o.sent ≡ b → SoundLane l v → LaneStep l v (end_if v b)
step_end l v o false w t h = step_none l v h
step_end l v o true w t h = step_within l v _ refl
    (lane_given_up l v o w (grind (arith, nat_tests)) h)

pub step_give_up : (l : Priority) (v : View) (o : Option Outstanding) → v.lane.outstanding ≡ o
    → SoundLane l v → LaneStep l v (give_up_if v o)
step_give_up l v None w h = step_none l v h
step_give_up l v (Some o) w h = step_end l v o _ w refl h

-- the unit's moves

step_carried : (l : Priority) (v : View) (i : ℕ) (c : Transaction) (a : Execution) → Comes l v i c
    → Unkept v.lane.kept c → SoundLane l v → LaneStep l v (with_execution c a v)
step_carried l v i c a s u h = record {
  lane = lane_carried l v i c a s u h;
  other = λ m lane ne k. lane_carried_beside m l _ c a.reply a.before ne
      (h.order.owner i c s.request) k;
  once = λ x. (carry_once l v i c s u h, x);
  answered = λ x. x;
}

step_replied : (l : Priority) (v : View) (i : ℕ) (c : Transaction) (r : List ℕ) → Comes l v i c
    → KeepsReply v.lane.kept c r → SoundLane l v → LaneStep l v (with_packet (ReplyTo l c r) v)
step_replied l v i c r s t h = record {
  lane = lane_replied l v i c r s t h;
  other = λ m lane ne k. lane_beside m _ _ (foreign_reply l m c r ne) k;
  once = λ x. x;
  answered = λ x. x;
}

step_carry : (l : Priority) (v : View) (i : ℕ) (c : Transaction) (a : Execution) → Comes l v i c
    → Unkept v.lane.kept c → SoundLane l v → LaneStep l v (execute l c a v)
step_carry l v i c a s u h =
    let first = step_carried l v i c a s u h in
    let comes : Comes l (with_execution c a v) i c =
    record { request = s.request; at_floor = s.at_floor; within = s.within } in
    let keeps : KeepsReply (with_execution c a v).lane.kept c a.reply =
    record {
      kept = record { transaction = c; reply = a.reply };
      is = refl;
      same = refl;
      reply = refl;
    } in
    step_then first (step_replied l (with_execution c a v) i c a.reply comes keeps first.lane)

step_kept : (l : Priority) (v : View) (i : ℕ) (c : Transaction) (a : Execution) (k : KeptReply)
    (b : Bool) → Comes l v i c → v.lane.kept ≡ Some k
    → nat_eq (place_number k.transaction.place) (place_number c.place) ≡ b → SoundLane l v
    → LaneStep l v (execute_unless l c a v k b)
step_kept l v i c a k true s e t h =
    step_replied l v i c k.reply s
    (record { kept = k; is = e; same = grind (arith, nat_tests); reply = refl }) h
step_kept l v i c a k false s e t h = step_carry l v i c a s
    (record {
      differs = λ p f. (let g : k ≡ p = cc in subst
          (λ x. place_number x.transaction.place ≢ place_number c.place) g
          (grind (arith, nat_tests)));
    }) h

step_serve : (l : Priority) (v : View) (i : ℕ) (c : Transaction) (a : Execution)
    (k : Option KeptReply) → Comes l v i c → v.lane.kept ≡ k → SoundLane l v
    → LaneStep l v (serve l c a v k)
step_serve l v i c a None s e h = step_carry l v i c a s (record { differs = λ p f. absurd (cc) }) h
step_serve l v i c a (Some k) s e h = step_kept l v i c a k _ s e refl h

pub may_floor : (floor i count : ℕ) → may_go floor i count ≡ true → floor ≤ i
may_floor floor i count t = grind (arith, nat_tests)

pub may_within : (floor i count : ℕ) → may_go floor i count ≡ true → count ≤ i + WINDOW
may_within floor i count t = grind (arith, nat_tests)

step_down : (l : Priority) (v : View) (i : ℕ) → v.lane.floor_down ≤ i → SoundLane l v
    → LaneStep l v (with_floor_down i v)
step_down l v i le h = step_within l v _ refl (lane_lowered_down l v i le h)

pub step_request : (l : Priority) (v : View) (i : ℕ) (c : Transaction) (a : Option Execution)
    (b : Bool) → Asks l v.shared.packets i c
    → may_go v.lane.floor_down i (length v.shared.packets) ≡ b → SoundLane l v
    → LaneStep l v (request_if l c i a v b)
step_request l v i c a false q t h = step_none l v h
step_request l v i c None true q t h = step_down l v i (may_floor _ i _ t) h
step_request l v i c (Some a) true q t h =
    let first = step_down l v i (may_floor _ i _ t) h in
    let comes : Comes l (with_floor_down i v) i c =
    record { request = q; at_floor = refl; within = may_within v.lane.floor_down i _ t } in
    step_then first (step_serve l (with_floor_down i v) i c a v.lane.kept comes refl first.lane)

-- the manager gets a reply

step_take : (l : Priority) (v : View) (j : ℕ) (c : Transaction) (r : List ℕ) (o : Outstanding)
    (probe : Bool) → Takes l v j c r o → o.transaction.probe ≡ probe → SoundLane l v
    → LaneStep l v (take_reply r v o probe)
step_take l v j c r o true t p h = step_within l v _ refl (lane_taken l v j c r o true t h)
step_take l v j c r o false t p h = record {
  lane = lane_took l _ o.transaction.id r (lane_taken l v j c r o v.lane.proved t h);
  other = λ m lane ne k. lane_took m _ o.transaction.id r k;
  once = λ x. x;
  answered = λ x. (taken_last l v j c r o t p h, x);
}

step_same : (l : Priority) (v : View) (j : ℕ) (c : Transaction) (r : List ℕ) (o : Outstanding)
    (b : Bool) → Replies l v.shared.packets j c r → v.lane.floor_up ≡ j
    → length v.shared.packets ≤ j + WINDOW → v.lane.outstanding ≡ Some o
    → nat_eq (place_number c.place) (place_number o.transaction.place) ≡ b → SoundLane l v
    → LaneStep l v (take_if_same r v o b)
step_same l v j c r o false a f w e t h = step_none l v h
step_same l v j c r o true a f w e t h =
    step_take l v j c r o _ (record {
      reply = a;
      at_floor = f;
      within = w;
      waits = e;
      same = grind
          (arith, nat_tests);
    }) refl h

step_waiting : (l : Priority) (v : View) (j : ℕ) (c : Transaction) (r : List ℕ)
    (o : Option Outstanding) → Replies l v.shared.packets j c r → v.lane.floor_up ≡ j
    → length v.shared.packets ≤ j + WINDOW → v.lane.outstanding ≡ o → SoundLane l v
    → LaneStep l v (take_if_waiting c r v o)
step_waiting l v j c r None a f w e h = step_none l v h
step_waiting l v j c r (Some o) a f w e h = step_same l v j c r o _ a f w e refl h

pub step_up : (l : Priority) (v : View) (j : ℕ) → v.lane.floor_up ≤ j → SoundLane l v
    → LaneStep l v (with_floor_up j v)
step_up l v j le h = step_within l v _ refl (lane_lowered_up l v j le h)

pub step_reply : (l : Priority) (v : View) (j : ℕ) (c : Transaction) (r : List ℕ) (wanted b : Bool)
    → Replies l v.shared.packets j c r
    → may_go v.lane.floor_up j (length v.shared.packets) ≡ b → SoundLane l v
    → LaneStep l v (reply_if c r j wanted v b)
step_reply l v j c r wanted false a t h = step_none l v h
step_reply l v j c r false true a t h = step_up l v j (may_floor _ j _ t) h
step_reply l v j c r true true a t h =
    let first = step_up l v j (may_floor _ j _ t) h in
    step_then first (step_waiting l (with_floor_up j v) j c r v.lane.outstanding a refl
    (may_within v.lane.floor_up j _ t) refl first.lane)
