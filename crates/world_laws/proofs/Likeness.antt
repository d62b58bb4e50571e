-- The machine of both ends beside the machine of moves: what of one is what of the other.
use Rattle.std.proofs.Common.{◌≡◌, ◌≢◌, ℕ, zero, suc, ◌+◌, ◌≤◌, Bool, List, [], ◌∷◌, ◌++◌, length, Option, Some, None, slice_get, refl, sym, ap, subst}
use Rattle.std.proofs.lemmas.Option.{same_Some}
use Rattle.std.specs.List.{Contains}
use Rattle.omci_types.specs.declared.Priority.{Priority}
use Rattle.omci_types.specs.declared.Priority.TheVariants.{Low, High}
use Rattle.tci_spec.specs.Tci.{tci_of, packet_tci}
use Rattle.link_spec.specs.declared.Direction.TheVariants.{Down, Up}
use Rattle.link_spec.specs.Link.{Sent, Link, Ways}
use Rattle.retry_spec.specs.Kept.{Reply, Kept}
use Rattle.lane_spec.specs.Command.{command_packets, is_probe}
use Rattle.lane_spec.specs.Lane.{Lane, Waiting}
use Rattle.manager_spec.specs.Manager.{Manager, lane_in, with_lane}
use Rattle.unit_spec.specs.Onu.{Onu}
use Rattle.moves_spec.specs.Channel.{place_number, LinkPacket, RequestOf, ReplyTo, Unasked, KeptReply, Outstanding, LaneState, Channel, View, lane_view, with_lane_view}
use Rattle.moves_spec.specs.Moves.{Move, after_move, after_moves}
use Rattle.world_spec.specs.History.{Told, drawn_in}

-- the TCI of a transaction
abbrev pub tci_at : Priority → ℕ → ℕ
tci_at l place = tci_of l (place_number place)

-- ---- packets

-- A packet on the link, and the command that the history gives it. A request is one of the packets
-- that its command sends each time. A notice has the TCI 0 and no command.
abbrev pub IsPacket : Sent → ℕ → LinkPacket → Type 0
IsPacket s name (RequestOf l t) = (s.direction ≡ Down) × (packet_tci s.bytes ≡ tci_at l t.place) ×
    (name ≡ t.id) × Contains t.packets s.bytes
IsPacket s name (ReplyTo l t r) =
    (s.direction ≡ Up) × (packet_tci s.bytes ≡ tci_at l t.place) × (name ≡ t.id) × (s.bytes ≡ r)
IsPacket s name Unasked = (s.direction ≡ Up) × (packet_tci s.bytes ≡ 0) × (name ≡ 0)

abbrev pub ArePackets : List Sent → List ℕ → List LinkPacket → Type 0
ArePackets [] [] [] = Unit {0}
ArePackets (s ∷ ss) (n ∷ ns) (p ∷ ps) = IsPacket s n p × ArePackets ss ns ps
ArePackets [] [] (p ∷ ps) = ⊥
ArePackets [] (n ∷ ns) ps = ⊥
ArePackets (s ∷ ss) [] ps = ⊥
ArePackets (s ∷ ss) (n ∷ ns) [] = ⊥

pub same_length : (ss : List Sent) (ns : List ℕ) (ps : List LinkPacket) → ArePackets ss ns ps
    → length ss ≡ length ps
same_length [] [] [] h = refl
same_length (s ∷ ss) (n ∷ ns) (p ∷ ps) h = ap suc (same_length ss ns ps h.1)
same_length [] [] (p ∷ ps) h = absurd h
same_length [] (n ∷ ns) ps h = absurd h
same_length (s ∷ ss) [] ps h = absurd h
same_length (s ∷ ss) (n ∷ ns) [] h = absurd h

pub one_more : (ss : List Sent) (ns : List ℕ) (ps : List LinkPacket) (s : Sent) (n : ℕ)
    (p : LinkPacket)
    → ArePackets ss ns ps → IsPacket s n p → ArePackets (ss ++ s ∷ []) (ns ++ n ∷ []) (ps ++ p ∷ [])
one_more [] [] [] s n p h k = (k, tt)
one_more (x ∷ ss) (y ∷ ns) (z ∷ ps) s n p h k = (h.0, one_more ss ns ps s n p h.1 k)
one_more [] [] (z ∷ ps) s n p h k = absurd h
one_more [] (y ∷ ns) ps s n p h k = absurd h
one_more (x ∷ ss) [] ps s n p h k = absurd h
one_more (x ∷ ss) (y ∷ ns) [] s n p h k = absurd h

-- what stands at a place of all three
pub record AtPlace (ns : List ℕ) (ps : List LinkPacket) (i : ℕ) (s : Sent) : Type 0 where
  pub name : ℕ
  pub packet : LinkPacket
  pub name_is : slice_get ns i ≡ Some name
  pub packet_is : slice_get ps i ≡ Some packet
  pub like : IsPacket s name packet

pub at_place : (ss : List Sent) (ns : List ℕ) (ps : List LinkPacket) (i : ℕ) (s : Sent)
    → ArePackets ss ns ps → slice_get ss i ≡ Some s
    → AtPlace ns ps i s
at_place [] ns ps i s h e = absurd (cc)
at_place (x ∷ ss) [] ps i s h e = absurd h
at_place (x ∷ ss) (n ∷ ns) [] i s h e = absurd h
at_place (x ∷ ss) (n ∷ ns) (p ∷ ps) zero s h e =
    record {
      name = n;
      packet = p;
      name_is = refl;
      packet_is = refl;
      like =
          (let g : x ≡ s = cc in subst (λ z. IsPacket z n p) g h.0);
    }
at_place (x ∷ ss) (n ∷ ns) (p ∷ ps) (suc i) s h e =
    let a = at_place ss ns ps i s h.1 e in
    record {
      name = a.name;
      packet = a.packet;
      name_is = a.name_is;
      packet_is = a.packet_is;
      like =
          a.like;
    }

-- ---- the ways of the link

pub record AreWays (ways : Ways) (low high : LaneState) : Type 0 where
  pub down_low : ways.down_low.floor ≡ low.floor_down
  pub down_high : ways.down_high.floor ≡ high.floor_down
  pub up_low : ways.up_low.floor ≡ low.floor_up
  pub up_high : ways.up_high.floor ≡ high.floor_up

-- ---- a lane of the manager

-- it waits for the reply to the same command
pub record Awaits (l : Priority) (last next : ℕ) (w : Waiting) (place : ℕ)
    (o : Outstanding) : Type 0 where
  pub number : next ≡ place_number (place + 1)
  pub tci : w.tci ≡ tci_at l o.transaction.place
  pub at : o.transaction.place ≡ place
  pub probe : is_probe w.command.purpose ≡ o.transaction.probe
  pub packets : command_packets w.tci w.command ≡ o.transaction.packets
  pub sent : w.repeats + 1 ≤ o.sent
  pub name : last ≡ o.transaction.id

abbrev pub IsOut : Priority → ℕ → ℕ → Option Waiting → ℕ → Option Outstanding → Type 0
IsOut l last next None place None = next ≡ place_number place
IsOut l last next (Some w) place (Some o) = Awaits l last next w place o
IsOut l last next None place (Some o) = ⊥
IsOut l last next (Some w) place None = ⊥

pub record IsLane (l : Priority) (last : ℕ) (m : Lane) (proved : Bool) (place : ℕ)
    (outstanding : Option Outstanding) : Type 0 where
  pub priority : m.priority ≡ l
  pub proved_is : m.proved ≡ proved
  pub out : IsOut l last m.next m.outstanding place outstanding

abbrev pub IsLaneOf : Priority → ℕ → Lane → LaneState → Type 0
IsLaneOf l last m s = IsLane l last m s.proved s.place s.outstanding

pub record IsManager (last_low last_high : ℕ) (m : Manager) (low high : LaneState) : Type 0 where
  pub is_low : IsLaneOf Low last_low m.low low
  pub is_high : IsLaneOf High last_high m.high high

-- ---- the unit

abbrev pub IsKept : Priority → Option Reply → Option KeptReply → Type 0
IsKept l None None = Unit {0}
IsKept l (Some r) (Some k) =
    (r.tci ≡ tci_at l k.transaction.place) × (r.packet ≡ k.reply) × (packet_tci r.packet ≡ r.tci)
IsKept l None (Some k) = ⊥
IsKept l (Some r) None = ⊥

pub record IsUnit (k : Kept) (low high : Option KeptReply) : Type 0 where
  pub is_low : IsKept Low k.low low
  pub is_high : IsKept High k.high high

-- ---- the whole

pub record Like (link : Link) (lives : ℕ) (unit : Option Onu) (manager : Option Manager) (t : Told)
    (p : Channel) : Type 0 where
  pub packets : ArePackets link.packets t.names p.shared.packets
  pub ways : AreWays link.ways p.low p.high
  pub lives_are : lives ≡ p.shared.life
  pub drawn : t.drawn ≡ length p.shared.draws
  pub history : t.history ≡ p.shared.history
  pub unit_is : (u : Onu) → unit ≡ Some u → IsUnit u.kept p.low.kept p.high.kept
  pub manager_is : (m : Manager) → manager ≡ Some m → IsManager t.low t.high m p.low p.high

pub after_both : (ms ns : List Move) (p : Channel) → after_moves (ms ++ ns) p
    ≡ after_moves ns (after_moves ms p)
after_both [] ns p = refl
after_both (m ∷ ms) ns p = after_both ms ns (after_move m p)

-- a manager that is on, of which this is known
pub some_manager : (a b : ℕ) (m : Manager) (low high : LaneState) → IsManager a b m low high
    → (n : Manager) → Some m ≡ Some n → IsManager a b n low high
some_manager a b m low high h n e = subst (λ x. IsManager a b x low high) (same_Some m n e) h

pub some_unit : (u : Onu) (low high : Option KeptReply) → IsUnit u.kept low high → (n : Onu)
    → Some u ≡ Some n → IsUnit n.kept low high
some_unit u low high h n e = subst (λ x. IsUnit x.kept low high) (same_Some u n e) h

-- the lane of a manager that is on
pub lane_like : (l : Priority) (t : Told) (m : Manager) (p : Channel)
    → IsManager t.low t.high m p.low p.high
    → IsLaneOf l (drawn_in l t) (lane_in l m) (lane_view l p).lane
lane_like Low t m p h = h.is_low
lane_like High t m p h = h.is_high

-- where it waits for nothing
pub idle : (l : Priority) (last : ℕ) (m : Lane) (s : LaneState) → IsLaneOf l last m s
    → m.outstanding ≡ None
    → (s.outstanding ≡ None) × (m.next ≡ place_number s.place)
idle l last m s h e =
    go s.outstanding refl (subst (λ x. IsOut l last m.next x s.place s.outstanding) e h.out)
  where
    go : (o : Option Outstanding) → s.outstanding ≡ o → IsOut l last m.next None s.place o
        → (s.outstanding ≡ None) × (m.next ≡ place_number s.place)
    go None f k = (f, k)
    go (Some o) f k = absurd k

-- and where it waits for a command
pub record Waits (l : Priority) (last : ℕ) (m : Lane) (s : LaneState) (w : Waiting) : Type 0 where
  pub outstanding : Outstanding
  pub is : s.outstanding ≡ Some outstanding
  pub awaits : Awaits l last m.next w s.place outstanding

pub busy : (l : Priority) (last : ℕ) (m : Lane) (s : LaneState) (w : Waiting) → IsLaneOf l last m s
    → m.outstanding ≡ Some w
    → Waits l last m s w
busy l last m s w h e =
    go s.outstanding refl (subst (λ x. IsOut l last m.next x s.place s.outstanding) e h.out)
  where
    go : (o : Option Outstanding) → s.outstanding ≡ o → IsOut l last m.next (Some w) s.place o
        → Waits l last m s w
    go None f k = absurd k
    go (Some o) f k = record { outstanding = o; is = f; awaits = k }

-- some moves lead there
abbrev pub Follows : Link → ℕ → Option Onu → Option Manager → Told → Channel → Type 0
Follows link lives unit manager t p = (ms : List Move) × Like link lives unit manager t
    (after_moves ms p)

pub same_view : (l : Priority) (p : Channel) → with_lane_view l (lane_view l p) p ≡ p
same_view Low p = refl
same_view High p = refl

-- nothing more is said of a manager
pub like_unmanaged : (link : Link) (lives : ℕ) (unit : Option Onu) (manager : Option Manager)
    (t : Told) (p : Channel)
    → Like link lives unit manager t p → Like link lives unit None t p
like_unmanaged link lives unit manager t p h = record {
  packets = h.packets;
  ways = h.ways;
  lives_are = h.lives_are;
  drawn = h.drawn;
  history = h.history;
  unit_is = h.unit_is;
  manager_is = λ m e. absurd (cc);
}

pub like_managed : (link : Link) (lives : ℕ) (unit : Option Onu) (m : Manager) (t : Told)
    (p : Channel)
    → Like link lives unit None t p → IsManager t.low t.high m p.low p.high
    → Like link lives unit (Some m) t p
like_managed link lives unit m t p h k = record {
  packets = h.packets;
  ways = h.ways;
  lives_are = h.lives_are;
  drawn = h.drawn;
  history = h.history;
  unit_is = h.unit_is;
  manager_is = some_manager _ _ m _ _ k;
}

-- one lane of a manager has changed, and of the channel
pub one_lane : (l : Priority) (t u : Told) (m : Manager) (x : Lane) (v : View) (p : Channel)
    → IsManager t.low t.high m p.low p.high → ((k : Priority) → l ≢ k → drawn_in k u ≡ drawn_in k t)
    → IsLaneOf l (drawn_in l u) x v.lane
    → IsManager u.low u.high (with_lane l x m)
    (with_lane_view l v p).low (with_lane_view l v p).high
one_lane Low t u m x v p h same k = record {
  is_low = k;
  is_high = subst (λ n. IsLaneOf High n m.high p.high) (sym (same High (λ e. cc))) h.is_high;
}
one_lane High t u m x v p h same k = record {
  is_low = subst (λ n. IsLaneOf Low n m.low p.low) (sym (same Low (λ e. cc))) h.is_low;
  is_high = k;
}

pub same_manager : (l : Priority) (m : Manager) → with_lane l (lane_in l m) m ≡ m
same_manager Low m = refl
same_manager High m = refl

-- one lane of the manager has changed, and nothing of the channel
pub like_one_lane : (l : Priority) (link : Link) (lives : ℕ) (unit : Option Onu) (m : Manager)
    (x : Lane) (t : Told) (p : Channel)
    → Like link lives unit (Some m) t p → IsLaneOf l (drawn_in l t) x (lane_view l p).lane
    → Like link lives unit (Some (with_lane l x m)) t p
like_one_lane l link lives unit m x t p h k =
    like_managed link lives unit (with_lane l x m) t p
    (like_unmanaged link lives unit (Some m) t p h)
    (subst (λ q. IsManager t.low t.high (with_lane l x m) q.low q.high) (same_view l p)
    (one_lane l t t m x (lane_view l p) p (h.manager_is m refl) (λ k ne. refl) k))

-- a manager with the same lanes
pub record SameLanes (m n : Manager) : Type 0 where
  pub low : n.low ≡ m.low
  pub high : n.high ≡ m.high

-- nothing else of a manager matters
pub like_same_lanes : (link : Link) (lives : ℕ) (unit : Option Onu) (m n : Manager) (t : Told)
    (p : Channel) → SameLanes m n
    → Like link lives unit (Some m) t p → Like link lives unit (Some n) t p
like_same_lanes link lives unit m n t p s h =
    let k = h.manager_is m refl in
    like_managed link lives unit n t p (like_unmanaged link lives unit (Some m) t p h)
    (record {
      is_low = subst (λ x. IsLaneOf Low t.low x p.low) (sym s.low) k.is_low;
      is_high = subst (λ x. IsLaneOf High t.high x p.high) (sym s.high) k.is_high;
    })

-- nor anything of a unit but what it keeps
pub like_same_kept : (link : Link) (lives : ℕ) (u v : Onu) (manager : Option Manager) (t : Told)
    (p : Channel) → v.kept ≡ u.kept
    → Like link lives (Some u) manager t p → Like link lives (Some v) manager t p
like_same_kept link lives u v manager t p e h = record {
  packets = h.packets;
  ways = h.ways;
  lives_are = h.lives_are;
  drawn = h.drawn;
  history = h.history;
  unit_is = some_unit v p.low.kept p.high.kept
      (subst (λ k. IsUnit k p.low.kept p.high.kept) (sym e) (h.unit_is u refl));
  manager_is = h.manager_is;
}
