-- Packets that come to the unit.
use Rattle.std.proofs.Common.{◌≡◌, ◌≢◌, ℕ, zero, suc, ◌<◌, ◌^◌, Bool, true, false, cond, eqb, List, [], ◌∷◌, ◌++◌, reverse, Option, Some, None, slice_get, ◌⊎◌, inl, inr, refl, sym, ap, subst, ◌∙◌, arith, nat_eq}
use Rattle.std.proofs.lemmas.Bool.{eqb-true, eqb-false}
use Rattle.std.proofs.lemmas.Bool.Decides.{nat_tests}
use Rattle.omci_types.specs.declared.Frame.{Frame}
use Rattle.omci_types.specs.declared.Priority.{Priority}
use Rattle.omci_types.specs.declared.Priority.TheVariants.{Low, High}
use Rattle.tci_spec.specs.Tci.{priority_of, tci_of, packet_tci}
use Rattle.frame_spec.specs.Baseline.{spelling}
use Rattle.link_spec.specs.declared.Direction.TheVariants.{Down, Up}
use Rattle.link_spec.specs.Link.{Sent, Link, Ways, way_in, with_way, passed, ways_past, delivered_on, lane_of, sent_on}
use Rattle.retry_spec.specs.Kept.{Reply, Kept, kept_in, keep_in, if_answers, kept_for, kept_with}
use Rattle.manager_spec.specs.Manager.{Manager}
use Rattle.unit_spec.specs.declared.Note.{Note}
use Rattle.unit_spec.specs.declared.Did.{Did}
use Rattle.unit_spec.specs.declared.Did.TheVariants as did
use Rattle.omci_types.specs.declared.Boot.{Boot}
use Rattle.unit_spec.specs.declared.Note.TheVariants as note
use Rattle.unit_spec.specs.Onu.{Onu, Reception, Answer, drop_packet, keep_reply, unless_leaving, unless_kept, take_request, onu_received}
use Rattle.history_spec.specs.History.{CarriedOut, TookSnapshot, TookAlarms}
use Rattle.moves_spec.specs.Channel.{Transaction, place_number, RequestOf, ReplyTo, KeptReply, Channel, View, lane_view, with_lane_view}
use Rattle.moves_spec.specs.Moves.{Execution, RequestComes, with_packet, with_floor_down, with_execution, execute, execute_unless, serve, request_if, may_go_down, request_at, after_move}
use Rattle.moves_laws.proofs.Numbers.{place_is_number}
use Rattle.world_spec.specs.Happenings.{Happening, PacketCame, link_read}
use Rattle.world_spec.specs.Ends.{unit_deed, stored}
use Rattle.world_spec.specs.History.{Told, name_at, tell_all}
use Rattle.world_laws.proofs.Tcis.{lane_of_tci, same_number, tci_fits, tci_spelled}
use Rattle.world_laws.proofs.Likeness.{tci_at, one_more, IsKept, IsUnit, Like, some_unit, like_same_kept, Follows}
use Rattle.world_laws.proofs.Unit.{IsSilent, IsAsked, reception_is}
use Rattle.world_laws.proofs.Following.{then_happens, remark_follows, entries_follow}

-- ---- what came

pub name_is_at : (names : List ℕ) (i name : ℕ) → slice_get names i ≡ Some name → name_at i names
    ≡ name
name_is_at [] i name e = absurd (cc)
name_is_at (n ∷ ns) zero name e = cc
name_is_at (n ∷ ns) (suc i) name e = name_is_at ns i name e

-- the packet has come to its end, whose name this is
abbrev pub came_told : ℕ → Sent → Told → Told
came_told number s t = record t { came = name_at number t.names; packet = s.bytes }

pub ways_down : (l : Priority) (number : ℕ) (s : Sent) (w : Ways) → s.direction ≡ Down
    → lane_of s.bytes ≡ l
    → ways_past number s w ≡ with_way Down l (passed number (way_in Down l w)) w
unfolding ways_past
ways_down l number s w d e =
    ap (λ x. with_way x (lane_of s.bytes) (passed number (way_in x (lane_of s.bytes) w)) w) d
    ∙ ap (λ x. with_way Down x (passed number (way_in Down x w)) w) e

pub ways_up : (l : Priority) (number : ℕ) (s : Sent) (w : Ways) → s.direction ≡ Up → lane_of s.bytes
    ≡ l
    → ways_past number s w ≡ with_way Up l (passed number (way_in Up l w)) w
unfolding ways_past
ways_up l number s w d e =
    ap (λ x. with_way x (lane_of s.bytes) (passed number (way_in x (lane_of s.bytes) w)) w) d
    ∙ ap (λ x. with_way Up x (passed number (way_in Up x w)) w) e

-- a packet has its transaction's lane
pub lane_is : (l : Priority) (place : ℕ) (bytes : List ℕ) → packet_tci bytes ≡ tci_at l place
    → lane_of bytes ≡ l
lane_is l place bytes e = ap priority_of e ∙ lane_of_tci l (place_number place)
    (place_is_number place)

down_like : (l : Priority) (number : ℕ) (s : Sent) (link : Link) (lives : ℕ) (unit : Option Onu)
    (manager : Option Manager) (t : Told) (p : Channel)
    → Like link lives unit manager t p
    → Like (record link
    { ways = with_way Down l (passed number (way_in Down l link.ways)) link.ways }) lives unit
    manager (came_told number s t)
    (with_lane_view l (with_floor_down number (lane_view l p)) p)
down_like Low number s link lives unit manager t p h = record {
  packets = h.packets;
  ways = record {
    down_low = refl;
    down_high = h.ways.down_high;
    up_low = h.ways.up_low;
    up_high =
        h.ways.up_high;
  };
  lives_are = h.lives_are;
  drawn = h.drawn;
  history = h.history;
  unit_is = h.unit_is;
  manager_is = λ m e. let k = h.manager_is m e in record { is_low = k.is_low; is_high = k.is_high };
}
down_like High number s link lives unit manager t p h = record {
  packets = h.packets;
  ways = record {
    down_low = h.ways.down_low;
    down_high = refl;
    up_low = h.ways.up_low;
    up_high =
        h.ways.up_high;
  };
  lives_are = h.lives_are;
  drawn = h.drawn;
  history = h.history;
  unit_is = h.unit_is;
  manager_is = λ m e. let k = h.manager_is m e in record { is_low = k.is_low; is_high = k.is_high };
}

-- a request has come down
pub came_down : (l : Priority) (place number : ℕ) (s : Sent) (link : Link) (lives : ℕ)
    (unit : Option Onu) (manager : Option Manager) (t : Told) (p : Channel)
    → s.direction ≡ Down → packet_tci s.bytes ≡ tci_at l place → Like link lives unit manager t p
    → Like (delivered_on number s link) lives unit manager (came_told number s t)
    (with_lane_view l (with_floor_down number (lane_view l p)) p)
came_down l place number s link lives unit manager t p d e h =
    subst (λ w. Like (record link { ways = w }) lives unit manager (came_told number s t)
    (with_lane_view l (with_floor_down number (lane_view l p)) p))
    (sym (ways_down l number s link.ways d (lane_is l place s.bytes e)))
    (down_like l number s link lives unit manager t p h)

-- ---- what the moves come to

request_goes : (l : Priority) (tr : Transaction) (i : ℕ) (e : Option Execution) (p : Channel)
    → slice_get p.shared.packets i ≡ Some (RequestOf l tr)
    → may_go_down i (lane_view l p) ≡ true → after_move (RequestComes i e) p
    ≡ with_lane_view l (request_if l tr i e (lane_view l p) true) p
request_goes l tr i e p at may =
    ap (λ o. request_at i e p o) at
    ∙ ap (λ b. with_lane_view l (request_if l tr i e (lane_view l p) b) p) may

-- ---- the reply goes up

replied_like : (l : Priority) (tr : Transaction) (r : List ℕ) (link : Link) (lives : ℕ)
    (unit : Option Onu) (manager : Option Manager) (t : Told) (v : View) (p : Channel)
    → packet_tci r ≡ tci_at l tr.place → t.came ≡ tr.id
    → Like link lives unit manager t (with_lane_view l v p)
    → Like (sent_on (record { direction = Up; bytes = r }) link) lives unit manager
    (record t { names = t.names ++ t.came ∷ [] })
    (with_lane_view l (with_packet (ReplyTo l tr r) v) p)
replied_like Low tr r link lives unit manager t v p tci name h = record {
  packets = one_more _ _ _ _ _ _ h.packets (refl, tci, name, refl);
  ways = h.ways;
  lives_are = h.lives_are;
  drawn = h.drawn;
  history = h.history;
  unit_is = h.unit_is;
  manager_is = h.manager_is;
}
replied_like High tr r link lives unit manager t v p tci name h = record {
  packets = one_more _ _ _ _ _ _ h.packets (refl, tci, name, refl);
  ways = h.ways;
  lives_are = h.lives_are;
  drawn = h.drawn;
  history = h.history;
  unit_is = h.unit_is;
  manager_is = h.manager_is;
}

-- ---- the kept reply, and none

-- what is kept in the lane
pub kept_like : (l : Priority) (k : Kept) (p : Channel) → IsUnit k p.low.kept p.high.kept
    → IsKept l (kept_in l k) (lane_view l p).lane.kept
kept_like Low k p h = h.is_low
kept_like High k p h = h.is_high

-- the unit keeps that TCI
pub record KeepsIt (tci : ℕ) (o : Option Reply) : Type 0 where
  pub reply : Reply
  pub is : o ≡ Some reply
  pub same : reply.tci ≡ tci
  pub answers : if_answers tci o ≡ Some reply.packet

pub record KeepsOther (tci : ℕ) (o : Option Reply) : Type 0 where
  pub differs : (r : Reply) → o ≡ Some r → r.tci ≢ tci
  pub answers : if_answers tci o ≡ None

keeps_by : (b : Bool) (tci : ℕ) (r : Reply) → eqb r.tci tci ≡ b → KeepsIt tci (Some r)
    ⊎ KeepsOther tci (Some r)
keeps_by true tci r e =
    inl (record {
      reply = r;
      is = refl;
      same = eqb-true r.tci tci e;
      answers =
          ap (λ b. cond b (Some r.packet) None) e;
    })
keeps_by false tci r e = inr (record {
  differs = λ x f. subst (λ y. y.tci ≢ tci) (let g : r ≡ x = cc in g) (eqb-false r.tci tci e);
  answers = ap (λ b. cond b (Some r.packet) None) e;
})

pub keeps : (tci : ℕ) (o : Option Reply) → KeepsIt tci o ⊎ KeepsOther tci o
keeps tci None = inr (record { differs = λ r e. absurd (cc); answers = refl })
keeps tci (Some r) = keeps_by _ tci r refl

-- ---- the machine's kept reply

record Has (l : Priority) (r : Reply) (o : Option KeptReply) : Type 0 where
  kept : KeptReply
  is : o ≡ Some kept
  tci : r.tci ≡ tci_at l kept.transaction.place
  packet : r.packet ≡ kept.reply
  own : packet_tci r.packet ≡ r.tci

has : (l : Priority) (r : Reply) (x : Option Reply) (o : Option KeptReply) → x ≡ Some r
    → IsKept l x o → Has l r o
has l r (Some q) (Some k) e h = subst (λ z. Has l z (Some k)) (let g : q ≡ r = cc in g)
    (record { kept = k; is = refl; tci = h.0; packet = h.1; own = h.2 })
has l r (Some q) None e h = absurd h
has l r None o e h = absurd (cc)

-- it has no other number
pub has_other : (l : Priority) (tci : ℕ) (x : Option Reply) (k : KeptReply) → IsKept l x (Some k)
    → ((r : Reply) → x ≡ Some r → r.tci ≢ tci) → tci_at l k.transaction.place ≢ tci
has_other l tci (Some q) k h d = λ e. d q refl (h.0 ∙ e)
has_other l tci None k h d = absurd h

-- ---- the unit drops it

-- the happenings of a packet that came to the unit
abbrev pub arrival : ℕ → Sent → Did → List ℕ → Onu → ℕ → List Happening
arrival number s d reply before life = PacketCame number s ∷ unit_deed d reply before life

-- a request of the transaction stands at that place and may come
pub record Stands (l : Priority) (tr : Transaction) (i : ℕ) (s : Sent) (names : List ℕ)
    (p : Channel) : Type 0 where
  pub at : slice_get p.shared.packets i ≡ Some (RequestOf l tr)
  pub way : s.direction ≡ Down
  pub tci : packet_tci s.bytes ≡ tci_at l tr.place
  pub name : name_at i names ≡ tr.id
  pub may : may_go_down i (lane_view l p) ≡ true

-- nothing is made of it, and what the unit keeps stays
pub idle_follows : (l : Priority) (tr : Transaction) (i : ℕ) (s : Sent) (link : Link) (lives : ℕ)
    (u w : Onu) (manager : Option Manager) (t : Told) (p : Channel) → w.kept ≡ u.kept
    → Stands l tr i s t.names p → Like link lives (Some u) manager t p
    → Follows (delivered_on i s link) lives (Some w) manager (came_told i s t) p
idle_follows l tr i s link lives u w manager t p k a h = (
  RequestComes i None ∷ [],
  subst (λ q. Like (delivered_on i s link) lives (Some w) manager (came_told i s t) q)
      (sym (request_goes l tr i None p a.at a.may))
      (like_same_kept (delivered_on i s link) lives u w manager (came_told i s t) _ k
      (came_down l tr.place i s link lives (Some u) manager t p a.way a.tci h)),
)

-- the unit drops it, or holds it
silent_follows : (d : Did) (l : Priority) (tr : Transaction) (i : ℕ) (s : Sent) (reply : List ℕ)
    (link : Link) (lives : ℕ) (u w : Onu) (manager : Option Manager) (t : Told) (p : Channel)
    → (d ≡ did.Dropped) ⊎ (d ≡ did.Held) → w.kept ≡ u.kept
    → Stands l tr i s t.names p → Like link lives (Some u) manager t p
    → let hs = arrival i s d reply u lives in Follows (link_read hs link) lives (Some w)
    manager (tell_all hs t) p
silent_follows did.Dropped l tr i s reply link lives u w manager t p is k a h =
    idle_follows l tr i s link lives u w manager t p k a h
silent_follows did.Held l tr i s reply link lives u w manager t p is k a h =
    idle_follows l tr i s link lives u w manager t p k a h
silent_follows did.Kept l tr i s reply link lives u w manager t p (inl e) k a h = absurd (cc)
silent_follows did.Kept l tr i s reply link lives u w manager t p (inr e) k a h = absurd (cc)
silent_follows (did.Carried note) l tr i s reply link lives u w manager t p (inl e) k a h =
    absurd (cc)
silent_follows (did.Carried note) l tr i s reply link lives u w manager t p (inr e) k a h =
    absurd (cc)

-- ---- it gives the kept reply again

serve_goes : (l : Priority) (tr : Transaction) (e : Execution) (v : View) (o : Option KeptReply)
    (k : KeptReply) → o ≡ Some k
    → place_number k.transaction.place ≡ place_number tr.place → serve l tr e v o
    ≡ with_packet (ReplyTo l tr k.reply) v
serve_goes l tr e v o k w same =
    let test : nat_eq (place_number k.transaction.place) (place_number tr.place) ≡ true =
    grind (arith, nat_tests) in
    ap (λ z. serve l tr e v z) w ∙ ap (λ b. execute_unless l tr e v k b) test

repeat_follows : (l : Priority) (tr : Transaction) (i : ℕ) (s : Sent) (r : Reply) (link : Link)
    (lives : ℕ) (u : Onu) (manager : Option Manager) (t : Told) (p : Channel)
    → Stands l tr i s t.names p → Like link lives (Some u) manager t p → kept_in l u.kept ≡ Some r
    → r.tci ≡ tci_at l tr.place
    → let hs = arrival i s did.Kept r.packet u lives in Follows (link_read hs link) lives (Some u)
    manager (tell_all hs t) p
repeat_follows l tr i s r link lives u manager t p a h is same = (
  RequestComes i (Some e) ∷ [],
  subst (λ q. Like (sent_on (record { direction = Up; bytes = r.packet }) (delivered_on i s link))
      lives (Some u) manager (record c { names = c.names ++ c.came ∷ [] }) q)
      (sym moves)
      (subst (λ x. Like (sent_on (record { direction = Up; bytes = r.packet })
      (delivered_on i s link)) lives (Some u) manager
      (record c { names = c.names ++ c.came ∷ [] })
      (with_lane_view l (with_packet (ReplyTo l tr x) v) p)) k.packet
      (replied_like l tr r.packet (delivered_on i s link) lives (Some u) manager c v p
      (k.own ∙ same) a.name
      (came_down l tr.place i s link lives (Some u) manager t p a.way a.tci h))),
)
  where
    e : Execution
    e = record { reply = []; before = u.database }

    c : Told
    c = came_told i s t

    v : View
    v = with_floor_down i (lane_view l p)

    k : Has l r (lane_view l p).lane.kept
    k = has l r (kept_in l u.kept)
        (lane_view l p).lane.kept is (kept_like l u.kept p (h.unit_is u refl))

    number : place_number k.kept.transaction.place ≡ place_number tr.place
    number = same_number l _ _ (sym k.tci ∙ same)

    moves : after_move (RequestComes i (Some e)) p
        ≡ with_lane_view l (with_packet (ReplyTo l tr k.kept.reply) v) p
    moves = request_goes l tr i (Some e) p a.at a.may ∙ ap (λ x. with_lane_view l x p)
        (serve_goes l tr e v (lane_view l p).lane.kept k.kept k.is number)

-- ---- it carries the request out

-- what is told of it, but for a note
abbrev pub executed_told : ℕ → Sent → ℕ → List ℕ → Onu → Told → Told
executed_told i s lives reply u t =
    let c = came_told i s t in
    record c {
      names = c.names ++ c.came ∷ [];
      history = CarriedOut lives c.came reply u.database ∷ c.history;
    }

execute_goes : (l : Priority) (tr : Transaction) (e : Execution) (v : View) (o : Option KeptReply)
    → ((k : KeptReply) → o ≡ Some k → place_number k.transaction.place ≢ place_number tr.place)
    → serve l tr e v o ≡ execute l tr e v
execute_goes l tr e v None d = refl
execute_goes l tr e v (Some k) d =
    let other = d k refl in
    let test : nat_eq (place_number k.transaction.place) (place_number tr.place) ≡ false =
    grind (arith, nat_tests) in
    ap (λ b. execute_unless l tr e v k b) test

executed_like : (l : Priority) (tr : Transaction) (e : Execution) (r : Reply) (link : Link)
    (lives : ℕ) (u w : Onu) (manager : Option Manager) (t : Told) (v : View) (p : Channel)
    → w.kept ≡ keep_in l r u.kept → r.tci ≡ tci_at l tr.place → r.packet ≡ e.reply
    → packet_tci r.packet ≡ r.tci → t.came ≡ tr.id
    → Like link lives (Some u) manager t (with_lane_view l v p)
    → Like link lives (Some w) manager
    (record t { history = CarriedOut lives t.came e.reply e.before ∷ t.history })
    (with_lane_view l (with_execution tr e v) p)
executed_like Low tr e r link lives u w manager t v p k tci packet own name h = record {
  packets = h.packets;
  ways = record {
    down_low = h.ways.down_low;
    down_high = h.ways.down_high;
    up_low =
        h.ways.up_low;
    up_high = h.ways.up_high;
  };
  lives_are = h.lives_are;
  drawn = h.drawn;
  history = ap (λ x. CarriedOut x t.came e.reply e.before ∷ t.history) h.lives_are
      ∙ ap (λ x. CarriedOut v.shared.life x e.reply e.before ∷ t.history) name
      ∙ ap (λ x. CarriedOut v.shared.life tr.id e.reply e.before ∷ x) h.history;
  unit_is =
      some_unit w _ _
      (subst (λ x. IsUnit x (Some (record { transaction = tr; reply = e.reply })) p.high.kept)
      (sym k)
      (record { is_low = (tci, packet, own); is_high = (h.unit_is u refl).is_high }));
  manager_is = λ m f. let q = h.manager_is m f in record { is_low = q.is_low; is_high = q.is_high };
}
executed_like High tr e r link lives u w manager t v p k tci packet own name h = record {
  packets = h.packets;
  ways = record {
    down_low = h.ways.down_low;
    down_high = h.ways.down_high;
    up_low =
        h.ways.up_low;
    up_high = h.ways.up_high;
  };
  lives_are = h.lives_are;
  drawn = h.drawn;
  history = ap (λ x. CarriedOut x t.came e.reply e.before ∷ t.history) h.lives_are
      ∙ ap (λ x. CarriedOut v.shared.life x e.reply e.before ∷ t.history) name
      ∙ ap (λ x. CarriedOut v.shared.life tr.id e.reply e.before ∷ x) h.history;
  unit_is =
      some_unit w _ _
      (subst (λ x. IsUnit x p.low.kept (Some (record { transaction = tr; reply = e.reply })))
      (sym k)
      (record { is_low = (h.unit_is u refl).is_low; is_high = (tci, packet, own) }));
  manager_is = λ m f. let q = h.manager_is m f in record { is_low = q.is_low; is_high = q.is_high };
}

-- the move that a request which is carried out makes
executed_move : (l : Priority) (tr : Transaction) (i : ℕ) (s : Sent) (reply : List ℕ)
    (link : Link) (lives : ℕ) (u w : Onu) (manager : Option Manager) (t : Told) (p : Channel)
    → Stands l tr i s t.names p → Like link lives (Some u) manager t p
    → ((r : Reply) → kept_in l u.kept ≡ Some r → r.tci ≢ tci_at l tr.place)
    → w.kept ≡ keep_in l (record { tci = tci_at l tr.place; packet = reply }) u.kept
    → packet_tci reply ≡ tci_at l tr.place
    → Like (sent_on (record { direction = Up; bytes = reply }) (delivered_on i s link)) lives
    (Some w) manager (executed_told i s lives reply u t)
    (after_move (RequestComes i (Some (record { reply = reply; before = u.database }))) p)
executed_move l tr i s reply link lives u w manager t p a h differs k own =
    subst
    (λ q. Like (sent_on (record { direction = Up; bytes = reply }) (delivered_on i s link)) lives
    (Some w) manager (executed_told i s lives reply u t) q) (sym moves)
    (replied_like l tr reply (delivered_on i s link) lives (Some w) manager d
    (with_execution tr e v) p own a.name
    (executed_like l tr e (record { tci = tci_at l tr.place; packet = reply })
    (delivered_on i s link) lives u w manager c v p k refl refl own a.name
    (came_down l tr.place i s link lives (Some u) manager t p a.way a.tci h)))
  where
    e : Execution
    e = record { reply = reply; before = u.database }

    c : Told
    c = came_told i s t

    d : Told
    d = record c { history = CarriedOut lives c.came reply u.database ∷ c.history }

    v : View
    v = with_floor_down i (lane_view l p)

    other : (q : KeptReply) → (lane_view l p).lane.kept ≡ Some q → place_number q.transaction.place
        ≢ place_number tr.place
    other q f = λ same. has_other l (tci_at l tr.place) (kept_in l u.kept) q
        (subst (IsKept l (kept_in l u.kept)) f (kept_like l u.kept p (h.unit_is u refl))) differs
        (ap (tci_of l) same)

    moves : after_move (RequestComes i (Some e)) p ≡ with_lane_view l (execute l tr e v) p
    moves = request_goes l tr i (Some e) p a.at a.may ∙ ap (λ x. with_lane_view l x p)
        (execute_goes l tr e v (lane_view l p).lane.kept other)

-- what is noted of it is a remark
noted_follows : (note : Option Note) (i : ℕ) (s : Sent) (reply : List ℕ) (link : Link)
    (lives : ℕ) (u w : Onu) (manager : Option Manager) (t : Told) (p : Channel)
    → Like (sent_on (record { direction = Up; bytes = reply }) (delivered_on i s link)) lives
    (Some w) manager (executed_told i s lives reply u t)
    (after_move (RequestComes i (Some (record { reply = reply; before = u.database }))) p)
    → let hs = arrival i s (did.Carried note) reply u lives in Follows (link_read hs link) lives
    (Some w) manager (tell_all hs t) p
noted_follows None i s reply link lives u w manager t p h =
    (RequestComes i (Some (record { reply = reply; before = u.database })) ∷ [], h)
noted_follows (Some (note.Snapshot entities counter)) i s reply link lives u w manager t p h =
    let more = remark_follows (TookSnapshot lives (name_at i t.names) u.database) _ lives (Some w)
    manager (executed_told i s lives reply u t) _ h in
    (RequestComes i (Some (record { reply = reply; before = u.database })) ∷ more.0, more.1)
noted_follows (Some (note.Alarms rows)) i s reply link lives u w manager t p h =
    let more = remark_follows (TookAlarms lives (name_at i t.names) u.log.alarms) _ lives (Some w)
    manager (executed_told i s lives reply u t) _ h in
    (RequestComes i (Some (record { reply = reply; before = u.database })) ∷ more.0, more.1)
noted_follows (Some (note.Sealed slot size check)) i s reply link lives u w manager t p h =
    (RequestComes i (Some (record { reply = reply; before = u.database })) ∷ [], h)
noted_follows (Some (note.Committed slot)) i s reply link lives u w manager t p h =
    (RequestComes i (Some (record { reply = reply; before = u.database })) ∷ [], h)
noted_follows (Some (note.Leaving boot)) i s reply link lives u w manager t p h =
    (RequestComes i (Some (record { reply = reply; before = u.database })) ∷ [], h)

-- ---- what the unit makes of it

-- a request under this TCI: its lane, and what is kept there
pub kept_for_is : (l : Priority) (tci : ℕ) (k : Kept) → priority_of tci ≡ l → kept_for tci k
    ≡ if_answers tci (kept_in l k)
unfolding kept_for
kept_for_is l tci k e = ap (λ x. if_answers tci (kept_in x k)) e

kept_with_is : (l : Priority) (tci : ℕ) (reply : List ℕ) (k : Kept) → priority_of tci ≡ l
    → kept_with tci reply k ≡ keep_in l (record { tci = tci; packet = reply }) k
unfolding kept_with
kept_with_is l tci reply k e = ap (λ x. keep_in x (record { tci = tci; packet = reply }) k) e

pub asked_is : (f : Frame) (a : Answer) (u : Onu) → take_request f a u
    ≡ unless_kept (kept_for f.tci u.kept) f.tci a u
unfolding take_request
asked_is f a u = refl

abbrev pub ReceptionFollows : Reception → ℕ → Sent → Onu → Link → ℕ → Option Manager → Told
    → Channel → Type 0
ReceptionFollows r i s u link lives manager t p =
    let hs = arrival i s r.did r.reply u lives ++ stored r.stored in
    Follows (link_read hs link) lives (Some r.unit) manager (tell_all hs t) p

-- the store's entries come last
with_entries : (r : Reception) (i : ℕ) (s : Sent) (u : Onu) (link : Link) (lives : ℕ)
    (manager : Option Manager) (t : Told) (p : Channel)
    → (let hs = arrival i s r.did r.reply u lives in
    Follows (link_read hs link) lives (Some r.unit) manager (tell_all hs t) p)
    → ReceptionFollows r i s u link lives manager t p
with_entries r i s u link lives manager t p f =
    then_happens (arrival i s r.did r.reply u lives) (stored r.stored) link lives lives
    (Some r.unit) (Some r.unit) manager manager t p f
    (λ q k. entries_follow (reverse r.stored) _ lives (Some r.unit) manager _ q k)

-- a unit that leaves drops it
leaving_follows : (leaving : Option Boot) (r : Reception) (l : Priority) (tr : Transaction) (i : ℕ)
    (s : Sent) (link : Link) (lives : ℕ) (u : Onu) (manager : Option Manager) (t : Told)
    (p : Channel) → Stands l tr i s t.names p → Like link lives (Some u) manager t p
    → ReceptionFollows r i s u link lives manager t p
    → ReceptionFollows (unless_leaving leaving r u) i s u link lives manager t p
leaving_follows None r l tr i s link lives u manager t p st h f = f
leaving_follows (Some boot) r l tr i s link lives u manager t p st h f =
    with_entries (drop_packet u) i s u link lives manager t p
    (silent_follows did.Dropped l tr i s [] link lives u u manager t p (inl refl) refl st h)

asked_follows : (l : Priority) (tr : Transaction) (i : ℕ) (s : Sent) (f : Frame) (a : Answer)
    (link : Link) (lives : ℕ) (u : Onu) (manager : Option Manager) (t : Told) (p : Channel)
    → Stands l tr i s t.names p → Like link lives (Some u) manager t p → f.tci ≡ tci_at l tr.place
    → a.reply.tci ≡ tci_at l tr.place → a.unit.kept ≡ u.kept
    → KeepsIt f.tci (kept_in l u.kept) ⊎ KeepsOther f.tci (kept_in l u.kept)
    → ReceptionFollows (take_request f a u) i s u link lives manager t p
asked_follows l tr i s f a link lives u manager t p st h tci reply same (inl k) =
    let lane : priority_of f.tci ≡ l = ap priority_of tci ∙ lane_of_tci l (place_number tr.place)
    (place_is_number tr.place) in
    let is : take_request f a u
    ≡ record { unit = u; did = did.Kept; reply = k.reply.packet; stored = [] } =
    asked_is f a u ∙ ap (λ o. unless_kept o f.tci a u)
    (kept_for_is l f.tci u.kept lane ∙ k.answers) in
    subst (λ r. ReceptionFollows r i s u link lives manager t p) (sym is)
    (with_entries
    (record { unit = u; did = did.Kept; reply = k.reply.packet; stored = [] })
    i s u link lives manager t p
    (repeat_follows l tr i s k.reply link lives u manager t p st h k.is (k.same ∙ tci)))
asked_follows l tr i s f a link lives u manager t p st h tci reply same (inr k) =
    let lane : priority_of f.tci ≡ l = ap priority_of tci ∙ lane_of_tci l (place_number tr.place)
    (place_is_number tr.place) in
    let is : take_request f a u ≡ unless_leaving u.leaving (keep_reply f.tci a) u =
    asked_is f a u ∙ ap (λ o. unless_kept o f.tci a u)
    (kept_for_is l f.tci u.kept lane ∙ k.answers) in
    subst (λ r. ReceptionFollows r i s u link lives manager t p) (sym is)
    (leaving_follows u.leaving (keep_reply f.tci a) l tr i s link lives u manager t p st h
    (with_entries (keep_reply f.tci a) i s u link lives manager t p
    (noted_follows a.note i s (spelling a.reply) link lives u (keep_reply f.tci a).unit manager t p
    (executed_move l tr i s (spelling a.reply) link lives u (keep_reply f.tci a).unit manager t p
    st h
    (λ r e. subst (λ n. r.tci ≢ n) tci (k.differs r e))
    (ap (kept_with f.tci (spelling a.reply)) same ∙ kept_with_is l f.tci (spelling a.reply) u.kept
    lane ∙ ap (λ n. keep_in l (record { tci = n; packet = spelling a.reply }) u.kept) tci)
    (tci_spelled a.reply
    (subst (λ n. n < 2 ^ 16) (sym reply)
    (tci_fits l (place_number tr.place) (place_is_number tr.place))) ∙ reply)))))

reception_follows : (l : Priority) (tr : Transaction) (i : ℕ) (s : Sent) (r : Reception)
    (link : Link) (lives : ℕ) (u : Onu) (manager : Option Manager) (t : Told) (p : Channel)
    → Stands l tr i s t.names p → Like link lives (Some u) manager t p → IsSilent u r
    ⊎ IsAsked (packet_tci s.bytes) u r → ReceptionFollows r i s u link lives manager t p
reception_follows l tr i s r link lives u manager t p st h (inl k) =
    with_entries r i s u link lives manager t p
    (silent_follows r.did l tr i s r.reply link lives u r.unit manager t p k.did_is k.kept st h)
reception_follows l tr i s r link lives u manager t p st h (inr k) =
    subst (λ r. ReceptionFollows r i s u link lives manager t p) (sym k.is)
    (asked_follows l tr i s k.frame k.answer link lives u manager t p st h (k.same ∙ st.tci)
    (k.reply ∙ st.tci) k.kept (keeps k.frame.tci (kept_in l u.kept)))

pub unit_follows : (l : Priority) (tr : Transaction) (i : ℕ) (s : Sent) (link : Link) (lives : ℕ)
    (u : Onu) (manager : Option Manager) (t : Told) (p : Channel)
    → Stands l tr i s t.names p → Like link lives (Some u) manager t p
    → ReceptionFollows (onu_received false s.bytes u) i s u link lives manager t p
unit_follows l tr i s link lives u manager t p st h =
    reception_follows l tr i s (onu_received false s.bytes u) link lives u manager t p st h
    (reception_is s.bytes u)
