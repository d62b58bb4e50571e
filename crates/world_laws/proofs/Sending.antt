-- The manager draws a command and sends it, and sends it again.
use Rattle.std.proofs.Common.{◌≡◌, ◌≢◌, ℕ, ◌+◌, ◌<◌, ◌≤◌, ◌^◌, Bool, true, false, List, [], ◌∷◌, ◌++◌, length, Option, Some, None, refl, sym, ap, subst, ◌∙◌, arith, length-append}
use Rattle.std.proofs.lemmas.List.{append-nil}
use Rattle.std.proofs.lemmas.List.Elements.{All-head, All-tail, All-contains_itself}
use Rattle.std.specs.Prelude.{map}
use Rattle.std.specs.List.{All, Contains}
use Rattle.omci_types.specs.declared.Priority.{Priority}
use Rattle.omci_types.specs.declared.Priority.TheVariants.{Low, High}
use Rattle.tci_spec.specs.Tci.{number_after, tci_of, packet_tci}
use Rattle.message_spec.specs.Reading.{plain}
use Rattle.link_spec.specs.declared.Direction.TheVariants.{Down}
use Rattle.link_spec.specs.Link.{Link, sent_on}
use Rattle.omci_types.specs.declared.EntityId.{EntityId}
use Rattle.message_spec.specs.declared.Message.TheVariants.{Asked}
use Rattle.message_spec.specs.declared.Request.TheVariants as request
use Rattle.lane_spec.specs.Command.{Command, command_frame, section_packet, with_sections, command_packets, is_probe}
use Rattle.lane_spec.specs.Lane.{Lane, next_tci, with_command}
use Rattle.manager_spec.specs.Manager.{Manager, lane_in, with_lane, command_sent}
use Rattle.unit_spec.specs.Onu.{Onu}
use Rattle.moves_spec.specs.Channel.{Transaction, place_number, RequestOf, Outstanding, LaneState, Channel, View, lane_view, with_lane_view}
use Rattle.moves_spec.specs.Moves.{Draw, Send, drawn_transaction, outstanding_of, with_draw, draw_if, with_packet, with_requests, with_sent, send_if, Move, after_move, after_moves}
use Rattle.moves_laws.proofs.Numbers.{number_next, place_is_number}
use Rattle.world_spec.specs.Happenings.{Happening, CommandDrawn, link_read}
use Rattle.world_spec.specs.Ends.{goes_down, if_asked}
use Rattle.world_spec.specs.History.{Told, drawn_in, draws_in, tell_all}
use Rattle.world_laws.proofs.Tcis.{tci_fits, tci_spelled}
use Rattle.world_laws.proofs.Likeness.{tci_at, one_more, IsLane, IsLaneOf, IsManager, Like, lane_like, idle, like_unmanaged, like_managed, one_lane}
use Rattle.world_laws.proofs.Following.{Happens, OutcomeFollows}

-- ---- the packets of a command

abbrev pub HaveTci : ℕ → List (List ℕ) → Type 0
HaveTci tci [] = Unit {0}
HaveTci tci (bytes ∷ rest) = (packet_tci bytes ≡ tci) × HaveTci tci rest

frame_tci : (tci : ℕ) (c : Command) → (command_frame tci c).tci ≡ tci
unfolding command_frame plain
frame_tci tci c = refl

section_tci : (tci : ℕ) (one : EntityId) (number : ℕ) (bytes : List ℕ) → tci < 2 ^ 16
    → packet_tci (section_packet tci one number bytes) ≡ tci
unfolding section_packet plain
section_tci tci one number bytes fits =
    tci_spelled (plain (Asked tci one (request.Section number bytes false))) fits

sections_tci : (tci : ℕ) (one : EntityId) (number : ℕ) (sections packets : List (List ℕ))
    → tci < 2 ^ 16 → HaveTci tci packets
    → HaveTci tci (with_sections tci one number sections packets)
sections_tci tci one number [] packets fits h = h
sections_tci tci one number (bytes ∷ rest) packets fits h = (
  section_tci tci one number bytes fits,
  sections_tci tci one (number + 1) rest packets fits h,
)

pub packets_tci : (l : Priority) (place : ℕ) (c : Command) → HaveTci (tci_at l place)
    (command_packets (tci_at l place) c)
packets_tci l place c =
    let same = frame_tci (tci_at l place) c in
    let fits = tci_fits l (place_number place) (place_is_number place) in
    sections_tci (tci_at l place) c.entity 0 c.earlier _ fits (
      tci_spelled (command_frame (tci_at l place) c)
          (subst (λ n. n < 2 ^ 16) (sym same) fits) ∙ same,
      tt,
    )

some_sent : (tci : ℕ) (one : EntityId) (number : ℕ) (sections packets : List (List ℕ))
    → 1 ≤ length packets → 1 ≤ length (with_sections tci one number sections packets)
some_sent tci one number [] packets h = h
some_sent tci one number (bytes ∷ rest) packets h = omega arith

-- a command sends a packet each time
pub sends_some : (tci : ℕ) (c : Command) → 1 ≤ length (command_packets tci c)
sends_some tci c = some_sent tci c.entity 0 c.earlier _ (omega arith)

-- they go onto the link
pub sends_like : (l : Priority) (tr : Transaction) (ps : List (List ℕ)) (link : Link) (lives : ℕ)
    (unit : Option Onu) (manager : Option Manager) (t : Told) (v : View) (p : Channel)
    → HaveTci (tci_at l tr.place) ps → All (Contains tr.packets) ps → drawn_in l t ≡ tr.id
    → Like link lives unit manager t (with_lane_view l v p)
    → Like (link_read (map (goes_down l) ps) link) lives unit manager
    (tell_all (map (goes_down l) ps) t) (with_lane_view l (with_requests l tr ps v) p)
sends_like l tr [] link lives unit manager t v p tcis own name h = h
sends_like Low tr (x ∷ ps) link lives unit manager t v p tcis own name h =
    sends_like Low tr ps (sent_on (record { direction = Down; bytes = x }) link) lives unit manager
    (record t { names = t.names ++ t.low ∷ [] }) (with_packet (RequestOf Low tr) v) p tcis.1
    (All-tail (Contains tr.packets) x ps own) name
    (record {
      packets = one_more _ _ _ _ _ _ h.packets
          (refl, tcis.0, name, All-head (Contains tr.packets) x ps own);
      ways = h.ways;
      lives_are = h.lives_are;
      drawn = h.drawn;
      history = h.history;
      unit_is = h.unit_is;
      manager_is = h.manager_is;
    })
sends_like High tr (x ∷ ps) link lives unit manager t v p tcis own name h =
    sends_like High tr ps (sent_on (record { direction = Down; bytes = x }) link) lives unit manager
    (record t { names = t.names ++ t.high ∷ [] }) (with_packet (RequestOf High tr) v) p tcis.1
    (All-tail (Contains tr.packets) x ps own) name
    (record {
      packets = one_more _ _ _ _ _ _ h.packets
          (refl, tcis.0, name, All-head (Contains tr.packets) x ps own);
      ways = h.ways;
      lives_are = h.lives_are;
      drawn = h.drawn;
      history = h.history;
      unit_is = h.unit_is;
      manager_is = h.manager_is;
    })

-- and leave alone what the lanes drew
pub lasts_stay : (l k : Priority) (ps : List (List ℕ)) (t : Told)
    → drawn_in k (tell_all (map (goes_down l) ps) t) ≡ drawn_in k t
lasts_stay l k [] t = refl
lasts_stay Low k (x ∷ ps) t = lasts_stay Low k ps (record t { names = t.names ++ t.low ∷ [] })
    ∙ again k
  where
    again : (k : Priority) → drawn_in k (record t { names = t.names ++ t.low ∷ [] }) ≡ drawn_in k t
    again Low = refl
    again High = refl
lasts_stay High k (x ∷ ps) t = lasts_stay High k ps (record t { names = t.names ++ t.high ∷ [] })
    ∙ again k
  where
    again : (k : Priority) → drawn_in k (record t { names = t.names ++ t.high ∷ [] }) ≡ drawn_in k t
    again Low = refl
    again High = refl

lane_stays : (l : Priority) (tr : Transaction) (ps : List (List ℕ)) (v : View)
    → (with_requests l tr ps v).lane ≡ v.lane
lane_stays l tr [] v = refl
lane_stays l tr (p ∷ rest) v = lane_stays l tr rest (with_packet (RequestOf l tr) v)

-- ---- what the moves come to

drawn_goes : (l : Priority) (probe : Bool) (ps : List (List ℕ)) (v : View) (o : Option Outstanding)
    (proved : Bool) → o ≡ None → (proved ≡ false → probe ≡ true)
    → draw_if l probe ps v o proved ≡ with_draw l probe ps v
drawn_goes l probe ps v (Some x) proved n a = absurd (cc)
drawn_goes l probe ps v None true n a = refl
drawn_goes l true ps v None false n a = refl
drawn_goes l false ps v None false n a = absurd (let e = a refl in cc)

draw_moves : (l : Priority) (probe : Bool) (ps : List (List ℕ)) (p : Channel)
    → (lane_view l p).lane.outstanding ≡ None → ((lane_view l p).lane.proved ≡ false → probe ≡ true)
    → after_move (Draw l probe ps) p ≡ with_lane_view l (with_draw l probe ps (lane_view l p)) p
draw_moves l probe ps p w a = ap (λ v. with_lane_view l v p)
    (drawn_goes l probe ps (lane_view l p) _ _ w a)

pub send_moves : (l : Priority) (v : View) (p : Channel) (o : Outstanding) → v.lane.outstanding
    ≡ Some o
    → after_move (Send l) (with_lane_view l v p)
    ≡ with_lane_view l
    (with_sent (length o.transaction.packets) o
    (with_requests l o.transaction o.transaction.packets v)) p
send_moves Low v p o w = ap (λ z. with_lane_view Low (send_if Low v z) p) w
send_moves High v p o w = ap (λ z. with_lane_view High (send_if High v z) p) w

-- ---- all packets of a command, counted

-- only what is outstanding in the lane differs
like_counted : (l : Priority) (link : Link) (lives : ℕ) (unit : Option Onu) (t : Told) (count : ℕ)
    (o : Outstanding) (v : View) (p : Channel)
    → Like link lives unit None t (with_lane_view l v p)
    → Like link lives unit None t (with_lane_view l (with_sent count o v) p)
like_counted Low link lives unit t count o v p h = record {
  packets = h.packets;
  ways = record {
    down_low = h.ways.down_low;
    down_high = h.ways.down_high;
    up_low =
        h.ways.up_low;
    up_high = h.ways.up_high;
  };
  lives_are = h.lives_are;
  drawn = h.drawn;
  history = h.history;
  unit_is = h.unit_is;
  manager_is = λ m e. absurd (cc);
}
like_counted High link lives unit t count o v p h = record {
  packets = h.packets;
  ways = record {
    down_low = h.ways.down_low;
    down_high = h.ways.down_high;
    up_low =
        h.ways.up_low;
    up_high = h.ways.up_high;
  };
  lives_are = h.lives_are;
  drawn = h.drawn;
  history = h.history;
  unit_is = h.unit_is;
  manager_is = λ m e. absurd (cc);
}

abbrev pub sent_view : Priority → Outstanding → View → View
sent_view l o v = with_sent (length o.transaction.packets) o
    (with_requests l o.transaction o.transaction.packets v)

pub sent_like : (l : Priority) (o : Outstanding) (link : Link) (lives : ℕ) (unit : Option Onu)
    (t : Told) (v : View) (p : Channel)
    → HaveTci (tci_at l o.transaction.place) o.transaction.packets → drawn_in l t ≡ o.transaction.id
    → Like link lives unit None t (with_lane_view l v p)
    → Like (link_read (map (goes_down l) o.transaction.packets) link) lives unit None
    (tell_all (map (goes_down l) o.transaction.packets) t) (with_lane_view l (sent_view l o v) p)
sent_like l o link lives unit t v p tcis name h =
    like_counted l _ lives unit _ (length o.transaction.packets) o
    (with_requests l o.transaction o.transaction.packets v) p
    (sends_like l o.transaction o.transaction.packets link lives unit None t v p tcis
    (All-contains_itself o.transaction.packets) name h)

-- the lane after it
pub sent_lane : (l : Priority) (last : ℕ) (m : Lane) (o : Outstanding) (v : View)
    → IsLane l last m v.lane.proved v.lane.place
    (Some (record o { sent = o.sent + length o.transaction.packets }))
    → IsLaneOf l last m (sent_view l o v).lane
sent_lane l last m o v h =
    subst (λ x. IsLane l last m x.proved x.place
    (Some (record o { sent = o.sent + length o.transaction.packets })))
    (sym (lane_stays l o.transaction o.transaction.packets v)) h

-- ---- a command is drawn

drawn_like : (l : Priority) (probe : Bool) (ps : List (List ℕ)) (link : Link) (lives : ℕ)
    (unit : Option Onu) (t : Told) (p : Channel)
    → Like link lives unit None t p → Like link lives unit None (draws_in l t)
    (with_lane_view l (with_draw l probe ps (lane_view l p)) p)
drawn_like Low probe ps link lives unit t p h = record {
  packets = h.packets;
  ways = record {
    down_low = h.ways.down_low;
    down_high = h.ways.down_high;
    up_low =
        h.ways.up_low;
    up_high = h.ways.up_high;
  };
  lives_are = h.lives_are;
  drawn = omega (arith, h.drawn, length-append p.shared.draws (Low ∷ []));
  history = h.history;
  unit_is = h.unit_is;
  manager_is = λ m e. absurd (cc);
}
drawn_like High probe ps link lives unit t p h = record {
  packets = h.packets;
  ways = record {
    down_low = h.ways.down_low;
    down_high = h.ways.down_high;
    up_low =
        h.ways.up_low;
    up_high = h.ways.up_high;
  };
  lives_are = h.lives_are;
  drawn = omega (arith, h.drawn, length-append p.shared.draws (High ∷ []));
  history = h.history;
  unit_is = h.unit_is;
  manager_is = λ m e. absurd (cc);
}

draws_own : (l : Priority) (t : Told) → drawn_in l (draws_in l t) ≡ t.drawn
draws_own Low t = refl
draws_own High t = refl

draws_other : (l k : Priority) (t : Told) → l ≢ k → drawn_in k (draws_in l t) ≡ drawn_in k t
draws_other Low Low t ne = absurd (ne refl)
draws_other Low High t ne = refl
draws_other High Low t ne = refl
draws_other High High t ne = absurd (ne refl)

draws_of_view : (l : Priority) (p : Channel) → (lane_view l p).shared ≡ p.shared
draws_of_view Low p = refl
draws_of_view High p = refl

-- ---- a command is drawn for which the job may ask for a snapshot

-- what the history makes of it that the job asks
abbrev told_asked : Bool → Priority → Told → Told
told_asked true l t = record t { asking = drawn_in l t }
told_asked false l t = t

asked_link : (asks : Bool) (l : Priority) (hs : List Happening) (link : Link)
    → link_read (if_asked asks l ++ hs) link ≡ link_read hs link
asked_link true l hs link = refl
asked_link false l hs link = refl

asked_all : (asks : Bool) (l : Priority) (hs : List Happening) (t : Told)
    → tell_all (if_asked asks l ++ hs) t ≡ tell_all hs (told_asked asks l t)
asked_all true l hs t = refl
asked_all false l hs t = refl

asked_drawn : (asks : Bool) (k l : Priority) (t : Told)
    → drawn_in k (told_asked asks l t) ≡ drawn_in k t
asked_drawn true Low l t = refl
asked_drawn true High l t = refl
asked_drawn false k l t = refl

asked_like : (asks : Bool) (l : Priority) (link : Link) (lives : ℕ) (unit : Option Onu)
    (manager : Option Manager) (t : Told) (p : Channel) → Like link lives unit manager t p
    → Like link lives unit manager (told_asked asks l t) p
asked_like true l link lives unit manager t p h = record {
  packets = h.packets;
  ways = h.ways;
  lives_are = h.lives_are;
  drawn = h.drawn;
  history = h.history;
  unit_is = h.unit_is;
  manager_is = h.manager_is;
}
asked_like false l link lives unit manager t p h = h

abbrev drawn_deeds : Bool → Priority → Command → Manager → List Happening
drawn_deeds asks l c m =
    CommandDrawn l ∷ if_asked asks l
    ++ map (goes_down l) (command_packets (next_tci (lane_in l m)) c)

-- a command is drawn and sent
drawn_happens : (asks : Bool) (l : Priority) (c : Command) (link : Link) (lives : ℕ)
    (unit : Option Onu) (m : Manager) (t : Told) (p : Channel)
    → Like link lives unit (Some m) t p → (lane_in l m).outstanding ≡ None
    → ((lane_in l m).proved ≡ false → is_probe c.purpose ≡ true)
    → Happens (drawn_deeds asks l c m) link lives unit
    (Some (with_lane l (with_command c (lane_in l m)) m)) t p
drawn_happens asks l c link lives unit m t p h none allowed = (
  Draw l (is_probe c.purpose) ps ∷ Send l ∷ [],
  subst (λ k. Like k lives unit (Some (with_lane l (with_command c x) m))
      (tell_all (if_asked asks l ++ goes) (draws_in l t)) (after_moves made p))
      (sym (asked_link asks l goes link))
      (subst (λ w. Like (link_read goes link) lives unit (Some (with_lane l (with_command c x) m))
      w (after_moves made p)) (sym (asked_all asks l goes (draws_in l t)))
      (subst (λ q. Like (link_read goes link) lives unit (Some (with_lane l (with_command c x) m))
      (tell_all goes u) q) (sym moves) like)),
)
  where
    x : Lane
    x = lane_in l m

    ps : List (List ℕ)
    ps = command_packets (next_tci x) c

    goes : List Happening
    goes = map (goes_down l) ps

    made : List Move
    made = Draw l (is_probe c.purpose) ps ∷ Send l ∷ []

    u : Told
    u = told_asked asks l (draws_in l t)

    s : LaneState
    s = (lane_view l p).lane

    v : View
    v = with_draw l (is_probe c.purpose) ps (lane_view l p)

    o : Outstanding
    o = outstanding_of (drawn_transaction (is_probe c.purpose) ps (lane_view l p))

    managed : IsManager t.low t.high m p.low p.high
    managed = h.manager_is m refl

    lane : IsLaneOf l (drawn_in l t) x s
    lane = lane_like l t m p managed

    free : (s.outstanding ≡ None) × (x.next ≡ place_number s.place)
    free = idle l (drawn_in l t) x s lane none

    tci : next_tci x ≡ tci_at l s.place
    tci = ap (λ a. tci_of a x.next) lane.priority ∙ ap (tci_of l) free.1

    moves : after_move (Send l) (after_move (Draw l (is_probe c.purpose) ps) p)
        ≡ with_lane_view l (sent_view l o v) p
    moves = ap (after_move (Send l))
        (draw_moves l (is_probe c.purpose) ps p free.0 (λ e. allowed (lane.proved_is ∙ e)))
        ∙ send_moves l v p o refl

    id : t.drawn ≡ o.transaction.id
    id = h.drawn ∙ sym (ap (λ a. length a.draws) (draws_of_view l p))

    tcis : HaveTci (tci_at l s.place) ps
    tcis = subst (λ n. HaveTci (tci_at l s.place) (command_packets n c)) (sym tci)
        (packets_tci l s.place c)

    own : drawn_in l u ≡ o.transaction.id
    own = asked_drawn asks l l (draws_in l t) ∙ draws_own l t ∙ id

    unmanaged : Like (link_read goes link) lives unit None (tell_all goes u)
        (with_lane_view l (sent_view l o v) p)
    unmanaged = sent_like l o link lives unit u v p tcis own
        (asked_like asks l link lives unit None (draws_in l t) _
        (drawn_like l (is_probe c.purpose) ps link lives unit t p
        (like_unmanaged link lives unit (Some m) t p h)))

    last : drawn_in l (tell_all goes u) ≡ o.transaction.id
    last = lasts_stay l l ps u ∙ own

    after : IsLaneOf l (drawn_in l (tell_all goes u)) (with_command c x) (sent_view l o v).lane
    after = sent_lane l _ (with_command c x) o v (record {
      priority = lane.priority;
      proved_is = lane.proved_is;
      out = record {
        number = ap number_after free.1 ∙ number_next s.place;
        tci = tci;
        at = refl;
        probe = refl;
        packets = refl;
        sent = omega (arith, sends_some (next_tci x) c);
        name = last;
      };
    })

    like : Like (link_read goes link) lives unit (Some (with_lane l (with_command c x) m))
        (tell_all goes u) (with_lane_view l (sent_view l o v) p)
    like = like_managed _ lives unit _ _ _ unmanaged
        (one_lane l t (tell_all goes u) m (with_command c x)
        (sent_view l o v) p managed
        (λ k ne. lasts_stay l k ps u ∙ asked_drawn asks k l (draws_in l t) ∙ draws_other l k t ne)
        after)

-- a command goes out over a lane that waits for none, and is proved but for a probe
pub command_follows : (asks : Bool) (l : Priority) (c : Command) (m : Manager)
    → (lane_in l m).outstanding ≡ None
    → ((lane_in l m).proved ≡ false → is_probe c.purpose ≡ true)
    → OutcomeFollows m (command_sent asks l c m)
command_follows asks l c m none allowed = λ link lives unit t p h.
    subst
    (λ hs. Happens hs link lives unit (Some (with_lane l (with_command c (lane_in l m)) m)) t p)
    (sym (append-nil (drawn_deeds asks l c m)))
    (drawn_happens asks l c link lives unit m t p h none allowed)
