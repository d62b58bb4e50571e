-- What is known of the packets that may come next, from the channel of the moves that made up for a
-- script.
use Rattle.std.proofs.Common.{◌≡◌, ◌≢◌, ℕ, ◌-◌, ◌≤◌, Bool, true, false, Option, Some, None, slice_get, [], ◌⊎◌, inl, inr, refl, sym, ap, subst, ◌∙◌, arith}
use Rattle.std.proofs.lemmas.Option.{same_Some}
use Rattle.std.specs.List.{Contains}
use Rattle.omci_types.specs.declared.Priority.{Priority}
use Rattle.tci_spec.specs.Tci.{priority_of, tci_of, packet_tci}
use Rattle.link_spec.specs.declared.Direction.TheVariants.{Down, Up}
use Rattle.link_spec.specs.Link.{Sent, Link, Ways, way_of, lane_of, may_come, if_may_come, allowed_one, allowed, count}
use Rattle.omci_types.specs.declared.Frame.{Frame}
use Rattle.frame_spec.specs.Baseline.{packet_frame}
use Rattle.retry_spec.specs.Kept.{Reply, if_answers, kept_in, kept_for}
use Rattle.lane_spec.specs.Command.{is_probe}
use Rattle.lane_spec.specs.Lane.{Lane, Waiting}
use Rattle.manager_spec.specs.Manager.{Manager, lane_in}
use Rattle.unit_spec.specs.declared.Note.{Note}
use Rattle.unit_spec.specs.declared.Did.{Did}
use Rattle.unit_spec.specs.declared.Did.TheVariants as did
use Rattle.unit_spec.specs.Onu.{Onu, Reception, unless_kept}
use Rattle.history_spec.specs.History.{WasCarried, LastReply}
use Rattle.moves_spec.specs.Channel.{Transaction, place_number, LinkPacket, RequestOf, ReplyTo, Unasked, KeptReply, Outstanding, LaneState, Channel, lane_view, first_channel}
use Rattle.moves_spec.specs.Moves.{after_moves}
use Rattle.moves_laws.specs.Facts as moves
use Rattle.moves_laws.proofs.Parts.{SoundChannel}
use Rattle.moves_laws.proofs.Numbers.{place_is_number}
use Rattle.moves_laws.proofs.Runs.{channel_after}
use Rattle.moves_laws.proofs.Reached.{carried_fresh, carried_awaited, taken_is_own, taken_is_kept, taken_was_carried, taken_is_last, reply_before_request}
use Rattle.world_spec.specs.Nodes.{Nodes, first_nodes, nodes_after}
use Rattle.world_spec.specs.History.{Told, first_told, drawn_in, name_at}
use Rattle.world_laws.specs.Facts.{AreReached, MayCome, MayBeCarriedOut, MayBeTaken, IsAwaited, KeepsTci}
use Rattle.world_laws.proofs.Tcis.{same_number, some_tci}
use Rattle.world_laws.proofs.Reading.{tci_read}
use Rattle.world_laws.proofs.Likeness.{tci_at, IsPacket, at_place, same_length, Awaits, IsOut, IsLaneOf, IsKept, lane_like, busy}
use Rattle.world_laws.proofs.Unit.{IsSilent, IsAsked, reception_is}
use Rattle.world_laws.proofs.Turns.{Rests}
use Rattle.world_laws.proofs.Arrivals.{name_is_at, lane_is, KeepsIt, KeepsOther, keeps, kept_for_is, asked_is, kept_like, has_other}
use Rattle.world_laws.proofs.Lines.{may_down, may_up}
use Rattle.world_laws.proofs.Runs.{all_fair, script_follows, first_rests}

-- the channel that the moves led to
pub record Linked (n : Nodes) (t : Told) : Type 0 where
  pub channel : Channel
  pub sound : SoundChannel channel
  pub rests : Rests n t channel

pub channel_for : (n : Nodes) (t : Told) → AreReached n t → Linked n t
channel_for n t r =
    let run = script_follows r.actions (first_nodes r.header) first_told _
    (first_rests r.header r.low r.high) (all_fair r.actions r.allowed) in
    record {
      channel = after_moves run.0 (first_channel (r.header.low - 1) (r.header.high - 1));
      sound = channel_after (r.header.low - 1) (r.header.high - 1) run.0;
      rests = subst
          (λ m. Rests m t
          (after_moves run.0 (first_channel (r.header.low - 1) (r.header.high - 1)))) r.nodes
          (subst (λ u. Rests (nodes_after r.actions (first_nodes r.header)) u
          (after_moves run.0 (first_channel (r.header.low - 1) (r.header.high - 1)))) r.told
          run.1);
    }

-- ---- what stands where a packet may come from

allowed_by : (b : Bool) (x s : Sent) → if_may_come b x ≡ Some s → (x ≡ s) × (b ≡ true)
allowed_by true x s e = (same_Some x s e, refl)
allowed_by false x s e = absurd (cc)

allowed_at : (i : ℕ) (o : Option Sent) (ways : Ways) (total : ℕ) (s : Sent)
    → allowed_one i o ways total ≡ Some s
    → (o ≡ Some s) × (may_come i (way_of s ways) total ≡ true)
allowed_at i None ways total s e = absurd (cc)
allowed_at i (Some x) ways total s e =
    let a = allowed_by (may_come i (way_of x ways) total) x s e in
    (ap (λ y. Some y) a.0, subst (λ y. may_come i (way_of y ways) total ≡ true) a.0 a.1)

allowed_is : (i : ℕ) (l : Link) (s : Sent) → allowed i l ≡ Some s
    → (slice_get l.packets i ≡ Some s) × (may_come i (way_of s l.ways) (count l) ≡ true)
unfolding allowed
allowed_is i l s e = allowed_at i (slice_get l.packets i) l.ways (count l) s e

-- a request
record GoesDown (l : Priority) (i : ℕ) (s : Sent) (t : Told) (p : Channel) : Type 0 where
  transaction : Transaction
  may : moves.MayGoDown l p i transaction
  tci : packet_tci s.bytes ≡ tci_at l transaction.place
  name : name_at i t.names ≡ transaction.id
  own : Contains transaction.packets s.bytes

request_down : (l : Priority) (i : ℕ) (s : Sent) (name : ℕ) (y : LinkPacket) (n : Nodes) (t : Told)
    (p : Channel) → Rests n t p
    → lane_of s.bytes ≡ l → s.direction ≡ Down → slice_get t.names i ≡ Some name
    → slice_get p.shared.packets i ≡ Some y → IsPacket s name y
    → may_come i (way_of s n.link.ways) (count n.link) ≡ true → GoesDown l i s t p
request_down l i s name (RequestOf k tr) n t p h lane way named at q may =
    subst (λ x. GoesDown x i s t p) (sym (lane_is k tr.place s.bytes q.1) ∙ lane) (record {
      transaction = tr;
      may = record {
        request = at;
        may = may_down k tr.place i s n.link p h.ways
            (same_length n.link.packets t.names p.shared.packets h.packets) q.0 q.1 may;
      };
      tci = q.1;
      name = name_is_at t.names i name named ∙ q.2;
      own = q.3;
    })
request_down l i s name (ReplyTo k tr r) n t p h lane way named at q may =
    absurd (let a = q.0 in cc)
request_down l i s name Unasked n t p h lane way named at q may = absurd (let a = q.0 in cc)

goes_down : (l : Priority) (i : ℕ) (s : Sent) (n : Nodes) (t : Told) (p : Channel) → Rests n t p
    → MayCome Down l n i s → GoesDown l i s t p
goes_down l i s n t p h m =
    let a = allowed_is i n.link s m.may in
    let b = at_place n.link.packets t.names p.shared.packets i s h.packets a.0 in
    request_down l i s b.name b.packet n t p h m.in_lane m.goes b.name_is b.packet_is b.like a.1

-- a reply
record GoesUp (l : Priority) (i : ℕ) (s : Sent) (t : Told) (p : Channel) : Type 0 where
  transaction : Transaction
  may : moves.MayGoUp l p i transaction s.bytes
  tci : packet_tci s.bytes ≡ tci_at l transaction.place
  name : name_at i t.names ≡ transaction.id

-- or a notice
record IsNotice (i : ℕ) (s : Sent) (t : Told) : Type 0 where
  tci : packet_tci s.bytes ≡ 0
  name : name_at i t.names ≡ 0

reply_up : (l : Priority) (i : ℕ) (s : Sent) (name : ℕ) (y : LinkPacket) (n : Nodes) (t : Told)
    (p : Channel) → Rests n t p
    → lane_of s.bytes ≡ l → s.direction ≡ Up → slice_get t.names i ≡ Some name
    → slice_get p.shared.packets i ≡ Some y → IsPacket s name y
    → may_come i (way_of s n.link.ways) (count n.link) ≡ true
    → GoesUp l i s t p ⊎ IsNotice i s t
reply_up l i s name (ReplyTo k tr r) n t p h lane way named at q may =
    inl (subst (λ x. GoesUp x i s t p) (sym (lane_is k tr.place s.bytes q.1) ∙ lane) (record {
      transaction = tr;
      may = record {
        reply = subst (λ x. slice_get p.shared.packets i ≡ Some (ReplyTo k tr x)) (sym q.3) at;
        may = may_up k tr.place i s n.link p h.ways
            (same_length n.link.packets t.names p.shared.packets h.packets) q.0 q.1 may;
      };
      tci = q.1;
      name = name_is_at t.names i name named ∙ q.2;
    }))
reply_up l i s name (RequestOf k tr) n t p h lane way named at q may = absurd (let a = q.0 in cc)
reply_up l i s name Unasked n t p h lane way named at q may =
    inr (record { tci = q.1; name = name_is_at t.names i name named ∙ q.2 })

goes_up : (l : Priority) (i : ℕ) (s : Sent) (n : Nodes) (t : Told) (p : Channel) → Rests n t p
    → MayCome Up l n i s → GoesUp l i s t p ⊎ IsNotice i s t
goes_up l i s n t p h m =
    let a = allowed_is i n.link s m.may in
    let b = at_place n.link.packets t.names p.shared.packets i s h.packets a.0 in
    reply_up l i s b.name b.packet n t p h m.in_lane m.goes b.name_is b.packet_is b.like a.1

-- ---- what the unit carries out

asked_differs : (l : Priority) (tci : ℕ) (what : Option Note) (r : Reception) (u : Onu)
    → priority_of tci ≡ l → r.did ≡ did.Carried what → (k : IsAsked tci u r)
    → KeepsIt k.frame.tci (kept_in l u.kept) ⊎ KeepsOther k.frame.tci (kept_in l u.kept)
    → (q : Reply) → kept_in l u.kept ≡ Some q → q.tci ≢ tci
asked_differs l tci what r u lane does k (inl it) q is =
    let keeps_it : r ≡ record { unit = u; did = did.Kept; reply = it.reply.packet; stored = [] } =
    k.is ∙ asked_is k.frame k.answer u
    ∙ ap (λ o. unless_kept o k.frame.tci k.answer u)
    (kept_for_is l k.frame.tci u.kept (ap priority_of k.same ∙ lane) ∙ it.answers) in
    absurd (let a : r.did ≡ did.Kept = ap (λ (x : Reception). x.did) keeps_it in cc)
asked_differs l tci what r u lane does k (inr other) q is =
    subst (λ x. q.tci ≢ x) k.same (other.differs q is)

silent_differs : (d : Did) (what : Option Note) → d ≡ did.Carried what
    → (d ≡ did.Dropped) ⊎ (d ≡ did.Held) → ⊥
silent_differs d what e (inl f) = absurd (cc)
silent_differs d what e (inr f) = absurd (cc)

carried_differs : (l : Priority) (tci : ℕ) (what : Option Note) (r : Reception) (u : Onu)
    → priority_of tci ≡ l → r.did ≡ did.Carried what
    → IsSilent u r ⊎ IsAsked tci u r → (q : Reply) → kept_in l u.kept ≡ Some q → q.tci ≢ tci
carried_differs l tci what r u lane does (inl k) = absurd (silent_differs r.did what does k.did_is)
carried_differs l tci what r u lane does (inr k) = asked_differs l tci what r u lane does k
    (keeps k.frame.tci (kept_in l u.kept))

carried_down : (l : Priority) (i : ℕ) (s : Sent) (u : Onu) (n : Nodes) (t : Told) (p : Channel)
    → Rests n t p → MayBeCarriedOut l n i s u
    → (g : GoesDown l i s t p) → moves.MayBeCarriedOut l p i g.transaction
carried_down l i s u n t p h m g = record {
  comes = g.may;
  differs = λ k e same. has_other l (packet_tci s.bytes) (kept_in l u.kept) k
      (subst (IsKept l (kept_in l u.kept)) e (kept_like l u.kept p (h.unit_is u m.on)))
      (carried_differs l (packet_tci s.bytes) m.note _ u m.comes.in_lane m.does
      (reception_is s.bytes u))
      (ap (tci_of l) same ∙ sym g.tci);
}

fresh_by : (l : Priority) (n : Nodes) (t : Told) (i : ℕ) (s : Sent) (k : Linked n t)
    → (g : GoesDown l i s t k.channel) → moves.MayBeCarriedOut l k.channel i g.transaction
    → WasCarried n.ends.lives (name_at i t.names) t.history → ⊥
fresh_by l n t i s k g m was =
    let like = k.rests in
    carried_fresh l k.channel i g.transaction k.sound m
    (subst (λ x. WasCarried x g.transaction.id k.channel.shared.history) like.lives_are
    (subst (λ x. WasCarried n.ends.lives x k.channel.shared.history) g.name
    (subst (λ x. WasCarried n.ends.lives (name_at i t.names) x) like.history was)))

pub is_fresh : (l : Priority) (n : Nodes) (t : Told) (i : ℕ) (s : Sent) (u : Onu) → Linked n t
    → MayBeCarriedOut l n i s u
    → WasCarried n.ends.lives (name_at i t.names) t.history → ⊥
is_fresh l n t i s u k m =
    let g = goes_down l i s n t k.channel k.rests m.comes in
    fresh_by l n t i s k g (carried_down l i s u n t k.channel k.rests m g)

-- the manager waits for the command for which the channel does
record Waited (l : Priority) (last : ℕ) (m : Lane) (s : LaneState) (o : Outstanding) : Type 0 where
  waiting : Waiting
  is : m.outstanding ≡ Some waiting
  awaits : Awaits l last m.next waiting s.place o

waiting_for : (l : Priority) (last : ℕ) (m : Lane) (s : LaneState) (o : Outstanding)
    → IsLaneOf l last m s → s.outstanding ≡ Some o
    → Waited l last m s o
waiting_for l last m s o h e =
    go m.outstanding refl (subst (λ x. IsOut l last m.next m.outstanding s.place x) e h.out)
  where
    go : (w : Option Waiting) → m.outstanding ≡ w → IsOut l last m.next w s.place (Some o)
        → Waited l last m s o
    go None f k = absurd k
    go (Some w) f k = record { waiting = w; is = f; awaits = k }

awaited_by : (l : Priority) (n : Nodes) (t : Told) (i : ℕ) (s : Sent) (m : Manager)
    (k : Linked n t) → n.ends.manager ≡ Some m → (lane_in l m).proved ≡ true
    → (g : GoesDown l i s t k.channel) → moves.MayBeCarriedOut l k.channel i g.transaction
    → IsAwaited l m t i s
awaited_by l n t i s m k on proved g may =
    let lane = lane_like l t m k.channel (k.rests.manager_is m on) in
    let a = carried_awaited l k.channel i g.transaction k.sound (sym lane.proved_is ∙ proved) may in
    let w = waiting_for l (drawn_in l t) (lane_in l m) (lane_view l k.channel).lane a.outstanding
    lane a.waits in
    record {
      waiting = w.waiting;
      waits = w.is;
      same = g.tci ∙ ap (λ x. tci_at l x.place) (sym a.same) ∙ sym w.awaits.tci;
      bytes = subst (λ ps. Contains ps s.bytes)
          (ap (λ x. x.packets) (sym a.same) ∙ sym w.awaits.packets) g.own;
      name = g.name ∙ ap (λ x. x.id) (sym a.same) ∙ sym w.awaits.name;
    }

pub is_awaited : (l : Priority) (n : Nodes) (t : Told) (i : ℕ) (s : Sent) (u : Onu) (m : Manager)
    → Linked n t → n.ends.manager ≡ Some m
    → (lane_in l m).proved ≡ true → MayBeCarriedOut l n i s u → IsAwaited l m t i s
is_awaited l n t i s u m k on proved may =
    let g = goes_down l i s n t k.channel k.rests may.comes in
    awaited_by l n t i s m k on proved g (carried_down l i s u n t k.channel k.rests may g)

-- ---- what the unit doesn't drop

-- no kept reply answers the packet, be it carried out or a section that is held
pub record MayBeServed (lane : Priority) (n : Nodes) (number : ℕ) (s : Sent) (u : Onu) : Type 0 where
  pub comes : MayCome Down lane n number s
  pub on : n.ends.unit ≡ Some u
  pub frame : Frame
  pub read : packet_frame s.bytes ≡ Some frame
  pub unkept : kept_for frame.tci u.kept ≡ None

unkept_differs : (tci : ℕ) (o : Option Reply) → if_answers tci o ≡ None
    → KeepsIt tci o ⊎ KeepsOther tci o → (q : Reply) → o ≡ Some q → q.tci ≢ tci
unkept_differs tci o none (inl it) q is = absurd (let a = it.answers in cc)
unkept_differs tci o none (inr other) q is = other.differs q is

served_down : (l : Priority) (i : ℕ) (s : Sent) (u : Onu) (n : Nodes) (t : Told) (p : Channel)
    → Rests n t p → MayBeServed l n i s u
    → (g : GoesDown l i s t p) → moves.MayBeCarriedOut l p i g.transaction
served_down l i s u n t p h m g =
    let tci : m.frame.tci ≡ packet_tci s.bytes = tci_read s.bytes m.frame m.read in
    let lane : priority_of m.frame.tci ≡ l = ap priority_of tci ∙ m.comes.in_lane in
    record {
      comes = g.may;
      differs = λ k e same. has_other l (packet_tci s.bytes) (kept_in l u.kept) k
          (subst (IsKept l (kept_in l u.kept)) e (kept_like l u.kept p (h.unit_is u m.on)))
          (λ q is. subst (λ x. q.tci ≢ x) tci
          (unkept_differs m.frame.tci (kept_in l u.kept)
          (sym (kept_for_is l m.frame.tci u.kept lane) ∙ m.unkept)
          (keeps m.frame.tci (kept_in l u.kept)) q is))
          (ap (tci_of l) same ∙ sym g.tci);
    }

pub served_fresh : (l : Priority) (n : Nodes) (t : Told) (i : ℕ) (s : Sent) (u : Onu) → Linked n t
    → MayBeServed l n i s u
    → WasCarried n.ends.lives (name_at i t.names) t.history → ⊥
served_fresh l n t i s u k m =
    let g = goes_down l i s n t k.channel k.rests m.comes in
    fresh_by l n t i s k g (served_down l i s u n t k.channel k.rests m g)

pub served_awaited : (l : Priority) (n : Nodes) (t : Told) (i : ℕ) (s : Sent) (u : Onu)
    (m : Manager) → Linked n t → n.ends.manager ≡ Some m
    → (lane_in l m).proved ≡ true → MayBeServed l n i s u → IsAwaited l m t i s
served_awaited l n t i s u m k on proved may =
    let g = goes_down l i s n t k.channel k.rests may.comes in
    awaited_by l n t i s m k on proved g (served_down l i s u n t k.channel k.rests may g)

-- ---- what the manager may take

record TakenUp (l : Priority) (i : ℕ) (s : Sent) (m : Manager) (w : Waiting) (t : Told)
    (p : Channel) : Type 0 where
  goes : GoesUp l i s t p
  outstanding : Outstanding
  awaits : Awaits l (drawn_in l t) (lane_in l m).next w (lane_view l p).lane.place outstanding
  may : moves.MayBeTaken l p i goes.transaction s.bytes outstanding

-- a notice has no TCI that is waited for
reply_goes_up : (l : Priority) (i : ℕ) (s : Sent) (m : Manager) (w : Waiting) (n : Nodes)
    (t : Told) (p : Channel) → Rests n t p → MayBeTaken l n i s m w
    → GoesUp l i s t p ⊎ IsNotice i s t → GoesUp l i s t p
reply_goes_up l i s m w n t p h may (inl g) = g
reply_goes_up l i s m w n t p h may (inr k) =
    let q = busy l (drawn_in l t) (lane_in l m)
    (lane_view l p).lane w (lane_like l t m p (h.manager_is m may.on)) may.waits in
    absurd (some_tci l (place_number q.outstanding.transaction.place)
    (place_is_number q.outstanding.transaction.place)
    (sym q.awaits.tci ∙ sym may.same ∙ k.tci))

taken_up : (l : Priority) (i : ℕ) (s : Sent) (m : Manager) (w : Waiting) (n : Nodes) (t : Told)
    (p : Channel) → Rests n t p → MayBeTaken l n i s m w
    → TakenUp l i s m w t p
taken_up l i s m w n t p h may =
    let g = reply_goes_up l i s m w n t p h may (goes_up l i s n t p h may.comes) in
    let k = busy l (drawn_in l t) (lane_in l m)
    (lane_view l p).lane w (lane_like l t m p (h.manager_is m may.on)) may.waits in
    record {
      goes = g;
      outstanding = k.outstanding;
      awaits = k.awaits;
      may = record {
        comes = g.may;
        waits = k.is;
        same =
            same_number l _ _ (sym g.tci ∙ may.same ∙ k.awaits.tci);
      };
    }

own_of : (l : Priority) (i : ℕ) (s : Sent) (m : Manager) (w : Waiting) (t : Told) (p : Channel)
    → SoundChannel p
    → (a : TakenUp l i s m w t p) → a.goes.transaction ≡ a.outstanding.transaction
own_of l i s m w t p sound a = taken_is_own l p i a.goes.transaction s.bytes a.outstanding sound
    a.may

name_of : (l : Priority) (i : ℕ) (s : Sent) (m : Manager) (w : Waiting) (t : Told) (p : Channel)
    → SoundChannel p
    → (a : TakenUp l i s m w t p) → a.goes.transaction.id ≡ drawn_in l t
name_of l i s m w t p sound a = ap (λ x. x.id) (own_of l i s m w t p sound a) ∙ sym a.awaits.name

probe_of : (l : Priority) (i : ℕ) (s : Sent) (m : Manager) (w : Waiting) (t : Told) (p : Channel)
    → SoundChannel p
    → (a : TakenUp l i s m w t p) → is_probe w.command.purpose ≡ false
    → a.goes.transaction.probe ≡ false
probe_of l i s m w t p sound a e = ap (λ x. x.probe) (own_of l i s m w t p sound a)
    ∙ sym a.awaits.probe ∙ e

pub is_own : (l : Priority) (n : Nodes) (t : Told) (i : ℕ) (s : Sent) (m : Manager) (w : Waiting)
    → Linked n t → MayBeTaken l n i s m w
    → name_at i t.names ≡ drawn_in l t
is_own l n t i s m w k may =
    let a = taken_up l i s m w n t k.channel k.rests may in
    a.goes.name ∙ name_of l i s m w t k.channel k.sound a

keeps_tci : (l : Priority) (u : Onu) (tci : ℕ) (x : Option Reply) (k : KeptReply) → kept_in l u.kept
    ≡ x → IsKept l x (Some k) → tci_at l k.transaction.place ≡ tci
    → KeepsTci l u tci
keeps_tci l u tci None k e h same = absurd h
keeps_tci l u tci (Some r) k e h same = record { reply = r; is = e; same = h.0 ∙ same }

pub is_kept : (l : Priority) (n : Nodes) (t : Told) (i : ℕ) (s : Sent) (m : Manager) (w : Waiting)
    (u : Onu) → Linked n t → MayBeTaken l n i s m w
    → n.ends.unit ≡ Some u → KeepsTci l u w.tci
is_kept l n t i s m w u k may on =
    let a = taken_up l i s m w n t k.channel k.rests may in
    let q = taken_is_kept l k.channel i a.goes.transaction s.bytes a.outstanding k.sound a.may in
    keeps_tci l u w.tci (kept_in l u.kept) q.kept refl
    (subst (IsKept l (kept_in l u.kept)) q.is
    (kept_like l u.kept k.channel (k.rests.unit_is u on)))
    (ap (tci_of l) q.same ∙ sym a.goes.tci ∙ may.same)

pub was_carried : (l : Priority) (n : Nodes) (t : Told) (i : ℕ) (s : Sent) (m : Manager)
    (w : Waiting) → Linked n t → MayBeTaken l n i s m w
    → is_probe w.command.purpose ≡ false → WasCarried n.ends.lives (drawn_in l t) t.history
was_carried l n t i s m w k may probe =
    let a = taken_up l i s m w n t k.channel k.rests may in
    let like = k.rests in
    subst (λ x. WasCarried n.ends.lives (drawn_in l t) x) (sym like.history)
    (subst (λ x. WasCarried x (drawn_in l t) k.channel.shared.history) (sym like.lives_are)
    (subst (λ x. WasCarried k.channel.shared.life x k.channel.shared.history)
    (name_of l i s m w t k.channel k.sound a)
    (taken_was_carried l k.channel i a.goes.transaction s.bytes a.outstanding k.sound a.may
    (probe_of l i s m w t k.channel k.sound a probe))))

pub is_last : (l : Priority) (n : Nodes) (t : Told) (i : ℕ) (s : Sent) (m : Manager) (w : Waiting)
    → Linked n t → MayBeTaken l n i s m w
    → is_probe w.command.purpose ≡ false → LastReply (drawn_in l t) s.bytes t.history
is_last l n t i s m w k may probe =
    let a = taken_up l i s m w n t k.channel k.rests may in
    subst (λ x. LastReply (drawn_in l t) s.bytes x) (sym k.rests.history)
    (subst (λ x. LastReply x s.bytes k.channel.shared.history)
    (name_of l i s m w t k.channel k.sound a)
    (taken_is_last l k.channel i a.goes.transaction s.bytes a.outstanding k.sound a.may
    (probe_of l i s m w t k.channel k.sound a probe)))

-- ---- requests beside replies

pub is_older : (l : Priority) (n : Nodes) (t : Told) (up down : ℕ) (r s : Sent) → Linked n t
    → MayCome Up l n up r → MayCome Down l n down s
    → name_at up t.names ≤ name_at down t.names
is_older l n t up down r s k a b = go (goes_up l up r n t k.channel k.rests a)
  where
    d : GoesDown l down s t k.channel
    d = goes_down l down s n t k.channel k.rests b

    go : GoesUp l up r t k.channel ⊎ IsNotice up r t → name_at up t.names ≤ name_at down t.names
    go (inl g) = subst (λ x. x ≤ name_at down t.names) (sym g.name)
        (subst (λ x. g.transaction.id ≤ x) (sym d.name)
        (reply_before_request l k.channel up down g.transaction d.transaction r.bytes k.sound g.may
        d.may))
    go (inr q) = omega (arith, q.name)
