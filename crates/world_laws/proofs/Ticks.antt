-- A second passes in the manager's lanes.
use Rattle.std.proofs.Common.{◌≡◌, ℕ, ◌+◌, ◌≤◌, Bool, true, false, List, [], ◌∷◌, length, Option, Some, None, refl, sym, ap, subst, ◌∙◌, arith, nat_le, nat_lt}
use Rattle.std.proofs.lemmas.Bool.Decides.{nat_tests}
use Rattle.std.proofs.lemmas.List.{append-nil}
use Rattle.std.specs.Prelude.{map}
use Rattle.omci_types.specs.declared.Priority.{Priority}
use Rattle.omci_types.specs.declared.Priority.TheVariants.{Low, High}
use Rattle.link_spec.specs.Link.{Link}
use Rattle.lane_spec.specs.declared.TheConstants.{MOST_REPEATS}
use Rattle.lane_spec.specs.declared.LaneTick.TheVariants.{GaveUp}
use Rattle.lane_spec.specs.Command.{command_packets}
use Rattle.lane_spec.specs.Lane.{Lane, Waiting, is_changed_by, tick_by, tick_waiting, lane_tick}
use Rattle.manager_spec.specs.Manager.{Manager, lane_in, with_lane}
use Rattle.manager_spec.specs.Jobs.{waits_for}
use Rattle.manager_spec.specs.Steps.{lane_ticked, tick_lane}
use Rattle.unit_spec.specs.Onu.{Onu}
use Rattle.moves_spec.specs.Channel.{Outstanding, Channel, View, lane_view, with_lane_view}
use Rattle.moves_spec.specs.Moves.{Send, GiveUp, send_if, with_end, end_if, give_up_if, after_move, after_moves}
use Rattle.world_spec.specs.Happenings.{Happening, link_read}
use Rattle.world_spec.specs.Ends.{goes_down}
use Rattle.world_spec.specs.History.{Told, drawn_in, tell_all}
use Rattle.world_laws.proofs.Likeness.{tci_at, Awaits, IsOut, IsLaneOf, IsManager, Like, lane_like, Waits, busy, Follows, same_view, same_manager, like_unmanaged, like_managed, like_one_lane, one_lane, like_same_lanes}
use Rattle.world_laws.proofs.Keeping.{give_up_keeps}
use Rattle.world_laws.proofs.Following.{OutcomeFollows}
use Rattle.world_laws.proofs.Sending.{HaveTci, packets_tci, sends_some, lasts_stay, sent_view, sent_like, sent_lane}

-- ---- the outstanding command is sent again

send_goes : (l : Priority) (p : Channel) (o : Outstanding) → (lane_view l p).lane.outstanding
    ≡ Some o
    → after_move (Send l) p ≡ with_lane_view l (sent_view l o (lane_view l p)) p
send_goes l p o w = ap (λ z. with_lane_view l (send_if l (lane_view l p) z) p) w

repeat_follows : (l : Priority) (w : Waiting) (link : Link) (lives : ℕ) (unit : Option Onu)
    (m : Manager) (t : Told) (p : Channel)
    → Like link lives unit (Some m) t p → (lane_in l m).outstanding ≡ Some w
    → (hs : List Happening) → hs ≡ map (goes_down l) (command_packets w.tci w.command)
    → Follows (link_read hs link) lives unit
    (Some (with_lane l
    (record (lane_in l m)
    { outstanding = Some (record w { ticks = 0; repeats = w.repeats + 1 }) }) m))
    (tell_all hs t) p
repeat_follows l w link lives unit m t p h e hs is =
    subst (λ xs. Follows (link_read xs link) lives unit (Some (with_lane l y m)) (tell_all xs t) p)
    (sym (is ∙ ap (map (goes_down l)) waits.awaits.packets)) (
      Send l ∷ [],
      subst (λ q. Like (link_read goes link) lives unit (Some (with_lane l y m))
          (tell_all goes t) q) (sym (send_goes l p o waits.is)) like,
    )
  where
    x : Lane
    x = lane_in l m

    y : Lane
    y = record x { outstanding = Some (record w { ticks = 0; repeats = w.repeats + 1 }) }

    v : View
    v = lane_view l p

    managed : IsManager t.low t.high m p.low p.high
    managed = h.manager_is m refl

    lane : IsLaneOf l (drawn_in l t) x v.lane
    lane = lane_like l t m p managed

    waits : Waits l (drawn_in l t) x v.lane w
    waits = busy l (drawn_in l t) x v.lane w lane e

    o : Outstanding
    o = waits.outstanding

    a : Awaits l (drawn_in l t) x.next w v.lane.place o
    a = waits.awaits

    goes : List Happening
    goes = map (goes_down l) o.transaction.packets

    tcis : HaveTci (tci_at l o.transaction.place) o.transaction.packets
    tcis = subst (HaveTci (tci_at l o.transaction.place)) a.packets
        (subst (λ n. HaveTci (tci_at l o.transaction.place) (command_packets n w.command))
        (sym a.tci) (packets_tci l o.transaction.place w.command))

    one : 1 ≤ length o.transaction.packets
    one = subst (λ xs. 1 ≤ length xs) a.packets (sends_some w.tci w.command)

    unmanaged : Like (link_read goes link) lives unit None (tell_all goes t)
        (with_lane_view l (sent_view l o v) p)
    unmanaged = sent_like l o link lives unit t v p tcis a.name
        (subst (λ q. Like link lives unit None t q) (sym (same_view l p))
        (like_unmanaged link lives unit (Some m) t p h))

    after : IsLaneOf l (drawn_in l (tell_all goes t)) y (sent_view l o v).lane
    after = sent_lane l _ y o v (record {
      priority = lane.priority;
      proved_is = lane.proved_is;
      out = record {
        number = a.number;
        tci = a.tci;
        at = a.at;
        probe = a.probe;
        packets = a.packets;
        sent = omega (arith, a.sent, one);
        name = lasts_stay l l o.transaction.packets t ∙ a.name;
      };
    })

    like : Like (link_read goes link) lives unit (Some (with_lane l y m)) (tell_all goes t)
        (with_lane_view l (sent_view l o v) p)
    like = like_managed _ lives unit _ _ _ unmanaged
        (one_lane l t (tell_all goes t) m y (sent_view l o v) p managed
        (λ k ne. lasts_stay l k o.transaction.packets t) after)

-- ---- it is given up

like_ended : (l : Priority) (proved : Bool) (link : Link) (lives : ℕ) (unit : Option Onu) (t : Told)
    (p : Channel)
    → Like link lives unit None t p
    → Like link lives unit None t (with_lane_view l (with_end proved (lane_view l p)) p)
like_ended Low proved link lives unit t p h = record {
  packets = h.packets;
  ways = record {
    down_low = h.ways.down_low;
    down_high = h.ways.down_high;
    up_low =
        h.ways.up_low;
    up_high = h.ways.up_high;
  };
  lives_are = h.lives_are;
  drawn = h.drawn;
  history = h.history;
  unit_is = h.unit_is;
  manager_is = λ m e. absurd (cc);
}
like_ended High proved link lives unit t p h = record {
  packets = h.packets;
  ways = record {
    down_low = h.ways.down_low;
    down_high = h.ways.down_high;
    up_low =
        h.ways.up_low;
    up_high = h.ways.up_high;
  };
  lives_are = h.lives_are;
  drawn = h.drawn;
  history = h.history;
  unit_is = h.unit_is;
  manager_is = λ m e. absurd (cc);
}

-- the lane after its command has ended
pub ended_like : (l : Priority) (proved : Bool) (w : Waiting) (x : Lane) (link : Link) (lives : ℕ)
    (unit : Option Onu) (m : Manager) (t : Told) (p : Channel)
    → Like link lives unit (Some m) t p → (lane_in l m).outstanding ≡ Some w → x
    ≡ record (lane_in l m) { proved = proved; outstanding = None }
    → Like link lives unit (Some (with_lane l x m)) t
    (with_lane_view l (with_end proved (lane_view l p)) p)
ended_like l proved w x link lives unit m t p h e is =
    let managed = h.manager_is m refl in
    let lane = lane_like l t m p managed in
    let waits = busy l (drawn_in l t) (lane_in l m) (lane_view l p).lane w lane e in
    let after : IsLaneOf l (drawn_in l t) x (with_end proved (lane_view l p)).lane =
    subst (λ y. IsLaneOf l (drawn_in l t) y (with_end proved (lane_view l p)).lane) (sym is)
    (record { priority = lane.priority; proved_is = refl; out = waits.awaits.number }) in
    like_managed link lives unit (with_lane l x m) t _
    (like_ended l proved link lives unit t p (like_unmanaged link lives unit (Some m) t p h))
    (one_lane l t t m x (with_end proved (lane_view l p)) p managed (λ k ne. refl) after)

give_up_goes : (l : Priority) (p : Channel) (o : Outstanding) → (lane_view l p).lane.outstanding
    ≡ Some o → nat_le 2 o.sent ≡ true
    → after_move (GiveUp l) p ≡ with_lane_view l (with_end false (lane_view l p)) p
give_up_goes l p o w t =
    ap (λ z. with_lane_view l (give_up_if (lane_view l p) z) p) w
    ∙ ap (λ b. with_lane_view l (end_if (lane_view l p) b) p) t

give_up_follows : (l : Priority) (w : Waiting) (link : Link) (lives : ℕ) (unit : Option Onu)
    (m : Manager) (t : Told) (p : Channel)
    → Like link lives unit (Some m) t p → (lane_in l m).outstanding ≡ Some w
    → MOST_REPEATS ≤ w.repeats
    → Follows link lives unit
    (Some (with_lane l (record (lane_in l m) { proved = false; outstanding = None }) m)) t p
give_up_follows l w link lives unit m t p h e many =
    let waits = busy l (drawn_in l t) (lane_in l m)
    (lane_view l p).lane w (lane_like l t m p (h.manager_is m refl)) e in
    let enough : nat_le 2 waits.outstanding.sent ≡ true =
    (let s = waits.awaits.sent in grind (arith, nat_tests)) in (
      GiveUp l ∷ [],
      subst (λ q. Like link lives unit
          (Some (with_lane l (record (lane_in l m) { proved = false; outstanding = None }) m)) t q)
          (sym (give_up_goes l p waits.outstanding waits.is enough))
          (ended_like l false w _ link lives unit m t p h e refl),
    )

-- ---- a second of a lane

-- what is seen of the loss leaves the lanes alone
lost_follows : (l : Priority) (w : Waiting) (link : Link) (lives : ℕ) (unit : Option Onu)
    (m : Manager) (t : Told) (p : Channel)
    → Follows link lives unit
    (Some (with_lane l (record (lane_in l m) { proved = false; outstanding = None }) m)) t p
    → Follows link lives unit
    (Some (lane_ticked (GaveUp w.tci) l (lane_in l m).outstanding
    (record (lane_in l m) { proved = false; outstanding = None }) m).manager) t p
lost_follows l w link lives unit m t p f = (
  f.0,
  like_same_lanes link lives unit n _ t (after_moves f.0 p)
      (give_up_keeps (waits_for l m.job) (is_changed_by (lane_in l m).outstanding) w.tci n).same
      f.1,
)
  where
    n : Manager
    n = with_lane l (record (lane_in l m) { proved = false; outstanding = None }) m

tick_by_follows : (l : Priority) (over may : Bool) (w : Waiting) (m : Manager)
    → (lane_in l m).outstanding ≡ Some w → nat_lt w.repeats MOST_REPEATS ≡ may
    → OutcomeFollows m
    (lane_ticked (tick_by over may w (lane_in l m)).tick l (lane_in l m).outstanding
    (tick_by over may w (lane_in l m)).lane m)
tick_by_follows l false may w m e c = λ link lives unit t p h.
    let lane = lane_like l t m p (h.manager_is m refl) in
    let waits = busy l (drawn_in l t) (lane_in l m) (lane_view l p).lane w lane e in
    let a = waits.awaits in (
      [],
      like_one_lane l link lives unit m _ t p h (record {
        priority = lane.priority;
        proved_is = lane.proved_is;
        out = subst
            (λ z. IsOut l (drawn_in l t)
            (lane_in l m).next (Some (record w { ticks = w.ticks + 1 }))
            (lane_view l p).lane.place z) (sym waits.is)
            (record {
              number = a.number;
              tci = a.tci;
              at = a.at;
              probe = a.probe;
              packets =
                  a.packets;
              sent = a.sent;
              name = a.name;
            });
      }),
    )
tick_by_follows l true true w m e c = λ link lives unit t p h.
    repeat_follows l w link lives unit m t p h e _ (append-nil _)
tick_by_follows l true false w m e c = λ link lives unit t p h.
    lost_follows l w link lives unit m t p
    (give_up_follows l w link lives unit m t p h e (grind (arith, nat_tests)))

tick_waiting_follows : (l : Priority) (o : Option Waiting) (m : Manager)
    → (lane_in l m).outstanding ≡ o
    → OutcomeFollows m
    (lane_ticked (tick_waiting o (lane_in l m)).tick l (lane_in l m).outstanding
    (tick_waiting o (lane_in l m)).lane m)
tick_waiting_follows l None m e = λ link lives unit t p h.
    ([], subst (λ x. Like link lives unit (Some x) t p) (sym (same_manager l m)) h)
tick_waiting_follows l (Some w) m e = tick_by_follows l _ _ w m e refl

pub tick_lane_follows : (l : Priority) (m : Manager) → OutcomeFollows m (tick_lane l m)
unfolding lane_tick
tick_lane_follows l m = tick_waiting_follows l _ m refl
