-- Packets that come to the manager.
use Rattle.std.proofs.Common.{◌≡◌, ℕ, ◌==◌, Bool, true, false, ◌||◌, List, [], ◌∷◌, Option, Some, None, slice_get, ◌⊎◌, inl, inr, refl, sym, ap, subst, ◌∙◌, arith, nat_eq}
use Rattle.std.proofs.lemmas.Bool.Decides.{nat_tests}
use Rattle.omci_types.specs.declared.Priority.{Priority}
use Rattle.omci_types.specs.declared.Priority.TheVariants.{Low, High}
use Rattle.tci_spec.specs.Tci.{priority_of, packet_tci}
use Rattle.link_spec.specs.declared.Direction.TheVariants.{Up}
use Rattle.link_spec.specs.Link.{Sent, Link, way_in, with_way, passed, delivered_on, lane_of}
use Rattle.lane_spec.specs.Command.{is_probe}
use Rattle.lane_spec.specs.Lane.{Lane, Waiting, end_command}
use Rattle.manager_spec.specs.Manager.{Manager, lane_in, with_lane}
use Rattle.unit_spec.specs.Onu.{Onu}
use Rattle.alarm_spec.specs.Alarms.{Alarm}
use Rattle.history_spec.specs.History.{TookReply}
use Rattle.moves_spec.specs.Channel.{Transaction, place_number, ReplyTo, Unasked, Outstanding, Channel, View, lane_view, with_lane_view}
use Rattle.moves_spec.specs.Moves.{ReplyComes, with_floor_up, with_end, with_written, take_reply, take_if_same, take_if_waiting, reply_if, may_go_up, notice_if, reply_at, after_move}
use Rattle.world_spec.specs.History.{Told, drawn_in, answers_in, notices_if}
use Rattle.world_laws.proofs.Tcis.{same_number}
use Rattle.world_laws.proofs.Likeness.{tci_at, Like, lane_like, Waits, busy, Follows}
use Rattle.world_laws.proofs.Ticks.{ended_like}
use Rattle.world_laws.proofs.Arrivals.{came_told, ways_up, lane_is}

up_like : (l : Priority) (number : ℕ) (s : Sent) (link : Link) (lives : ℕ) (unit : Option Onu)
    (manager : Option Manager) (t : Told) (p : Channel)
    → Like link lives unit manager t p
    → Like (record link { ways = with_way Up l (passed number (way_in Up l link.ways)) link.ways })
    lives unit manager (came_told number s t)
    (with_lane_view l (with_floor_up number (lane_view l p)) p)
up_like Low number s link lives unit manager t p h = record {
  packets = h.packets;
  ways = record {
    down_low = h.ways.down_low;
    down_high = h.ways.down_high;
    up_low = refl;
    up_high =
        h.ways.up_high;
  };
  lives_are = h.lives_are;
  drawn = h.drawn;
  history = h.history;
  unit_is = h.unit_is;
  manager_is = λ m e. let k = h.manager_is m e in record { is_low = k.is_low; is_high = k.is_high };
}
up_like High number s link lives unit manager t p h = record {
  packets = h.packets;
  ways = record {
    down_low = h.ways.down_low;
    down_high = h.ways.down_high;
    up_low =
        h.ways.up_low;
    up_high = refl;
  };
  lives_are = h.lives_are;
  drawn = h.drawn;
  history = h.history;
  unit_is = h.unit_is;
  manager_is = λ m e. let k = h.manager_is m e in record { is_low = k.is_low; is_high = k.is_high };
}

came_in : (l : Priority) (number : ℕ) (s : Sent) (link : Link) (lives : ℕ) (unit : Option Onu)
    (manager : Option Manager) (t : Told) (p : Channel)
    → s.direction ≡ Up → lane_of s.bytes ≡ l → Like link lives unit manager t p
    → Like (delivered_on number s link) lives unit manager (came_told number s t)
    (with_lane_view l (with_floor_up number (lane_view l p)) p)
came_in l number s link lives unit manager t p d e h =
    subst (λ w. Like (record link { ways = w }) lives unit manager (came_told number s t)
    (with_lane_view l (with_floor_up number (lane_view l p)) p))
    (sym (ways_up l number s link.ways d e))
    (up_like l number s link lives unit manager t p h)

came_up : (l : Priority) (place number : ℕ) (s : Sent) (link : Link) (lives : ℕ) (unit : Option Onu)
    (manager : Option Manager) (t : Told) (p : Channel)
    → s.direction ≡ Up → packet_tci s.bytes ≡ tci_at l place → Like link lives unit manager t p
    → Like (delivered_on number s link) lives unit manager (came_told number s t)
    (with_lane_view l (with_floor_up number (lane_view l p)) p)
came_up l place number s link lives unit manager t p d e h =
    came_in l number s link lives unit manager t p d (lane_is l place s.bytes e) h

-- ---- a notice comes

-- a notice stands at that place and may come, in the low lane
pub record Tells (i : ℕ) (s : Sent) (p : Channel) : Type 0 where
  pub at : slice_get p.shared.packets i ≡ Some Unasked
  pub way : s.direction ≡ Up
  pub tci : packet_tci s.bytes ≡ 0
  pub may : may_go_up i (lane_view Low p) ≡ true

-- of all the channel only the floor has changed
pub notice_up : (i : ℕ) (s : Sent) (link : Link) (lives : ℕ) (unit : Option Onu)
    (manager : Option Manager) (t : Told) (p : Channel) → Tells i s p
    → Like link lives unit manager t p
    → Follows (delivered_on i s link) lives unit manager (came_told i s t) p
notice_up i s link lives unit manager t p a h = (
  ReplyComes i false ∷ [],
  subst (λ q. Like (delivered_on i s link) lives unit manager (came_told i s t) q)
      (sym (ap (λ o. reply_at i false p o) a.at ∙ ap (λ b. notice_if i p b) a.may))
      (came_in Low i s link lives unit manager t p a.way (ap priority_of a.tci) h),
)

-- ---- a reply comes

-- a reply to the transaction stands at that place and may come
pub record Returns (l : Priority) (tr : Transaction) (i : ℕ) (s : Sent) (p : Channel) : Type 0 where
  pub at : slice_get p.shared.packets i ≡ Some (ReplyTo l tr s.bytes)
  pub way : s.direction ≡ Up
  pub tci : packet_tci s.bytes ≡ tci_at l tr.place
  pub may : may_go_up i (lane_view l p) ≡ true

reply_goes : (l : Priority) (tr : Transaction) (i : ℕ) (bytes : List ℕ) (wanted : Bool)
    (p : Channel) → slice_get p.shared.packets i ≡ Some (ReplyTo l tr bytes)
    → may_go_up i (lane_view l p) ≡ true → after_move (ReplyComes i wanted) p
    ≡ with_lane_view l (reply_if tr bytes i wanted (lane_view l p) true) p
reply_goes l tr i bytes wanted p at may =
    ap (λ o. reply_at i wanted p o) at
    ∙ ap (λ b. with_lane_view l (reply_if tr bytes i wanted (lane_view l p) b) p) may

view_put : (l : Priority) (v : View) (p : Channel) → lane_view l (with_lane_view l v p) ≡ v
view_put Low v p = refl
view_put High v p = refl

put_put : (l : Priority) (u v : View) (p : Channel) → with_lane_view l u (with_lane_view l v p)
    ≡ with_lane_view l u p
put_put Low u v p = refl
put_put High u v p = refl

-- ---- it is dropped

pub dropped_up : (l : Priority) (tr : Transaction) (i : ℕ) (s : Sent) (link : Link) (lives : ℕ)
    (unit : Option Onu) (m : Manager) (t : Told) (p : Channel)
    → Returns l tr i s p → Like link lives unit (Some m) t p → Follows (delivered_on i s link) lives
    unit (Some m) (came_told i s t) p
dropped_up l tr i s link lives unit m t p a h = (
  ReplyComes i false ∷ [],
  subst (λ q. Like (delivered_on i s link) lives unit (Some m) (came_told i s t) q)
      (sym (reply_goes l tr i s.bytes false p a.at a.may))
      (came_up l tr.place i s link lives unit (Some m) t p a.way a.tci h),
)

-- ---- it is taken

written_like : (l : Priority) (id : ℕ) (bytes : List ℕ) (link : Link) (lives : ℕ)
    (unit : Option Onu) (manager : Option Manager) (t : Told) (notices : List Alarm) (v : View)
    (p : Channel) → Like link lives unit manager t (with_lane_view l v p)
    → Like link lives unit manager
    (record t { history = TookReply id bytes ∷ t.history; notices = notices })
    (with_lane_view l (with_written (TookReply id bytes) v) p)
written_like Low id bytes link lives unit manager t notices v p h = record {
  packets = h.packets;
  ways = h.ways;
  lives_are = h.lives_are;
  drawn = h.drawn;
  history = ap (λ x. TookReply id bytes ∷ x) h.history;
  unit_is = h.unit_is;
  manager_is = h.manager_is;
}
written_like High id bytes link lives unit manager t notices v p h = record {
  packets = h.packets;
  ways = h.ways;
  lives_are = h.lives_are;
  drawn = h.drawn;
  history = ap (λ x. TookReply id bytes ∷ x) h.history;
  unit_is = h.unit_is;
  manager_is = h.manager_is;
}

take_goes : (l : Priority) (tr : Transaction) (i : ℕ) (bytes : List ℕ) (p : Channel)
    (o : Outstanding) (probe : Bool) → slice_get p.shared.packets i ≡ Some (ReplyTo l tr bytes)
    → may_go_up i (lane_view l p) ≡ true → (lane_view l p).lane.outstanding ≡ Some o
    → place_number tr.place ≡ place_number o.transaction.place → o.transaction.probe ≡ probe
    → after_move (ReplyComes i true) p
    ≡ with_lane_view l (take_reply bytes (with_floor_up i (lane_view l p)) o probe) p
take_goes l tr i bytes p o probe at may w same b =
    let test : nat_eq (place_number tr.place) (place_number o.transaction.place) ≡ true =
    grind (arith, nat_tests) in
    reply_goes l tr i bytes true p at may
    ∙ ap (λ z. with_lane_view l (take_if_waiting tr bytes (with_floor_up i (lane_view l p)) z) p) w
    ∙ ap (λ z. with_lane_view l (take_if_same bytes (with_floor_up i (lane_view l p)) o z) p) test
    ∙ ap (λ z. with_lane_view l (take_reply bytes (with_floor_up i (lane_view l p)) o z) p) b

-- what the history makes of it
abbrev pub told_taken : Bool → Priority → Told → Told
told_taken true l t = t
told_taken false l t =
    record (answers_in l t) { history = TookReply (drawn_in l t) t.packet ∷ t.history }

pub taken_up : (l : Priority) (tr : Transaction) (i : ℕ) (s : Sent) (w : Waiting) (probe : Bool)
    (link : Link) (lives : ℕ) (unit : Option Onu) (m : Manager) (t : Told) (p : Channel)
    → Returns l tr i s p → Like link lives unit (Some m) t p → (lane_in l m).outstanding ≡ Some w
    → packet_tci s.bytes ≡ w.tci → is_probe w.command.purpose ≡ probe
    → Follows (delivered_on i s link) lives unit
    (Some (with_lane l (end_command w (lane_in l m)) m))
    (told_taken probe l (came_told i s t)) p
taken_up l tr i s w probe link lives unit m t p a h waiting same b = go probe b
  where
    x : Lane
    x = lane_in l m

    after : Lane
    after = end_command w x

    c : Told
    c = came_told i s t

    v : View
    v = with_floor_up i (lane_view l p)

    q : Channel
    q = with_lane_view l v p

    k : Waits l (drawn_in l t) x (lane_view l p).lane w
    k = busy l (drawn_in l t) x (lane_view l p).lane w (lane_like l t m p (h.manager_is m refl))
        waiting

    o : Outstanding
    o = k.outstanding

    number : place_number tr.place ≡ place_number o.transaction.place
    number = same_number l _ _ (sym a.tci ∙ same ∙ k.awaits.tci)

    came : Like (delivered_on i s link) lives unit (Some m) c q
    came = came_up l tr.place i s link lives unit (Some m) t p a.way a.tci h

    lane_ends : (proved : Bool) → (proved ≡ (lane_view l p).lane.proved) ⊎ (proved ≡ true)
        → (is_probe w.command.purpose || x.proved ≡ proved)
        → Like (delivered_on i s link) lives unit (Some (with_lane l after m)) c
        (with_lane_view l (with_end proved v) p)
    lane_ends proved _ f =
        subst (λ z. Like (delivered_on i s link) lives unit (Some (with_lane l after m)) c z)
        (ap (λ y. with_lane_view l (with_end proved y) q) (view_put l v p)
        ∙ put_put l (with_end proved v) v p)
        (ended_like l proved w after (delivered_on i s link) lives unit m c q came waiting
        (ap (λ y. record x { proved = y; outstanding = None }) f))

    own : drawn_in l c ≡ o.transaction.id
    own = drawn_same l ∙ k.awaits.name
      where
        drawn_same : (l : Priority) → drawn_in l c ≡ drawn_in l t
        drawn_same Low = refl
        drawn_same High = refl

    go : (probe : Bool) → is_probe w.command.purpose ≡ probe
        → Follows (delivered_on i s link) lives unit (Some (with_lane l after m))
        (told_taken probe l c) p
    go true e = (
      ReplyComes i true ∷ [],
      subst (λ z. Like (delivered_on i s link) lives unit (Some (with_lane l after m)) c z)
          (sym (take_goes l tr i s.bytes p o true a.at a.may k.is number (sym k.awaits.probe ∙ e)))
          (lane_ends true (inr refl) (ap (λ y. y || x.proved) e)),
    )
    go false e = (
      ReplyComes i true ∷ [],
      subst (λ z. Like (delivered_on i s link) lives unit (Some (with_lane l after m))
          (told_taken false l c) z)
          (sym (take_goes l tr i s.bytes p o false a.at a.may k.is number (sym k.awaits.probe ∙ e)))
          (subst (λ n. Like (delivered_on i s link) lives unit (Some (with_lane l after m))
          (record (answers_in l c) { history = TookReply n s.bytes ∷ c.history })
          (with_lane_view l (take_reply s.bytes v o false) p)) (sym own)
          (written_like l o.transaction.id s.bytes (delivered_on i s link) lives unit _ c
          (notices_if (drawn_in l c == c.asking) c.notices) (with_end v.lane.proved v) p
          (lane_ends (lane_view l p).lane.proved (inl refl)
          (ap (λ y. y || x.proved) e ∙ (lane_like l t m p (h.manager_is m refl)).proved_is)))),
    )
