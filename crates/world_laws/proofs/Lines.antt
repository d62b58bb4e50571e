-- Each line of a script is moves, and so is a script.
use Rattle.std.proofs.Common.{◌≡◌, ◌≢◌, ℕ, zero, suc, ◌+◌, ◌-◌, Bool, true, false, ◌&&◌, List, [], ◌∷◌, ◌++◌, length, reverse, Option, Some, None, slice_get, ◌⊎◌, inl, inr, refl, sym, ap, subst, ◌∙◌, nat_le}
use Rattle.std.specs.Prelude.{map}
use Rattle.omci_types.specs.declared.Frame.{Frame}
use Rattle.omci_types.specs.declared.Priority.{Priority}
use Rattle.omci_types.specs.declared.Priority.TheVariants.{Low, High}
use Rattle.tci_spec.specs.Tci.{IsNumber, priority_of, packet_tci}
use Rattle.message_spec.specs.declared.Request.TheVariants as request
use Rattle.frame_spec.specs.Baseline.{fault_of, packet_frame}
use Rattle.frame_spec.specs.Widths.{filled}
use Rattle.script_spec.specs.Script.{Action, Probe, Reset, Get, Create, Set, Delete, Activate, Commit, Reboot, Resync, Audit, Check, Image, Deliver, Flow, CutIn, NoiseUnit, NoiseOlt, Tick, Sense, Alarm, CutUnit, CutOlt, StartUnit, StartOlt}
use Rattle.link_spec.specs.declared.Direction.{Direction}
use Rattle.link_spec.specs.declared.Direction.TheVariants.{Down, Up}
use Rattle.link_spec.specs.Link.{Sent, Link, Ways, way_in, way_of, lane_of, is_young, may_come, if_may_come, allowed_one, allowed, count, delivered_on}
use Rattle.lane_spec.specs.Command.{sync_entity, is_probe}
use Rattle.lane_spec.specs.Lane.{Waiting}
use Rattle.manager_spec.specs.Manager.{Manager, Outcome, lane_in, manager_started}
use Rattle.manager_spec.specs.Jobs.{job_goes_on}
use Rattle.manager_spec.specs.Steps.{packet_dropped, after_packet}
use Rattle.alarm_spec.specs.declared.TheConstants.{BITMAP_BYTES}
use Rattle.unit_spec.specs.declared.Noticed.{Noticed}
use Rattle.unit_spec.specs.declared.Noticed.TheVariants as noticed
use Rattle.omci_types.specs.declared.Boot.TheVariants.{PowerUp}
use Rattle.slot_spec.specs.declared.Pick.{Pick}
use Rattle.store_spec.specs.History.{StoreEntry}
use Rattle.store_spec.specs.Effects.{entries_before}
use Rattle.unit_spec.specs.declared.TheConstants.{ONU_G}
use Rattle.manager_spec.specs.Upgrade.{image_entity}
use Rattle.unit_spec.specs.Onu.{Onu, packet_deed}
use Rattle.unit_spec.specs.Noticing.{Noticing, onu_sensed, onu_alarmed}
use Rattle.moves_spec.specs.Channel.{Transaction, place_number, LinkPacket, RequestOf, ReplyTo, Unasked, Channel, lane_view}
use Rattle.moves_spec.specs.Moves.{Move, Notify, ManagerStarts, may_go_down, may_go_up, after_moves}
use Rattle.moves_laws.proofs.Numbers.{number_at_first, place_is_number}
use Rattle.world_spec.specs.Happenings.{PacketCame, ReplyTaken, ImageStored, PowerCut}
use Rattle.world_spec.specs.Ends.{Step, preceded, stage_in, unit_cut_amid, cut_at, cut_in, manager_did, manager_got, unit_did, unit_got, notice_sent, unit_notices, arrives_at, arrives, noise, cut_unit, cut_manager, start_unit, start_manager}
use Rattle.world_spec.specs.Nodes.{Nodes, cut_of, cut_delivery, delivery_of, delivery, nodes_after_step, goes_on, flow_from, oldest_fresh, flow, acted, next_event, step}
use Rattle.world_spec.specs.History.{Told, drawn_in, tell_all}
use Rattle.world_laws.proofs.Tcis.{lane_of_tci, some_tci}
use Rattle.world_laws.proofs.Likeness.{tci_at, IsPacket, same_length, one_more, at_place, AreWays, lane_like, busy, like_same_kept, Like, some_manager, Follows, like_unmanaged}
use Rattle.world_laws.proofs.Unit.{noise_received, IsNoticing, sensed_is, alarmed_is}
use Rattle.world_laws.proofs.Keeping.{taken_lanes, IsTaking, taking_is, takes_one, IsBeside, is_beside}
use Rattle.world_laws.proofs.Manager.{freed_lane, meant_by, taken_by, IsTaken, untaken, hearing_is, noise_heard}
use Rattle.world_laws.proofs.Following.{Happens, then_happens, sends_none, both_follow, outcome_happens, entries_follow}
use Rattle.world_laws.proofs.Turns.{Rests, StepFollows, no_step, not_enabled_step, own_follows, probe_follows, submit_follows, check_follows, resync_follows, audit_follows, image_follows, unit_starts_follow, job_follows, second_follows}
use Rattle.world_laws.proofs.Arrivals.{name_is_at, came_told, Stands, idle_follows, unit_follows}
use Rattle.world_laws.proofs.Taking.{Tells, notice_up, Returns, dropped_up, told_taken, taken_up}

-- ---- what may come

-- the floors of a lane
floor_down_is : (l : Priority) (w : Ways) (p : Channel) → AreWays w p.low p.high
    → (way_in Down l w).floor ≡ (lane_view l p).lane.floor_down
floor_down_is Low w p h = h.down_low
floor_down_is High w p h = h.down_high

floor_up_is : (l : Priority) (w : Ways) (p : Channel) → AreWays w p.low p.high
    → (way_in Up l w).floor ≡ (lane_view l p).lane.floor_up
floor_up_is Low w p h = h.up_low
floor_up_is High w p h = h.up_high

view_length : (l : Priority) (p : Channel) → length (lane_view l p).shared.packets
    ≡ length p.shared.packets
view_length Low p = refl
view_length High p = refl

pub may_down : (l : Priority) (place i : ℕ) (s : Sent) (link : Link) (p : Channel)
    → AreWays link.ways p.low p.high → count link ≡ length p.shared.packets
    → s.direction ≡ Down → packet_tci s.bytes ≡ tci_at l place → may_come i (way_of s link.ways)
    (count link) ≡ true → may_go_down i (lane_view l p) ≡ true
may_down l place i s link p w n d e may =
    let lane : lane_of s.bytes ≡ l = ap priority_of e ∙ lane_of_tci l (place_number place)
    (place_is_number place) in
    let floor : (way_of s link.ways).floor ≡ (lane_view l p).lane.floor_down =
    ap (λ x. (way_in x (lane_of s.bytes) link.ways).floor) d
    ∙ ap (λ x. (way_in Down x link.ways).floor) lane ∙ floor_down_is l link.ways p w in
    ap (λ x. nat_le x i && is_young i (length (lane_view l p).shared.packets)) (sym floor)
    ∙ ap (λ x. nat_le (way_of s link.ways).floor i && is_young i x) (view_length l p ∙ sym n) ∙ may

may_up_in : (l : Priority) (i : ℕ) (s : Sent) (link : Link) (p : Channel)
    → AreWays link.ways p.low p.high → count link ≡ length p.shared.packets
    → s.direction ≡ Up → lane_of s.bytes ≡ l → may_come i (way_of s link.ways)
    (count link) ≡ true → may_go_up i (lane_view l p) ≡ true
may_up_in l i s link p w n d lane may =
    let floor : (way_of s link.ways).floor ≡ (lane_view l p).lane.floor_up =
    ap (λ x. (way_in x (lane_of s.bytes) link.ways).floor) d
    ∙ ap (λ x. (way_in Up x link.ways).floor) lane ∙ floor_up_is l link.ways p w in
    ap (λ x. nat_le x i && is_young i (length (lane_view l p).shared.packets)) (sym floor)
    ∙ ap (λ x. nat_le (way_of s link.ways).floor i && is_young i x) (view_length l p ∙ sym n) ∙ may

pub may_up : (l : Priority) (place i : ℕ) (s : Sent) (link : Link) (p : Channel)
    → AreWays link.ways p.low p.high → count link ≡ length p.shared.packets
    → s.direction ≡ Up → packet_tci s.bytes ≡ tci_at l place → may_come i (way_of s link.ways)
    (count link) ≡ true → may_go_up i (lane_view l p) ≡ true
may_up l place i s link p w n d e may =
    may_up_in l i s link p w n d
    (ap priority_of e ∙ lane_of_tci l (place_number place) (place_is_number place)) may

-- ---- a packet comes to the unit

unit_arrives : (l : Priority) (tr : Transaction) (i : ℕ) (s : Sent) (o : Option Onu) (n : Nodes)
    (t : Told) (p : Channel) → Rests n t p → n.ends.unit ≡ o
    → Stands l tr i s t.names p → StepFollows (unit_got (PacketCame i s ∷ []) s.bytes o n.ends) n t
    p
unit_arrives l tr i s None n t p h e a = not_enabled_step n t p h
unit_arrives l tr i s (Some u) n t p h e a =
    unit_follows l tr i s n.link n.ends.lives u n.ends.manager t p a
    (subst (λ x. Like n.link n.ends.lives x n.ends.manager t p) e h)

-- ---- a packet comes to the manager

-- it comes, and is taken as a reply
came_taken : (probe : Bool) (l : Priority) (i : ℕ) (s : Sent) (link : Link) (lives : ℕ)
    (unit : Option Onu) (manager : Option Manager) (t : Told) (p : Channel)
    → Follows (delivered_on i s link) lives unit manager (told_taken probe l (came_told i s t)) p
    → Happens (PacketCame i s ∷ map ReplyTaken (taken_lanes probe l)) link lives unit manager t p
came_taken true l i s link lives unit manager t p f = f
came_taken false l i s link lives unit manager t p f = f

reply_arrives : (l : Priority) (tr : Transaction) (i : ℕ) (s : Sent) (f : Frame) (w : Waiting)
    (m : Manager) (n : Nodes) (t : Told) (p : Channel) → Rests n t p → n.ends.manager ≡ Some m
    → Returns l tr i s p → (lane_in l m).outstanding ≡ Some w → packet_tci s.bytes ≡ w.tci
    → StepFollows (preceded (PacketCame i s ∷ []) (manager_did (taken_by l f w m) n.ends)) n t p
reply_arrives l tr i s f w m n t p h e a waits same =
    outcome_happens (PacketCame i s ∷ []) (stage_in n.ends.manager) x (taken_by l f w m) n.link
    n.ends.lives n.ends.unit t p
    (subst
    (λ ls. Happens (PacketCame i s ∷ map ReplyTaken ls) n.link n.ends.lives n.ends.unit (Some x) t
    p) (sym (takes_one probe l meant k.taken))
    (came_taken probe l i s n.link n.ends.lives n.ends.unit (Some x) t p
    (taken_up l tr i s w probe n.link n.ends.lives n.ends.unit m t p a
    (subst (λ y. Like n.link n.ends.lives n.ends.unit y t p) e h) waits same refl)))
    (both_follow x meant job_goes_on (sends_none x meant k.same k.sends)
    (job_follows meant.manager))
  where
    x : Manager
    x = freed_lane l w m

    probe : Bool
    probe = is_probe w.command.purpose

    meant : Outcome
    meant = meant_by l f w m

    k : IsTaking probe f l x meant
    k = taking_is w.command.purpose l w.command f x

-- it comes, and is no reply that a lane waits for
beside_arrives : (i : ℕ) (s : Sent) (o : Outcome) (m : Manager) (n : Nodes) (t : Told)
    (p : Channel) → IsBeside m o
    → Follows (delivered_on i s n.link) n.ends.lives n.ends.unit (Some m) (came_told i s t) p
    → StepFollows (preceded (PacketCame i s ∷ []) (manager_did o n.ends)) n t p
beside_arrives i s o m n t p k came =
    outcome_happens (PacketCame i s ∷ []) (stage_in n.ends.manager) m o n.link n.ends.lives
    n.ends.unit t p
    (subst
    (λ ls. Happens (PacketCame i s ∷ map ReplyTaken ls) n.link n.ends.lives n.ends.unit (Some m) t
    p) (sym k.taken) came) (sends_none m o k.keeps.same k.sends)

outcome_arrives : (l : Priority) (tr : Transaction) (i : ℕ) (s : Sent) (o : Outcome) (m : Manager)
    (n : Nodes) (t : Told) (p : Channel) → Rests n t p → n.ends.manager ≡ Some m
    → Returns l tr i s p → (o ≡ untaken (packet_frame s.bytes) m) ⊎ IsTaken s.bytes m o
    → StepFollows (preceded (PacketCame i s ∷ []) (manager_did o n.ends)) n t p
outcome_arrives l tr i s o m n t p h e a (inl drops) =
    beside_arrives i s o m n t p (is_beside (packet_frame s.bytes) m o drops)
    (dropped_up l tr i s n.link n.ends.lives n.ends.unit m t p a
    (subst (λ x. Like n.link n.ends.lives n.ends.unit x t p) e h))
outcome_arrives l tr i s o m n t p h e a (inr k) =
    let lane : priority_of k.frame.tci ≡ l = ap priority_of (k.tci_is ∙ a.tci)
    ∙ lane_of_tci l (place_number tr.place) (place_is_number tr.place) in
    let is : o ≡ taken_by l k.frame k.waiting m = k.is ∙ ap (λ x. taken_by x k.frame k.waiting m)
    lane in
    let waits : (lane_in l m).outstanding ≡ Some k.waiting =
    subst (λ x. (lane_in x m).outstanding ≡ Some k.waiting) lane k.waits in
    subst (λ x. StepFollows (preceded (PacketCame i s ∷ []) (manager_did x n.ends)) n t p) (sym is)
    (reply_arrives l tr i s k.frame k.waiting m n t p h e a waits (sym k.tci_is ∙ k.same))

manager_arrives : (l : Priority) (tr : Transaction) (i : ℕ) (s : Sent) (o : Option Manager)
    (n : Nodes) (t : Told) (p : Channel) → Rests n t p → n.ends.manager ≡ o
    → Returns l tr i s p → StepFollows (manager_got (PacketCame i s ∷ []) s.bytes o n.ends) n t p
manager_arrives l tr i s None n t p h e a = not_enabled_step n t p h
manager_arrives l tr i s (Some m) n t p h e a = outcome_arrives l tr i s (after_packet s.bytes m) m
    n t p h e a (hearing_is s.bytes m)

-- ---- a notice comes to the manager

-- no lane waits for its TCI
notice_answers : (bytes : List ℕ) (o : Outcome) (m : Manager) (t : Told) (p : Channel)
    (link : Link) (lives : ℕ) (unit : Option Onu) → Like link lives unit (Some m) t p
    → packet_tci bytes ≡ 0 → IsTaken bytes m o → ⊥
notice_answers bytes o m t p link lives unit h none k =
    let l = priority_of k.frame.tci in
    let w = busy l (drawn_in l t) (lane_in l m) (lane_view l p).lane k.waiting
    (lane_like l t m p (h.manager_is m refl)) k.waits in
    some_tci l (place_number w.outstanding.transaction.place)
    (place_is_number w.outstanding.transaction.place)
    (sym w.awaits.tci ∙ sym k.same ∙ k.tci_is ∙ none)

notice_heard : (i : ℕ) (s : Sent) (o : Outcome) (m : Manager) (n : Nodes) (t : Told) (p : Channel)
    → Like n.link n.ends.lives n.ends.unit (Some m) t p → Tells i s p
    → (o ≡ untaken (packet_frame s.bytes) m) ⊎ IsTaken s.bytes m o
    → StepFollows (preceded (PacketCame i s ∷ []) (manager_did o n.ends)) n t p
notice_heard i s o m n t p h a (inl not) =
    beside_arrives i s o m n t p (is_beside (packet_frame s.bytes) m o not)
    (notice_up i s n.link n.ends.lives n.ends.unit (Some m) t p a h)
notice_heard i s o m n t p h a (inr k) =
    absurd (notice_answers s.bytes o m t p n.link n.ends.lives n.ends.unit h a.tci k)

notice_arrives : (i : ℕ) (s : Sent) (o : Option Manager) (n : Nodes) (t : Told) (p : Channel)
    → Rests n t p → n.ends.manager ≡ o → Tells i s p
    → StepFollows (manager_got (PacketCame i s ∷ []) s.bytes o n.ends) n t p
notice_arrives i s None n t p h e a = not_enabled_step n t p h
notice_arrives i s (Some m) n t p h e a =
    notice_heard i s (after_packet s.bytes m) m n t p
    (subst (λ x. Like n.link n.ends.lives n.ends.unit x t p) e h) a (hearing_is s.bytes m)

-- ---- deliveries

direction_arrives : (d : Direction) (i : ℕ) (s : Sent) (n : Nodes) (t : Told) (p : Channel)
    → s.direction ≡ d
    → StepFollows (arrives_at d (PacketCame i s ∷ []) s.bytes n.ends) n t p
    → StepFollows (arrives i s n.ends) n t p
unfolding arrives
direction_arrives d i s n t p e f =
    subst (λ x. StepFollows (arrives_at x (PacketCame i s ∷ []) s.bytes n.ends) n t p) (sym e) f

packet_arrives : (i : ℕ) (s : Sent) (name : ℕ) (y : LinkPacket) (n : Nodes) (t : Told) (p : Channel)
    → Rests n t p → slice_get t.names i ≡ Some name
    → slice_get p.shared.packets i ≡ Some y → IsPacket s name y → may_come i (way_of s n.link.ways)
    (count n.link) ≡ true → StepFollows (arrives i s n.ends) n t p
packet_arrives i s name (RequestOf l tr) n t p h named at k may =
    direction_arrives Down i s n t p k.0 (unit_arrives l tr i s n.ends.unit n t p h refl (record {
      at = at;
      way = k.0;
      tci = k.1;
      name = name_is_at t.names i name named ∙ k.2;
      may = may_down l tr.place i s n.link p h.ways
          (same_length n.link.packets t.names p.shared.packets h.packets) k.0 k.1 may;
    }))
packet_arrives i s name (ReplyTo l tr r) n t p h named at k may =
    direction_arrives Up i s n t p k.0
    (manager_arrives l tr i s n.ends.manager n t p h refl (record {
      at = subst (λ x. slice_get p.shared.packets i ≡ Some (ReplyTo l tr x)) (sym k.3) at;
      way = k.0;
      tci = k.1;
      may = may_up l tr.place i s n.link p h.ways
          (same_length n.link.packets t.names p.shared.packets h.packets) k.0 k.1 may;
    }))
packet_arrives i s name Unasked n t p h named at k may =
    direction_arrives Up i s n t p k.0 (notice_arrives i s n.ends.manager n t p h refl (record {
      at = at;
      way = k.0;
      tci = k.1;
      may = may_up_in Low i s n.link p h.ways
          (same_length n.link.packets t.names p.shared.packets h.packets) k.0
          (ap priority_of k.1) may;
    }))

sent_arrives : (i : ℕ) (s : Sent) (b : Bool) (n : Nodes) (t : Told) (p : Channel) → Rests n t p
    → slice_get n.link.packets i ≡ Some s
    → may_come i (way_of s n.link.ways) (count n.link) ≡ b
    → StepFollows (delivery_of (if_may_come b s) i n.ends) n t p
sent_arrives i s false n t p h e may = not_enabled_step n t p h
sent_arrives i s true n t p h e may =
    let a = at_place n.link.packets t.names p.shared.packets i s h.packets e in
    packet_arrives i s a.name a.packet n t p h a.name_is a.packet_is a.like may

place_delivers : (i : ℕ) (o : Option Sent) (n : Nodes) (t : Told) (p : Channel) → Rests n t p
    → slice_get n.link.packets i ≡ o
    → StepFollows (delivery_of (allowed_one i o n.link.ways (count n.link)) i n.ends) n t p
place_delivers i None n t p h e = not_enabled_step n t p h
place_delivers i (Some s) n t p h e = sent_arrives i s _ n t p h e refl

delivery_follows : (i : ℕ) (n : Nodes) (t : Told) (p : Channel) → Rests n t p
    → StepFollows (delivery i n) n t p
unfolding delivery allowed
delivery_follows i n t p h = place_delivers i _ n t p h refl

-- one step, and then another
then_follow : (s : Step) (rest : Nodes → Step) (n : Nodes) (t : Told) (p : Channel)
    → StepFollows s n t p
    → ((u : Told) (q : Channel) → Rests (nodes_after_step s n) u q
    → StepFollows (rest (nodes_after_step s n)) (nodes_after_step s n) u q)
    → StepFollows (goes_on rest s n) n t p
then_follow s rest n t p one two =
    then_happens s.happenings r.happenings n.link s.ends.lives r.ends.lives s.ends.unit
    r.ends.unit s.ends.manager r.ends.manager t p one
    (λ q k. two (tell_all s.happenings t) q k)
  where
    r : Step
    r = rest (nodes_after_step s n)

flow_by : (o : Option ℕ) (times : ℕ) (n : Nodes) (t : Told) (p : Channel) → Rests n t p
    → ((m : Nodes) (u : Told) (q : Channel) → Rests m u q → StepFollows (flow times m) m u q)
    → StepFollows (flow_from o (flow times) n) n t p
flow_by None times n t p h rest = no_step n t p h
flow_by (Some i) times n t p h rest =
    then_follow (delivery i n) (flow times) n t p (delivery_follows i n t p h)
    (λ u q k. rest (nodes_after_step (delivery i n) n) u q k)

flow_follows : (times : ℕ) (n : Nodes) (t : Told) (p : Channel) → Rests n t p
    → StepFollows (flow times n) n t p
unfolding flow
flow_follows zero n t p h = no_step n t p h
flow_follows (suc times) n t p h = flow_by (oldest_fresh n) times n t p h (flow_follows times)

-- ---- noise

unit_noise : (bytes : List ℕ) (o : Option Onu) (n : Nodes) (t : Told) (p : Channel) → Rests n t p
    → n.ends.unit ≡ o → fault_of bytes ≢ None
    → StepFollows (unit_got [] bytes o n.ends) n t p
unit_noise bytes None n t p h e f = not_enabled_step n t p h
unit_noise bytes (Some u) n t p h e f =
    subst (λ r. StepFollows (preceded [] (unit_did r u n.ends)) n t p)
    (sym (noise_received bytes u f))
    ([], subst (λ x. Like n.link n.ends.lives x n.ends.manager t p) e h)

manager_noise : (bytes : List ℕ) (o : Option Manager) (n : Nodes) (t : Told) (p : Channel)
    → Rests n t p → n.ends.manager ≡ o → fault_of bytes ≢ None
    → StepFollows (manager_got [] bytes o n.ends) n t p
manager_noise bytes None n t p h e f = not_enabled_step n t p h
manager_noise bytes (Some m) n t p h e f =
    subst (λ o. StepFollows (preceded [] (manager_did o n.ends)) n t p)
    (sym (noise_heard bytes m f))
    (own_follows (packet_dropped m) m n t p h e refl
    (sends_none m (packet_dropped m) (record { low = refl; high = refl }) refl))

noise_down_follows : (bytes : List ℕ) (n : Nodes) (t : Told) (p : Channel) → Rests n t p
    → fault_of bytes ≢ None → StepFollows (noise Down bytes n.ends) n t p
unfolding noise
noise_down_follows bytes n t p h f = unit_noise bytes n.ends.unit n t p h refl f

noise_up_follows : (bytes : List ℕ) (n : Nodes) (t : Told) (p : Channel) → Rests n t p
    → fault_of bytes ≢ None → StepFollows (noise Up bytes n.ends) n t p
unfolding noise
noise_up_follows bytes n t p h f = manager_noise bytes n.ends.manager n t p h refl f

-- ---- the unit notices something

noticed_follows : (o : Noticed) (packet : List ℕ) (link : Link) (lives : ℕ) (unit : Option Onu)
    (manager : Option Manager) (t : Told) (p : Channel)
    → (o ≡ noticed.Sent → packet_tci packet ≡ 0) → Like link lives unit manager t p
    → Happens (notice_sent o packet) link lives unit manager t p
noticed_follows noticed.NotAllowed packet link lives unit manager t p tci h = ([], h)
noticed_follows noticed.Same packet link lives unit manager t p tci h = ([], h)
noticed_follows noticed.Sent packet link lives unit manager t p tci h = (
  Notify ∷ [],
  record {
    packets = one_more _ _ _ _ _ _ h.packets (refl, tci refl, refl);
    ways = h.ways;
    lives_are = h.lives_are;
    drawn = h.drawn;
    history = h.history;
    unit_is = h.unit_is;
    manager_is = h.manager_is;
  },
)

noticing_follows : (call : Onu → Noticing) (o : Option Onu) (n : Nodes) (t : Told) (p : Channel)
    → Rests n t p → n.ends.unit ≡ o → ((u : Onu) → IsNoticing u (call u))
    → StepFollows (unit_notices call o n.ends) n t p
noticing_follows call None n t p h e k = not_enabled_step n t p h
noticing_follows call (Some u) n t p h e k =
    noticed_follows (call u).noticed (call u).packet n.link n.ends.lives (Some (call u).unit)
    n.ends.manager t p (k u).tci
    (like_same_kept n.link n.ends.lives u (call u).unit n.ends.manager t p (k u).kept
    (subst (λ x. Like n.link n.ends.lives x n.ends.manager t p) e h))

-- ---- power

cut_unit_follows : (o : Option Onu) (n : Nodes) (t : Told) (p : Channel) → Rests n t p
    → StepFollows (cut_unit o n.ends) n t p
cut_unit_follows None n t p h = not_enabled_step n t p h
cut_unit_follows (Some u) n t p h = (
  [],
  record {
    packets = h.packets;
    ways = h.ways;
    lives_are = h.lives_are;
    drawn = h.drawn;
    history = h.history;
    unit_is = λ x e. absurd (cc);
    manager_is = h.manager_is;
  },
)

cut_manager_follows : (o : Option Manager) (n : Nodes) (t : Told) (p : Channel) → Rests n t p
    → StepFollows (cut_manager o n.ends) n t p
cut_manager_follows None n t p h = not_enabled_step n t p h
cut_manager_follows (Some m) n t p h =
    ([], like_unmanaged n.link n.ends.lives n.ends.unit n.ends.manager t p h)

start_unit_follows : (o : Option Onu) (n : Nodes) (t : Told) (p : Channel) → Rests n t p
    → StepFollows (start_unit o n.ends) n t p
start_unit_follows (Some u) n t p h = not_enabled_step n t p h
start_unit_follows None n t p h = unit_starts_follow PowerUp n.ends.slots n.ends n.link t p h

start_manager_follows : (low high : ℕ) (o : Option Manager) (n : Nodes) (t : Told) (p : Channel)
    → IsNumber low → IsNumber high → Rests n t p
    → StepFollows (start_manager low high o n.ends) n t p
start_manager_follows low high (Some m) n t p a b h = not_enabled_step n t p h
start_manager_follows low high None n t p a b h =
    let k = same_length n.link.packets t.names p.shared.packets h.packets in (
      ManagerStarts (low - 1) (high - 1) ∷ [],
      record {
        packets = h.packets;
        ways = record { down_low = k; down_high = k; up_low = k; up_high = k };
        lives_are = h.lives_are;
        drawn = h.drawn;
        history = h.history;
        unit_is = h.unit_is;
        manager_is = some_manager t.low t.high (manager_started low high) _ _ (record {
          is_low =
              record { priority = refl; proved_is = refl; out = sym (number_at_first low a) };
          is_high =
              record { priority = refl; proved_is = refl; out = sym (number_at_first high b) };
        });
      },
    )

-- ---- the power goes amid a delivery

-- the entries before it are remarks
cut_happens : (entries : List StoreEntry) (link : Link) (lives : ℕ) (u : Onu)
    (manager : Option Manager) (t : Told) (p : Channel) → Like link lives (Some u) manager t p
    → Happens (map ImageStored entries ++ PowerCut ∷ []) link lives None manager t p
cut_happens entries link lives u manager t p h =
    then_happens (map ImageStored entries) (PowerCut ∷ []) link lives lives (Some u) None manager
    manager t p (entries_follow entries link lives (Some u) manager t p h)
    (λ q k. ([], unpowered k))
  where
    unpowered : {l : Link} {v : Told} {q : Channel} → Like l lives (Some u) manager v q
        → Like l lives None manager v q
    unpowered k = record {
      packets = k.packets;
      ways = k.ways;
      lives_are = k.lives_are;
      drawn = k.drawn;
      history = k.history;
      unit_is = λ x e. absurd (cc);
      manager_is = k.manager_is;
    }

unit_cut_follows : (call : ℕ) (pick : Pick) (l : Priority) (tr : Transaction) (i : ℕ) (s : Sent)
    (o : Option Onu) (n : Nodes) (t : Told) (p : Channel) → Rests n t p → n.ends.unit ≡ o
    → Stands l tr i s t.names p
    → StepFollows (unit_cut_amid call pick (PacketCame i s ∷ []) s.bytes o n.ends) n t p
unit_cut_follows call pick l tr i s None n t p h e a = not_enabled_step n t p h
unit_cut_follows call pick l tr i s (Some u) n t p h e a =
    then_happens (PacketCame i s ∷ [])
    (map ImageStored (reverse (entries_before (packet_deed s.bytes u))) ++ PowerCut ∷ []) n.link
    n.ends.lives n.ends.lives (Some u) None n.ends.manager n.ends.manager t p
    (idle_follows l tr i s n.link n.ends.lives u u n.ends.manager t p refl a
    (subst (λ x. Like n.link n.ends.lives x n.ends.manager t p) e h))
    (λ q k. cut_happens (reverse (entries_before (packet_deed s.bytes u))) _ n.ends.lives u
    n.ends.manager _ q k)

direction_cut : (call : ℕ) (pick : Pick) (d : Direction) (i : ℕ) (s : Sent) (n : Nodes) (t : Told)
    (p : Channel) → s.direction ≡ d
    → StepFollows (cut_at call pick d (PacketCame i s ∷ []) s.bytes n.ends) n t p
    → StepFollows (cut_in call pick i s n.ends) n t p
unfolding cut_in
direction_cut call pick d i s n t p e f =
    subst (λ x. StepFollows (cut_at call pick x (PacketCame i s ∷ []) s.bytes n.ends) n t p)
    (sym e) f

packet_cut : (call : ℕ) (pick : Pick) (i : ℕ) (s : Sent) (name : ℕ) (y : LinkPacket) (n : Nodes)
    (t : Told) (p : Channel) → Rests n t p → slice_get t.names i ≡ Some name
    → slice_get p.shared.packets i ≡ Some y → IsPacket s name y → may_come i (way_of s n.link.ways)
    (count n.link) ≡ true → StepFollows (cut_in call pick i s n.ends) n t p
packet_cut call pick i s name (RequestOf l tr) n t p h named at k may =
    direction_cut call pick Down i s n t p k.0
    (unit_cut_follows call pick l tr i s n.ends.unit n t p h refl (record {
      at = at;
      way = k.0;
      tci = k.1;
      name = name_is_at t.names i name named ∙ k.2;
      may = may_down l tr.place i s n.link p h.ways
          (same_length n.link.packets t.names p.shared.packets h.packets) k.0 k.1 may;
    }))
packet_cut call pick i s name (ReplyTo l tr r) n t p h named at k may =
    direction_cut call pick Up i s n t p k.0 (not_enabled_step n t p h)
packet_cut call pick i s name Unasked n t p h named at k may =
    direction_cut call pick Up i s n t p k.0 (not_enabled_step n t p h)

sent_cut : (call : ℕ) (pick : Pick) (i : ℕ) (s : Sent) (b : Bool) (n : Nodes) (t : Told)
    (p : Channel) → Rests n t p → slice_get n.link.packets i ≡ Some s
    → may_come i (way_of s n.link.ways) (count n.link) ≡ b
    → StepFollows (cut_of call pick (if_may_come b s) i n.ends) n t p
sent_cut call pick i s false n t p h e may = not_enabled_step n t p h
sent_cut call pick i s true n t p h e may =
    let a = at_place n.link.packets t.names p.shared.packets i s h.packets e in
    packet_cut call pick i s a.name a.packet n t p h a.name_is a.packet_is a.like may

place_cut : (call : ℕ) (pick : Pick) (i : ℕ) (o : Option Sent) (n : Nodes) (t : Told) (p : Channel)
    → Rests n t p → slice_get n.link.packets i ≡ o
    → StepFollows (cut_of call pick (allowed_one i o n.link.ways (count n.link)) i n.ends) n t p
place_cut call pick i None n t p h e = not_enabled_step n t p h
place_cut call pick i (Some s) n t p h e = sent_cut call pick i s _ n t p h e refl

cut_delivery_follows : (call : ℕ) (pick : Pick) (i : ℕ) (n : Nodes) (t : Told) (p : Channel)
    → Rests n t p → StepFollows (cut_delivery call pick i n) n t p
unfolding cut_delivery allowed
cut_delivery_follows call pick i n t p h = place_cut call pick i _ n t p h refl

-- ---- lines, and scripts

-- what the laws ask of a line: a manager's numbers, and noise that is no frame
abbrev pub IsFair : Action → Type 0
IsFair (StartOlt low high) = IsNumber low × IsNumber high
IsFair (NoiseUnit bytes) = fault_of bytes ≢ None
IsFair (NoiseOlt bytes) = fault_of bytes ≢ None
IsFair _ = Unit {0}

acted_follows : (a : Action) (n : Nodes) (t : Told) (p : Channel) → Rests n t p → IsFair a
    → StepFollows (acted a n) n t p
unfolding acted
acted_follows (Probe lane) n t p h f = probe_follows lane n.ends.manager n t p h refl
acted_follows (Reset lane) n t p h f = submit_follows lane sync_entity request.Reset n.ends.manager
    n t p h refl
acted_follows (Get lane entity mask) n t p h f = submit_follows lane entity (request.Get mask)
    n.ends.manager n t p h refl
acted_follows (Create lane entity values) n t p h f =
    submit_follows lane entity (request.Create (filled 32 values)) n.ends.manager n t p h refl
acted_follows (Set lane entity mask values) n t p h f =
    submit_follows lane entity (request.Set mask (filled 30 values)) n.ends.manager n t p h refl
acted_follows (Delete lane entity) n t p h f = submit_follows lane entity request.Delete
    n.ends.manager n t p h refl
acted_follows (Activate lane slot) n t p h f = submit_follows lane (image_entity slot)
    (request.Activate 0) n.ends.manager n t p h refl
acted_follows (Commit lane slot) n t p h f = submit_follows lane (image_entity slot) request.Commit
    n.ends.manager n t p h refl
acted_follows (Reboot lane) n t p h f = submit_follows lane ONU_G (request.Reboot 0)
    n.ends.manager n t p h refl
acted_follows (Image slot asked check image) n t p h f = image_follows slot asked check image
    n.ends.manager n t p h refl
acted_follows (CutIn number call pick) n t p h f = cut_delivery_follows call pick number n t p h
acted_follows Resync n t p h f = resync_follows n.ends.manager n t p h refl
acted_follows Audit n t p h f = audit_follows n.ends.manager n t p h refl
acted_follows Check n t p h f = check_follows n.ends.manager n t p h refl
acted_follows (Deliver number) n t p h f = delivery_follows number n t p h
acted_follows (Flow times) n t p h f = flow_follows times n t p h
acted_follows (NoiseUnit bytes) n t p h f = noise_down_follows bytes n t p h f
acted_follows (NoiseOlt bytes) n t p h f = noise_up_follows bytes n t p h f
acted_follows Tick n t p h f = second_follows n t p h
acted_follows (Sense entity number value) n t p h f = noticing_follows
    (onu_sensed entity number value) n.ends.unit n t p h refl (sensed_is entity number value)
acted_follows (Alarm entity bitmap) n t p h f = noticing_follows
    (onu_alarmed entity (filled BITMAP_BYTES bitmap)) n.ends.unit n t p h refl
    (alarmed_is entity (filled BITMAP_BYTES bitmap))
acted_follows CutUnit n t p h f = cut_unit_follows n.ends.unit n t p h
acted_follows CutOlt n t p h f = cut_manager_follows n.ends.manager n t p h
acted_follows StartUnit n t p h f = start_unit_follows n.ends.unit n t p h
acted_follows (StartOlt low high) n t p h f = start_manager_follows low high n.ends.manager n t p
    f.0 f.1 h

-- a line of the script is moves
pub turn_follows : (a : Action) (n : Nodes) (t : Told) (p : Channel) → Rests n t p → IsFair a
    → (ms : List Move) × Rests (step a n).nodes (tell_all (step a n).happenings t)
    (after_moves ms p)
unfolding step
turn_follows a n t p h f = acted_follows a (next_event n) t p h f
