-- A script keeps all well, line by line. What the channel promises of the packets that may come next
-- is taken from the laws of both ends.
use Rattle.std.proofs.Common.{◌≡◌, ℕ, zero, suc, ◌+◌, ◌<◌, true, false, List, [], ◌∷◌, ◌++◌, Option, Some, None, refl, sym, ap, subst, ◌∙◌, arith, append-nil}
use Rattle.std.proofs.lemmas.List.Elements.{All-nil, All-cons, All-head, All-tail}
use Rattle.std.specs.List.{All}
use Rattle.omci_types.specs.declared.Priority.{Priority}
use Rattle.omci_types.specs.declared.Priority.TheVariants.{Low}
use Rattle.tci_spec.specs.Tci.{IsNumber}
use Rattle.message_spec.specs.declared.Request.TheVariants as request
use Rattle.frame_spec.specs.Widths.{filled}
use Rattle.alarm_spec.specs.declared.TheConstants.{BITMAP_BYTES}
use Rattle.script_spec.specs.Script.{Header, Action, Probe, Reset, Get, Create, Set, Delete, Activate, Commit, Reboot, Resync, Audit, Check, Image, Deliver, Flow, CutIn, NoiseUnit, NoiseOlt, Tick, Sense, Alarm, CutUnit, CutOlt, StartUnit, StartOlt, IsAction}
use Rattle.link_spec.specs.declared.Direction.{Direction}
use Rattle.link_spec.specs.declared.Direction.TheVariants.{Down, Up}
use Rattle.link_spec.specs.Link.{Sent, allowed}
use Rattle.lane_spec.specs.Command.{sync_entity, is_probe}
use Rattle.lane_spec.specs.Lane.{Waiting}
use Rattle.unit_spec.specs.declared.TheConstants.{ONU_G}
use Rattle.manager_spec.specs.Upgrade.{image_entity}
use Rattle.manager_spec.specs.Manager.{Manager, lane_in}
use Rattle.unit_spec.specs.Onu.{Onu}
use Rattle.history_spec.specs.History.{WasCarried, LastReply, SyncedRight}
use Rattle.world_spec.specs.Happenings.{Happening, PacketCame}
use Rattle.world_spec.specs.Ends.{Ends, Step, unit_got, manager_got, arrives_at, arrives}
use Rattle.world_spec.specs.Nodes.{Nodes, Turn, first_nodes, delivery_of, delivery, nodes_after_step, flow_from, oldest_fresh, flow, acted, next_event, turn_of, step, nodes_after}
use Rattle.world_spec.specs.History.{Told, first_told, drawn_in, tell_all, told_after, history_of}
use Rattle.world_laws.specs.Facts.{AreReached, MayBeCarriedOut, MayBeTaken, IsAwaited}
use Rattle.world_laws.proofs.Reading.{no_baseline}
use Rattle.resync_laws.specs.Databases.{IsWholeDatabase}
use Rattle.resync_laws.proofs.Lines.{Fine, StepFine, both_fine, probe_fine, submit_fine, check_fine, resync_fine, audit_fine, image_fine, sense_fine, alarm_fine, second_fine, cut_unit_fine, cut_manager_fine, start_unit_fine, start_manager_fine, noise_fine, Linked, cut_delivery_fine, delivery_fine, first_fine}

-- ---- what the channel promises

abbrev pub Awaiting : Type 0
Awaiting =
    (lane : Priority) (n : Nodes) (t : Told) (number : ℕ) (s : Sent) (u : Onu) (m : Manager)
    → AreReached n t → n.ends.manager ≡ Some m → (lane_in lane m).proved ≡ true
    → MayBeCarriedOut lane n number s u → IsAwaited lane m t number s

abbrev pub Carrying : Type 0
Carrying =
    (lane : Priority) (n : Nodes) (t : Told) (number : ℕ) (s : Sent) (m : Manager) (w : Waiting)
    → AreReached n t → MayBeTaken lane n number s m w → is_probe w.command.purpose ≡ false
    → WasCarried n.ends.lives (drawn_in lane t) t.history

abbrev pub Replying : Type 0
Replying =
    (lane : Priority) (n : Nodes) (t : Told) (number : ℕ) (s : Sent) (m : Manager) (w : Waiting)
    → AreReached n t → MayBeTaken lane n number s m w → is_probe w.command.purpose ≡ false
    → LastReply (drawn_in lane t) s.bytes t.history

pub record Promises : Type 0 where
  pub awaited : Awaiting
  pub carried : Carrying
  pub reply : Replying

-- ---- nodes at another line of the script

abbrev pub with_event : ℕ → Nodes → Nodes
with_event k n = record n { ends = record n.ends { event = k } }

abbrev pub at_event : ℕ → Step → Step
at_event k s = record { ends = record s.ends { event = k }; happenings = s.happenings }

unit_event : (first : List Happening) (bytes : List ℕ) (o : Option Onu) (e : Ends) (k : ℕ)
    → unit_got first bytes o (record e { event = k }) ≡ at_event k (unit_got first bytes o e)
unit_event first bytes None e k = refl
unit_event first bytes (Some u) e k = refl

manager_event : (first : List Happening) (bytes : List ℕ) (o : Option Manager) (e : Ends) (k : ℕ)
    → manager_got first bytes o (record e { event = k }) ≡ at_event k (manager_got first bytes o e)
manager_event first bytes None e k = refl
manager_event first bytes (Some m) e k = refl

arrives_event : (d : Direction) (first : List Happening) (bytes : List ℕ) (e : Ends) (k : ℕ)
    → arrives_at d first bytes (record e { event = k }) ≡ at_event k (arrives_at d first bytes e)
arrives_event Down first bytes e k = unit_event first bytes e.unit e k
arrives_event Up first bytes e k = manager_event first bytes e.manager e k

delivery_of_event : (o : Option Sent) (number : ℕ) (e : Ends) (k : ℕ)
    → delivery_of o number (record e { event = k }) ≡ at_event k (delivery_of o number e)
unfolding arrives
delivery_of_event None number e k = refl
delivery_of_event (Some s) number e k = arrives_event s.direction (PacketCame number s ∷ []) s.bytes e k

delivery_event : (number k : ℕ) (n : Nodes)
    → delivery number (with_event k n) ≡ at_event k (delivery number n)
unfolding delivery
delivery_event number k n = delivery_of_event (allowed number n.link) number n.ends k

flow_one : (k number : ℕ) (n : Nodes) → oldest_fresh n ≡ Some number
    → flow 1 (with_event k n) ≡ at_event k (delivery number n)
unfolding flow
flow_one k number n e =
    let d : Step = delivery number n in
    ap (λ o. flow_from o (flow zero) (with_event k n)) e
    ∙ ap (λ (s : Step). let x : Step = record { ends = s.ends; happenings = s.happenings ++ [] } in x) (delivery_event number k n)
    ∙ ap (λ (hs : List Happening). let x : Step = record { ends = record d.ends { event = k }; happenings = hs } in x) (append-nil d.happenings)

-- ---- a line more

all_more : {X : Type 0} (P : X → Type 0) (xs : List X) (x : X) → All P xs → P x
    → All P (xs ++ x ∷ [])
all_more P [] x h p = All-cons P x [] p (All-nil P)
all_more P (y ∷ ys) x h p =
    All-cons P y (ys ++ x ∷ []) (All-head P y ys h) (all_more P ys x (All-tail P y ys h) p)

nodes_more : (actions : List Action) (a : Action) (n : Nodes)
    → nodes_after (actions ++ a ∷ []) n ≡ (step a (nodes_after actions n)).nodes
unfolding nodes_after
nodes_more [] a n = refl
nodes_more (b ∷ rest) a n = nodes_more rest a (step b n).nodes

told_more : (actions : List Action) (a : Action) (n : Nodes) (t : Told)
    → told_after (actions ++ a ∷ []) n t
    ≡ tell_all (step a (nodes_after actions n)).happenings (told_after actions n t)
unfolding told_after nodes_after
told_more [] a n t = refl
told_more (b ∷ rest) a n t = told_more rest a (step b n).nodes (tell_all (step b n).happenings t)

pub reach_step : (a : Action) (n : Nodes) (t : Told) → AreReached n t → IsAction a
    → AreReached (step a n).nodes (tell_all (step a n).happenings t)
reach_step a n t r allowed = record {
  header = r.header;
  low = r.low;
  high = r.high;
  actions = r.actions ++ a ∷ [];
  allowed = all_more IsAction r.actions a r.allowed allowed;
  nodes =
      nodes_more r.actions a (first_nodes r.header) ∙ ap (λ (m : Nodes). (step a m).nodes) r.nodes;
  told =
      told_more r.actions a (first_nodes r.header) first_told
      ∙ ap (λ (m : Nodes). tell_all (step a m).happenings (told_after r.actions (first_nodes r.header) first_told)) r.nodes
      ∙ ap (λ u. tell_all (step a n).happenings u) r.told;
}

-- in the middle of a flow
turn_is : (k number : ℕ) (n : Nodes) → oldest_fresh n ≡ Some number
    → step (Flow 1) (with_event k n)
    ≡ turn_of (at_event (k + 1) (delivery number n)) (with_event k n)
unfolding step acted
turn_is k number n e = ap (λ s. turn_of s (with_event k n)) (flow_one (k + 1) number n e)

pub reach_fresh : (k number : ℕ) (n : Nodes) (t : Told) → oldest_fresh n ≡ Some number
    → AreReached (with_event k n) t
    → AreReached (with_event (k + 1) (nodes_after_step (delivery number n) n)) (tell_all (delivery number n).happenings t)
reach_fresh k number n t e r =
    subst (λ (x : Turn). AreReached x.nodes (tell_all x.happenings t)) (turn_is k number n e)
    (reach_step (Flow 1) (with_event k n) t r ((omega arith, omega arith), tt))

-- ---- what is known of the next packets

module _ (p : Promises) where
  pub linked_of : (k : ℕ) (n : Nodes) (t : Told) → AreReached (with_event k n) t → Linked n t
  linked_of k n t r = record {
    waited = λ number s u on may way m note managed proved lane does.
        let x = p.awaited Low (with_event k n) t number s u m r managed proved
        (record { comes = record { may = may; goes = way; in_lane = lane }; on = on; note = note; does = does }) in
        record { waiting = x.waiting; waits = x.waits; name = x.name; among = x.bytes };
    heard = λ number s m managed may way w waits same lane probe.
        let taken : MayBeTaken Low (with_event k n) number s m w = record { comes = record { may = may; goes = way; in_lane = lane }; on = managed; waits = waits; same = same } in
        record {
          carried = p.carried Low (with_event k n) t number s m w r taken probe;
          last = p.reply Low (with_event k n) t number s m w r taken probe;
        };
  }

  -- ---- a flow

  flow_by : (o : Option ℕ) (times k : ℕ) (n : Nodes) (t : Told) → oldest_fresh n ≡ o → Fine n t
      → AreReached (with_event k n) t
      → ((m : Nodes) (u : Told) (j : ℕ) → Fine m u → AreReached (with_event j m) u → StepFine (flow times m) m u)
      → StepFine (flow_from o (flow times) n) n t
  flow_by None times k n t e f r rest = record { good = f.good }
  flow_by (Some number) times k n t e f r rest =
      let d : Step = delivery number n in
      let m : Nodes = nodes_after_step d n in
      both_fine d (flow times m) n t
      (rest m (tell_all d.happenings t) (k + 1) (delivery_fine number n t f (linked_of k n t r)) (reach_fresh k number n t e r))

  flow_fine : (times : ℕ) (n : Nodes) (t : Told) (k : ℕ) → Fine n t → AreReached (with_event k n) t
      → StepFine (flow times n) n t
  unfolding flow
  flow_fine zero n t k f r = record { good = f.good }
  flow_fine (suc times) n t k f r = flow_by (oldest_fresh n) times k n t refl f r (flow_fine times)

  -- ---- lines

  acted_fine : (a : Action) (k : ℕ) (n : Nodes) (t : Told) → Fine n t → AreReached (with_event k n) t
      → IsAction a → StepFine (acted a n) n t
  unfolding acted
  acted_fine (Probe lane) k n t f r h = probe_fine n t f lane
  acted_fine (Reset lane) k n t f r h = submit_fine n t f lane sync_entity request.Reset refl
  acted_fine (Get lane entity mask) k n t f r h = submit_fine n t f lane entity (request.Get mask) refl
  acted_fine (Create lane entity values) k n t f r h = submit_fine n t f lane entity (request.Create (filled 32 values)) refl
  acted_fine (Set lane entity mask values) k n t f r h = submit_fine n t f lane entity (request.Set mask (filled 30 values)) refl
  acted_fine (Delete lane entity) k n t f r h = submit_fine n t f lane entity request.Delete refl
  acted_fine Resync k n t f r h = resync_fine n t f
  acted_fine Audit k n t f r h = audit_fine n t f
  acted_fine Check k n t f r h = check_fine n t f
  acted_fine (Activate lane slot) k n t f r h = submit_fine n t f lane (image_entity slot) (request.Activate 0) refl
  acted_fine (Commit lane slot) k n t f r h = submit_fine n t f lane (image_entity slot) request.Commit refl
  acted_fine (Reboot lane) k n t f r h = submit_fine n t f lane ONU_G (request.Reboot 0) refl
  acted_fine (Image slot asked check image) k n t f r h = image_fine n t f slot asked check image
  acted_fine (CutIn number call pick) k n t f r h = cut_delivery_fine call pick number n t f (linked_of k n t r)
  acted_fine (Deliver number) k n t f r h = delivery_fine number n t f (linked_of k n t r)
  acted_fine (Flow times) k n t f r h = flow_fine times n t k f r
  acted_fine (NoiseUnit bytes) k n t f r h = noise_fine Down bytes n t f (no_baseline bytes h.0.0)
  acted_fine (NoiseOlt bytes) k n t f r h = noise_fine Up bytes n t f (no_baseline bytes h.0.0)
  acted_fine Tick k n t f r h = second_fine n t f
  acted_fine (Sense entity number value) k n t f r h = sense_fine entity number value n t f
  acted_fine (Alarm entity bitmap) k n t f r h = alarm_fine entity (filled BITMAP_BYTES bitmap) n t f
  acted_fine CutUnit k n t f r h = cut_unit_fine n t f n.ends.unit
  acted_fine CutOlt k n t f r h = cut_manager_fine n t f n.ends.manager
  acted_fine StartUnit k n t f r h = start_unit_fine n t f n.ends.unit
  acted_fine (StartOlt low high) k n t f r h = start_manager_fine n t f low high n.ends.manager (record { some = h.0.0; most = h.0.1 })

  step_fine : (a : Action) (n : Nodes) (t : Told) → Fine n t → AreReached n t → IsAction a
      → Fine (step a n).nodes (tell_all (step a n).happenings t)
  unfolding step
  step_fine a n t f r h =
      let k = acted_fine a n.ends.event (next_event n) t (record { good = f.good }) r h in
      record { good = k.good }

  script_fine : (actions : List Action) (n : Nodes) (t : Told) → Fine n t → AreReached n t
      → All IsAction actions → Fine (nodes_after actions n) (told_after actions n t)
  unfolding nodes_after told_after
  script_fine [] n t f r h = f
  script_fine (a ∷ rest) n t f r h =
      let one = All-head IsAction a rest h in
      script_fine rest (step a n).nodes (tell_all (step a n).happenings t) (step_fine a n t f r one)
      (reach_step a n t r one) (All-tail IsAction a rest h)

  pub first_reached : (h : Header) → IsNumber h.low → IsNumber h.high
      → AreReached (first_nodes h) first_told
  unfolding nodes_after told_after
  first_reached h a b = record {
    header = h;
    low = a;
    high = b;
    actions = [];
    allowed = All-nil IsAction;
    nodes = refl;
    told = refl;
  }

  all_fine : (h : Header) (actions : List Action) → IsNumber h.low → IsNumber h.high
      → All IsAction actions
      → Fine (nodes_after actions (first_nodes h)) (told_after actions (first_nodes h) first_told)
  all_fine h actions a b f =
      script_fine actions (first_nodes h) first_told (first_fine h a) (first_reached h a b) f

  -- each copy is what its upload put by last
  pub history_synced : (h : Header) (actions : List Action) → IsNumber h.low → IsNumber h.high
      → All IsAction actions → SyncedRight (history_of h actions)
  history_synced h actions a b f = (all_fine h actions a b f).good.right

  pub reached_fine : (n : Nodes) (t : Told) → AreReached n t → Fine n t
  reached_fine n t r =
      subst (λ m. Fine m t) r.nodes
      (subst (λ u. Fine (nodes_after r.actions (first_nodes r.header)) u) r.told
      (all_fine r.header r.actions r.low r.high r.allowed))

  -- a unit's database is whole
  pub reached_whole : (n : Nodes) (t : Told) (u : Onu) → AreReached n t → n.ends.unit ≡ Some u
      → IsWholeDatabase u.database
  reached_whole n t u r on = (reached_fine n t r).good.whole u on
