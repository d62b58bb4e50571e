-- A script keeps all, line by line. What the channel promises of the packets that may come next is
-- taken
-- from the laws of both ends.
use Rattle.std.proofs.Common.{◌≡◌, ℕ, zero, suc, ◌+◌, ◌<◌, ◌≤◌, ◌^◌, List, [], ◌∷◌, Option, Some}
use Rattle.std.proofs.Common.{None, refl, subst, ◌∙◌, arith}
use Rattle.std.proofs.lemmas.Bool.{false≢true}
use Rattle.std.proofs.lemmas.List.Elements.{All-nil, All-head, All-tail}
use Rattle.std.specs.List.{All}
use Rattle.omci_types.specs.declared.EntityId.{EntityId}
use Rattle.omci_types.specs.declared.Priority.{Priority}
use Rattle.tci_spec.specs.Tci.{IsNumber}
use Rattle.frame_spec.specs.Baseline.{IsBytes}
use Rattle.frame_spec.specs.Widths.{filled}
use Rattle.message_spec.specs.declared.Request.TheVariants as request
use Rattle.alarm_spec.specs.declared.TheConstants.{BITMAP_BYTES}
use Rattle.script_spec.specs.Script.{Header, Action, Probe, Reset, Get, Create, Set, Delete, Resync}
use Rattle.script_spec.specs.Script.{Audit, Check, Deliver, Flow, NoiseUnit, NoiseOlt, Tick, Sense}
use Rattle.script_spec.specs.Script.{Alarm, CutUnit, CutOlt, StartUnit, StartOlt, IsAction}
use Rattle.script_spec.specs.Script.{Activate, Commit, Reboot, Image, CutIn}
use Rattle.link_spec.specs.declared.Direction.TheVariants.{Down, Up}
use Rattle.link_spec.specs.Link.{Sent, allowed}
use Rattle.lane_spec.specs.Command.{sync_entity, ask}
use Rattle.lane_spec.specs.Lane.{Waiting}
use Rattle.manager_spec.specs.Manager.{Manager}
use Rattle.unit_spec.specs.Onu.{Onu}
use Rattle.history_spec.specs.History.{WasCarried, LastReply}
use Rattle.world_spec.specs.Ends.{Step}
use Rattle.world_spec.specs.Nodes.{Nodes, first_nodes, delivery, nodes_after_step, flow_from}
use Rattle.world_spec.specs.Nodes.{oldest_fresh, flow, acted, next_event, step, nodes_after}
use Rattle.world_spec.specs.History.{Told, first_told, drawn_in, name_at, tell_all, told_after}
use Rattle.world_laws.specs.Facts.{AreReached, MayCome, MayBeCarriedOut, MayBeTaken}
use Rattle.world_laws.proofs.Reading.{no_baseline}
use Rattle.resync_laws.proofs.Lines.{Fine, StepFine}
use Rattle.resync_laws.proofs.Runs.{Promises, with_event, reach_step, reach_fresh, reached_fine}
use Rattle.step_laws.proofs.Coming.{as_many}
use Rattle.step_laws.proofs.Reading.{IsExact, create_exact, set_exact, delete_exact, reset_exact}
use Rattle.step_laws.proofs.Reading.{commit_exact, activate_exact, reboot_exact}
use Rattle.unit_spec.specs.declared.TheConstants.{ONU_G}
use Rattle.manager_spec.specs.Upgrade.{image_entity}
use Rattle.step_laws.proofs.Turns.{out_is}
use Rattle.step_laws.proofs.Hearing.{IsHeard, last_is}
use Rattle.step_laws.proofs.Lines.{Sures, StepSure, both_sure, probe_sure, submit_sure, check_sure}
use Rattle.step_laws.proofs.Lines.{resync_sure, audit_sure, sense_sure, alarm_sure, second_sure}
use Rattle.step_laws.proofs.Lines.{cut_unit_sure, cut_manager_sure, start_unit_sure}
use Rattle.step_laws.proofs.Lines.{start_manager_sure, noise_sure, Linked, delivery_sure, image_sure}
use Rattle.step_laws.proofs.Lines.{cut_delivery_sure}
use Rattle.step_laws.proofs.Lines.{first_sure}

-- ---- what the channel promises besides

abbrev pub Fresh : Type 0
Fresh =
    (lane : Priority) (n : Nodes) (t : Told) (number : ℕ) (s : Sent) (u : Onu) → AreReached n t
    → MayBeCarriedOut lane n number s u
    → WasCarried n.ends.lives (name_at number t.names) t.history → ⊥

abbrev pub Own : Type 0
Own =
    (lane : Priority) (n : Nodes) (t : Told) (number : ℕ) (s : Sent) (m : Manager) (w : Waiting)
    → AreReached n t → MayBeTaken lane n number s m w → name_at number t.names ≡ drawn_in lane t

abbrev pub Older : Type 0
Older =
    (lane : Priority) (n : Nodes) (t : Told) (up down : ℕ) (r s : Sent) → AreReached n t
    → MayCome Up lane n up r → MayCome Down lane n down s
    → name_at up t.names ≤ name_at down t.names

pub record Channel : Type 0 where
  pub promises : Promises
  pub fresh : Fresh
  pub own : Own
  pub older : Older

-- ---- lines that submit a change are exact

abbrev IsByte : ℕ → Type 0
IsByte b = b < 256

bytes_of : (values : List ℕ) → All IsByte values → IsBytes values
bytes_of [] h place = omega arith
bytes_of (v ∷ values) h zero = All-head IsByte v values h
bytes_of (v ∷ values) h (suc place) = bytes_of values (All-tail IsByte v values h) place

reads_create : (lane : Priority) (entity : EntityId) (values : List ℕ)
    → IsAction (Create lane entity values)
    → (tci : ℕ) → tci < 2 ^ 16 → IsExact tci (ask entity (request.Create (filled 32 values)))
reads_create lane entity values h tci fits =
    create_exact tci (ask entity (request.Create (filled 32 values))) values refl fits
    (record {
      class = let a = h.1.0.1 in omega (arith, a);
      instance = let a = h.1.1.0.1 in
          omega (arith, a);
    })
    h.1.1.1.0.1.few (bytes_of values h.1.1.1.0.1.bytes)

reads_set : (lane : Priority) (entity : EntityId) (mask : ℕ) (values : List ℕ)
    → IsAction (Set lane entity mask values)
    → (tci : ℕ) → tci < 2 ^ 16 → IsExact tci (ask entity (request.Set mask (filled 30 values)))
reads_set lane entity mask values h tci fits =
    set_exact tci (ask entity (request.Set mask (filled 30 values))) mask values refl fits
    (record {
      class = let a = h.1.0.1 in omega (arith, a);
      instance = let a = h.1.1.0.1 in
          omega (arith, a);
    })
    (let a = h.1.1.1.0 in omega (arith, a)) h.1.1.1.1.0.1.few (bytes_of values h.1.1.1.1.0.1.bytes)

reads_delete : (lane : Priority) (entity : EntityId) → IsAction (Delete lane entity)
    → (tci : ℕ) → tci < 2 ^ 16 → IsExact tci (ask entity request.Delete)
reads_delete lane entity h tci fits =
    delete_exact tci (ask entity request.Delete) refl fits
    (record {
      class = let a = h.1.0.1 in omega (arith, a);
      instance = let a = h.1.1.0.1 in
          omega (arith, a);
    })

reads_commit : (lane : Priority) (slot : ℕ) → IsAction (Commit lane slot)
    → (tci : ℕ) → tci < 2 ^ 16 → IsExact tci (ask (image_entity slot) request.Commit)
reads_commit lane slot h tci fits =
    commit_exact tci (ask (image_entity slot) request.Commit) refl fits
    (record { class = omega arith; instance = let a = h.1.0 in omega (arith, a) })

reads_activate : (lane : Priority) (slot : ℕ) → IsAction (Activate lane slot)
    → (tci : ℕ) → tci < 2 ^ 16 → IsExact tci (ask (image_entity slot) (request.Activate 0))
reads_activate lane slot h tci fits =
    activate_exact tci (ask (image_entity slot) (request.Activate 0)) refl fits
    (record { class = omega arith; instance = let a = h.1.0 in omega (arith, a) })

reads_reboot : (tci : ℕ) → tci < 2 ^ 16 → IsExact tci (ask ONU_G (request.Reboot 0))
reads_reboot tci fits =
    reboot_exact tci (ask ONU_G (request.Reboot 0)) refl fits
    (record { class = omega arith; instance = omega arith })

reads_reset : (tci : ℕ) → tci < 2 ^ 16 → IsExact tci (ask sync_entity request.Reset)
reads_reset tci fits =
    reset_exact tci (ask sync_entity request.Reset) refl fits
    (record { class = omega arith; instance = omega arith })

module _ (c : Channel) where
  fine_of : (k : ℕ) (n : Nodes) (t : Told) → AreReached (with_event k n) t → Fine n t
  fine_of k n t r = let f = reached_fine c.promises (with_event k n) t r in
      record { good = f.good }

  -- ---- what is known of the next packets

  heard_of : (k : ℕ) (n : Nodes) (t : Told) → AreReached (with_event k n) t
      → (number : ℕ) (s : Sent) (m : Manager)
      → n.ends.manager ≡ Some m → allowed number n.link ≡ Some s → s.direction ≡ Up
      → IsHeard n.link n.ends.lives m t s.bytes
  heard_of k n t r number s m managed may way l w waits same lane =
      let x : Nodes = with_event k n in
      let taken : MayBeTaken l x number s m w = record {
        comes = record { may = may; goes = way; in_lane = lane };
        on = managed;
        waits = out_is l m ∙ waits;
        same = same;
      } in
      record {
        own = λ probe. record {
          carried = subst (λ q. WasCarried n.ends.lives q t.history) (last_is l t)
              (c.promises.carried l x t number s m w r taken probe);
          reply = subst (λ q. LastReply q s.bytes t.history) (last_is l t)
              (c.promises.reply l x t number s m w r taken probe);
        };
        fence = λ i y allowed_down goes in_lane.
            subst (λ q. q ≤ name_at i t.names) (c.own l x t number s m w r taken ∙ last_is l t)
            (c.older l x t number i s y r taken.comes
            (record { may = allowed_down; goes = goes; in_lane = in_lane }));
      }

  linked_of : (k : ℕ) (n : Nodes) (t : Told) → AreReached (with_event k n) t → Linked n t
  linked_of k n t r = record {
    fresh = λ number s u note on may way does.
        c.fresh _ (with_event k n) t number s u r
        (record {
          comes = record { may = may; goes = way; in_lane = refl };
          on = on;
          note =
              note;
          does = does;
        });
    heard = heard_of k n t r;
  }

  -- ---- a flow

  flow_by : (o : Option ℕ) (times k : ℕ) (n : Nodes) (t : Told) → oldest_fresh n ≡ o → Sures n t
      → AreReached (with_event k n) t
      → ((m : Nodes) (u : Told) (j : ℕ) → Sures m u → AreReached (with_event j m) u
      → StepSure (flow times m) m u)
      → StepSure (flow_from o (flow times) n) n t
  flow_by None times k n t e f r rest = record { steady = f.steady; kept = f.kept }
  flow_by (Some number) times k n t e f r rest =
      let d : Step = delivery number n in
      let m : Nodes = nodes_after_step d n in
      let u : Told = tell_all d.happenings t in
      let after = reach_fresh k number n t e r in
      both_sure d (flow times m) n t
      (rest m u (k + 1) (delivery_sure number n t f (fine_of k n t r) (linked_of k n t r)
      (fine_of (k + 1) m u after)) after)

  flow_sure : (times : ℕ) (n : Nodes) (t : Told) (k : ℕ) → Sures n t → AreReached (with_event k n) t
      → StepSure (flow times n) n t
  unfolding flow
  flow_sure zero n t k f r = record { steady = f.steady; kept = f.kept }
  flow_sure (suc times) n t k f r = flow_by (oldest_fresh n) times k n t refl f r (flow_sure times)

  -- ---- lines

  acted_sure : (a : Action) (k : ℕ) (n : Nodes) (t : Told) → Sures n t
      → AreReached (with_event k n) t
      → IsAction a → StepFine (acted a n) n t → StepSure (acted a n) n t
  unfolding acted
  acted_sure (Probe lane) k n t f r h after = probe_sure n t f (fine_of k n t r) lane
  acted_sure (Reset lane) k n t f r h after =
      submit_sure n t f (fine_of k n t r) lane sync_entity request.Reset refl (λ e. reads_reset)
  acted_sure (Get lane entity mask) k n t f r h after =
      submit_sure n t f (fine_of k n t r) lane entity (request.Get mask) refl
      (λ e. absurd (false≢true e))
  acted_sure (Create lane entity values) k n t f r h after =
      submit_sure n t f (fine_of k n t r) lane entity (request.Create (filled 32 values)) refl
      (λ e. reads_create lane entity values h)
  acted_sure (Set lane entity mask values) k n t f r h after =
      submit_sure n t f (fine_of k n t r) lane entity (request.Set mask (filled 30 values)) refl
      (λ e. reads_set lane entity mask values h)
  acted_sure (Delete lane entity) k n t f r h after =
      submit_sure n t f (fine_of k n t r) lane entity request.Delete refl
      (λ e. reads_delete lane entity h)
  acted_sure (Activate lane slot) k n t f r h after =
      submit_sure n t f (fine_of k n t r) lane (image_entity slot) (request.Activate 0) refl
      (λ e. reads_activate lane slot h)
  acted_sure (Commit lane slot) k n t f r h after =
      submit_sure n t f (fine_of k n t r) lane (image_entity slot) request.Commit refl
      (λ e. reads_commit lane slot h)
  acted_sure (Reboot lane) k n t f r h after =
      submit_sure n t f (fine_of k n t r) lane ONU_G (request.Reboot 0) refl (λ e. reads_reboot)
  acted_sure (Image slot asked check image) k n t f r h after =
      image_sure n t f (fine_of k n t r) slot asked check image
  acted_sure (CutIn number call pick) k n t f r h after =
      cut_delivery_sure call pick number n t f (fine_of k n t r) (linked_of k n t r)
  acted_sure Resync k n t f r h after = resync_sure n t f (fine_of k n t r)
  acted_sure Audit k n t f r h after = audit_sure n t f (fine_of k n t r)
  acted_sure (Sense entity number value) k n t f r h after = sense_sure entity number value n t f
  acted_sure (Alarm entity bitmap) k n t f r h after =
      alarm_sure entity (filled BITMAP_BYTES bitmap) n t f
  acted_sure Check k n t f r h after = check_sure n t f (fine_of k n t r)
  acted_sure (Deliver number) k n t f r h after =
      delivery_sure number n t f (fine_of k n t r) (linked_of k n t r) after
  acted_sure (Flow times) k n t f r h after = flow_sure times n t k f r
  acted_sure (NoiseUnit bytes) k n t f r h after =
      noise_sure Down bytes n t f (fine_of k n t r) (no_baseline bytes h.0.0)
  acted_sure (NoiseOlt bytes) k n t f r h after =
      noise_sure Up bytes n t f (fine_of k n t r) (no_baseline bytes h.0.0)
  acted_sure Tick k n t f r h after = second_sure n t f (fine_of k n t r)
  acted_sure CutUnit k n t f r h after = cut_unit_sure n t f (fine_of k n t r) n.ends.unit
  acted_sure CutOlt k n t f r h after = cut_manager_sure n t f (fine_of k n t r) n.ends.manager
  acted_sure StartUnit k n t f r h after = start_unit_sure n t f (fine_of k n t r) n.ends.unit
  acted_sure (StartOlt low high) k n t f r h after =
      let g = (fine_of k n t r).good in
      start_manager_sure n t f (fine_of k n t r) low high n.ends.manager
      (record { some = h.0.0; most = h.0.1 }) (record { some = h.1.0.0; most = h.1.0.1 })
      (as_many _ n.link.packets t.names g.sent) g.carried

  step_sure : (a : Action) (n : Nodes) (t : Told) → Sures n t → AreReached n t → IsAction a
      → Sures (step a n).nodes (tell_all (step a n).happenings t)
  unfolding step
  step_sure a n t f r h =
      let g = reached_fine c.promises _ _ (reach_step a n t r h) in
      let k = acted_sure a n.ends.event (next_event n) t
      (record { steady = f.steady; kept = f.kept }) r h
      (record { good = g.good }) in
      record { steady = k.steady; kept = k.kept }

  script_sure : (actions : List Action) (n : Nodes) (t : Told) → Sures n t → AreReached n t
      → All IsAction actions → Sures (nodes_after actions n) (told_after actions n t)
  unfolding nodes_after told_after
  script_sure [] n t f r h = f
  script_sure (a ∷ rest) n t f r h =
      let one = All-head IsAction a rest h in
      script_sure rest (step a n).nodes (tell_all (step a n).happenings t) (step_sure a n t f r one)
      (reach_step a n t r one) (All-tail IsAction a rest h)

  first_reached : (h : Header) → IsNumber h.low → IsNumber h.high
      → AreReached (first_nodes h) first_told
  unfolding nodes_after told_after
  first_reached h a b = record {
    header = h;
    low = a;
    high = b;
    actions = [];
    allowed = All-nil IsAction;
    nodes = refl;
    told = refl;
  }

  pub reached_sure : (n : Nodes) (t : Told) → AreReached n t → Sures n t
  reached_sure n t r =
      let h = r.header in
      let all = script_sure r.actions (first_nodes h) first_told (first_sure h r.low r.high)
      (first_reached h r.low r.high) r.allowed in
      subst (λ m. Sures m t) r.nodes (subst
      (λ u. Sures (nodes_after r.actions (first_nodes h)) u) r.told all)
