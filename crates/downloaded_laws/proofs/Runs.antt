-- A script keeps all well, line by line.
use Rattle.std.proofs.Common.{◌≡◌, ℕ, zero, suc, ◌+◌, ◌<◌, ◌^◌, List, [], ◌∷◌, Option, Some, None, refl, arith}
use Rattle.std.proofs.lemmas.List.Elements.{All-head, All-tail}
use Rattle.std.specs.List.{All}
use Rattle.omci_types.specs.declared.Priority.TheVariants.{Low}
use Rattle.tci_spec.specs.Tci.{IsNumber}
use Rattle.message_spec.specs.declared.Request.TheVariants as request
use Rattle.frame_spec.specs.Widths.{filled}
use Rattle.frame_laws.proofs.Lengths.{crc-lt}
use Rattle.alarm_spec.specs.declared.TheConstants.{BITMAP_BYTES}
use Rattle.script_spec.specs.Fields.{FitsCheck, IsBytes as IsBytesOf}
use Rattle.frame_spec.specs.Baseline.{IsBytes}
use Rattle.script_spec.specs.Script.{Header, Action, Probe, Reset, Get, Create, Set, Delete, Activate, Commit, Reboot, Resync, Audit, Check, Image, Deliver, Flow, CutIn, NoiseUnit, NoiseOlt, Tick, Sense, Alarm, CutUnit, CutOlt, StartUnit, StartOlt, IsAction}
use Rattle.link_spec.specs.declared.Direction.TheVariants.{Down, Up}
use Rattle.link_spec.specs.Link.{lane_of}
use Rattle.lane_spec.specs.Command.{sync_entity}
use Rattle.unit_spec.specs.declared.TheConstants.{ONU_G}
use Rattle.manager_spec.specs.Submitting.{check_given}
use Rattle.manager_spec.specs.Upgrade.{image_entity}
use Rattle.history_spec.specs.History.{DownloadedRight}
use Rattle.world_spec.specs.Ends.{Step}
use Rattle.world_spec.specs.Nodes.{Nodes, first_nodes, delivery, nodes_after_step, flow_from, oldest_fresh, flow, acted, next_event, step, nodes_after}
use Rattle.world_spec.specs.History.{Told, first_told, tell_all, told_after, history_of}
use Rattle.world_laws.specs.Facts.{AreReached}
use Rattle.world_laws.proofs.Reading.{no_baseline}
use Rattle.world_laws.proofs.Reached.{channel_for, served_fresh, served_awaited}
use Rattle.resync_laws.proofs.Lines.{Fine}
use Rattle.resync_laws.proofs.Runs.{Promises, with_event, linked_of, reach_step, reach_fresh, first_reached, reached_fine}
use Rattle.downloaded_laws.proofs.Reading.{IsOrder}
use Rattle.downloaded_laws.proofs.Lines.{NodesGood, StepGood, both_good, probe_line, submit_line, check_line, resync_line, audit_line, image_line, second_line, cut_unit_line, cut_manager_line, start_unit_line, start_manager_line, sense_line, alarm_line, noise_line, Expected, delivery_line, cut_delivery_line, first_good}

-- ---- the ranges of a download

bytes_fit : (image : List ℕ) → IsBytesOf image → IsBytes image
bytes_fit [] h place = omega arith
bytes_fit (b ∷ image) h zero = All-head (λ x. x < 256) b image h
bytes_fit (b ∷ image) h (suc place) = bytes_fit image (All-tail (λ x. x < 256) b image h) place

check_fits : (check : Option ℕ) (image : List ℕ) → FitsCheck check
    → check_given check image < 2 ^ 32
check_fits None image h = crc-lt image
check_fits (Some check) image h = h

order_fits : (slot asked : ℕ) (check : Option ℕ) (image : List ℕ)
    → IsAction (Image slot asked check image)
    → IsOrder (record { slot = slot; check = check_given check image }) image
order_fits slot asked check image h =
    let few = h.1.1.1.0.1.few in
    record {
      slot = h.0.1;
      check = check_fits check image h.1.1.0;
      some = h.1.1.1.0.0;
      most = omega (arith, few);
      bytes = bytes_fit image h.1.1.1.0.1.bytes;
    }

module _ (p : Promises) where
  -- what the channel keeps, at any line
  fine_at : (k : ℕ) (n : Nodes) (t : Told) → AreReached (with_event k n) t → Fine n t
  fine_at k n t r =
      let f = reached_fine p (with_event k n) t r in
      record { good = f.good }

  -- and what it promises of the next packets
  expected_at : (k : ℕ) (n : Nodes) (t : Told) → AreReached (with_event k n) t → Expected n t
  expected_at k n t r = record {
    linked = linked_of p k n t r;
    served = λ number s u on may way. record {
      fresh = λ f read unkept.
          served_fresh (lane_of s.bytes) (with_event k n) t number s u
          (channel_for (with_event k n) t r)
          (record {
            comes = record { may = may; goes = way; in_lane = refl };
            on = on;
            frame = f;
            read = read;
            unkept = unkept;
          });
      waited = λ m f managed proved lane read unkept.
          let x = served_awaited Low (with_event k n) t number s u m
          (channel_for (with_event k n) t r) managed proved
          (record {
            comes = record { may = may; goes = way; in_lane = lane };
            on = on;
            frame = f;
            read = read;
            unkept = unkept;
          }) in
          record { waiting = x.waiting; waits = x.waits; name = x.name; among = x.bytes };
    };
  }

  -- ---- a flow

  flow_by : (o : Option ℕ) (times k : ℕ) (n : Nodes) (t : Told) → oldest_fresh n ≡ o → NodesGood n t
      → AreReached (with_event k n) t
      → ((m : Nodes) (u : Told) (j : ℕ) → NodesGood m u → AreReached (with_event j m) u
      → StepGood (flow times m) u)
      → StepGood (flow_from o (flow times) n) t
  flow_by None times k n t e g r rest = g
  flow_by (Some number) times k n t e g r rest =
      let d : Step = delivery number n in
      let m : Nodes = nodes_after_step d n in
      both_good d (flow times m) t
      (rest m (tell_all d.happenings t) (k + 1)
      (delivery_line number n t (fine_at k n t r) g (expected_at k n t r))
      (reach_fresh k number n t e r))

  flow_line : (times : ℕ) (n : Nodes) (t : Told) (k : ℕ) → NodesGood n t
      → AreReached (with_event k n) t → StepGood (flow times n) t
  unfolding flow
  flow_line zero n t k g r = g
  flow_line (suc times) n t k g r = flow_by (oldest_fresh n) times k n t refl g r (flow_line times)

  -- ---- lines

  acted_line : (a : Action) (k : ℕ) (n : Nodes) (t : Told) → NodesGood n t
      → AreReached (with_event k n) t → IsAction a → StepGood (acted a n) t
  unfolding acted
  acted_line (Probe lane) k n t g r h = probe_line n t (fine_at k n t r) g lane
  acted_line (Reset lane) k n t g r h =
      submit_line n t (fine_at k n t r) g lane sync_entity request.Reset
  acted_line (Get lane entity mask) k n t g r h =
      submit_line n t (fine_at k n t r) g lane entity (request.Get mask)
  acted_line (Create lane entity values) k n t g r h =
      submit_line n t (fine_at k n t r) g lane entity (request.Create (filled 32 values))
  acted_line (Set lane entity mask values) k n t g r h =
      submit_line n t (fine_at k n t r) g lane entity (request.Set mask (filled 30 values))
  acted_line (Delete lane entity) k n t g r h =
      submit_line n t (fine_at k n t r) g lane entity request.Delete
  acted_line Resync k n t g r h = resync_line n t (fine_at k n t r) g
  acted_line Audit k n t g r h = audit_line n t (fine_at k n t r) g
  acted_line Check k n t g r h = check_line n t (fine_at k n t r) g
  acted_line (Activate lane slot) k n t g r h =
      submit_line n t (fine_at k n t r) g lane (image_entity slot) (request.Activate 0)
  acted_line (Commit lane slot) k n t g r h =
      submit_line n t (fine_at k n t r) g lane (image_entity slot) request.Commit
  acted_line (Reboot lane) k n t g r h =
      submit_line n t (fine_at k n t r) g lane ONU_G (request.Reboot 0)
  acted_line (Image slot asked check image) k n t g r h =
      image_line n t (fine_at k n t r) g slot asked check image
      (order_fits slot asked check image h) h.1.0.0 h.1.0.1
  acted_line (CutIn number call pick) k n t g r h =
      cut_delivery_line call pick number n t (fine_at k n t r) g (expected_at k n t r)
  acted_line (Deliver number) k n t g r h =
      delivery_line number n t (fine_at k n t r) g (expected_at k n t r)
  acted_line (Flow times) k n t g r h = flow_line times n t k g r
  acted_line (NoiseUnit bytes) k n t g r h =
      noise_line Down bytes n t (fine_at k n t r) g (no_baseline bytes h.0.0)
  acted_line (NoiseOlt bytes) k n t g r h =
      noise_line Up bytes n t (fine_at k n t r) g (no_baseline bytes h.0.0)
  acted_line Tick k n t g r h = second_line n t (fine_at k n t r) g
  acted_line (Sense entity number value) k n t g r h = sense_line entity number value n.ends t g
  acted_line (Alarm entity bitmap) k n t g r h =
      alarm_line entity (filled BITMAP_BYTES bitmap) n.ends t g
  acted_line CutUnit k n t g r h = cut_unit_line n.ends.unit n.ends t g
  acted_line CutOlt k n t g r h = cut_manager_line n.ends.manager n.ends t g
  acted_line StartUnit k n t g r h = start_unit_line n.ends.unit n.ends t g
  acted_line (StartOlt low high) k n t g r h =
      start_manager_line low high n.ends.manager n.ends t g

  step_good : (a : Action) (n : Nodes) (t : Told) → NodesGood n t → AreReached n t → IsAction a
      → NodesGood (step a n).nodes (tell_all (step a n).happenings t)
  unfolding step
  step_good a n t g r h = acted_line a n.ends.event (next_event n) t g r h

  script_good : (actions : List Action) (n : Nodes) (t : Told) → NodesGood n t → AreReached n t
      → All IsAction actions → NodesGood (nodes_after actions n) (told_after actions n t)
  unfolding nodes_after told_after
  script_good [] n t g r h = g
  script_good (a ∷ rest) n t g r h =
      let one = All-head IsAction a rest h in
      script_good rest (step a n).nodes (tell_all (step a n).happenings t) (step_good a n t g r one)
      (reach_step a n t r one) (All-tail IsAction a rest h)

  -- what was checked last for each download that has ended is its image
  pub history_downloaded : (h : Header) (actions : List Action) → IsNumber h.low → IsNumber h.high
      → All IsAction actions → DownloadedRight (history_of h actions)
  history_downloaded h actions a b f =
      (script_good actions (first_nodes h) first_told (first_good h) (first_reached p h a b) f).right
