-- Deliveries one after the other: what has happened so far, and what is left.
use Rattle.std.proofs.Common.{◌≡◌, subst, ℕ, zero, suc, ◌+◌, List, [], ◌∷◌, ◌++◌, Option, Some, None, is_some, refl, sym, ◌∙◌, ap, append_assoc}
use Rattle.std.proofs.lemmas.List.{append-nil}
use Rattle.unit_spec.specs.Onu.{Onu}
use Rattle.unit_spec.specs.Noticing.{Noticing}
use Rattle.link_spec.specs.declared.Direction.{Direction}
use Rattle.link_spec.specs.declared.Direction.TheVariants.{Down, Up}
use Rattle.link_spec.specs.Link.{Sent, Link, count, allowed}
use Rattle.link_spec.specs.Held.{Held, held_of, held_allowed, held_fresh, held_sent}
use Rattle.link_laws.proofs.Held.{held_of-allowed, held_of-fresh}
use Rattle.omci_types.specs.declared.Boot.{Boot}
use Rattle.slot_spec.specs.declared.Pick.{Pick}
use Rattle.manager_spec.specs.declared.Refusal.{Refusal}
use Rattle.manager_spec.specs.Manager.{Manager, Outcome}
use Rattle.manager_spec.specs.Submitting.{Submission}
use Rattle.script_spec.specs.Script.{Action, Probe, Reset, Get, Create, Set, Delete, Activate, Commit, Reboot, Image, CutIn, Resync, Audit, Check, Deliver, Flow, NoiseUnit, NoiseOlt, Tick, Sense, Alarm, CutUnit, CutOlt, StartUnit, StartOlt}
use Rattle.world_spec.specs.Happenings.{Happening, UnitStarted, ManagerStarted, PacketCame, PacketSent, on_link, link_read, on_held, held_read, next_after, next_after_all}
use Rattle.world_spec.specs.Ends.{Ends, Step, restarts, cut_in, cut_at, unit_cut_amid, still, unit_got, manager_got, arrives, arrives_at, noise, second, manager_ticks, unit_ticks, unit_notices, submission, submission_by, cut_unit, cut_manager, start_unit, start_manager}
use Rattle.world_spec.specs.Nodes.{Nodes, delivery_of, delivery, cut_of, cut_delivery, nodes_after_step, goes_on, flow_from, oldest_fresh, flow, acted, next_event, step}
use Rattle.world_spec.specs.Trace.{happening_text, lines_text, turn_text}
use Rattle.link_replay.specs.Seen.{Seen, EndsStand, Stands, UnitStands, Follows, Scene, Shown, shown, followed}
use Rattle.link_replay.proofs.Reading.{link_both, lines_both, next_both, held_reads, held_count}
use Rattle.link_replay.proofs.Following.{scene, follows_from, follows_shown}
use Rattle.link_replay.proofs.Deliveries.{unit_on}

-- ---- a delivery is part of its event

pub delivered_event : (o : Option Sent) (number : ℕ) (e : Ends) → (delivery_of o number e).ends.event ≡ e.event
unfolding arrives
delivered_event None number e = refl
delivered_event (Some s) number e = at s.direction e.unit e.manager
  where
    by_unit : (o : Option Onu) → (unit_got (PacketCame number s ∷ []) s.bytes o e).ends.event ≡ e.event
    by_unit None = refl
    by_unit (Some u) = refl

    by_manager : (o : Option Manager) → (manager_got (PacketCame number s ∷ []) s.bytes o e).ends.event ≡ e.event
    by_manager None = refl
    by_manager (Some m) = refl

    at : (d : Direction) (u : Option Onu) (m : Option Manager) → (arrives_at d (PacketCame number s ∷ []) s.bytes e).ends.event ≡ e.event
    at Down u m = by_unit e.unit
    at Up u m = by_manager e.manager

-- ---- flows

abbrev pub nodes_of : Scene → Link → Nodes
nodes_of w l = record { ends = w.ends; link = l }

abbrev pub after_these : List Happening → Step → Step
after_these first s = record { ends = s.ends; happenings = first ++ s.happenings }

-- after some deliveries: what has happened, and that the whole flow is that and the flow of what is left
pub record FlowAt (times left : ℕ) (first now : Scene) (before text : List ℕ) (l : Link) : Type 0 where
  pub happened : List Happening
  pub event : now.ends.event ≡ first.ends.event
  pub held : now.held ≡ held_of (link_read happened l)
  pub next : now.held.count ≡ next_after_all happened first.held.count
  pub lines : text ≡ before ++ lines_text first.ends.event first.held.count happened
  pub whole : flow times (nodes_of first l) ≡ after_these happened (flow left (nodes_of now (link_read happened l)))

flow_begins_there : (times : ℕ) (first : Scene) (before : List ℕ) (l : Link) → first.held ≡ held_of l → FlowAt times times first first before before l
flow_begins_there times first before l same = record { happened = []; event = refl; held = same; next = refl; lines = sym (append-nil before); whole = refl }

flow_next : (left number : ℕ) (n : Nodes) → oldest_fresh n ≡ Some number → flow (suc left) n ≡ goes_on (flow left) (delivery number n) n
unfolding flow
flow_next left number n found = ap (λ o. flow_from o (flow left) n) found

flow_none : (left : ℕ) (n : Nodes) → oldest_fresh n ≡ None → flow left n ≡ still n.ends
unfolding flow
flow_none zero n none = refl
flow_none (suc left) n none = ap (λ o. flow_from o (flow left) n) none

flow_zero : (n : Nodes) → flow 0 n ≡ still n.ends
unfolding flow
flow_zero n = refl

-- what is found in what is held is found in the link
found_there : (w : Scene) (l : Link) → w.held ≡ held_of l → held_fresh (is_some w.ends.unit) (is_some w.ends.manager) w.held ≡ oldest_fresh (nodes_of w l)
found_there w l same = ap (held_fresh (is_some w.ends.unit) (is_some w.ends.manager)) same ∙ held_of-fresh (is_some w.ends.unit) (is_some w.ends.manager) l

delivered_there : (number : ℕ) (w : Scene) (l : Link) → w.held ≡ held_of l → delivery_of (held_allowed number w.held) number w.ends ≡ delivery number (nodes_of w l)
unfolding delivery
delivered_there number w l same = ap (λ o. delivery_of o number w.ends) (ap (held_allowed number) same ∙ held_of-allowed number l)

flow_goes_on_there : (times left number : ℕ) (first now after : Scene) (before text more : List ℕ) (l : Link) → FlowAt times (suc left) first now before text l → Some number ≡ held_fresh (is_some now.ends.unit) (is_some now.ends.manager) now.held → shown after more ≡ followed (delivery_of (held_allowed number now.held) number now.ends) now text → FlowAt times left first after before more l
flow_goes_on_there times left number first now after before text more l at found step =
    let link = link_read at.happened l in
    let n = nodes_of now link in
    let s = delivery number n in
    let is_s = delivered_there number now link at.held in
    let step' = step ∙ ap (λ t. followed t now text) is_s in
    let ends' : after.ends ≡ s.ends = ap (λ (x : Shown). x.scene.ends) step' in
    let held' : after.held ≡ held_read s.happenings now.held = ap (λ (x : Shown). x.scene.held) step' in
    let text' : more ≡ text ++ lines_text now.ends.event now.held.count s.happenings = ap (λ (x : Shown). x.text) step' in
    let reads : after.held ≡ held_of (link_read s.happenings link) = held' ∙ ap (held_read s.happenings) at.held ∙ sym (held_reads s.happenings link) in
    let all = at.happened ++ s.happenings in
    let link' : link_read s.happenings link ≡ link_read all l = sym (link_both at.happened s.happenings l) in
    let t = flow left (nodes_after_step s n) in
    record {
      happened = all;
      event = ap (λ (x : Ends). x.event) (ends' ∙ ap (λ (x : Step). x.ends) (sym is_s)) ∙ delivered_event (held_allowed number now.held) number now.ends ∙ at.event;
      held = reads ∙ ap held_of link';
      next = ap (λ (h : Held). h.count) held' ∙ held_count s.happenings now.held ∙ ap (next_after_all s.happenings) at.next ∙ sym (next_both at.happened s.happenings first.held.count);
      lines =
          text'
          ∙ ap (λ e. text ++ lines_text e now.held.count s.happenings) at.event
          ∙ ap (λ k. text ++ lines_text first.ends.event k s.happenings) at.next
          ∙ ap (λ b. b ++ lines_text first.ends.event (next_after_all at.happened first.held.count) s.happenings) at.lines
          ∙ append_assoc before (lines_text first.ends.event first.held.count at.happened) (lines_text first.ends.event (next_after_all at.happened first.held.count) s.happenings)
          ∙ ap (λ b. before ++ b) (sym (lines_both first.ends.event first.held.count at.happened s.happenings));
      whole =
          at.whole
          ∙ ap (after_these at.happened) (flow_next left number n (sym (found ∙ found_there now link at.held)))
          ∙ ap (λ hs. record { ends = t.ends; happenings = hs }) (sym (append_assoc at.happened s.happenings t.happenings))
          ∙ ap (λ m. after_these all (flow left m)) (ap (λ e. record { ends = e; link = link_read s.happenings link }) (sym ends') ∙ ap (λ k. nodes_of after k) link');
    }

-- the flow is at its end
flow_over : (times left : ℕ) (first now : Scene) (before text : List ℕ) (l : Link) → first.held ≡ held_of l → (at : FlowAt times left first now before text l) → flow left (nodes_of now (link_read at.happened l)) ≡ still now.ends → shown now text ≡ followed (flow times (nodes_of first l)) first before
flow_over times left first now before text l same at over =
    let whole : flow times (nodes_of first l) ≡ record { ends = now.ends; happenings = at.happened } =
    at.whole ∙ ap (after_these at.happened) over ∙ ap (λ hs. record { ends = now.ends; happenings = hs }) (append-nil at.happened) in
    let held : now.held ≡ held_read at.happened first.held = at.held ∙ held_reads at.happened l ∙ ap (held_read at.happened) (sym same) in
    ap (λ h. shown (record { ends = now.ends; held = h }) text) held
    ∙ ap (λ t. shown (record { ends = now.ends; held = held_read at.happened first.held }) t) at.lines
    ∙ ap (λ s. followed s first before) (sym whole)

flow_stops_there : (times left : ℕ) (first now : Scene) (before text : List ℕ) (l : Link) → first.held ≡ held_of l → FlowAt times left first now before text l → None ≡ held_fresh (is_some now.ends.unit) (is_some now.ends.manager) now.held → shown now text ≡ followed (flow times (nodes_of first l)) first before
flow_stops_there times left first now before text l same at none =
    let link = link_read at.happened l in
    flow_over times left first now before text l same at (flow_none left (nodes_of now link) (sym (none ∙ found_there now link at.held)))

flow_ends_there : (times : ℕ) (first now : Scene) (before text : List ℕ) (l : Link) → first.held ≡ held_of l → FlowAt times 0 first now before text l → shown now text ≡ followed (flow times (nodes_of first l)) first before
flow_ends_there times first now before text l same at =
    flow_over times 0 first now before text l same at (flow_zero (nodes_of now (link_read at.happened l)))

-- ---- deliveries over what is held are those over the link

cut_there : (call : ℕ) (pick : Pick) (number : ℕ) (w : Scene) (l : Link) → w.held ≡ held_of l
    → cut_of call pick (held_allowed number w.held) number w.ends ≡ cut_delivery call pick number (nodes_of w l)
unfolding cut_delivery
cut_there call pick number w l same =
    ap (λ o. cut_of call pick o number w.ends) (ap (held_allowed number) same ∙ held_of-allowed number l)

-- ---- the same of a world

pub delivered_on_link : (number : ℕ) (w new : Seen) (before after : List ℕ)
    → ((e : Ends) → EndsStand w e → Follows (delivery_of (held_allowed number w.held) number e) e w new before after)
    → (e : Ends) → EndsStand w e → (l : Link) → w.held ≡ held_of l
    → Follows (delivery number (record { ends = e; link = l })) e w new before after
delivered_on_link number w new before after step e s l same =
    subst (λ (t : Step). Follows t e w new before after) (delivered_there number (scene e w.held) l same) (step e s)

pub cut_on_link : (call : ℕ) (pick : Pick) (number : ℕ) (w new : Seen) (before after : List ℕ)
    → ((e : Ends) → EndsStand w e → Follows (cut_of call pick (held_allowed number w.held) number e) e w new before after)
    → (e : Ends) → EndsStand w e → (l : Link) → w.held ≡ held_of l
    → Follows (cut_delivery call pick number (record { ends = e; link = l })) e w new before after
cut_on_link call pick number w new before after step e s l same =
    subst (λ (t : Step). Follows t e w new before after) (cut_there call pick number (scene e w.held) l same) (step e s)

pub record FlowAtWorld (times left : ℕ) (first now : Seen) (before text : List ℕ) (e : Ends) (l : Link) : Type 0 where
  pub ends : Ends
  pub stands : EndsStand now ends
  pub at : FlowAt times left (scene e first.held) (scene ends now.held) before text l

abbrev pub FlowSoFar : (times left : ℕ) → (first now : Seen) → (before text : List ℕ) → Type 0
FlowSoFar times left first now before text =
    (e : Ends) → EndsStand first e → (l : Link) → first.held ≡ held_of l → FlowAtWorld times left first now before text e l

pub flow_begins : (times : ℕ) (first : Seen) (before : List ℕ) → FlowSoFar times times first first before before
flow_begins times first before = λ e s l same. record {
  ends = e;
  stands = s;
  at = flow_begins_there times (scene e first.held) before l same;
}

fresh_as : (w : Seen) (e : Ends) → EndsStand w e
    → held_fresh (is_some w.unit) (is_some w.manager) w.held ≡ held_fresh (is_some e.unit) (is_some e.manager) w.held
fresh_as w e s =
    ap (λ b. held_fresh b (is_some w.manager) w.held) (unit_on e.room w.length w.unit w.disk e.unit e.slots s.unit)
    ∙ ap (λ (o : Option Manager). held_fresh (is_some e.unit) (is_some o) w.held) s.manager_is

pub flow_goes_on : (times left number : ℕ) (first now after : Seen) (before text more : List ℕ) → FlowSoFar times (suc left) first now before text
    → Some number ≡ held_fresh (is_some now.unit) (is_some now.manager) now.held
    → ((e : Ends) → EndsStand now e → Follows (delivery_of (held_allowed number now.held) number e) e now after text more)
    → FlowSoFar times left first after before more
flow_goes_on times left number first now after before text more so_far found step = λ e s l same.
    let w = so_far e s l same in
    let t = delivery_of (held_allowed number now.held) number w.ends in
    let f = step w.ends w.stands in
    record {
      ends = t.ends;
      stands = f.ends;
      at = flow_goes_on_there times left number (scene e first.held) (scene w.ends now.held) (scene t.ends after.held) before text more l w.at
          (found ∙ fresh_as now w.ends w.stands) (follows_shown t w.ends now after text more f);
    }

pub flow_stops : (times left : ℕ) (first now : Seen) (before text : List ℕ) → FlowSoFar times left first now before text
    → None ≡ held_fresh (is_some now.unit) (is_some now.manager) now.held
    → (e : Ends) → EndsStand first e → (l : Link) → first.held ≡ held_of l
    → Follows (flow times (record { ends = e; link = l })) e first now before text
flow_stops times left first now before text so_far none e s l same =
    let w = so_far e s l same in
    follows_from (flow times (record { ends = e; link = l })) e w.ends first now before text w.stands
    (flow_stops_there times left (scene e first.held) (scene w.ends now.held) before text l same w.at (none ∙ fresh_as now w.ends w.stands))

pub flow_ends : (times : ℕ) (first now : Seen) (before text : List ℕ) → FlowSoFar times 0 first now before text
    → (e : Ends) → EndsStand first e → (l : Link) → first.held ≡ held_of l
    → Follows (flow times (record { ends = e; link = l })) e first now before text
flow_ends times first now before text so_far e s l same =
    let w = so_far e s l same in
    follows_from (flow times (record { ends = e; link = l })) e w.ends first now before text w.stands
    (flow_ends_there times (scene e first.held) (scene w.ends now.held) before text l same w.at)

-- ---- a step counts its event

step_submits : (call : Manager → Submission) (o : Option Manager) (e : Ends) → (submission call o e).ends.event ≡ e.event
step_submits call None e = refl
step_submits call (Some m) e = by (call m).refusal (call m).outcome
  where
    by : (r : Option Refusal) (o : Outcome) → (submission_by r o e).ends.event ≡ e.event
    by None o = refl
    by (Some r) o = refl

flow_event : (times : ℕ) (n : Nodes) → (flow times n).ends.event ≡ n.ends.event
unfolding flow delivery
flow_event zero n = refl
flow_event (suc times) n = from (oldest_fresh n) (flow_event times)
  where
    from : (o : Option ℕ) → ((m : Nodes) → (flow times m).ends.event ≡ m.ends.event) → (flow_from o (flow times) n).ends.event ≡ n.ends.event
    from None rest = refl
    from (Some number) rest = rest (nodes_after_step (delivery number n) n) ∙ delivered_event (allowed number n.link) number n.ends

noise_event : (d : Direction) (bytes : List ℕ) (e : Ends) → (noise d bytes e).ends.event ≡ e.event
unfolding noise
noise_event d bytes e = at d
  where
    by_unit : (o : Option Onu) → (unit_got [] bytes o e).ends.event ≡ e.event
    by_unit None = refl
    by_unit (Some u) = refl

    by_manager : (o : Option Manager) → (manager_got [] bytes o e).ends.event ≡ e.event
    by_manager None = refl
    by_manager (Some m) = refl

    at : (d : Direction) → (arrives_at d [] bytes e).ends.event ≡ e.event
    at Down = by_unit e.unit
    at Up = by_manager e.manager

second_event : (e : Ends) → (second e).ends.event ≡ e.event
unfolding second
second_event e = by_unit (manager_ticks e.manager e).ends.unit _ ∙ by_manager e.manager
  where
    by_manager : (o : Option Manager) → (manager_ticks o e).ends.event ≡ e.event
    by_manager None = refl
    by_manager (Some m) = refl

    by_leaving : (boot : Option Boot) (u : Onu) (f : Ends) → (restarts boot u f).ends.event ≡ f.event
    by_leaving None u f = refl
    by_leaving (Some boot) u f = refl

    by_unit : (o : Option Onu) (f : Ends) → (unit_ticks o f).ends.event ≡ f.event
    by_unit None f = refl
    by_unit (Some u) f = by_leaving u.leaving u f

notices_event : (call : Onu → Noticing) (o : Option Onu) (e : Ends)
    → (unit_notices call o e).ends.event ≡ e.event
notices_event call None e = refl
notices_event call (Some u) e = refl

cut_unit_event : (o : Option Onu) (e : Ends) → (cut_unit o e).ends.event ≡ e.event
cut_unit_event None e = refl
cut_unit_event (Some u) e = refl

cut_manager_event : (o : Option Manager) (e : Ends) → (cut_manager o e).ends.event ≡ e.event
cut_manager_event None e = refl
cut_manager_event (Some m) e = refl

start_unit_event : (o : Option Onu) (e : Ends) → (start_unit o e).ends.event ≡ e.event
start_unit_event None e = refl
start_unit_event (Some u) e = refl

start_manager_event : (low high : ℕ) (o : Option Manager) (e : Ends) → (start_manager low high o e).ends.event ≡ e.event
start_manager_event low high None e = refl
start_manager_event low high (Some m) e = refl

cut_of_event : (call : ℕ) (pick : Pick) (o : Option Sent) (number : ℕ) (e : Ends)
    → (cut_of call pick o number e).ends.event ≡ e.event
unfolding cut_in
cut_of_event call pick None number e = refl
cut_of_event call pick (Some s) number e = at s.direction
  where
    by_unit : (o : Option Onu) → (unit_cut_amid call pick (PacketCame number s ∷ []) s.bytes o e).ends.event ≡ e.event
    by_unit None = refl
    by_unit (Some u) = refl

    at : (d : Direction) → (cut_at call pick d (PacketCame number s ∷ []) s.bytes e).ends.event ≡ e.event
    at Down = by_unit e.unit
    at Up = refl

acted_event : (a : Action) (n : Nodes) → (acted a n).ends.event ≡ n.ends.event
unfolding acted delivery cut_delivery
acted_event (Probe lane) n = step_submits _ n.ends.manager n.ends
acted_event (Reset lane) n = step_submits _ n.ends.manager n.ends
acted_event (Get lane entity mask) n = step_submits _ n.ends.manager n.ends
acted_event (Create lane entity values) n = step_submits _ n.ends.manager n.ends
acted_event (Set lane entity mask values) n = step_submits _ n.ends.manager n.ends
acted_event (Delete lane entity) n = step_submits _ n.ends.manager n.ends
acted_event (Activate lane slot) n = step_submits _ n.ends.manager n.ends
acted_event (Commit lane slot) n = step_submits _ n.ends.manager n.ends
acted_event (Reboot lane) n = step_submits _ n.ends.manager n.ends
acted_event (Image slot asked check image) n = step_submits _ n.ends.manager n.ends
acted_event (CutIn number call pick) n = cut_of_event call pick (allowed number n.link) number n.ends
acted_event Resync n = step_submits _ n.ends.manager n.ends
acted_event Audit n = step_submits _ n.ends.manager n.ends
acted_event Check n = step_submits _ n.ends.manager n.ends
acted_event (Deliver number) n = delivered_event (allowed number n.link) number n.ends
acted_event (Flow times) n = flow_event times n
acted_event (NoiseUnit bytes) n = noise_event Down bytes n.ends
acted_event (NoiseOlt bytes) n = noise_event Up bytes n.ends
acted_event Tick n = second_event n.ends
acted_event (Sense entity number value) n = notices_event _ n.ends.unit n.ends
acted_event (Alarm entity bitmap) n = notices_event _ n.ends.unit n.ends
acted_event CutUnit n = cut_unit_event n.ends.unit n.ends
acted_event CutOlt n = cut_manager_event n.ends.manager n.ends
acted_event StartUnit n = start_unit_event n.ends.unit n.ends
acted_event (StartOlt low high) n = start_manager_event low high n.ends.manager n.ends

pub step_event : (a : Action) (n : Nodes) → (step a n).nodes.ends.event ≡ n.ends.event + 1
unfolding step
step_event a n = acted_event a (next_event n)

-- the world with one line more begun
abbrev pub counted_there : Seen → Seen
counted_there w = record w { event = w.event + 1 }

pub counted_stands : (w : Seen) (n : Nodes) → Stands w n → EndsStand (counted_there w) (next_event n).ends
counted_stands w n s = record {
  event_is = ap (λ k. k + 1) s.ends.event_is;
  lives_is = s.ends.lives_is;
  size_is = s.ends.size_is;
  manager_is = s.ends.manager_is;
  unit = s.ends.unit;
}

-- the world after a line, and the text with its lines
pub acted_nodes : (a : Action) (n : Nodes) (w new : Seen) (before after : List ℕ) → w.held ≡ held_of n.link
    → Follows (acted a (next_event n)) (next_event n).ends w new before after → Stands new (step a n).nodes
unfolding step
acted_nodes a n w new before after same f = record {
  ends = f.ends;
  held = f.held ∙ ap (held_read (acted a (next_event n)).happenings) same ∙ sym (held_reads (acted a (next_event n)).happenings n.link);
}

pub acted_lines : (a : Action) (n : Nodes) (w new : Seen) (before after : List ℕ) → w.held ≡ held_of n.link
    → Follows (acted a (next_event n)) (next_event n).ends w new before after → after ≡ before ++ turn_text n (step a n)
unfolding step held_of
acted_lines a n w new before after same f =
    f.text
    ∙ ap (λ (h : Held). before ++ lines_text (n.ends.event + 1) h.count (acted a (next_event n)).happenings) same
    ∙ ap (λ e. before ++ lines_text e (count n.link) (acted a (next_event n)).happenings) (sym (acted_event a (next_event n)))
