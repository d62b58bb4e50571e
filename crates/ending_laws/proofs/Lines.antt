-- Each line of a script is moves of a manager that stays on.
use Rattle.std.proofs.Common.{◌≡◌, ℕ, zero, suc, ◌+◌, Bool, true, false, List, [], ◌∷◌, ◌++◌, Option, Some, None, ◌⊎◌, inl, inr, refl, sym, ap, subst, ◌∙◌, arith}
use Rattle.omci_types.specs.declared.EntityId.{EntityId}
use Rattle.omci_types.specs.declared.Boot.{Boot}
use Rattle.omci_types.specs.declared.Priority.{Priority}
use Rattle.omci_types.specs.declared.Priority.TheVariants.{Low}
use Rattle.message_spec.specs.declared.Request.{Request}
use Rattle.message_spec.specs.declared.Request.TheVariants as request
use Rattle.frame_spec.specs.Widths.{filled}
use Rattle.script_spec.specs.Script as script
use Rattle.script_spec.specs.Script.{Action}
use Rattle.link_spec.specs.declared.Direction.{Direction}
use Rattle.link_spec.specs.declared.Direction.TheVariants.{Down, Up}
use Rattle.link_spec.specs.Link.{Sent, allowed}
use Rattle.lane_spec.specs.Command.{sync_entity, probe_command, check_command, ask}
use Rattle.slot_spec.specs.declared.Pick.{Pick}
use Rattle.alarm_spec.specs.declared.TheConstants.{BITMAP_BYTES}
use Rattle.unit_spec.specs.declared.TheConstants.{ONU_G}
use Rattle.unit_spec.specs.Onu.{Onu}
use Rattle.unit_spec.specs.Noticing.{Noticing, onu_sensed, onu_alarmed}
use Rattle.manager_spec.specs.Manager.{Manager, Outcome, manager_started, command_sent}
use Rattle.manager_spec.specs.Upgrade.{image_entity}
use Rattle.manager_spec.specs.Submitting.{Submission, after_probe, probe_refusal, after_submit, submit_refusal, leaves_copy, leave_if, after_check, check_refusal, after_resync, resync_refusal, resync_begun, after_audit, audit_refusal, audit_asked, after_image, image_refusal, image_asked, check_given}
use Rattle.world_spec.specs.Happenings.{Happening, PacketCame}
use Rattle.world_spec.specs.Ends.{Ends, Step, still, not_enabled, then_step, preceded, submission, manager_got, unit_got, unit_notices, arrives_at, arrives, noise, manager_ticks, unit_ticks, restarts, second, unit_cut_amid, cut_at, cut_in, cut_unit, cut_manager, start_unit, start_manager}
use Rattle.world_spec.specs.Nodes.{Nodes, delivery_of, delivery, cut_of, cut_delivery, nodes_after_step, goes_on, flow_from, oldest_fresh, flow, acted, next_event}
use Rattle.ending_spec.specs.Moves as moves
use Rattle.ending_spec.specs.Moves.{Move}
use Rattle.ending_spec.specs.Scripts.{ticks_of, IsOn}
use Rattle.ending_laws.proofs.Made.{Made, still_made, IsCall, call_made, got_made, ticks_made, both_made}

-- ---- calls

probe_call : (lane : Priority) → IsCall (after_probe lane) (moves.Probe lane)
unfolding after_probe
probe_call lane = record {
  refusal = probe_refusal lane;
  outcome = command_sent false lane probe_command;
  is = λ m. refl;
  moves = λ m. refl;
  passes = refl;
}

submit_call : (lane : Priority) (entity : EntityId) (r : Request)
    → IsCall (after_submit lane entity r) (moves.Submit lane entity r)
unfolding after_submit
submit_call lane entity r = record {
  refusal = submit_refusal lane r;
  outcome = λ m. command_sent false lane (ask entity r) (leave_if (leaves_copy r) m);
  is = λ m. refl;
  moves = λ m. refl;
  passes = refl;
}

check_call : IsCall after_check moves.Check
unfolding after_check
check_call = record {
  refusal = check_refusal;
  outcome = command_sent false Low check_command;
  is = λ m. refl;
  moves = λ m. refl;
  passes = refl;
}

resync_call : IsCall after_resync moves.Resync
unfolding after_resync
resync_call = record {
  refusal = resync_refusal;
  outcome = resync_begun;
  is = λ m. refl;
  moves = λ m. refl;
  passes = refl;
}

audit_call : IsCall after_audit moves.Audit
unfolding after_audit
audit_call = record {
  refusal = audit_refusal;
  outcome = audit_asked;
  is = λ m. refl;
  moves = λ m. refl;
  passes = refl;
}

image_call : (slot window : ℕ) (check : Option ℕ) (image : List ℕ)
    → IsCall (after_image slot window check image) (moves.Download slot window check image)
unfolding after_image
image_call slot window check image = record {
  refusal = image_refusal;
  outcome = image_asked (record { slot = slot; check = check_given check image }) window image;
  is = λ m. refl;
  moves = λ m. refl;
  passes = refl;
}

called : (m : Manager) (call : Manager → Submission) (v : Move) (e : Ends) → IsCall call v
    → e.manager ≡ Some m → Made m 0 (submission call e.manager e)
called m call v e c on = call_made call v m e.manager e c on on

-- ---- what leaves the manager alone

abbrev pub Keeps : Ends → Step → Type 0
Keeps e s = s.ends.manager ≡ e.manager

got_keeps : (first : List Happening) (bytes : List ℕ) (o : Option Onu) (e : Ends)
    → Keeps e (unit_got first bytes o e)
got_keeps first bytes None e = refl
got_keeps first bytes (Some u) e = refl

notices_keep : (call : Onu → Noticing) (o : Option Onu) (e : Ends) → Keeps e (unit_notices call o e)
notices_keep call None e = refl
notices_keep call (Some u) e = refl

cut_unit_keeps : (o : Option Onu) (e : Ends) → Keeps e (cut_unit o e)
cut_unit_keeps None e = refl
cut_unit_keeps (Some u) e = refl

start_unit_keeps : (o : Option Onu) (e : Ends) → Keeps e (start_unit o e)
start_unit_keeps None e = refl
start_unit_keeps (Some u) e = refl

amid_keeps : (call : ℕ) (pick : Pick) (first : List Happening) (bytes : List ℕ) (o : Option Onu)
    (e : Ends) → Keeps e (unit_cut_amid call pick first bytes o e)
amid_keeps call pick first bytes None e = refl
amid_keeps call pick first bytes (Some u) e = refl

cut_at_keeps : (call : ℕ) (pick : Pick) (d : Direction) (first : List Happening) (bytes : List ℕ)
    (e : Ends) → Keeps e (cut_at call pick d first bytes e)
cut_at_keeps call pick Down first bytes e = amid_keeps call pick first bytes e.unit e
cut_at_keeps call pick Up first bytes e = refl

cut_of_keeps : (call : ℕ) (pick : Pick) (o : Option Sent) (number : ℕ) (e : Ends)
    → Keeps e (cut_of call pick o number e)
unfolding cut_in
cut_of_keeps call pick None number e = refl
cut_of_keeps call pick (Some s) number e =
    cut_at_keeps call pick s.direction (PacketCame number s ∷ []) s.bytes e

cut_keeps : (call : ℕ) (pick : Pick) (number : ℕ) (n : Nodes)
    → Keeps n.ends (cut_delivery call pick number n)
unfolding cut_delivery
cut_keeps call pick number n = cut_of_keeps call pick (allowed number n.link) number n.ends

restarts_keep : (leaving : Option Boot) (u : Onu) (e : Ends) → Keeps e (restarts leaving u e)
restarts_keep None u e = refl
restarts_keep (Some boot) u e = refl

unit_keeps : (o : Option Onu) (e : Ends) → Keeps e (unit_ticks o e)
unit_keeps None e = refl
unit_keeps (Some u) e = restarts_keep u.leaving u e

-- ---- packets

module _ (m : Manager) where
  arrives_made : (d : Direction) (first : List Happening) (bytes : List ℕ) (e : Ends)
      → e.manager ≡ Some m → Made m 0 (arrives_at d first bytes e)
  arrives_made Down first bytes e on =
      still_made m (unit_got first bytes e.unit e) (got_keeps first bytes e.unit e ∙ on)
  arrives_made Up first bytes e on = got_made first bytes m e.manager e on

  noise_made : (d : Direction) (bytes : List ℕ) (e : Ends) → e.manager ≡ Some m
      → Made m 0 (noise d bytes e)
  unfolding noise
  noise_made d bytes e on = arrives_made d [] bytes e on

  delivery_by : (o : Option Sent) (number : ℕ) (e : Ends) → e.manager ≡ Some m
      → Made m 0 (delivery_of o number e)
  unfolding arrives
  delivery_by None number e on = still_made m (not_enabled e) on
  delivery_by (Some s) number e on =
      arrives_made s.direction (PacketCame number s ∷ []) s.bytes e on

  delivery_made : (number : ℕ) (n : Nodes) → n.ends.manager ≡ Some m → Made m 0 (delivery number n)
  unfolding delivery
  delivery_made number n on = delivery_by (allowed number n.link) number n.ends on

flow_by : (m : Manager) (o : Option ℕ) (times : ℕ) (n : Nodes) → n.ends.manager ≡ Some m
    → ((x : Manager) (k : Nodes) → k.ends.manager ≡ Some x → Made x 0 (flow times k))
    → Made m 0 (flow_from o (flow times) n)
flow_by m None times n on rest = still_made m (still n.ends) on
flow_by m (Some number) times n on rest =
    let one = delivery_made m number n on in
    let after = nodes_after_step (delivery number n) n in
    both_made m (moves.after_moves one.moves m) 0 0 (delivery number n) (flow times after) one.moves
    refl one.passed one.told
    (rest (moves.after_moves one.moves m) after one.manager)

flow_made : (times : ℕ) (m : Manager) (n : Nodes) → n.ends.manager ≡ Some m
    → Made m 0 (flow times n)
unfolding flow
flow_made zero m n on = still_made m (still n.ends) on
flow_made (suc times) m n on =
    flow_by m (oldest_fresh n) times n on (λ x k e. flow_made times x k e)

-- ---- a second, and a start

second_made : (m : Manager) (e : Ends) → e.manager ≡ Some m → Made m 1 (second e)
unfolding second
second_made m e on =
    let s = manager_ticks e.manager e in
    let one = ticks_made m e.manager e on in
    let after = moves.after_moves one.moves m in
    let t = unit_ticks s.ends.unit s.ends in
    both_made m after 1 0 s t one.moves refl one.passed one.told
    (still_made after t (unit_keeps s.ends.unit s.ends ∙ one.manager))

start_made : (m : Manager) (low high : ℕ) (o : Option Manager) (e : Ends) → o ≡ Some m
    → e.manager ≡ Some m → Made m 0 (start_manager low high o e)
start_made m low high None e is on = absurd (cc)
start_made m low high (Some x) e is on = still_made m (not_enabled e) on

cut_olt_off : (m : Manager) (e : Ends) → ⊥ → Made m 0 (cut_manager e.manager e)
cut_olt_off m e h = absurd h

-- ---- a line

pub line_made : (a : Action) (m : Manager) (n : Nodes) → n.ends.manager ≡ Some m → IsOn a
    → Made m (ticks_of a) (acted a n)
unfolding acted
line_made (script.Probe lane) m n on h = called m (after_probe lane) (moves.Probe lane) n.ends (probe_call lane) on
line_made (script.Reset lane) m n on h = called m (after_submit lane sync_entity request.Reset) (moves.Submit lane sync_entity request.Reset) n.ends (submit_call lane sync_entity request.Reset) on
line_made (script.Get lane entity mask) m n on h = called m (after_submit lane entity (request.Get mask)) (moves.Submit lane entity (request.Get mask)) n.ends (submit_call lane entity (request.Get mask)) on
line_made (script.Create lane entity values) m n on h = called m (after_submit lane entity (request.Create (filled 32 values))) (moves.Submit lane entity (request.Create (filled 32 values))) n.ends (submit_call lane entity (request.Create (filled 32 values))) on
line_made (script.Set lane entity mask values) m n on h = called m (after_submit lane entity (request.Set mask (filled 30 values))) (moves.Submit lane entity (request.Set mask (filled 30 values))) n.ends (submit_call lane entity (request.Set mask (filled 30 values))) on
line_made (script.Delete lane entity) m n on h = called m (after_submit lane entity request.Delete) (moves.Submit lane entity request.Delete) n.ends (submit_call lane entity request.Delete) on
line_made (script.Activate lane slot) m n on h = called m (after_submit lane (image_entity slot) (request.Activate 0)) (moves.Submit lane (image_entity slot) (request.Activate 0)) n.ends (submit_call lane (image_entity slot) (request.Activate 0)) on
line_made (script.Commit lane slot) m n on h = called m (after_submit lane (image_entity slot) request.Commit) (moves.Submit lane (image_entity slot) request.Commit) n.ends (submit_call lane (image_entity slot) request.Commit) on
line_made (script.Reboot lane) m n on h = called m (after_submit lane ONU_G (request.Reboot 0)) (moves.Submit lane ONU_G (request.Reboot 0)) n.ends (submit_call lane ONU_G (request.Reboot 0)) on
line_made script.Resync m n on h = called m after_resync moves.Resync n.ends resync_call on
line_made script.Audit m n on h = called m after_audit moves.Audit n.ends audit_call on
line_made script.Check m n on h = called m after_check moves.Check n.ends check_call on
line_made (script.Image slot window check image) m n on h = called m (after_image slot window check image) (moves.Download slot window check image) n.ends (image_call slot window check image) on
line_made (script.Deliver number) m n on h = delivery_made m number n on
line_made (script.Flow times) m n on h = flow_made times m n on
line_made (script.CutIn number call pick) m n on h = still_made m (cut_delivery call pick number n) (cut_keeps call pick number n ∙ on)
line_made (script.NoiseUnit bytes) m n on h = noise_made m Down bytes n.ends on
line_made (script.NoiseOlt bytes) m n on h = noise_made m Up bytes n.ends on
line_made script.Tick m n on h = second_made m n.ends on
line_made (script.Sense entity number value) m n on h = still_made m (unit_notices (onu_sensed entity number value) n.ends.unit n.ends) (notices_keep (onu_sensed entity number value) n.ends.unit n.ends ∙ on)
line_made (script.Alarm entity bitmap) m n on h = still_made m (unit_notices (onu_alarmed entity (filled BITMAP_BYTES bitmap)) n.ends.unit n.ends) (notices_keep (onu_alarmed entity (filled BITMAP_BYTES bitmap)) n.ends.unit n.ends ∙ on)
line_made script.CutUnit m n on h = still_made m (cut_unit n.ends.unit n.ends) (cut_unit_keeps n.ends.unit n.ends ∙ on)
line_made script.CutOlt m n on h = cut_olt_off m n.ends h
line_made script.StartUnit m n on h = still_made m (start_unit n.ends.unit n.ends) (start_unit_keeps n.ends.unit n.ends ∙ on)
line_made (script.StartOlt low high) m n on h = start_made m low high n.ends.manager n.ends on on

-- ---- a manager that is off

-- it stays off, or it starts
abbrev pub StaysOff : Step → Type 0
StaysOff s = (s.ends.manager ≡ None)
    ⊎ ((low : ℕ) × (high : ℕ) × (s.ends.manager ≡ Some (manager_started low high)))

none_called : (call : Manager → Submission) (o : Option Manager) (e : Ends) → o ≡ None
    → e.manager ≡ None → (submission call o e).ends.manager ≡ None
none_called call None e is off = off
none_called call (Some x) e is off = absurd (cc)

none_got : (first : List Happening) (bytes : List ℕ) (o : Option Manager) (e : Ends) → o ≡ None
    → e.manager ≡ None → (manager_got first bytes o e).ends.manager ≡ None
none_got first bytes None e is off = off
none_got first bytes (Some x) e is off = absurd (cc)

none_ticks : (o : Option Manager) (e : Ends) → o ≡ None → e.manager ≡ None
    → (manager_ticks o e).ends.manager ≡ None
none_ticks None e is off = off
none_ticks (Some x) e is off = absurd (cc)

none_cut : (o : Option Manager) (e : Ends) → e.manager ≡ None
    → (cut_manager o e).ends.manager ≡ None
none_cut None e off = off
none_cut (Some x) e off = refl

none_arrives : (d : Direction) (first : List Happening) (bytes : List ℕ) (e : Ends)
    → e.manager ≡ None → (arrives_at d first bytes e).ends.manager ≡ None
none_arrives Down first bytes e off = got_keeps first bytes e.unit e ∙ off
none_arrives Up first bytes e off = none_got first bytes e.manager e off off

none_noise : (d : Direction) (bytes : List ℕ) (e : Ends) → e.manager ≡ None
    → (noise d bytes e).ends.manager ≡ None
unfolding noise
none_noise d bytes e off = none_arrives d [] bytes e off

none_delivered : (o : Option Sent) (number : ℕ) (e : Ends) → e.manager ≡ None
    → (delivery_of o number e).ends.manager ≡ None
unfolding arrives
none_delivered None number e off = off
none_delivered (Some s) number e off =
    none_arrives s.direction (PacketCame number s ∷ []) s.bytes e off

none_delivery : (number : ℕ) (n : Nodes) → n.ends.manager ≡ None
    → (delivery number n).ends.manager ≡ None
unfolding delivery
none_delivery number n off = none_delivered (allowed number n.link) number n.ends off

none_flow_by : (o : Option ℕ) (times : ℕ) (n : Nodes) → n.ends.manager ≡ None
    → ((k : Nodes) → k.ends.manager ≡ None → (flow times k).ends.manager ≡ None)
    → (flow_from o (flow times) n).ends.manager ≡ None
none_flow_by None times n off rest = off
none_flow_by (Some number) times n off rest =
    rest (nodes_after_step (delivery number n) n) (none_delivery number n off)

none_flow : (times : ℕ) (n : Nodes) → n.ends.manager ≡ None → (flow times n).ends.manager ≡ None
unfolding flow
none_flow zero n off = off
none_flow (suc times) n off = none_flow_by (oldest_fresh n) times n off (λ k e. none_flow times k e)

none_second : (e : Ends) → e.manager ≡ None → (second e).ends.manager ≡ None
unfolding second
none_second e off =
    let s = manager_ticks e.manager e in
    unit_keeps s.ends.unit s.ends ∙ none_ticks e.manager e off off

none_start : (low high : ℕ) (o : Option Manager) (e : Ends) → o ≡ None
    → (start_manager low high o e).ends.manager ≡ Some (manager_started low high)
none_start low high None e is = refl
none_start low high (Some x) e is = absurd (cc)

pub line_off : (a : Action) (n : Nodes) → n.ends.manager ≡ None → StaysOff (acted a n)
unfolding acted
line_off (script.Probe lane) n off = inl (none_called (after_probe lane) n.ends.manager n.ends off off)
line_off (script.Reset lane) n off = inl (none_called (after_submit lane sync_entity request.Reset) n.ends.manager n.ends off off)
line_off (script.Get lane entity mask) n off = inl (none_called (after_submit lane entity (request.Get mask)) n.ends.manager n.ends off off)
line_off (script.Create lane entity values) n off = inl (none_called (after_submit lane entity (request.Create (filled 32 values))) n.ends.manager n.ends off off)
line_off (script.Set lane entity mask values) n off = inl (none_called (after_submit lane entity (request.Set mask (filled 30 values))) n.ends.manager n.ends off off)
line_off (script.Delete lane entity) n off = inl (none_called (after_submit lane entity request.Delete) n.ends.manager n.ends off off)
line_off (script.Activate lane slot) n off = inl (none_called (after_submit lane (image_entity slot) (request.Activate 0)) n.ends.manager n.ends off off)
line_off (script.Commit lane slot) n off = inl (none_called (after_submit lane (image_entity slot) request.Commit) n.ends.manager n.ends off off)
line_off (script.Reboot lane) n off = inl (none_called (after_submit lane ONU_G (request.Reboot 0)) n.ends.manager n.ends off off)
line_off script.Resync n off = inl (none_called after_resync n.ends.manager n.ends off off)
line_off script.Audit n off = inl (none_called after_audit n.ends.manager n.ends off off)
line_off script.Check n off = inl (none_called after_check n.ends.manager n.ends off off)
line_off (script.Image slot window check image) n off = inl (none_called (after_image slot window check image) n.ends.manager n.ends off off)
line_off (script.Deliver number) n off = inl (none_delivery number n off)
line_off (script.Flow times) n off = inl (none_flow times n off)
line_off (script.CutIn number call pick) n off = inl (cut_keeps call pick number n ∙ off)
line_off (script.NoiseUnit bytes) n off = inl (none_noise Down bytes n.ends off)
line_off (script.NoiseOlt bytes) n off = inl (none_noise Up bytes n.ends off)
line_off script.Tick n off = inl (none_second n.ends off)
line_off (script.Sense entity number value) n off = inl (notices_keep (onu_sensed entity number value) n.ends.unit n.ends ∙ off)
line_off (script.Alarm entity bitmap) n off = inl (notices_keep (onu_alarmed entity (filled BITMAP_BYTES bitmap)) n.ends.unit n.ends ∙ off)
line_off script.CutUnit n off = inl (cut_unit_keeps n.ends.unit n.ends ∙ off)
line_off script.CutOlt n off = inl (none_cut n.ends.manager n.ends off)
line_off script.StartUnit n off = inl (start_unit_keeps n.ends.unit n.ends ∙ off)
line_off (script.StartOlt low high) n off = inr (low, high, none_start low high n.ends.manager n.ends off)
