-- What slots the unit starts with in a line of a script.
use Rattle.std.proofs.Common.{◌≡◌, ◌⊎◌, ℕ, zero, suc, List, [], ◌∷◌, Option, Some, None, refl}
use Rattle.std.proofs.Common.{sym, ap, subst, ◌∙◌, inl, inr}
use Rattle.omci_types.specs.declared.Boot.{Boot}
use Rattle.omci_types.specs.declared.Boot.TheVariants.{PowerUp}
use Rattle.message_spec.specs.declared.Request.TheVariants as request
use Rattle.frame_spec.specs.Widths.{filled}
use Rattle.script_spec.specs.Script.{Header, Action, Probe, Reset, Get, Create, Set, Delete}
use Rattle.script_spec.specs.Script.{Activate, Commit, Reboot, Resync, Audit, Check, Image, Deliver}
use Rattle.script_spec.specs.Script.{Flow, CutIn, NoiseUnit, NoiseOlt, Tick, Sense, Alarm, CutUnit}
use Rattle.script_spec.specs.Script.{CutOlt, StartUnit, StartOlt}
use Rattle.link_spec.specs.declared.Direction.{Direction}
use Rattle.link_spec.specs.declared.Direction.TheVariants.{Down, Up}
use Rattle.link_spec.specs.Link.{Sent, allowed}
use Rattle.lane_spec.specs.Command.{sync_entity}
use Rattle.alarm_spec.specs.declared.TheConstants.{BITMAP_BYTES}
use Rattle.slot_spec.specs.declared.Pick.{Pick}
use Rattle.slot_spec.specs.Slots.{SlotPair}
use Rattle.unit_spec.specs.declared.TheConstants.{ONU_G}
use Rattle.unit_spec.specs.Onu.{Onu}
use Rattle.unit_spec.specs.Noticing.{Noticing, onu_sensed, onu_alarmed}
use Rattle.manager_spec.specs.Manager.{Manager, Outcome}
use Rattle.manager_spec.specs.declared.Refusal.{Refusal}
use Rattle.manager_spec.specs.Upgrade.{image_entity}
use Rattle.manager_spec.specs.Submitting.{Submission, after_probe, after_submit, after_check}
use Rattle.manager_spec.specs.Submitting.{after_resync, after_audit, after_image}
use Rattle.manager_spec.specs.Steps.{after_tick}
use Rattle.world_spec.specs.Happenings.{Happening, PacketCame}
use Rattle.world_spec.specs.Ends.{Ends, Step, factory_slots, then_step, manager_did, submission_by}
use Rattle.world_spec.specs.Ends.{submission, manager_got, manager_ticks, unit_got, unit_notices}
use Rattle.world_spec.specs.Ends.{arrives_at, arrives, noise, unit_starts, restarts}
use Rattle.world_spec.specs.Ends.{unit_ticks, second, cut_unit, cut_manager, start_unit}
use Rattle.world_spec.specs.Ends.{unit_cut_amid, cut_at, cut_in, start_manager}
use Rattle.world_spec.specs.Nodes.{Nodes, first_nodes, delivery_of, delivery, cut_of, cut_delivery}
use Rattle.world_spec.specs.Nodes.{nodes_after_step, flow_from, oldest_fresh, flow, acted}
use Rattle.world_spec.specs.Nodes.{next_event, step}
use Rattle.boot_laws.specs.Slots.{slots_of, slots_in, StartsWith}

-- the unit is in the same life after a step
abbrev Stays : Ends → Step → Type 0
Stays e s = s.ends.lives ≡ e.lives

-- or in one that began with the slots before
abbrev Starts : Ends → Step → Type 0
Starts e s = Stays e s ⊎ StartsWith (slots_in e) s.ends.unit

-- ---- steps in the same life

submitted : (refusal : Option Refusal) (o : Outcome) (e : Ends) → Stays e (submission_by refusal o e)
submitted None o e = refl
submitted (Some refusal) o e = refl

submission_stays : (call : Manager → Submission) (m : Option Manager) (e : Ends)
    → Stays e (submission call m e)
submission_stays call None e = refl
submission_stays call (Some m) e = submitted (call m).refusal (call m).outcome e

manager_got_stays : (first : List Happening) (bytes : List ℕ) (m : Option Manager) (e : Ends)
    → Stays e (manager_got first bytes m e)
manager_got_stays first bytes None e = refl
manager_got_stays first bytes (Some m) e = refl

unit_got_stays : (first : List Happening) (bytes : List ℕ) (o : Option Onu) (e : Ends)
    → Stays e (unit_got first bytes o e)
unit_got_stays first bytes None e = refl
unit_got_stays first bytes (Some u) e = refl

arrives_at_stays : (d : Direction) (first : List Happening) (bytes : List ℕ) (e : Ends)
    → Stays e (arrives_at d first bytes e)
arrives_at_stays Down first bytes e = unit_got_stays first bytes e.unit e
arrives_at_stays Up first bytes e = manager_got_stays first bytes e.manager e

deliver_stays : (s : Option Sent) (number : ℕ) (e : Ends) → Stays e (delivery_of s number e)
unfolding arrives
deliver_stays None number e = refl
deliver_stays (Some s) number e =
    arrives_at_stays s.direction (PacketCame number s ∷ []) s.bytes e

delivery_stays : (number : ℕ) (n : Nodes) → Stays n.ends (delivery number n)
unfolding delivery
delivery_stays number n = deliver_stays (allowed number n.link) number n.ends

from_stays : (o : Option ℕ) (rest : Nodes → Step) (n : Nodes)
    → ((n : Nodes) → Stays n.ends (rest n)) → Stays n.ends (flow_from o rest n)
from_stays None rest n stays = refl
from_stays (Some number) rest n stays =
    stays (nodes_after_step (delivery number n) n) ∙ delivery_stays number n

flow_stays : (times : ℕ) (n : Nodes) → Stays n.ends (flow times n)
unfolding flow
flow_stays zero n = refl
flow_stays (suc times) n = from_stays (oldest_fresh n) (flow times) n (flow_stays times)

noise_stays : (d : Direction) (bytes : List ℕ) (e : Ends) → Stays e (noise d bytes e)
unfolding noise
noise_stays d bytes e = arrives_at_stays d [] bytes e

notices_stays : (call : Onu → Noticing) (o : Option Onu) (e : Ends)
    → Stays e (unit_notices call o e)
notices_stays call None e = refl
notices_stays call (Some u) e = refl

amid_stays : (call : ℕ) (pick : Pick) (first : List Happening) (bytes : List ℕ) (o : Option Onu)
    (e : Ends) → Stays e (unit_cut_amid call pick first bytes o e)
amid_stays call pick first bytes None e = refl
amid_stays call pick first bytes (Some u) e = refl

cut_at_stays : (call : ℕ) (pick : Pick) (d : Direction) (first : List Happening) (bytes : List ℕ)
    (e : Ends) → Stays e (cut_at call pick d first bytes e)
cut_at_stays call pick Down first bytes e = amid_stays call pick first bytes e.unit e
cut_at_stays call pick Up first bytes e = refl

cut_of_stays : (call : ℕ) (pick : Pick) (s : Option Sent) (number : ℕ) (e : Ends)
    → Stays e (cut_of call pick s number e)
unfolding cut_in
cut_of_stays call pick None number e = refl
cut_of_stays call pick (Some s) number e =
    cut_at_stays call pick s.direction (PacketCame number s ∷ []) s.bytes e

cut_delivery_stays : (call : ℕ) (pick : Pick) (number : ℕ) (n : Nodes)
    → Stays n.ends (cut_delivery call pick number n)
unfolding cut_delivery
cut_delivery_stays call pick number n = cut_of_stays call pick (allowed number n.link) number n.ends

cut_unit_stays : (o : Option Onu) (e : Ends) → Stays e (cut_unit o e)
cut_unit_stays None e = refl
cut_unit_stays (Some u) e = refl

cut_manager_stays : (m : Option Manager) (e : Ends) → Stays e (cut_manager m e)
cut_manager_stays None e = refl
cut_manager_stays (Some m) e = refl

start_manager_stays : (low high : ℕ) (m : Option Manager) (e : Ends)
    → Stays e (start_manager low high m e)
start_manager_stays low high None e = refl
start_manager_stays low high (Some m) e = refl

-- ---- steps in which it may start

starts_so : (boot : Boot) (slots : SlotPair) (e f : Ends) → slots ≡ slots_in e
    → Starts e (unit_starts boot slots f)
starts_so boot slots e f is =
    inr (subst (λ (s : SlotPair). StartsWith s (unit_starts boot slots f).ends.unit) is
    (record { boot = boot; room = f.room; unit = refl }))

start_unit_starts : (o : Option Onu) (e : Ends) → e.unit ≡ o → Starts e (start_unit o e)
start_unit_starts None e is =
    starts_so PowerUp e.slots e e (ap (λ (x : Option Onu). slots_of x e.slots) (sym is))
start_unit_starts (Some u) e is = inl refl

restarts_starts : (leaving : Option Boot) (u : Onu) (e : Ends) → e.unit ≡ Some u
    → Starts e (restarts leaving u e)
restarts_starts None u e is = inl refl
restarts_starts (Some boot) u e is =
    starts_so boot u.store.slots e e (ap (λ (x : Option Onu). slots_of x e.slots) (sym is))

unit_ticks_starts : (o : Option Onu) (e : Ends) → e.unit ≡ o → Starts e (unit_ticks o e)
unit_ticks_starts None e is = inl refl
unit_ticks_starts (Some u) e is = restarts_starts u.leaving u e is

-- the manager's second comes first
manager_first : (m : Option Manager) (e : Ends)
    → Starts e (then_step (manager_ticks m e) (λ after. unit_ticks after.unit after))
manager_first None e = unit_ticks_starts e.unit e refl
manager_first (Some m) e =
    let after = (manager_did (after_tick m) e).ends in unit_ticks_starts e.unit after refl

second_starts : (e : Ends) → Starts e (second e)
unfolding second
second_starts e = manager_first e.manager e

-- ---- lines

acted_starts : (a : Action) (n : Nodes) → Starts n.ends (acted a n)
unfolding acted
acted_starts (Probe lane) n = inl (submission_stays (after_probe lane) n.ends.manager n.ends)
acted_starts (Reset lane) n =
    inl (submission_stays (after_submit lane sync_entity request.Reset) n.ends.manager n.ends)
acted_starts (Get lane entity mask) n =
    inl (submission_stays (after_submit lane entity (request.Get mask)) n.ends.manager n.ends)
acted_starts (Create lane entity values) n =
    inl (submission_stays (after_submit lane entity (request.Create (filled 32 values)))
    n.ends.manager n.ends)
acted_starts (Set lane entity mask values) n =
    inl (submission_stays (after_submit lane entity (request.Set mask (filled 30 values)))
    n.ends.manager n.ends)
acted_starts (Delete lane entity) n =
    inl (submission_stays (after_submit lane entity request.Delete) n.ends.manager n.ends)
acted_starts (Activate lane slot) n =
    inl (submission_stays (after_submit lane (image_entity slot) (request.Activate 0))
    n.ends.manager n.ends)
acted_starts (Commit lane slot) n =
    inl (submission_stays (after_submit lane (image_entity slot) request.Commit) n.ends.manager
    n.ends)
acted_starts (Reboot lane) n =
    inl (submission_stays (after_submit lane ONU_G (request.Reboot 0)) n.ends.manager n.ends)
acted_starts Resync n = inl (submission_stays after_resync n.ends.manager n.ends)
acted_starts Audit n = inl (submission_stays after_audit n.ends.manager n.ends)
acted_starts Check n = inl (submission_stays after_check n.ends.manager n.ends)
acted_starts (Image slot asked check image) n =
    inl (submission_stays (after_image slot asked check image) n.ends.manager n.ends)
acted_starts (Deliver number) n = inl (delivery_stays number n)
acted_starts (Flow times) n = inl (flow_stays times n)
acted_starts (CutIn number call pick) n = inl (cut_delivery_stays call pick number n)
acted_starts (NoiseUnit bytes) n = inl (noise_stays Down bytes n.ends)
acted_starts (NoiseOlt bytes) n = inl (noise_stays Up bytes n.ends)
acted_starts Tick n = second_starts n.ends
acted_starts (Sense entity number value) n =
    inl (notices_stays (onu_sensed entity number value) n.ends.unit n.ends)
acted_starts (Alarm entity bitmap) n =
    inl (notices_stays (onu_alarmed entity (filled BITMAP_BYTES bitmap)) n.ends.unit n.ends)
acted_starts CutUnit n = inl (cut_unit_stays n.ends.unit n.ends)
acted_starts CutOlt n = inl (cut_manager_stays n.ends.manager n.ends)
acted_starts StartUnit n = start_unit_starts n.ends.unit n.ends refl
acted_starts (StartOlt low high) n = inl (start_manager_stays low high n.ends.manager n.ends)

pub line_starts : (a : Action) (n : Nodes) → ((step a n).nodes.ends.lives ≡ n.ends.lives)
    ⊎ StartsWith (slots_in n.ends) (step a n).nodes.ends.unit
unfolding step
line_starts a n = acted_starts a (next_event n)

pub first_starts : (h : Header) → StartsWith (factory_slots h.factory) (first_nodes h).ends.unit
first_starts h = record { boot = PowerUp; room = h.room; unit = refl }
