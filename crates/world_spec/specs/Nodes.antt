-- The machine of both ends over the link, and what each line of a script does to it.
use Rattle.std.specs.Prelude.{ℕ, zero, suc, ◌+◌, List, [], ◌∷◌, ◌++◌, Option, Some, None, is_some}
use Rattle.message_spec.specs.declared.Request.TheVariants as request
use Rattle.frame_spec.specs.Widths.{filled}
use Rattle.script_spec.specs.Script.{Header, Action, Probe, Reset, Get, Create, Set, Delete, Activate, Commit, Reboot, Resync, Audit, Check, Image, Deliver, Flow, CutIn, NoiseUnit, NoiseOlt, Tick, Sense, Alarm, CutUnit, CutOlt, StartUnit, StartOlt}
use Rattle.link_spec.specs.declared.Direction.TheVariants.{Down, Up}
use Rattle.link_spec.specs.Link.{Sent, Link, empty_link, allowed, fresh}
use Rattle.lane_spec.specs.Command.{sync_entity}
use Rattle.alarm_spec.specs.declared.TheConstants.{BITMAP_BYTES}
use Rattle.unit_spec.specs.Noticing.{onu_sensed, onu_alarmed}
use Rattle.slot_spec.specs.declared.Pick.{Pick}
use Rattle.unit_spec.specs.declared.TheConstants.{ONU_G}
use Rattle.manager_spec.specs.Upgrade.{image_entity}
use Rattle.manager_spec.specs.Submitting.{after_probe, after_submit, after_check, after_resync, after_audit, after_image}
use Rattle.world_spec.specs.Happenings.{Happening, link_read}
use Rattle.world_spec.specs.Ends.{Ends, Step, first_ends, still, not_enabled, submission, arrives, cut_in, noise, second, unit_notices, cut_unit, cut_manager, start_unit, start_manager}

pub record Nodes : Type 0 where
  pub ends : Ends
  pub link : Link

-- the nodes after a line of the script, and what happened in it
pub record Turn : Type 0 where
  pub nodes : Nodes
  pub happenings : List Happening

-- before the first line both ends have just started, and the link is empty
abbrev pub first_nodes : Header → Nodes
first_nodes h = record { ends = first_ends h; link = empty_link }

-- ---- deliveries

abbrev pub delivery_of : Option Sent → ℕ → Ends → Step
delivery_of None number e = not_enabled e
delivery_of (Some s) number e = arrives number s e

-- a delivery of that packet, which isn't enabled where it may not come or its end is off
unfoldable pub delivery : ℕ → Nodes → Step
delivery number n = delivery_of (allowed number n.link) number n.ends

abbrev pub cut_of : (call : ℕ) → Pick → Option Sent → ℕ → Ends → Step
cut_of call pick None number e = not_enabled e
cut_of call pick (Some s) number e = cut_in call pick number s e

-- a delivery of that packet, amid which the power of the unit goes
unfoldable pub cut_delivery : (call : ℕ) → Pick → ℕ → Nodes → Step
cut_delivery call pick number n = cut_of call pick (allowed number n.link) number n.ends

-- the nodes after a step of their ends
abbrev pub nodes_after_step : Step → Nodes → Nodes
nodes_after_step s n = record { ends = s.ends; link = link_read s.happenings n.link }

-- one step, and then what follows it
abbrev pub goes_on : (Nodes → Step) → Step → Nodes → Step
goes_on rest s n =
    let t = rest (nodes_after_step s n) in
    record { ends = t.ends; happenings = s.happenings ++ t.happenings }

abbrev pub flow_from : Option ℕ → (Nodes → Step) → Nodes → Step
flow_from None rest n = still n.ends
flow_from (Some number) rest n = goes_on rest (delivery number n) n

-- the number of the oldest fresh packet
abbrev pub oldest_fresh : Nodes → Option ℕ
oldest_fresh n = fresh (is_some n.ends.unit) (is_some n.ends.manager) n.link

-- the oldest fresh packet is delivery, so many times or until there is none
unfoldable pub flow : ℕ → Nodes → Step
flow zero n = still n.ends
flow (suc times) n = flow_from (oldest_fresh n) (flow times) n

-- ---- lines

-- what a line asks for
unfoldable pub acted : Action → Nodes → Step
acted (Probe lane) n = submission (after_probe lane) n.ends.manager n.ends
acted (Reset lane) n = submission (after_submit lane sync_entity request.Reset) n.ends.manager
    n.ends
acted (Get lane entity mask) n = submission (after_submit lane entity (request.Get mask))
    n.ends.manager n.ends
acted (Create lane entity values) n =
    submission (after_submit lane entity (request.Create (filled 32 values))) n.ends.manager n.ends
acted (Set lane entity mask values) n =
    submission (after_submit lane entity (request.Set mask (filled 30 values))) n.ends.manager
    n.ends
acted (Delete lane entity) n = submission (after_submit lane entity request.Delete) n.ends.manager
    n.ends
acted (Activate lane slot) n =
    submission (after_submit lane (image_entity slot) (request.Activate 0)) n.ends.manager n.ends
acted (Commit lane slot) n =
    submission (after_submit lane (image_entity slot) request.Commit) n.ends.manager n.ends
acted (Reboot lane) n =
    submission (after_submit lane ONU_G (request.Reboot 0)) n.ends.manager n.ends
acted Resync n = submission after_resync n.ends.manager n.ends
acted Audit n = submission after_audit n.ends.manager n.ends
acted Check n = submission after_check n.ends.manager n.ends
acted (Image slot asked check image) n =
    submission (after_image slot asked check image) n.ends.manager n.ends
acted (Deliver number) n = delivery number n
acted (Flow times) n = flow times n
acted (CutIn number call pick) n = cut_delivery call pick number n
acted (NoiseUnit bytes) n = noise Down bytes n.ends
acted (NoiseOlt bytes) n = noise Up bytes n.ends
acted Tick n = second n.ends
acted (Sense entity number value) n = unit_notices (onu_sensed entity number value) n.ends.unit
    n.ends
acted (Alarm entity bitmap) n = unit_notices (onu_alarmed entity (filled BITMAP_BYTES bitmap))
    n.ends.unit n.ends
acted CutUnit n = cut_unit n.ends.unit n.ends
acted CutOlt n = cut_manager n.ends.manager n.ends
acted StartUnit n = start_unit n.ends.unit n.ends
acted (StartOlt low high) n = start_manager low high n.ends.manager n.ends

-- the next line of the script is begun
abbrev pub next_event : Nodes → Nodes
next_event n = record n { ends = record n.ends { event = n.ends.event + 1 } }

abbrev pub turn_of : Step → Nodes → Turn
turn_of s n = record { nodes = nodes_after_step s n; happenings = s.happenings }

-- one line of a script
unfoldable pub step : Action → Nodes → Turn
step a n = turn_of (acted a (next_event n)) n

-- the nodes after these lines
unfoldable pub nodes_after : List Action → Nodes → Nodes
nodes_after [] n = n
nodes_after (a ∷ rest) n = nodes_after rest (step a n).nodes
