-- What may happen next to the nodes that the lines of a script have led to. Commands are named as
-- in the history.
use Rattle.std.specs.Prelude.{ℕ, ◌≡◌, false, List, Option, Some}
use Rattle.std.specs.List.{All, Contains}
use Rattle.omci_types.specs.declared.Priority.{Priority}
use Rattle.tci_spec.specs.Tci.{IsNumber, packet_tci}
use Rattle.retry_spec.specs.Kept.{Reply, kept_in}
use Rattle.link_spec.specs.declared.Direction.{Direction}
use Rattle.link_spec.specs.declared.Direction.TheVariants.{Down, Up}
use Rattle.link_spec.specs.Link.{Sent, lane_of, allowed}
use Rattle.lane_spec.specs.Lane.{Waiting, waiting_packets}
use Rattle.manager_spec.specs.Manager.{Manager, lane_in}
use Rattle.unit_spec.specs.declared.Note.{Note}
use Rattle.unit_spec.specs.declared.Did.TheVariants as did
use Rattle.unit_spec.specs.Onu.{Onu, onu_received}
use Rattle.script_spec.specs.Script.{Header, Action, IsAction}
use Rattle.world_spec.specs.Nodes.{Nodes, first_nodes, nodes_after}
use Rattle.world_spec.specs.History.{Told, first_told, drawn_in, name_at, told_after}

-- lines of a script lead there, each within its ranges
pub record AreReached (n : Nodes) (t : Told) : Type 0 where
  pub header : Header
  pub low : IsNumber header.low
  pub high : IsNumber header.high
  pub actions : List Action
  pub allowed : All IsAction actions
  pub nodes : nodes_after actions (first_nodes header) ≡ n
  pub told : told_after actions (first_nodes header) first_told ≡ t

-- the packet of that number goes that way, and may come to its end
pub record MayCome (direction : Direction) (lane : Priority) (n : Nodes) (number : ℕ)
    (s : Sent) : Type 0 where
  pub may : allowed number n.link ≡ Some s
  pub goes : s.direction ≡ direction
  pub in_lane : lane_of s.bytes ≡ lane

-- and the unit is on, and will carry it out, whatever else is told of it
pub record MayBeCarriedOut (lane : Priority) (n : Nodes) (number : ℕ) (s : Sent)
    (u : Onu) : Type 0 where
  pub comes : MayCome Down lane n number s
  pub on : n.ends.unit ≡ Some u
  pub note : Option Note
  pub does : (onu_received false s.bytes u).did ≡ did.Carried note

-- and the manager is on, and waits for its TCI
pub record MayBeTaken (lane : Priority) (n : Nodes) (number : ℕ) (s : Sent) (m : Manager)
    (w : Waiting) : Type 0 where
  pub comes : MayCome Up lane n number s
  pub on : n.ends.manager ≡ Some m
  pub waits : (lane_in lane m).outstanding ≡ Some w
  pub same : packet_tci s.bytes ≡ w.tci

-- the packet of that number is of the command for whose reply the manager waits in the lane, and
-- one of those that it sends each time
pub record IsAwaited (lane : Priority) (m : Manager) (t : Told) (number : ℕ)
    (s : Sent) : Type 0 where
  pub waiting : Waiting
  pub waits : (lane_in lane m).outstanding ≡ Some waiting
  pub same : packet_tci s.bytes ≡ waiting.tci
  pub bytes : Contains (waiting_packets (Some waiting)) s.bytes
  pub name : name_at number t.names ≡ drawn_in lane t

-- the unit keeps a reply under that TCI
pub record KeepsTci (lane : Priority) (u : Onu) (tci : ℕ) : Type 0 where
  pub reply : Reply
  pub is : kept_in lane u.kept ≡ Some reply
  pub same : reply.tci ≡ tci
