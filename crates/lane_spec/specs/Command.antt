-- A command: a request of the manager to an entity, with the packet that it sends under a TCI and
-- the frames that answer it.
use Rattle.std.specs.Prelude.{ℕ, ◌+◌, ◌==◌, ◌&&◌, ◌||◌, Bool, true, false, List, [], ◌∷◌, length}
use Rattle.omci_types.specs.declared.EntityId.{EntityId}
use Rattle.omci_types.specs.declared.Frame.{Frame}
use Rattle.message_spec.specs.declared.Message.TheVariants.{Asked}
use Rattle.message_spec.specs.declared.Request.{Request}
use Rattle.message_spec.specs.declared.Request.TheVariants as request
use Rattle.message_spec.specs.Reading.{plain}
use Rattle.frame_spec.specs.Baseline.{spelling}
use Rattle.class_spec.specs.declared.TheConstants.{ONU_DATA}
use Rattle.lane_spec.specs.declared.Purpose.{Purpose}
use Rattle.lane_spec.specs.declared.Purpose.TheVariants as purpose

-- The request that is asked of an entity, and why. A probe is a get of MIB data sync that proves
-- the lane by any answer. A window of a download is one command: its request is the window's last
-- section, before which the earlier ones are sent.
pub record Command : Type 0 where
  pub purpose : Purpose
  pub entity : EntityId
  pub request : Request
  pub earlier : List (List ℕ)

-- ONU data, and the mask of its attribute 1, which is MIB data sync
abbrev pub sync_entity : EntityId
sync_entity = ONU_DATA

abbrev pub sync_request : Request
sync_request = request.Get 0x8000

abbrev pub probe_command : Command
probe_command = record {
  purpose = purpose.Probe;
  entity = sync_entity;
  request = sync_request;
  earlier = [];
}

-- a request for an entity, which a caller submits
abbrev pub ask : EntityId → Request → Command
ask entity r = record { purpose = purpose.Submission; entity = entity; request = r; earlier = [] }

-- a get of MIB data sync, for the counter's sake
abbrev pub check_command : Command
check_command = record {
  purpose = purpose.Check;
  entity = sync_entity;
  request = sync_request;
  earlier = [];
}

-- a request of the running job
abbrev pub job_command : EntityId → Request → Command
job_command entity r = record { purpose = purpose.Job; entity = entity; request = r; earlier = [] }

-- a window of the running job's download, by its sections before the last one and the last one
abbrev pub window_command : EntityId → (earlier : List (List ℕ)) → (last : List ℕ) → Command
window_command entity earlier last =
    record {
      purpose = purpose.Job;
      entity = entity;
      request = request.Section (length earlier) last true;
      earlier = earlier;
    }

abbrev pub is_probe : Purpose → Bool
is_probe purpose.Probe = true
is_probe purpose.Submission = false
is_probe purpose.Check = false
is_probe purpose.Job = false

-- the command's frame under a TCI
unfoldable pub command_frame : ℕ → Command → Frame
command_frame tci c = plain (Asked tci c.entity c.request)

-- the packet of a section that isn't its window's last
unfoldable pub section_packet : (tci : ℕ) → EntityId → (number : ℕ) → List ℕ → List ℕ
section_packet tci entity number bytes =
    spelling (plain (Asked tci entity (request.Section number bytes false)))

-- the packets of such sections, the first of which has that number, before other packets
abbrev pub with_sections : (tci : ℕ) → EntityId → (number : ℕ) → List (List ℕ) → List (List ℕ)
    → List (List ℕ)
with_sections tci entity number [] packets = packets
with_sections tci entity number (bytes ∷ rest) packets =
    section_packet tci entity number bytes ∷ with_sections tci entity (number + 1) rest packets

-- the packets that the command sends each time, all under one TCI
abbrev pub command_packets : ℕ → Command → List (List ℕ)
command_packets tci c =
    with_sections tci c.entity 0 c.earlier (spelling (command_frame tci c) ∷ [])

abbrev pub same_entity : EntityId → EntityId → Bool
same_entity a b = (a.class == b.class) && (a.instance == b.instance)

-- whether a frame is the response to a request: it is of the request's type with AK in place of AR,
-- and names its entity
abbrev pub is_response : Frame → Frame → Bool
is_response asked f = (f.kind + 0x20 == asked.kind) && same_entity f.entity asked.entity

-- Whether a frame answers a command that has that TCI. A probe is answered by every frame under its
-- TCI.
abbrev pub answers : ℕ → Command → Frame → Bool
answers tci c f = (f.tci == tci) && (is_probe c.purpose || is_response (command_frame tci c) f)

-- whether a request changes what the unit holds or runs
abbrev pub is_changing : Request → Bool
is_changing (request.Create values) = true
is_changing request.Delete = true
is_changing (request.Set mask values) = true
is_changing request.Reset = true
is_changing (request.Activate flags) = true
is_changing request.Commit = true
is_changing (request.Reboot flags) = true
is_changing (request.Get mask) = false
is_changing (request.Alarms mode) = false
is_changing (request.AlarmsNext number) = false
is_changing request.Upload = false
is_changing (request.UploadNext number) = false
is_changing (request.Start window size targets target) = true
is_changing (request.Section number bytes last) = false
is_changing (request.End crc size targets target) = true
