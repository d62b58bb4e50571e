-- What a message is, how a frame is read as one, and the one frame of a message whose padding is
-- zero (ITU-T G.988, clause 11.2 and annex A, baseline message set).
use Rattle.std.specs.Prelude.{◌≡◌, ℕ, ◌^◌, ◌<◌, ◌≤◌, false, List, length, Result, Ok, Err}
use Rattle.omci_types.specs.declared.EntityId.{EntityId}
use Rattle.omci_types.specs.declared.Frame.{Frame}
use Rattle.message_spec.specs.declared.Message.{Message}
use Rattle.message_spec.specs.declared.Message.TheVariants.{Asked, Answered, Told}
use Rattle.message_spec.specs.declared.Request.{Request}
use Rattle.message_spec.specs.declared.Request.TheVariants as requests
use Rattle.message_spec.specs.declared.Response.{Response}
use Rattle.message_spec.specs.declared.Response.TheVariants as responses
use Rattle.message_spec.specs.declared.Kind.{Kind}
use Rattle.message_spec.specs.declared.Kind.TheVariants as kinds
use Rattle.message_spec.specs.declared.ContentsFault.{ContentsFault}
use Rattle.frame_spec.specs.declared.TheConstants.{CONTENTS_BYTES}
use Rattle.message_spec.specs.declared.TheConstants.{MAX_WINDOW}
use Rattle.message_spec.specs.Fields.{Value, values_at, put_values, padding, AreBytes, AllFit}
use Rattle.message_spec.specs.Types.{kind_of, type_byte, layout}
use Rattle.message_spec.specs.Requests.{request_values, request_kind, request_with, section_with, notice_values, notice_kind, alarm_with, change_with}
use Rattle.message_spec.specs.Responses.{response_action, response_values, response_with}

abbrev pub message_tci : Message → ℕ
message_tci (Asked tci entity request) = tci
message_tci (Answered tci entity response) = tci
message_tci (Told tci entity notice) = tci

abbrev pub message_entity : Message → EntityId
message_entity (Asked tci entity request) = entity
message_entity (Answered tci entity response) = entity
message_entity (Told tci entity notice) = entity

abbrev pub message_kind : Message → Kind
message_kind (Asked tci entity request) = request_kind request
message_kind (Answered tci entity response) = kinds.Response (response_action response)
message_kind (Told tci entity notice) = notice_kind notice

-- the values of a message's fields, in the order of the table
abbrev pub message_values : Message → List Value
message_values (Asked tci entity request) = request_values request
message_values (Answered tci entity response) = response_values response
message_values (Told tci entity notice) = notice_values notice

-- A message's numbers are in their ranges: those of a field fit the field, arrays have their length
-- and are bytes, and a window is 1 to 256.
pub record IsMessage (m : Message) : Type 0 where
  pub tci : message_tci m < 2 ^ 16
  pub class : (message_entity m).class < 2 ^ 16
  pub instance : (message_entity m).instance < 2 ^ 16
  pub values : AllFit (layout (message_kind m)) (message_values m)

-- The message reads the frame: TCI and entity are the frame's, the type byte is that of the
-- message's kind, and each field has the value that the contents have in its place. Padding is
-- free.
pub record Reads (m : Message) (f : Frame) : Type 0 where
  pub tci : f.tci ≡ message_tci m
  pub kind : f.kind ≡ type_byte (message_kind m)
  pub entity : f.entity ≡ message_entity m
  pub values : values_at (layout (message_kind m)) f.contents ≡ message_values m

-- the one frame of a message whose padding is zero
unfoldable pub plain : Message → Frame
plain m = record {
  tci = message_tci m;
  kind = type_byte (message_kind m);
  entity = message_entity m;
  contents = put_values (layout (message_kind m)) (message_values m) padding;
}

-- the message of a kind with these values
abbrev pub message_with : Kind → ℕ → EntityId → List Value → Message
message_with (kinds.Request a) tci entity v = Asked tci entity (request_with a v)
message_with kinds.UnansweredSection tci entity v = Asked tci entity (section_with false v)
message_with (kinds.Response a) tci entity v = Answered tci entity (response_with a v)
message_with kinds.Alarm tci entity v = Told tci entity (alarm_with v)
message_with kinds.Change tci entity v = Told tci entity (change_with v)

abbrev pub message_typed : Frame → Result Kind ContentsFault → Result Message ContentsFault
message_typed f (Ok kind) =
    Ok (message_with kind f.tci f.entity (values_at (layout kind) f.contents))
message_typed f (Err fault) = Err fault

-- the message that reads a frame, or why there is none
unfoldable pub message_of : Frame → Result Message ContentsFault
message_of f = message_typed f (kind_of f.kind)

-- the window of a request, response or message is 1 to 256, where it has one
abbrev pub IsWindow : ℕ → Type 0
IsWindow window = (1 ≤ window) × (window ≤ MAX_WINDOW)

abbrev pub RequestWindow : Request → Type 0
RequestWindow (requests.Start window size targets target) = IsWindow window
RequestWindow _ = Unit {0}

abbrev pub ResponseWindow : Response → Type 0
ResponseWindow (responses.Start code window) = IsWindow window
ResponseWindow _ = Unit {0}

abbrev pub HasWindow : Message → Type 0
HasWindow (Asked tci entity request) = RequestWindow request
HasWindow (Answered tci entity response) = ResponseWindow response
HasWindow (Told tci entity notice) = Unit {0}

-- a frame's numbers are in their ranges, and its contents are 32 bytes
pub record IsFrameInRange (f : Frame) : Type 0 where
  pub tci : f.tci < 2 ^ 16
  pub kind : f.kind < 256
  pub class : f.entity.class < 2 ^ 16
  pub instance : f.entity.instance < 2 ^ 16
  pub len : length f.contents ≡ CONTENTS_BYTES
  pub bytes : AreBytes f.contents
