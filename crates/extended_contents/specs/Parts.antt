-- A message of an extended frame in code as the definitions have it: its kind, and the values of
-- its fields in the order in which they stand in the contents.
use Rattle.std.specs.Prelude.{◌≤◌, ℕ, List, [], ◌∷◌, length, Result, Ok, Err}
use Rattle.message_spec.specs.declared.Action.{Action}
use Rattle.message_spec.specs.declared.Action.TheVariants.{Create, Delete, Set, Get, Alarms, AlarmsNext, Upload, UploadNext, Reset, Start, Section, End, Activate, Commit, Reboot}
use Rattle.message_spec.specs.declared.Kind.{Kind}
use Rattle.message_spec.specs.declared.Kind.TheVariants as kinds
use Rattle.message_spec.specs.Fields.{Number, Bytes}
use Rattle.message_spec.specs.Requests.{section_kind}
use Rattle.message_spec.specs.Reading.{IsWindow}
use Rattle.message_spec.specs.declared.ContentsFault.{ContentsFault}
use Rattle.message_spec.specs.declared.ContentsFault.TheVariants as contents
use Rattle.extended_spec.specs.declared.LongFault.{LongFault}
use Rattle.extended_spec.specs.declared.LongFault.TheVariants.{UnknownType, Bits}
use Rattle.extended_spec.specs.declared.TheConstants.{MAX_LONG_CONTENTS}
use Rattle.extended_spec.specs.Layouts.{LongValue, Plain, PieceList, RowList, long_layout, long_contents}
use Rattle.extended_spec.specs.Messages.{Parts}
use Rattle.extended_contents.specs.declared.message.LongRequest.{LongRequest}
use Rattle.extended_contents.specs.declared.message.LongRequest.TheVariants as requests
use Rattle.extended_contents.specs.declared.message.LongResponse.{LongResponse}
use Rattle.extended_contents.specs.declared.message.LongResponse.TheVariants as responses
use Rattle.extended_contents.specs.declared.message.LongNotice.{LongNotice}
use Rattle.extended_contents.specs.declared.message.LongNotice.TheVariants as notices
use Rattle.extended_contents.specs.declared.message.LongMessage.{LongMessage}
use Rattle.extended_contents.specs.declared.message.LongMessage.TheVariants.{Asked, Answered, Told}

-- a number
abbrev pub number : ℕ → LongValue
number n = Plain (Number n)

-- some bytes
abbrev pub bytes : List ℕ → LongValue
bytes items = Plain (Bytes items)

-- the kind of a request: a section has AR where it is its window's last, every other request always
abbrev pub long_request_kind : LongRequest → Kind
long_request_kind (requests.Create values) = kinds.Request Create
long_request_kind requests.Delete = kinds.Request Delete
long_request_kind (requests.Set mask values) = kinds.Request Set
long_request_kind (requests.Get mask) = kinds.Request Get
long_request_kind (requests.Alarms mode) = kinds.Request Alarms
long_request_kind (requests.AlarmsNext n) = kinds.Request AlarmsNext
long_request_kind requests.Upload = kinds.Request Upload
long_request_kind (requests.UploadNext n) = kinds.Request UploadNext
long_request_kind requests.Reset = kinds.Request Reset
long_request_kind (requests.Start window size targets target) = kinds.Request Start
long_request_kind (requests.Section n image last) = section_kind last
long_request_kind (requests.End crc size targets target) = kinds.Request End
long_request_kind (requests.Activate flags) = kinds.Request Activate
long_request_kind requests.Commit = kinds.Request Commit
long_request_kind (requests.Reboot flags) = kinds.Request Reboot

-- the values of a request's fields
abbrev pub long_request_values : LongRequest → List LongValue
long_request_values (requests.Create values) = bytes values ∷ []
long_request_values requests.Delete = []
long_request_values (requests.Set mask values) = number mask ∷ bytes values ∷ []
long_request_values (requests.Get mask) = number mask ∷ []
long_request_values (requests.Alarms mode) = number mode ∷ []
long_request_values (requests.AlarmsNext n) = number n ∷ []
long_request_values requests.Upload = []
long_request_values (requests.UploadNext n) = number n ∷ []
long_request_values requests.Reset = []
long_request_values (requests.Start window size targets target) = number window ∷ number size
    ∷ number targets ∷ number target ∷ []
long_request_values (requests.Section n image last) = number n ∷ bytes image ∷ []
long_request_values (requests.End crc size targets target) = number crc ∷ number size
    ∷ number targets ∷ number target ∷ []
long_request_values (requests.Activate flags) = number flags ∷ []
long_request_values requests.Commit = []
long_request_values (requests.Reboot flags) = number flags ∷ []

-- the command that a response answers
abbrev pub long_response_action : LongResponse → Action
long_response_action (responses.Create code mask) = Create
long_response_action (responses.Delete code) = Delete
long_response_action (responses.Set code unsupported failed) = Set
long_response_action (responses.Get code mask values unsupported failed) = Get
long_response_action (responses.Alarms count) = Alarms
long_response_action (responses.AlarmsNext rows) = AlarmsNext
long_response_action (responses.Upload count) = Upload
long_response_action (responses.UploadNext pieces) = UploadNext
long_response_action (responses.Reset code) = Reset
long_response_action (responses.Start code window) = Start
long_response_action (responses.Section code n) = Section
long_response_action (responses.End code) = End
long_response_action (responses.Activate code) = Activate
long_response_action (responses.Commit code) = Commit
long_response_action (responses.Reboot code) = Reboot

-- the values of a response's fields
abbrev pub long_response_values : LongResponse → List LongValue
long_response_values (responses.Create code mask) = number code.0 ∷ number mask ∷ []
long_response_values (responses.Delete code) = number code.0 ∷ []
long_response_values (responses.Set code unsupported failed) = number code.0 ∷ number unsupported
    ∷ number failed ∷ []
long_response_values (responses.Get code mask values unsupported failed) = number code.0
    ∷ number mask ∷ number unsupported ∷ number failed ∷ bytes values ∷ []
long_response_values (responses.Alarms count) = number count ∷ []
long_response_values (responses.AlarmsNext rows) = RowList rows ∷ []
long_response_values (responses.Upload count) = number count ∷ []
long_response_values (responses.UploadNext pieces) = PieceList pieces ∷ []
long_response_values (responses.Reset code) = number code.0 ∷ []
long_response_values (responses.Start code window) = number code.0 ∷ number window ∷ []
long_response_values (responses.Section code n) = number code.0 ∷ number n ∷ []
long_response_values (responses.End code) = number code.0 ∷ []
long_response_values (responses.Activate code) = number code.0 ∷ []
long_response_values (responses.Commit code) = number code.0 ∷ []
long_response_values (responses.Reboot code) = number code.0 ∷ []

abbrev pub long_notice_kind : LongNotice → Kind
long_notice_kind (notices.Alarm bitmap n) = kinds.Alarm
long_notice_kind (notices.Change mask values) = kinds.Change

-- the values of a notice's fields
abbrev pub long_notice_values : LongNotice → List LongValue
long_notice_values (notices.Alarm bitmap n) = bytes bitmap ∷ number n ∷ []
long_notice_values (notices.Change mask values) = number mask ∷ bytes values ∷ []

-- what a message says
abbrev pub parts_in : LongMessage → Parts
parts_in (Asked tci entity request) = record {
  tci = tci;
  kind = long_request_kind request;
  entity = entity;
  values = long_request_values request;
}
parts_in (Answered tci entity response) = record {
  tci = tci;
  kind = kinds.Response (long_response_action response);
  entity = entity;
  values = long_response_values response;
}
parts_in (Told tci entity notice) = record {
  tci = tci;
  kind = long_notice_kind notice;
  entity = entity;
  values = long_notice_values notice;
}

-- a type byte's kind, or its fault as one of an extended frame
abbrev pub long_kind : Result Kind ContentsFault → Result Kind LongFault
long_kind (Ok kind) = Ok kind
long_kind (Err (contents.UnknownType n)) = Err (UnknownType n)
long_kind (Err (contents.Bits byte)) = Err (Bits byte)

-- the window of a request, response or message is 1 to 256, where it has one
abbrev pub LongRequestWindow : LongRequest → Type 0
LongRequestWindow (requests.Start window size targets target) = IsWindow window
LongRequestWindow _ = Unit {0}

abbrev pub LongResponseWindow : LongResponse → Type 0
LongResponseWindow (responses.Start code window) = IsWindow window
LongResponseWindow _ = Unit {0}

abbrev pub HasLongWindow : LongMessage → Type 0
HasLongWindow (Asked tci entity request) = LongRequestWindow request
HasLongWindow (Answered tci entity response) = LongResponseWindow response
HasLongWindow (Told tci entity notice) = Unit {0}

-- the bytes of a message's contents
abbrev pub contents_in : LongMessage → List ℕ
contents_in m = long_contents (long_layout (parts_in m).kind) (parts_in m).values

-- the contents have room in a frame
abbrev pub FitsFrame : LongMessage → Type 0
FitsFrame m = length (contents_in m) ≤ MAX_LONG_CONTENTS
