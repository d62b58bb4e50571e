-- The values of a request's and of a notice's fields, in the order of the table, and the request or
-- the notice that has some values.
use Rattle.std.specs.Prelude.{Bool, true, false, List, [], ◌∷◌}
use Rattle.message_spec.specs.declared.Action.{Action}
use Rattle.message_spec.specs.declared.Action.TheVariants.{Create, Delete, Set, Get, Alarms, AlarmsNext, Upload, UploadNext, Reset, Start, Section, End, Activate, Commit, Reboot}
use Rattle.message_spec.specs.declared.Request.{Request}
use Rattle.message_spec.specs.declared.Request.TheVariants as requests
use Rattle.message_spec.specs.declared.Notice.{Notice}
use Rattle.message_spec.specs.declared.Notice.TheVariants as notices
use Rattle.message_spec.specs.declared.Kind.{Kind}
use Rattle.message_spec.specs.declared.Kind.TheVariants as kinds
use Rattle.message_spec.specs.Fields.{Value, Number, Bytes, nth_number, nth_bytes}

-- the values of a request's fields
abbrev pub request_values : Request → List Value
request_values (requests.Create values) = Bytes values ∷ []
request_values requests.Delete = []
request_values (requests.Set mask values) = Number mask ∷ Bytes values ∷ []
request_values (requests.Get mask) = Number mask ∷ []
request_values (requests.Alarms mode) = Number mode ∷ []
request_values (requests.AlarmsNext number) = Number number ∷ []
request_values requests.Upload = []
request_values (requests.UploadNext number) = Number number ∷ []
request_values requests.Reset = []
request_values (requests.Start window size targets target) = Number window ∷ Number size
    ∷ Number targets ∷ Number target ∷ []
request_values (requests.Section number bytes last) = Number number ∷ Bytes bytes ∷ []
request_values (requests.End crc size targets target) = Number crc ∷ Number size ∷ Number targets
    ∷ Number target ∷ []
request_values (requests.Activate flags) = Number flags ∷ []
request_values requests.Commit = []
request_values (requests.Reboot flags) = Number flags ∷ []

abbrev pub section_kind : Bool → Kind
section_kind true = kinds.Request Section
section_kind false = kinds.UnansweredSection

-- the kind of a request: a section has AR where it is its window's last, every other request always
abbrev pub request_kind : Request → Kind
request_kind (requests.Create values) = kinds.Request Create
request_kind requests.Delete = kinds.Request Delete
request_kind (requests.Set mask values) = kinds.Request Set
request_kind (requests.Get mask) = kinds.Request Get
request_kind (requests.Alarms mode) = kinds.Request Alarms
request_kind (requests.AlarmsNext number) = kinds.Request AlarmsNext
request_kind requests.Upload = kinds.Request Upload
request_kind (requests.UploadNext number) = kinds.Request UploadNext
request_kind requests.Reset = kinds.Request Reset
request_kind (requests.Start window size targets target) = kinds.Request Start
request_kind (requests.Section number bytes last) = section_kind last
request_kind (requests.End crc size targets target) = kinds.Request End
request_kind (requests.Activate flags) = kinds.Request Activate
request_kind requests.Commit = kinds.Request Commit
request_kind (requests.Reboot flags) = kinds.Request Reboot

-- the section with these values
abbrev pub section_with : Bool → List Value → Request
section_with last v = requests.Section (nth_number 0 v) (nth_bytes 1 v) last

-- the request of a command with these values and with AR
abbrev pub request_with : Action → List Value → Request
request_with Create v = requests.Create (nth_bytes 0 v)
request_with Delete v = requests.Delete
request_with Set v = requests.Set (nth_number 0 v) (nth_bytes 1 v)
request_with Get v = requests.Get (nth_number 0 v)
request_with Alarms v = requests.Alarms (nth_number 0 v)
request_with AlarmsNext v = requests.AlarmsNext (nth_number 0 v)
request_with Upload v = requests.Upload
request_with UploadNext v = requests.UploadNext (nth_number 0 v)
request_with Reset v = requests.Reset
request_with Start v = requests.Start (nth_number 0 v) (nth_number 1 v) (nth_number 2 v)
    (nth_number 3 v)
request_with Section v = section_with true v
request_with End v = requests.End (nth_number 0 v) (nth_number 1 v) (nth_number 2 v)
    (nth_number 3 v)
request_with Activate v = requests.Activate (nth_number 0 v)
request_with Commit v = requests.Commit
request_with Reboot v = requests.Reboot (nth_number 0 v)

-- the values of a notice's fields
abbrev pub notice_values : Notice → List Value
notice_values (notices.Alarm bitmap number) = Bytes bitmap ∷ Number number ∷ []
notice_values (notices.Change mask values) = Number mask ∷ Bytes values ∷ []

abbrev pub notice_kind : Notice → Kind
notice_kind (notices.Alarm bitmap number) = kinds.Alarm
notice_kind (notices.Change mask values) = kinds.Change

abbrev pub alarm_with : List Value → Notice
alarm_with v = notices.Alarm (nth_bytes 0 v) (nth_number 1 v)

abbrev pub change_with : List Value → Notice
change_with v = notices.Change (nth_number 0 v) (nth_bytes 1 v)
