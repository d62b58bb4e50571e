-- The values of a response's fields, in the order of the table, and the response that has some
-- values.
use Rattle.std.specs.Prelude.{ℕ, List, [], ◌∷◌}
use Rattle.omci_types.specs.declared.Code.{Code}
use Rattle.message_spec.specs.declared.Action.{Action}
use Rattle.message_spec.specs.declared.Action.TheVariants.{Create, Delete, Set, Get, Alarms, AlarmsNext, Upload, UploadNext, Reset, Start, Section, End, Activate, Commit, Reboot}
use Rattle.message_spec.specs.declared.Response.{Response}
use Rattle.message_spec.specs.declared.Response.TheVariants as responses
use Rattle.message_spec.specs.Fields.{Value, Number, Bytes, nth_number, nth_bytes}

-- the command that a response answers
abbrev pub response_action : Response → Action
response_action (responses.Create code mask) = Create
response_action (responses.Delete code) = Delete
response_action (responses.Set code unsupported failed) = Set
response_action (responses.Get code mask values unsupported failed) = Get
response_action (responses.Alarms count) = Alarms
response_action (responses.AlarmsNext row) = AlarmsNext
response_action (responses.Upload count) = Upload
response_action (responses.UploadNext piece) = UploadNext
response_action (responses.Reset code) = Reset
response_action (responses.Start code window) = Start
response_action (responses.Section code number) = Section
response_action (responses.End code) = End
response_action (responses.Activate code) = Activate
response_action (responses.Commit code) = Commit
response_action (responses.Reboot code) = Reboot

-- the values of a response's fields
abbrev pub response_values : Response → List Value
response_values (responses.Create code mask) = Number code.0 ∷ Number mask ∷ []
response_values (responses.Delete code) = Number code.0 ∷ []
response_values (responses.Set code unsupported failed) = Number code.0 ∷ Number unsupported
    ∷ Number failed ∷ []
response_values (responses.Get code mask values unsupported failed) = Number code.0 ∷ Number mask
    ∷ Bytes values ∷ Number unsupported ∷ Number failed ∷ []
response_values (responses.Alarms count) = Number count ∷ []
response_values (responses.AlarmsNext row) = Bytes row ∷ []
response_values (responses.Upload count) = Number count ∷ []
response_values (responses.UploadNext piece) = Bytes piece ∷ []
response_values (responses.Reset code) = Number code.0 ∷ []
response_values (responses.Start code window) = Number code.0 ∷ Number window ∷ []
response_values (responses.Section code number) = Number code.0 ∷ Number number ∷ []
response_values (responses.End code) = Number code.0 ∷ []
response_values (responses.Activate code) = Number code.0 ∷ []
response_values (responses.Commit code) = Number code.0 ∷ []
response_values (responses.Reboot code) = Number code.0 ∷ []

-- the code among some values
abbrev pub code_at : ℕ → List Value → Code
code_at n v = record { 0 = nth_number n v }

-- the response to a command with these values
abbrev pub response_with : Action → List Value → Response
response_with Create v = responses.Create (code_at 0 v) (nth_number 1 v)
response_with Delete v = responses.Delete (code_at 0 v)
response_with Set v = responses.Set (code_at 0 v) (nth_number 1 v) (nth_number 2 v)
response_with Get v = responses.Get (code_at 0 v) (nth_number 1 v) (nth_bytes 2 v) (nth_number 3 v)
    (nth_number 4 v)
response_with Alarms v = responses.Alarms (nth_number 0 v)
response_with AlarmsNext v = responses.AlarmsNext (nth_bytes 0 v)
response_with Upload v = responses.Upload (nth_number 0 v)
response_with UploadNext v = responses.UploadNext (nth_bytes 0 v)
response_with Reset v = responses.Reset (code_at 0 v)
response_with Start v = responses.Start (code_at 0 v) (nth_number 1 v)
response_with Section v = responses.Section (code_at 0 v) (nth_number 1 v)
response_with End v = responses.End (code_at 0 v)
response_with Activate v = responses.Activate (code_at 0 v)
response_with Commit v = responses.Commit (code_at 0 v)
response_with Reboot v = responses.Reboot (code_at 0 v)
