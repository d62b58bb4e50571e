-- What the reply to a change does to the manager's copy: what the change did to the unit's
-- database.
use Rattle.std.specs.Prelude.{ℕ, ◌==◌, Bool, true, false}
use Rattle.std.specs.Option.{option_map}
use Rattle.omci_types.specs.declared.EntityId.{EntityId}
use Rattle.omci_types.specs.declared.TheConstants.Code.{SUCCESS}
use Rattle.message_spec.specs.declared.Request.{Request}
use Rattle.message_spec.specs.declared.Request.TheVariants as request
use Rattle.mib_spec.specs.Requests.{is_counter_set}
use Rattle.upload_spec.specs.Pieces.{Copy}
use Rattle.upload_spec.specs.Copies.{after_create, after_set, after_delete, copy_grown}
use Rattle.manager_spec.specs.declared.Phase.{Phase}
use Rattle.manager_spec.specs.declared.Phase.TheVariants as phase
use Rattle.manager_spec.specs.Manager.{Manager}

-- a set of the counter adds nothing to it
abbrev pub grown_unless : Bool → Copy → Copy
grown_unless true copy = copy
grown_unless false copy = copy_grown copy

-- a commit, and a download's start and end, count where the manager is in step
abbrev pub grown_in_step : Phase → Copy → Copy
grown_in_step phase.InStep copy = copy_grown copy
grown_in_step phase.New copy = copy
grown_in_step phase.Out copy = copy

-- the copy after a request for an entity that was answered by code 0
abbrev pub copy_after : Phase → EntityId → Request → Copy → Copy
copy_after p one (request.Create values) copy = copy_grown (after_create one values copy)
copy_after p one request.Delete copy = copy_grown (after_delete one copy)
copy_after p one (request.Set mask values) copy =
    grown_unless (is_counter_set one mask) (after_set one mask values copy)
copy_after p one request.Commit copy = grown_in_step p copy
copy_after p one (request.Get mask) copy = copy
copy_after p one request.Reset copy = copy
copy_after p one (request.Activate flags) copy = copy
copy_after p one (request.Reboot flags) copy = copy
copy_after p one (request.Alarms mode) copy = copy
copy_after p one (request.AlarmsNext number) copy = copy
copy_after p one request.Upload copy = copy
copy_after p one (request.UploadNext number) copy = copy
copy_after p one (request.Start window size targets target) copy = grown_in_step p copy
copy_after p one (request.Section number bytes last) copy = copy
copy_after p one (request.End crc size targets target) copy = grown_in_step p copy

abbrev pub followed_if : Bool → EntityId → Request → Manager → Manager
followed_if true one r m = record m { copy = option_map (copy_after m.phase one r) m.copy }
followed_if false one r m = m

-- the copy follows a request that only counts: a commit, or the start or the end of a download
unfoldable pub counted_in_step : Manager → Manager
counted_in_step m = record m { copy = option_map (grown_in_step m.phase) m.copy }

-- the copy follows a request for an entity that was answered by this code
unfoldable pub followed : EntityId → Request → (code : ℕ) → Manager → Manager
followed one r code m = followed_if (code == SUCCESS.0) one r m
