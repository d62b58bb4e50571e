-- What is asked of the manager: probes, submissions, checks, resynchronisations, audits and
-- downloads, and when each is refused.
use Rattle.std.specs.Prelude.{ℕ, Bool, true, false, if◌then◌else◌, List, [], ◌∷◌, Option, Some, None}
use Rattle.omci_types.specs.declared.EntityId.{EntityId}
use Rattle.frame_spec.specs.Checksum.{crc}
use Rattle.omci_types.specs.declared.Priority.{Priority}
use Rattle.omci_types.specs.declared.Priority.TheVariants.{Low, High}
use Rattle.message_spec.specs.declared.Request.{Request}
use Rattle.message_spec.specs.declared.Request.TheVariants as request
use Rattle.lane_spec.specs.Command.{sync_entity, probe_command, check_command, job_command, ask, is_changing}
use Rattle.lane_spec.specs.Lane.{Waiting}
use Rattle.manager_spec.specs.declared.Phase.{Phase}
use Rattle.manager_spec.specs.declared.Phase.TheVariants as phase
use Rattle.manager_spec.specs.declared.Refusal.{Refusal}
use Rattle.manager_spec.specs.declared.Refusal.TheVariants.{Unproven, Occupied, OutOfStep, JobRunning, ChangeOutstanding}
use Rattle.manager_spec.specs.Manager.{Order, Stage, Probing, AskingAlarms, StartingImage, Manager, Outcome, lane_in, other_lane, leave_step, sends_nothing, and_then, command_sent}
use Rattle.manager_spec.specs.Resync.{with_job}
use Rattle.manager_spec.specs.Upgrade.{start_command}
use Rattle.manager_spec.specs.Jobs.{job_of}

-- ---- refusals

-- the lane isn't proved
abbrev pub unproven : Priority → Manager → Option Refusal
unproven lane m = if (lane_in lane m).proved then None else Some (Unproven lane)

abbrev pub occupied_by : Option Waiting → Option Refusal
occupied_by None = None
occupied_by (Some w) = Some (Occupied w.tci)

-- a command is outstanding in the lane
abbrev pub occupied : Priority → Manager → Option Refusal
occupied lane m = occupied_by (lane_in lane m).outstanding

abbrev pub unless_in_step : Phase → Option Refusal
unless_in_step phase.InStep = None
unless_in_step phase.New = Some (OutOfStep phase.New)
unless_in_step phase.Out = Some (OutOfStep phase.Out)

-- whether a request needs a copy that is in step
abbrev pub needs_copy : Request → Bool
needs_copy (request.Create values) = true
needs_copy request.Delete = true
needs_copy (request.Set mask values) = true
needs_copy (request.Get mask) = false
needs_copy request.Reset = false
needs_copy (request.Activate flags) = false
needs_copy request.Commit = false
needs_copy (request.Reboot flags) = false
needs_copy (request.Alarms mode) = false
needs_copy (request.AlarmsNext number) = false
needs_copy request.Upload = false
needs_copy (request.UploadNext number) = false
needs_copy (request.Start window size targets target) = false
needs_copy (request.Section number bytes last) = false
needs_copy (request.End crc size targets target) = false

-- the command needs a copy that is in step, and there is none
abbrev pub out_of_step : Bool → Manager → Option Refusal
out_of_step needs m = if needs then unless_in_step m.phase else None

abbrev pub running : Option Stage → Option Refusal
running None = None
running (Some stage) = Some (JobRunning (job_of stage))

-- a job runs
abbrev pub job_running : Manager → Option Refusal
job_running m = running m.job

-- whether a request is submitted beside a running job
abbrev pub goes_beside : Priority → Request → Bool
goes_beside High (request.Get mask) = true
goes_beside lane r = false

abbrev pub job_in_the_way : Priority → Request → Manager → Option Refusal
job_in_the_way lane r m = if goes_beside lane r then None else job_running m

abbrev pub changing_by : Option Waiting → Option Refusal
changing_by None = None
changing_by (Some w) = if is_changing w.command.request then Some (ChangeOutstanding w.tci)
    else None

-- a change is outstanding in the other lane
abbrev pub other_change : Priority → Manager → Option Refusal
other_change lane m = changing_by (lane_in (other_lane lane) m).outstanding

-- the request is a change, and one is outstanding in the other lane
abbrev pub second_change : Request → Priority → Manager → Option Refusal
second_change r lane m = if is_changing r then other_change lane m else None

-- the first of these that holds
abbrev pub first_refusal : List (Option Refusal) → Option Refusal
first_refusal [] = None
first_refusal (None ∷ rest) = first_refusal rest
first_refusal (Some refusal ∷ rest) = Some refusal

-- what a submission comes to: an outcome, and why the command was not submitted, if it wasn't
pub record Submission : Type 0 where
  pub outcome : Outcome
  pub refusal : Option Refusal

-- a refused submission changes nothing and sends nothing
abbrev pub unless_refused : Option Refusal → Outcome → Manager → Submission
unless_refused None o m = record { outcome = o; refusal = None }
unless_refused (Some refusal) o m = record { outcome = sends_nothing m; refusal = Some refusal }

-- ---- a probe of a lane

abbrev pub probe_refusal : Priority → Manager → Option Refusal
probe_refusal lane m = first_refusal (occupied lane m ∷ job_running m ∷ [])

unfoldable pub after_probe : Priority → Manager → Submission
after_probe lane m = unless_refused (probe_refusal lane m) (command_sent false lane probe_command m)
    m

-- ---- a request for an entity

-- why a request isn't submitted
abbrev pub submit_refusal : Priority → Request → Manager → Option Refusal
submit_refusal lane r m = first_refusal (
    unproven lane m ∷
    occupied lane m ∷
    out_of_step (needs_copy r) m ∷
    job_in_the_way lane r m ∷
    second_change r lane m ∷
    [])

-- whether a request leaves the unit with another database, or in another life
abbrev pub leaves_copy : Request → Bool
leaves_copy request.Reset = true
leaves_copy (request.Activate flags) = true
leaves_copy (request.Reboot flags) = true
leaves_copy (request.Create values) = false
leaves_copy request.Delete = false
leaves_copy (request.Set mask values) = false
leaves_copy (request.Get mask) = false
leaves_copy request.Commit = false
leaves_copy (request.Alarms mode) = false
leaves_copy (request.AlarmsNext number) = false
leaves_copy request.Upload = false
leaves_copy (request.UploadNext number) = false
leaves_copy (request.Start window size targets target) = false
leaves_copy (request.Section number bytes last) = false
leaves_copy (request.End crc size targets target) = false

abbrev pub leave_if : Bool → Manager → Manager
leave_if true m = leave_step m
leave_if false m = m

unfoldable pub after_submit : Priority → EntityId → Request → Manager → Submission
after_submit lane entity r m =
    unless_refused (submit_refusal lane r m)
    (command_sent false lane (ask entity r) (leave_if (leaves_copy r) m)) m

-- ---- a check of the counters

abbrev pub check_refusal : Manager → Option Refusal
check_refusal m = first_refusal (
    unproven Low m ∷
    occupied Low m ∷
    out_of_step true m ∷
    job_running m ∷
    other_change Low m ∷
    [])

unfoldable pub after_check : Manager → Submission
after_check m = unless_refused (check_refusal m) (command_sent false Low check_command m) m

-- ---- a resynchronisation

abbrev pub resync_refusal : Manager → Option Refusal
resync_refusal m = first_refusal (occupied High m ∷ occupied Low m ∷ job_running m ∷ [])

-- both lanes are probed, also where they are proved: the high lane first
abbrev pub resync_begun : Manager → Outcome
resync_begun m =
    and_then (command_sent false High probe_command (with_job (Some (Probing true true)) m))
    (command_sent false Low probe_command)

unfoldable pub after_resync : Manager → Submission
after_resync m = unless_refused (resync_refusal m) (resync_begun m) m

-- ---- an audit of the alarms

abbrev pub audit_refusal : Manager → Option Refusal
audit_refusal m = first_refusal (unproven Low m ∷ occupied Low m ∷ job_running m ∷ [])

-- all of the unit's alarms are asked for, whatever the mode of reporting
abbrev pub audit_asked : Manager → Outcome
audit_asked m =
    command_sent true Low (job_command sync_entity (request.Alarms 0))
    (with_job (Some AskingAlarms) m)

unfoldable pub after_audit : Manager → Submission
after_audit m = unless_refused (audit_refusal m) (audit_asked m) m

-- ---- a download of a software image

abbrev pub image_refusal : Manager → Option Refusal
image_refusal m = first_refusal (
    unproven Low m ∷
    occupied Low m ∷
    job_running m ∷
    other_change Low m ∷
    [])

-- the check value that is given: the image's own, where no other one is asked for
abbrev pub check_given : Option ℕ → List ℕ → ℕ
check_given None image = crc image
check_given (Some check) image = check

-- the unit is asked to take an image into a slot, in windows of so many sections
abbrev pub image_asked : Order → (asked : ℕ) → List ℕ → Manager → Outcome
image_asked order asked image m =
    command_sent false Low (start_command order asked image)
    (with_job (Some (StartingImage order asked image)) m)

unfoldable pub after_image : (slot asked : ℕ) → Option ℕ → List ℕ → Manager → Submission
after_image slot asked check image m =
    unless_refused (image_refusal m)
    (image_asked (record { slot = slot; check = check_given check image }) asked image m) m
