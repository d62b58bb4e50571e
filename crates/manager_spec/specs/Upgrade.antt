-- A download of a software image (ITU-T G.988, annex A, software download): its start, its windows
-- one after the other, and its end.
use Rattle.std.specs.Prelude.{ℕ, ◌+◌, ◌-◌, ◌==◌, min, Bool, true, false, if◌then◌else◌, nat_le, nat_lt, List, length, Option, Some, None}
use Rattle.omci_types.specs.declared.EntityId.{EntityId}
use Rattle.omci_types.specs.declared.TheConstants.Code.{SUCCESS, BUSY}
use Rattle.message_spec.specs.declared.Request.{Request}
use Rattle.message_spec.specs.declared.Request.TheVariants as request
use Rattle.lane_spec.specs.Command.{Command, job_command, window_command}
use Rattle.window_spec.specs.Outgoing.{Outgoing, new_outgoing, sections_from, section_at, window_count, is_last, after_window}
use Rattle.window_spec.specs.declared.TheConstants.{IMAGE_CLASS}
use Rattle.manager_spec.specs.declared.TheConstants.{MOST_RESENT, MOST_BUSY}
use Rattle.manager_spec.specs.declared.ImageReason.{ImageReason}
use Rattle.manager_spec.specs.declared.ImageReason.TheVariants as reason
use Rattle.manager_spec.specs.declared.Report.TheVariants as report
use Rattle.manager_spec.specs.Manager.{Order, Stage, StartingImage, SendingImage, EndingImage, DelayingEnd, Manager, with_report}
use Rattle.manager_spec.specs.Copying.{counted_in_step}
use Rattle.manager_spec.specs.Resync.{with_job}

-- the software image of a slot
abbrev pub image_entity : ℕ → EntityId
image_entity slot = record { class = IMAGE_CLASS; instance = slot }

-- ---- its commands

-- its start, for one circuit pack
abbrev pub start_command : Order → (asked : ℕ) → List ℕ → Command
start_command order asked image =
    job_command (image_entity order.slot) (request.Start asked (length image) 1 order.slot)

-- the window of an image, which has so many sections before its last one
abbrev pub window_after : (earlier : ℕ) → Order → Outgoing → Command
window_after earlier order o =
    window_command (image_entity order.slot) (sections_from earlier o.first o.image)
    (section_at (o.first + earlier) o.image)

unfoldable pub image_window : Order → Outgoing → Command
image_window order o = window_after (window_count o - 1) order o

-- its end
abbrev pub end_image_command : Order → List ℕ → Command
end_image_command order image =
    job_command (image_entity order.slot) (request.End order.check (length image) 1 order.slot)

-- ---- how it ends

-- the job has failed
abbrev pub image_failed : ImageReason → Manager → Manager
image_failed why m = with_report (report.ImageFailed why) (with_job None m)

abbrev pub refused_by : (number : ℕ) → Manager → Manager
refused_by number m = image_failed (reason.Code (record { 0 = number })) m

-- the unit holds the image
abbrev pub image_done : Order → Manager → Manager
image_done order m = with_report (report.ImageDone order.slot) (with_job None (counted_in_step m))

-- ---- what a reply does

abbrev pub started_if : Bool → (number granted : ℕ) → Order → (asked : ℕ) → List ℕ → Manager
    → Manager
started_if true number granted order asked image m =
    with_job (Some (SendingImage order (new_outgoing image (min asked granted)) 0))
    (counted_in_step m)
started_if false number granted order asked image m = refused_by number m

-- the reply to the start came: windows have no more sections than were asked and than are granted
unfoldable pub image_started : (number granted : ℕ) → Order → (asked : ℕ) → List ℕ → Manager
    → Manager
image_started number granted order asked image m =
    started_if (number == SUCCESS.0) number granted order asked image m

-- the next window, or the end where there is none
abbrev pub window_taken : Bool → Order → Outgoing → Manager → Manager
window_taken true order o m = with_job (Some (EndingImage order o.image 0)) m
window_taken false order o m = with_job (Some (SendingImage order (after_window o) 0)) m

abbrev pub window_refused : Bool → (number : ℕ) → Order → Outgoing → (resent : ℕ) → Manager
    → Manager
window_refused true number order o resent m = with_job (Some (SendingImage order o (resent + 1))) m
window_refused false number order o resent m = refused_by number m

abbrev pub window_by : Bool → (number : ℕ) → Order → Outgoing → (resent : ℕ) → Manager → Manager
window_by true number order o resent m = window_taken (is_last o) order o m
window_by false number order o resent m =
    window_refused (nat_lt resent MOST_RESENT) number order o resent m

-- the reply to a window came
unfoldable pub window_answered : (number : ℕ) → Order → Outgoing → (resent : ℕ) → Manager → Manager
window_answered number order o resent m =
    window_by (number == SUCCESS.0) number order o resent m

abbrev pub busy_if : Bool → Order → List ℕ → (times : ℕ) → Manager → Manager
busy_if true order image times m = with_job (Some (DelayingEnd order image times)) m
busy_if false order image times m = refused_by BUSY.0 m

-- the end was answered busy once more
abbrev pub end_delayed : Order → List ℕ → (times : ℕ) → Manager → Manager
end_delayed order image times m =
    busy_if (nat_le times MOST_BUSY) order image times (with_report (report.Busy times) m)

abbrev pub end_by : (done busy : Bool) → (number : ℕ) → Order → List ℕ → (times : ℕ) → Manager
    → Manager
end_by true busy number order image times m = image_done order m
end_by false true number order image times m = end_delayed order image (times + 1) m
end_by false false number order image times m = refused_by number m

-- the reply to the end came
unfoldable pub end_answered : (number : ℕ) → Order → List ℕ → (times : ℕ) → Manager → Manager
end_answered number order image times m =
    end_by (number == SUCCESS.0) (number == BUSY.0) number order image times m
