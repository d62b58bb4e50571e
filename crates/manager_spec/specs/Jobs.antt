-- A job that runs, be it a resynchronisation, an audit or a download: what it waits for, how a
-- give-up ends it, and what it sends next.
use Rattle.std.specs.Prelude.{ℕ, ◌&&◌, Bool, true, false, is_none, Option, Some, None}
use Rattle.omci_types.specs.declared.Priority.{Priority}
use Rattle.omci_types.specs.declared.Priority.TheVariants.{Low, High}
use Rattle.message_spec.specs.declared.Request.TheVariants as request
use Rattle.lane_spec.specs.Command.{Command, sync_entity, job_command}
use Rattle.lane_spec.specs.Lane.{Lane}
use Rattle.manager_spec.specs.declared.Job.{Job}
use Rattle.manager_spec.specs.declared.Job.TheVariants as job
use Rattle.manager_spec.specs.declared.ResyncReason.TheVariants as resync_reason
use Rattle.manager_spec.specs.declared.AuditReason.TheVariants as audit_reason
use Rattle.manager_spec.specs.declared.ImageReason.TheVariants as image_reason
use Rattle.manager_spec.specs.Manager.{Stage, Probing, Asking, Gathering, AskingAlarms, GatheringRows, StartingImage, SendingImage, EndingImage, DelayingEnd, Manager, Outcome, leave_step, sends_nothing, command_sent}
use Rattle.manager_spec.specs.Resync.{with_job, resync_failed}
use Rattle.manager_spec.specs.Audit.{audit_failed}
use Rattle.manager_spec.specs.Upgrade.{image_window, end_image_command, image_failed}

-- which job a stage belongs to
abbrev pub job_of : Stage → Job
job_of (Probing high low) = job.Resync
job_of Asking = job.Resync
job_of (Gathering expected next copy) = job.Resync
job_of AskingAlarms = job.Audit
job_of (GatheringRows expected next) = job.Audit
job_of (StartingImage order asked image) = job.Image
job_of (SendingImage order outgoing resent) = job.Image
job_of (EndingImage order image busy) = job.Image
job_of (DelayingEnd order image busy) = job.Image

-- ---- how a give-up ends it

abbrev pub lost_by : Job → (tci : ℕ) → Manager → Manager
lost_by job.Resync tci m = resync_failed (resync_reason.GaveUp tci) m
lost_by job.Audit tci m = audit_failed (audit_reason.GaveUp tci) m
lost_by job.Image tci m = leave_step (image_failed (image_reason.GaveUp tci) m)

-- the command that the job waited for was given up
abbrev pub job_lost : Option Stage → (tci : ℕ) → Manager → Manager
job_lost None tci m = m
job_lost (Some stage) tci m = lost_by (job_of stage) tci m

-- ---- whether it waits for a lane's command

abbrev pub waits_for : Priority → Option Stage → Bool
waits_for lane None = false
waits_for High (Some (Probing high low)) = high
waits_for Low (Some (Probing high low)) = low
waits_for High (Some Asking) = false
waits_for Low (Some Asking) = true
waits_for High (Some (Gathering expected next copy)) = false
waits_for Low (Some (Gathering expected next copy)) = true
waits_for High (Some AskingAlarms) = false
waits_for Low (Some AskingAlarms) = true
waits_for High (Some (GatheringRows expected next)) = false
waits_for Low (Some (GatheringRows expected next)) = true
waits_for High (Some (StartingImage order asked image)) = false
waits_for Low (Some (StartingImage order asked image)) = true
waits_for High (Some (SendingImage order outgoing resent)) = false
waits_for Low (Some (SendingImage order outgoing resent)) = true
waits_for High (Some (EndingImage order image busy)) = false
waits_for Low (Some (EndingImage order image busy)) = true
waits_for High (Some (DelayingEnd order image busy)) = false
waits_for Low (Some (DelayingEnd order image busy)) = true

-- ---- what it sends next

-- nothing, or a command with the stage that it begins; and whether the command asks for a snapshot
pub record Wish : Type 0 where
  pub command : Command
  pub asks : Bool
  pub stage : Stage

abbrev pub wish_of : Stage → Option Wish
wish_of (Probing true low) = None
wish_of (Probing false true) = None
wish_of (Probing false false) =
    Some (record { command = job_command sync_entity request.Upload; asks = true; stage = Asking })
wish_of Asking = None
wish_of (Gathering expected next copy) =
    Some (record {
      command = job_command sync_entity (request.UploadNext next);
      asks = false;
      stage = Gathering expected next copy;
    })
wish_of AskingAlarms = None
wish_of (GatheringRows expected next) =
    Some (record {
      command = job_command sync_entity (request.AlarmsNext next);
      asks = false;
      stage = GatheringRows expected next;
    })
wish_of (StartingImage order asked image) = None
wish_of (SendingImage order outgoing resent) =
    Some (record {
      command = image_window order outgoing;
      asks = false;
      stage = SendingImage order outgoing resent;
    })
wish_of (EndingImage order image busy) =
    Some (record {
      command = end_image_command order image;
      asks = false;
      stage = EndingImage order image busy;
    })
wish_of (DelayingEnd order image busy) = None

abbrev pub wish_in : Option Stage → Option Wish
wish_in None = None
wish_in (Some stage) = wish_of stage

-- a lane over which the job may send
abbrev pub is_free : Lane → Bool
is_free l = l.proved && is_none l.outstanding

abbrev pub send_wish : Bool → Option Wish → Manager → Outcome
send_wish free None m = sends_nothing m
send_wish false (Some w) m = sends_nothing m
send_wish true (Some w) m =
    command_sent w.asks Low w.command (with_job (Some w.stage) m)

-- the low lane, where it is free, sends what the job wants next
unfoldable pub job_goes_on : Manager → Outcome
job_goes_on m = send_wish (is_free m.low) (wish_in m.job) m

-- ---- a second passes

abbrev pub resumed_by : Option Stage → Manager → Outcome
resumed_by (Some (DelayingEnd order image busy)) m =
    job_goes_on (with_job (Some (EndingImage order image busy)) m)
resumed_by _ m = sends_nothing m

-- a job that waited for the second goes on
abbrev pub job_resumes : Manager → Outcome
job_resumes m = resumed_by m.job m
