-- What a running job waits for, and within how many seconds it ends.
use Rattle.std.proofs.Common.{◌≡◌, ℕ, ◌+◌, ◌-◌, ◌*◌, ◌≤◌, ◌<◌, Bool, true, false, List, Option, Some, None, ◌⊎◌}
use Rattle.std.specs.Prelude.{max}
use Rattle.omci_types.specs.declared.Priority.{Priority}
use Rattle.omci_types.specs.declared.Priority.TheVariants.{Low, High}
use Rattle.message_spec.specs.declared.Request.TheVariants as request
use Rattle.lane_spec.specs.declared.Purpose.{Purpose}
use Rattle.lane_spec.specs.declared.Purpose.TheVariants as purpose
use Rattle.lane_spec.specs.Command.{Command, sync_entity, job_command}
use Rattle.lane_spec.specs.Lane.{Lane, Waiting}
use Rattle.manager_spec.specs.declared.TheConstants.{MOST_BUSY}
use Rattle.manager_spec.specs.declared.Job.{Job}
use Rattle.manager_spec.specs.Manager.{Stage, Probing, Asking, Gathering, AskingAlarms, GatheringRows, StartingImage, SendingImage, EndingImage, DelayingEnd, Manager, Outcome}
use Rattle.manager_spec.specs.Upgrade.{start_command, image_window, end_image_command}
use Rattle.manager_spec.specs.Jobs.{job_of}
use Rattle.ending_spec.specs.Moves.{is_told, told_by}
use Rattle.ending_spec.specs.Commands.{most_seconds, seconds_waited}
use Rattle.ending_spec.specs.Jobs.{commands_left, delays_left, reports_job, ends_job}

-- the lane waits for that command of the job, or for a probe, or for nothing
pub record AwaitsJob (c : Command) (l : Lane) : Type 0 where
  pub waiting : Waiting
  pub waits : l.outstanding ≡ Some waiting
  pub command : waiting.command ≡ c
  pub proved : l.proved ≡ true

pub record IsProbing (l : Lane) : Type 0 where
  pub waiting : Waiting
  pub waits : l.outstanding ≡ Some waiting
  pub probe : waiting.command.purpose ≡ purpose.Probe

pub record IsFree (l : Lane) : Type 0 where
  pub none : l.outstanding ≡ None
  pub proved : l.proved ≡ true

-- what a stage waits for in the low lane and in the high lane
abbrev pub Awaits : Stage → Lane → Lane → Type 0
Awaits (Probing true true) low high = IsProbing low × IsProbing high
Awaits (Probing false true) low high = IsProbing low
Awaits (Probing true false) low high = IsFree low × IsProbing high
Awaits (Probing false false) low high = ⊥
Awaits Asking low high = AwaitsJob (job_command sync_entity request.Upload) low
Awaits (Gathering expected next copy) low high = (next < expected)
    × AwaitsJob (job_command sync_entity (request.UploadNext next)) low
Awaits AskingAlarms low high = AwaitsJob (job_command sync_entity (request.Alarms 0)) low
Awaits (GatheringRows expected next) low high = (next < expected)
    × AwaitsJob (job_command sync_entity (request.AlarmsNext next)) low
Awaits (StartingImage order asked image) low high = (1 ≤ asked)
    × AwaitsJob (start_command order asked image) low
Awaits (SendingImage order o resent) low high = (1 ≤ o.most) × AwaitsJob (image_window order o) low
Awaits (EndingImage order image busy) low high = (busy ≤ MOST_BUSY)
    × AwaitsJob (end_image_command order image) low
Awaits (DelayingEnd order image busy) low high = (busy ≤ MOST_BUSY) × IsFree low

-- ---- how long it may go on

-- the seconds that are left to what is outstanding in a lane
abbrev pub left_of : Priority → Option Waiting → ℕ
left_of lane None = 0
left_of lane (Some w) = most_seconds lane - seconds_waited lane w

abbrev pub left_if : Bool → Priority → Lane → ℕ
left_if true lane l = left_of lane l.outstanding
left_if false lane l = 0

-- the seconds that are left to what a stage waits for
abbrev pub wait : Stage → Lane → Lane → ℕ
wait (Probing h l) low high = max (left_if h High high) (left_if l Low low)
wait _ low high = left_of Low low.outstanding

-- the seconds that it may need after that
abbrev pub budget : Stage → ℕ
budget s = most_seconds Low * commands_left s + delays_left s

abbrev pub cost : Stage → Lane → Lane → ℕ
cost s low high = wait s low high + budget s

-- ---- what a step comes to

-- the job has ended, which is reported
pub record Done (j : Job) (m : Manager) : Type 0 where
  pub none : m.job ≡ None
  pub told : is_told (reports_job j) m.reports ≡ true

-- it runs on, and after those seconds it may need so many at the most
pub record Runs (j : Job) (seconds most : ℕ) (m : Manager) : Type 0 where
  pub stage : Stage
  pub is : m.job ≡ Some stage
  pub same : job_of stage ≡ j
  pub awaits : Awaits stage m.low m.high
  pub less : cost stage m.low m.high + seconds ≤ most

-- what a step of a manager with a running job leaves
abbrev pub Leaves : Stage → (seconds : ℕ) → Manager → Manager → Type 0
Leaves s seconds m n = Done (job_of s) n ⊎ Runs (job_of s) seconds (cost s m.low m.high) n

-- a lane that the job doesn't use
abbrev pub is_job : Purpose → Bool
is_job purpose.Job = true
is_job purpose.Probe = false
is_job purpose.Submission = false
is_job purpose.Check = false

abbrev pub IsBesideJob : Lane → Type 0
IsBesideJob l = (w : Waiting) → l.outstanding ≡ Some w → is_job w.command.purpose ≡ false

pub record IsJobSound (m : Manager) : Type 0 where
  pub beside : IsBesideJob m.high
  pub awaits : (s : Stage) → m.job ≡ Some s → Awaits s m.low m.high
