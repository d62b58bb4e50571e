-- A job that runs, how many commands it may still send, and within how many seconds its end is
-- told.
use Rattle.std.specs.Prelude.{ℕ, ◌+◌, ◌-◌, ◌*◌, Bool, true, false, List}
use Rattle.omci_types.specs.declared.Priority.TheVariants.{Low}
use Rattle.window_spec.specs.Outgoing.{Outgoing, new_outgoing, sections_left}
use Rattle.manager_spec.specs.declared.TheConstants.{MOST_RESENT, MOST_BUSY}
use Rattle.manager_spec.specs.declared.Job.{Job}
use Rattle.manager_spec.specs.declared.Job.TheVariants as job
use Rattle.manager_spec.specs.declared.Report.{Report}
use Rattle.manager_spec.specs.declared.Report.TheVariants as report
use Rattle.manager_spec.specs.Manager.{Stage, Probing, Asking, Gathering, AskingAlarms, GatheringRows, StartingImage, SendingImage, EndingImage, DelayingEnd, Manager}
use Rattle.ending_spec.specs.Moves.{Move, Telling, Replied, Reported, AnyTells}
use Rattle.ending_spec.specs.Commands.{most_seconds}

-- the most pieces, or rows, that a reply can tell in its two bytes
abbrev pub MOST_TOLD : ℕ
MOST_TOLD = 65535

-- ---- how many commands it may still send, beside the one that it waits for

-- the ends of a download of which so many were answered busy
abbrev pub ends_left : (busy : ℕ) → ℕ
ends_left busy = MOST_BUSY - busy

-- The windows of a download: the current one may be sent anew until it was so often enough, and
-- each later one may be sent and sent anew. A window has one section at the least.
abbrev pub windows_left : Outgoing → (resent : ℕ) → ℕ
windows_left o resent = (MOST_RESENT - resent) + (MOST_RESENT + 1) * (sections_left o - 1)

-- the windows and the ends
abbrev pub image_left : Outgoing → (resent : ℕ) → ℕ
image_left o resent = windows_left o resent + (ends_left 0 + 1)

abbrev pub commands_left : Stage → ℕ
commands_left (Probing high low) = MOST_TOLD + 1
commands_left Asking = MOST_TOLD
commands_left (Gathering expected next copy) = expected - (next + 1)
commands_left AskingAlarms = MOST_TOLD
commands_left (GatheringRows expected next) = expected - (next + 1)
commands_left (StartingImage order asked image) = image_left (new_outgoing image 1) 0 + 1
commands_left (SendingImage order outgoing resent) = image_left outgoing resent
commands_left (EndingImage order image busy) = ends_left busy
commands_left (DelayingEnd order image busy) = ends_left busy + 1

-- the seconds that it may wait before it sends an end anew
abbrev pub delays_left : Stage → ℕ
delays_left (Probing high low) = 0
delays_left Asking = 0
delays_left (Gathering expected next copy) = 0
delays_left AskingAlarms = 0
delays_left (GatheringRows expected next) = 0
delays_left (StartingImage order asked image) = ends_left 0
delays_left (SendingImage order outgoing resent) = ends_left 0
delays_left (EndingImage order image busy) = ends_left busy
delays_left (DelayingEnd order image busy) = ends_left busy + 1

-- ---- within how many seconds it ends

-- each of these commands, and the one that it waits for, ends within the low lane's seconds
abbrev pub seconds_left : Stage → ℕ
seconds_left s = most_seconds Low * (commands_left s + 1) + delays_left s

-- whether a report tells the end of such a job
abbrev pub reports_job : Job → Report → Bool
reports_job job.Resync (report.Synced entities counter) = true
reports_job job.Resync (report.ResyncFailed why) = true
reports_job job.Audit (report.Audited rows) = true
reports_job job.Audit (report.AuditFailed why) = true
reports_job job.Image (report.ImageDone slot) = true
reports_job job.Image (report.ImageFailed why) = true
reports_job j _ = false

abbrev pub ends_job : Job → Telling → Bool
ends_job j (Replied lane) = false
ends_job j (Reported what) = reports_job j what

-- one of these moves tells that the job ended
abbrev pub JobEnds : Job → List Move → Manager → Type 0
JobEnds j moves m = AnyTells (ends_job j) moves m
