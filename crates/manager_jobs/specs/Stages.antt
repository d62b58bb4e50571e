-- The stage of a job in the code.
use Rattle.std.specs.Prelude.{ℕ, ◌≡◌, ◌<◌, ◌≤◌, Bool, true, false, [], length, Option, Some, None, IsSome}
use Rattle.omci_types.specs.declared.EntityId.{EntityId}
use Rattle.alarm_spec.specs.declared.TheConstants.{MOST_WAITING}
use Rattle.alarm_spec.specs.Table.{Table, gathered}
use Rattle.manager_spec.specs.Manager as machine
use Rattle.message_spec.specs.declared.Request.{Request}
use Rattle.message_spec.specs.declared.Response.{Response}
use Rattle.message_spec.specs.declared.Response.TheVariants as response
use Rattle.message_spec.specs.Reading.{IsWindow}
use Rattle.lane_spec.specs.declared.Purpose.{Purpose}
use Rattle.lane_spec.specs.Command.{Command}
use Rattle.manager_spec.specs.declared.TheConstants.{MOST_RESENT, MOST_BUSY}
use Rattle.manager_spec.specs.Resync.{with_job}
use Rattle.manager_spec.specs.Jobs.{Wish}
use Rattle.manager_jobs.specs.declared.stage.Stage.{Stage}
use Rattle.manager_jobs.specs.declared.stage.Stage.TheVariants.{Probing, Asking, Gathering}
use Rattle.manager_jobs.specs.declared.stage.Stage.TheVariants.{AskingAlarms, GatheringRows}
use Rattle.manager_jobs.specs.declared.stage.Stage.TheVariants.{StartingImage, SendingImage}
use Rattle.manager_jobs.specs.declared.stage.Stage.TheVariants.{EndingImage, DelayingEnd}
use Rattle.manager_jobs.specs.declared.stage.Order.{Order}

abbrev pub order_of : Order → machine.Order
order_of order = record { slot = order.slot; check = order.check }

-- the stage as the definition has it
abbrev pub stage_of : Stage → machine.Stage
stage_of (Probing high low) = machine.Probing high low
stage_of Asking = machine.Asking
stage_of (Gathering gather next) = machine.Gathering gather.expected next gather.copy
stage_of AskingAlarms = machine.AskingAlarms
stage_of (GatheringRows expected next) = machine.GatheringRows expected next
stage_of (StartingImage order asked image) = machine.StartingImage (order_of order) asked image
stage_of (SendingImage order outbox resent) = machine.SendingImage (order_of order) outbox resent
stage_of (EndingImage order outbox busy) = machine.EndingImage (order_of order) outbox.image busy
stage_of (DelayingEnd order outbox busy) = machine.DelayingEnd (order_of order) outbox.image busy

-- the table gathers, no more rows than came before that one, and so many notices may wait
pub record IsReading (next : ℕ) (table : Table) : Type 0 where
  pub gathering : IsSome table.gathering
  pub few : length (gathered table) ≤ next
  pub waiting : length table.waiting ≤ MOST_WAITING

-- a piece or a row is still to come, and each one before it gave at most one entity
abbrev pub IsJob : Option Stage → Table → Type 0
IsJob None table = Unit {0}
IsJob (Some (Probing high low)) table = Unit {0}
IsJob (Some Asking) table = Unit {0}
IsJob (Some (Gathering gather next)) table = (next < gather.expected) × (length gather.copy ≤ next)
IsJob (Some AskingAlarms) table = Unit {0}
IsJob (Some (GatheringRows expected next)) table = (next < expected) × IsReading next table
IsJob (Some (StartingImage order asked image)) table =
    (order.size ≡ length image) × IsWindow asked
IsJob (Some (SendingImage order outbox resent)) table =
    (order.size ≡ length outbox.image) × (resent ≤ MOST_RESENT)
IsJob (Some (EndingImage order outbox busy)) table =
    (order.size ≡ length outbox.image) × (busy ≤ MOST_BUSY)
IsJob (Some (DelayingEnd order outbox busy)) table =
    (order.size ≡ length outbox.image) × (busy ≤ MOST_BUSY)

-- the command of a purpose, an entity and a request, without a window's earlier sections
abbrev pub of_parts : Purpose → EntityId → Request → Command
of_parts purpose entity request =
    record { purpose = purpose; entity = entity; request = request; earlier = [] }

-- a response that grants windows grants at least one section
abbrev pub GrantsSome : Response → Type 0
GrantsSome (response.Start code window) = 1 ≤ window
GrantsSome _ = Unit {0}

-- the stage that the job's next command begins
abbrev pub with_wish : Option Wish → machine.Manager → machine.Manager
with_wish None m = m
with_wish (Some w) m = with_job (Some w.stage) m

-- whether an audit runs
abbrev pub is_audit : Option machine.Stage → Bool
is_audit None = false
is_audit (Some (machine.Probing high low)) = false
is_audit (Some machine.Asking) = false
is_audit (Some (machine.Gathering expected next copy)) = false
is_audit (Some machine.AskingAlarms) = true
is_audit (Some (machine.GatheringRows expected next)) = true
is_audit (Some (machine.StartingImage order asked image)) = false
is_audit (Some (machine.SendingImage order outgoing resent)) = false
is_audit (Some (machine.EndingImage order image busy)) = false
is_audit (Some (machine.DelayingEnd order image busy)) = false
