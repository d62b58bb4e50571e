-- An audit of the alarms (ITU-T G.988, get all alarms, in this profile): the unit is asked to put
-- its alarms by, and their rows are gathered one after the other; notices that come meanwhile wait.
use Rattle.std.specs.Prelude.{ℕ, ◌+◌, Bool, true, false, nat_le, List, [], ◌∷◌, length, Option, Some, None}
use Rattle.omci_types.specs.declared.EntityId.{EntityId}
use Rattle.omci_types.specs.declared.Frame.{Frame}
use Rattle.message_spec.specs.declared.Notice.{Notice}
use Rattle.message_spec.specs.declared.Notice.TheVariants as notices
use Rattle.alarm_spec.specs.declared.TakenAlarm.{TakenAlarm}
use Rattle.alarm_spec.specs.declared.TakenAlarm.TheVariants as taken
use Rattle.alarm_spec.specs.declared.BadRow.{BadRow}
use Rattle.alarm_spec.specs.declared.BadRow.TheVariants as bad
use Rattle.alarm_spec.specs.Table.{Table, take_answer, after_take, begun, gathered, row_fault, after_row, finished, failed}
use Rattle.manager_spec.specs.declared.AuditReason.{AuditReason}
use Rattle.manager_spec.specs.declared.AuditReason.TheVariants as reason
use Rattle.manager_spec.specs.declared.Report.TheVariants as report
use Rattle.manager_spec.specs.Manager.{Stage, Probing, Asking, Gathering, AskingAlarms, GatheringRows, StartingImage, SendingImage, EndingImage, DelayingEnd, Manager, Outcome, with_report, sends_nothing}
use Rattle.manager_spec.specs.Resync.{with_job}

abbrev pub with_table : Table → Manager → Manager
with_table t m = record m { table = t }

-- ---- how it ends

-- the job has failed, and the table is unaudited
abbrev pub audit_failed : AuditReason → Manager → Manager
audit_failed why m =
    with_report (report.AuditFailed why) (with_job None (with_table (failed m.table) m))

-- every row has come: the table is what was gathered, and then the notices that waited
abbrev pub audit_done : Manager → Manager
audit_done m =
    with_report (report.Audited (length (finished m.table).rows))
    (with_job None (with_table (finished m.table) m))

-- ---- what a reply does

abbrev pub rows_unless_all : Bool → (expected next : ℕ) → Manager → Manager
rows_unless_all true expected next m = audit_done m
rows_unless_all false expected next m = with_job (Some (GatheringRows expected next)) m

-- of so many rows those before that number are gathered
unfoldable pub rows_on : (expected next : ℕ) → Manager → Manager
rows_on expected next m = rows_unless_all (nat_le expected next) expected next m

-- the reply came that says how many rows there are
abbrev pub audit_begun : (expected : ℕ) → Manager → Manager
audit_begun expected m = rows_on expected 0 (with_table (begun m.table) m)

abbrev pub row_by : Option BadRow → (expected next : ℕ) → List ℕ → Manager → Manager
row_by None expected next row m = rows_on expected (next + 1) (with_table (after_row row m.table) m)
row_by (Some bad.Empty) expected next row m = audit_failed reason.Empty m
row_by (Some (bad.Repeated one)) expected next row m = audit_failed (reason.Repeated one) m

-- the row of that number came
abbrev pub row_came : (expected next : ℕ) → List ℕ → Manager → Manager
row_came expected next row m = row_by (row_fault row (gathered m.table)) expected next row m

-- ---- a notice comes

-- a notice that was lost, or that can't wait, ends an audit that runs
abbrev pub audit_lost : Option Stage → AuditReason → Manager → Manager
audit_lost None why m = m
audit_lost (Some (Probing high low)) why m = m
audit_lost (Some Asking) why m = m
audit_lost (Some (Gathering expected next copy)) why m = m
audit_lost (Some AskingAlarms) why m = audit_failed why m
audit_lost (Some (GatheringRows expected next)) why m = audit_failed why m
audit_lost (Some (StartingImage order asked image)) why m = m
audit_lost (Some (SendingImage order outgoing resent)) why m = m
audit_lost (Some (EndingImage order image busy)) why m = m
audit_lost (Some (DelayingEnd order image busy)) why m = m

-- the manager took that notice of the entity
abbrev pub notice_taken : EntityId → List ℕ → Manager → Outcome
notice_taken one bitmap m =
    record { manager = m; taken = []; noticed = (one, bitmap) ∷ []; sendings = [] }

-- what the table makes of a notice is reported
abbrev pub alarm_as : TakenAlarm → EntityId → List ℕ → (number : ℕ) → Manager → Outcome
alarm_as taken.Unaudited one bitmap number m =
    sends_nothing (with_report (report.AlarmUnaudited number) m)
alarm_as taken.Repeat one bitmap number m =
    sends_nothing (with_report (report.AlarmRepeat number) m)
alarm_as (taken.Gap want have) one bitmap number m =
    sends_nothing (audit_lost m.job (reason.Gap want have)
    (with_report (report.AlarmGap want have) m))
alarm_as taken.Overflow one bitmap number m =
    sends_nothing (audit_lost m.job reason.Overflow (with_report (report.AlarmOverflow number) m))
alarm_as taken.Taken one bitmap number m =
    notice_taken one bitmap (with_report (report.AlarmTaken number) m)

-- an alarm notice of the entity came
unfoldable pub alarm_came : EntityId → List ℕ → (number : ℕ) → Manager → Outcome
alarm_came one bitmap number m =
    alarm_as (take_answer number m.table) one bitmap number
    (with_table (after_take one bitmap number m.table) m)

-- a notice of the entity came, in this frame; that of a value changes nothing
abbrev pub notice_came : EntityId → Notice → Frame → Manager → Outcome
notice_came one (notices.Alarm bitmap number) f m = alarm_came one bitmap number m
notice_came one (notices.Change mask values) f m = sends_nothing (with_report (report.Change f) m)
