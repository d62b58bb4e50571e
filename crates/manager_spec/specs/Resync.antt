-- Resynchronisation (ITU-T G.988, clause I.1.3, in this profile): both lanes are probed, the unit
-- is asked to put its database by, and its pieces are gathered one after the other into a new copy.
use Rattle.std.specs.Prelude.{ℕ, ◌+◌, Bool, true, false, nat_le, List, length, is_some, Option, Some, None}
use Rattle.omci_types.specs.declared.Priority.{Priority}
use Rattle.omci_types.specs.declared.Priority.TheVariants.{Low, High}
use Rattle.upload_spec.specs.declared.PieceFault.{PieceFault}
use Rattle.upload_spec.specs.declared.PieceFault.TheVariants as fault
use Rattle.upload_spec.specs.Pieces.{Copy}
use Rattle.upload_spec.specs.Copies.{with_piece, piece_fault, copied_counter, copy_counter}
use Rattle.manager_spec.specs.declared.Phase.TheVariants as phase
use Rattle.manager_spec.specs.declared.ResyncReason.{ResyncReason}
use Rattle.manager_spec.specs.declared.ResyncReason.TheVariants as reason
use Rattle.manager_spec.specs.declared.Report.TheVariants as report
use Rattle.manager_spec.specs.Manager.{Stage, Probing, Asking, Gathering, AskingAlarms, GatheringRows, StartingImage, SendingImage, EndingImage, DelayingEnd, Manager, with_report, step_lost}

abbrev pub with_job : Option Stage → Manager → Manager
with_job job m = record m { job = job }

-- ---- how it ends

-- the job has failed, and the phase is out
abbrev pub resync_failed : ResyncReason → Manager → Manager
resync_failed why m = step_lost (with_report (report.ResyncFailed why) (with_job None m))

-- the new copy replaces the old one, and the phase is in step
abbrev pub resync_done : Copy → Manager → Manager
resync_done copy m =
    with_report report.PhaseIn
    (with_report (report.Synced (length copy) (copy_counter copy))
    (record m { phase = phase.InStep; copy = Some copy; job = None }))

abbrev pub done_if_counted : Bool → Copy → Manager → Manager
done_if_counted true copy m = resync_done copy m
done_if_counted false copy m = resync_failed reason.Missing m

-- all pieces came; the counter has to be among them
abbrev pub all_gathered : Copy → Manager → Manager
all_gathered copy m = done_if_counted (is_some (copied_counter copy)) copy m

-- ---- what a reply does

-- the probe of a lane was answered
abbrev pub probe_answered : Priority → Stage → Stage
probe_answered High (Probing high low) = Probing false low
probe_answered Low (Probing high low) = Probing high false
probe_answered lane Asking = Asking
probe_answered lane (Gathering expected next copy) = Gathering expected next copy
probe_answered lane AskingAlarms = AskingAlarms
probe_answered lane (GatheringRows expected next) = GatheringRows expected next
probe_answered lane (StartingImage order asked image) = StartingImage order asked image
probe_answered lane (SendingImage order outgoing resent) = SendingImage order outgoing resent
probe_answered lane (EndingImage order image busy) = EndingImage order image busy
probe_answered lane (DelayingEnd order image busy) = DelayingEnd order image busy

abbrev pub gather_unless_all : Bool → (expected next : ℕ) → Copy → Manager → Manager
gather_unless_all true expected next copy m = all_gathered copy m
gather_unless_all false expected next copy m = with_job (Some (Gathering expected next copy)) m

-- of so many pieces those before that number gave this copy
unfoldable pub gather_on : (expected next : ℕ) → Copy → Manager → Manager
gather_on expected next copy m = gather_unless_all (nat_le expected next) expected next copy m

-- a piece of an unknown class is passed over, and any other fault ends the job
abbrev pub piece_by : Option PieceFault → (expected next : ℕ) → List ℕ → Copy → Manager → Manager
piece_by None expected next piece copy m = gather_on expected (next + 1) (with_piece piece copy) m
piece_by (Some fault.Empty) expected next piece copy m = resync_failed reason.Empty m
piece_by (Some (fault.ClassUnknown class)) expected next piece copy m =
    gather_on expected (next + 1) copy m
piece_by (Some (fault.Truncated one)) expected next piece copy m =
    resync_failed (reason.Truncated one) m
piece_by (Some (fault.Repeated one attribute)) expected next piece copy m =
    resync_failed (reason.Repeated one attribute) m

-- the piece of that number came
abbrev pub piece_came : (expected next : ℕ) → List ℕ → Copy → Manager → Manager
piece_came expected next piece copy m = piece_by (piece_fault piece copy) expected next piece copy m
