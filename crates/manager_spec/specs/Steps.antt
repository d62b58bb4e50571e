-- What a packet and a second do to the manager.
use Rattle.std.specs.Prelude.{ℕ, ◌==◌, Bool, true, false, List, [], ◌∷◌, Option, Some, None, Result, Ok, Err, slice_index}
use Rattle.std.specs.Option.{option_map_or}
use Rattle.omci_types.specs.declared.Frame.{Frame}
use Rattle.omci_types.specs.declared.Priority.{Priority}
use Rattle.omci_types.specs.declared.Priority.TheVariants.{Low, High}
use Rattle.omci_types.specs.declared.TheConstants.Code.{SUCCESS}
use Rattle.message_spec.specs.declared.Message.{Message}
use Rattle.message_spec.specs.declared.Message.TheVariants.{Asked, Answered, Told}
use Rattle.message_spec.specs.declared.Response.{Response}
use Rattle.message_spec.specs.declared.Response.TheVariants as response
use Rattle.message_spec.specs.declared.ContentsFault.{ContentsFault}
use Rattle.message_spec.specs.Reading.{message_of}
use Rattle.frame_spec.specs.Baseline.{packet_frame}
use Rattle.tci_spec.specs.Tci.{priority_of}
use Rattle.upload_spec.specs.Pieces.{Copy}
use Rattle.upload_spec.specs.Copies.{copy_counter}
use Rattle.window_spec.specs.Outgoing.{Outgoing}
use Rattle.lane_spec.specs.declared.LaneTick.{LaneTick}
use Rattle.lane_spec.specs.declared.LaneTick.TheVariants.{Quiet, Repeat, GaveUp}
use Rattle.lane_spec.specs.declared.Purpose.{Purpose}
use Rattle.lane_spec.specs.declared.Purpose.TheVariants as purpose
use Rattle.lane_spec.specs.Command.{Command}
use Rattle.lane_spec.specs.Lane.{Lane, Waiting, lane_tick, lane_reply, is_changed_by, waiting_packets}
use Rattle.manager_spec.specs.declared.Report.TheVariants as report
use Rattle.manager_spec.specs.Manager.{Stage, Probing, Asking, Gathering, AskingAlarms, GatheringRows, StartingImage, SendingImage, EndingImage, DelayingEnd, Order, Manager, Outcome, lane_in, with_lane, with_report, leave_step, sends_nothing, and_then}
use Rattle.manager_spec.specs.Copying.{followed}
use Rattle.manager_spec.specs.Resync.{with_job, probe_answered, gather_on, piece_came}
use Rattle.manager_spec.specs.Audit.{audit_begun, row_came, notice_came}
use Rattle.manager_spec.specs.Upgrade.{image_started, window_answered, end_answered}
use Rattle.manager_spec.specs.Jobs.{waits_for, job_lost, job_goes_on, job_resumes}

-- ---- what a reply says

abbrev pub response_in : Result Message ContentsFault → Option Response
response_in (Ok (Answered tci entity r)) = Some r
response_in (Ok (Asked tci entity r)) = None
response_in (Ok (Told tci entity notice)) = None
response_in (Err fault) = None

-- the response that a frame is, if it is one
unfoldable pub response_of : Frame → Option Response
response_of f = response_in (message_of f)

-- the code of a response that has one, and 0 of another
abbrev pub code_of : Response → ℕ
code_of (response.Create code mask) = code.0
code_of (response.Delete code) = code.0
code_of (response.Set code unsupported failed) = code.0
code_of (response.Get code mask values unsupported failed) = code.0
code_of (response.Reset code) = code.0
code_of (response.Start code window) = code.0
code_of (response.Section code number) = code.0
code_of (response.End code) = code.0
code_of (response.Activate code) = code.0
code_of (response.Commit code) = code.0
code_of (response.Reboot code) = code.0
code_of (response.Alarms count) = 0
code_of (response.AlarmsNext row) = 0
code_of (response.Upload count) = 0
code_of (response.UploadNext piece) = 0

-- the first byte of the values that a get gave
abbrev pub first_value : Response → ℕ
first_value (response.Get code mask values unsupported failed) = slice_index values 0
first_value _ = 0

-- ---- a reply is taken

-- a reply to a command that isn't a probe was taken in this lane
abbrev pub with_taken : Priority → Manager → Outcome
with_taken lane m = record { manager = m; taken = lane ∷ []; noticed = []; sendings = [] }

-- the lane is proved, and a job that waits for it no longer does
abbrev pub job_probed : Priority → Option Stage → Option Stage
job_probed lane None = None
job_probed lane (Some stage) = Some (probe_answered lane stage)

abbrev pub probe_taken : Priority → Manager → Outcome
probe_taken lane m =
    sends_nothing (with_job (job_probed lane m.job) (with_report (report.Proved lane) m))

-- the reply to a submitted request is handed on, and the copy follows a change
abbrev pub followed_by : Command → Option Response → Manager → Manager
followed_by c None m = m
followed_by c (Some r) m = followed c.entity c.request (code_of r) m

abbrev pub submission_taken : Priority → Command → Frame → Manager → Outcome
submission_taken lane c f m =
    with_taken lane (followed_by c (response_of f) (with_report (report.Took f) m))

abbrev pub expected_counter : Manager → ℕ
expected_counter m = option_map_or copy_counter m.copy 0

-- counters that differ show that the copy isn't in step
abbrev pub compared : Bool → Manager → Manager
compared true m = m
compared false m = leave_step m

-- the unit's counter is compared with the copy's
abbrev pub counters_compared : (given : ℕ) → Manager → Manager
counters_compared given m =
    compared (given == expected_counter m)
    (with_report (report.Checked given (expected_counter m)) m)

-- a check that wasn't answered by code 0 says nothing of the counter
abbrev pub checked_if : Bool → Response → Frame → Manager → Manager
checked_if true r f m = counters_compared (first_value r) m
checked_if false r f m = leave_step (with_report (report.Took f) m)

abbrev pub checked_by : Option Response → Frame → Manager → Manager
checked_by None f m = leave_step (with_report (report.Took f) m)
checked_by (Some r) f m = checked_if (code_of r == SUCCESS.0) r f m

abbrev pub check_taken : Priority → Frame → Manager → Outcome
check_taken lane f m = with_taken lane (checked_by (response_of f) f m)

-- the reply to a command whose job has ended
abbrev pub freed : Frame → Manager → Manager
freed f m = with_report (report.Freed f.tci) m

-- the reply that says how many pieces there are
abbrev pub upload_by : Option Response → Frame → Manager → Manager
upload_by (Some (response.Upload count)) f m = gather_on count 0 [] m
upload_by _ f m = freed f m

-- the reply with the next piece
abbrev pub piece_by_reply : Option Response → (expected next : ℕ) → Copy → Frame → Manager → Manager
piece_by_reply (Some (response.UploadNext piece)) expected next copy f m =
    piece_came expected next piece copy m
piece_by_reply _ expected next copy f m = freed f m

-- the reply that says how many rows there are
abbrev pub alarms_by : Option Response → Frame → Manager → Manager
alarms_by (Some (response.Alarms count)) f m = audit_begun count m
alarms_by _ f m = freed f m

-- the reply with the next row
abbrev pub row_by_reply : Option Response → (expected next : ℕ) → Frame → Manager → Manager
row_by_reply (Some (response.AlarmsNext row)) expected next f m = row_came expected next row m
row_by_reply _ expected next f m = freed f m

-- the reply that grants a download
abbrev pub start_by_reply : Option Response → Order → (asked : ℕ) → List ℕ → Frame → Manager
    → Manager
start_by_reply (Some (response.Start code window)) order asked image f m =
    image_started code.0 window order asked image m
start_by_reply _ order asked image f m = freed f m

-- the reply to a window
abbrev pub window_by_reply : Option Response → Order → Outgoing → (resent : ℕ) → Frame → Manager
    → Manager
window_by_reply (Some (response.Section code number)) order outgoing resent f m =
    window_answered code.0 order outgoing resent m
window_by_reply _ order outgoing resent f m = freed f m

-- the reply to a download's end
abbrev pub end_by_reply : Option Response → Order → List ℕ → (busy : ℕ) → Frame → Manager → Manager
end_by_reply (Some (response.End code)) order image busy f m =
    end_answered code.0 order image busy m
end_by_reply _ order image busy f m = freed f m

-- the reply that the job waits for
abbrev pub job_by : Option Stage → Option Response → Frame → Manager → Manager
job_by None r f m = freed f m
job_by (Some (Probing high low)) r f m = freed f m
job_by (Some Asking) r f m = upload_by r f m
job_by (Some (Gathering expected next copy)) r f m = piece_by_reply r expected next copy f m
job_by (Some AskingAlarms) r f m = alarms_by r f m
job_by (Some (GatheringRows expected next)) r f m = row_by_reply r expected next f m
job_by (Some (StartingImage order asked image)) r f m = start_by_reply r order asked image f m
job_by (Some (SendingImage order outgoing resent)) r f m =
    window_by_reply r order outgoing resent f m
job_by (Some (EndingImage order image busy)) r f m = end_by_reply r order image busy f m
job_by (Some (DelayingEnd order image busy)) r f m = freed f m

abbrev pub job_taken : Priority → Frame → Manager → Outcome
job_taken lane f m = with_taken lane (job_by m.job (response_of f) f m)

-- what a reply means goes by what its command was sent for
abbrev pub taken_as : Purpose → Priority → Command → Frame → Manager → Outcome
taken_as purpose.Probe lane c f m = probe_taken lane m
taken_as purpose.Submission lane c f m = submission_taken lane c f m
taken_as purpose.Check lane c f m = check_taken lane f m
taken_as purpose.Job lane c f m = job_taken lane f m

abbrev pub packet_dropped : Manager → Outcome
packet_dropped m = sends_nothing (with_report report.Dropped m)

-- what answers nothing is dropped, but for a notice
abbrev pub not_taken : Result Message ContentsFault → Frame → Manager → Outcome
not_taken (Ok (Told tci entity notice)) f m = notice_came entity notice f m
not_taken (Ok (Asked tci entity r)) f m = packet_dropped m
not_taken (Ok (Answered tci entity r)) f m = packet_dropped m
not_taken (Err fault) f m = packet_dropped m

-- The outstanding command is answered, and its lane is free; then the job goes on. Beside replies
-- notices are taken.
abbrev pub take_if : Bool → Option Waiting → Priority → Frame → Manager → Outcome
take_if false o lane f m = not_taken (message_of f) f m
take_if true None lane f m = not_taken (message_of f) f m
take_if true (Some w) lane f m =
    and_then
    (taken_as w.command.purpose lane w.command f
    (with_lane lane (lane_reply f (lane_in lane m)).lane m))
    job_goes_on

abbrev pub frame_came : Priority → Frame → Manager → Outcome
frame_came lane f m =
    take_if (lane_reply f (lane_in lane m)).taken (lane_in lane m).outstanding lane f m

abbrev pub for_frame : Option Frame → Manager → Outcome
for_frame None m = packet_dropped m
for_frame (Some f) m = frame_came (priority_of f.tci) f m

-- a packet that comes: one that isn't exactly one frame is neither a reply nor a notice
unfoldable pub after_packet : List ℕ → Manager → Outcome
after_packet bytes m = for_frame (packet_frame bytes) m

-- ---- a second passes

-- after a give-up a job that waited for the lane has failed; without one a change may have been
-- lost
abbrev pub loss_seen : (waits changes : Bool) → (tci : ℕ) → Manager → Manager
loss_seen true changes tci m = job_lost m.job tci m
loss_seen false true tci m = leave_step m
loss_seen false false tci m = m

-- the lane after the second, and what was outstanding in it before
abbrev pub lane_ticked : LaneTick → Priority → Option Waiting → Lane → Manager → Outcome
lane_ticked Quiet lane o l m = sends_nothing (with_lane lane l m)
lane_ticked Repeat lane o l m =
    record {
      manager = with_lane lane l m;
      taken = [];
      noticed = [];
      sendings =
          record {
            lane = lane;
            drawn = false;
            asks = false;
            packets = waiting_packets l.outstanding;
          } ∷ [];
    }
lane_ticked (GaveUp tci) lane o l m =
    sends_nothing
    (loss_seen (waits_for lane m.job) (is_changed_by o) tci
    (with_report (report.GaveUp tci) (with_lane lane l m)))

abbrev pub tick_lane : Priority → Manager → Outcome
tick_lane lane m =
    let t = lane_tick (lane_in lane m) in
    lane_ticked t.tick lane (lane_in lane m).outstanding t.lane m

-- the high lane, then the low lane
abbrev pub tick_lanes : Manager → Outcome
tick_lanes m = and_then (tick_lane High m) (tick_lane Low)

-- both lanes, and then the job
unfoldable pub after_tick : Manager → Outcome
after_tick m = and_then (tick_lanes m) job_resumes
