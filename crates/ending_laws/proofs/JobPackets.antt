-- A packet leaves a running job waiting, has it send what comes next, or ends it.
use Rattle.std.proofs.Common.{◌≡◌, ℕ, ◌+◌, ◌*◌, ◌≤◌, ◌||◌, ◌==◌, Bool, true, false, cond, List, [], ◌∷◌, take, drop, Option, Some, None, Result, Ok, Err, ◌⊎◌, inl, inr, refl, sym, ap, subst, ◌∙◌, arith}
use Rattle.std.specs.Prelude.{max}
use Rattle.std.proofs.lemmas.Option.{same_Some}
use Rattle.omci_types.specs.declared.EntityId.{EntityId}
use Rattle.omci_types.specs.declared.Frame.{Frame}
use Rattle.omci_types.specs.declared.Priority.{Priority}
use Rattle.omci_types.specs.declared.Priority.TheVariants.{Low, High}
use Rattle.omci_types.specs.declared.TheConstants.Code.{SUCCESS}
use Rattle.frame_spec.specs.declared.FrameFault.{FrameFault}
use Rattle.frame_spec.specs.Baseline.{fault_of, frame_of, frame_unless, packet_frame}
use Rattle.message_spec.specs.declared.ContentsFault.{ContentsFault}
use Rattle.message_spec.specs.declared.Message.{Message}
use Rattle.message_spec.specs.declared.Message.TheVariants.{Asked, Answered, Told}
use Rattle.message_spec.specs.declared.Notice.{Notice}
use Rattle.message_spec.specs.declared.Notice.TheVariants as notices
use Rattle.message_spec.specs.declared.Request.{Request}
use Rattle.message_spec.specs.declared.Request.TheVariants as request
use Rattle.message_spec.specs.declared.Response.{Response}
use Rattle.message_spec.specs.Fields.{AreBytes}
use Rattle.message_spec.specs.Reading.{message_of}
use Rattle.message_laws.proofs.Places.{AreBytes-drop, AreBytes-take}
use Rattle.alarm_spec.specs.declared.TakenAlarm.{TakenAlarm}
use Rattle.alarm_spec.specs.declared.TakenAlarm.TheVariants as taken
use Rattle.alarm_spec.specs.Table.{take_answer, after_take}
use Rattle.lane_spec.specs.declared.Purpose.{Purpose}
use Rattle.lane_spec.specs.declared.Purpose.TheVariants as purpose
use Rattle.lane_spec.specs.Command.{Command, sync_entity, job_command, is_probe, answers}
use Rattle.lane_spec.specs.Lane.{Lane, Waiting, end_command}
use Rattle.manager_spec.specs.declared.Job.TheVariants as job
use Rattle.manager_spec.specs.declared.AuditReason.{AuditReason}
use Rattle.manager_spec.specs.declared.AuditReason.TheVariants as audit
use Rattle.manager_spec.specs.declared.Report.TheVariants as report
use Rattle.manager_spec.specs.Manager.{Stage, Probing, Asking, Gathering, AskingAlarms, GatheringRows, StartingImage, SendingImage, EndingImage, DelayingEnd, Manager, Outcome, lane_in, with_lane, and_then, sends_nothing, with_report, leave_step}
use Rattle.manager_spec.specs.Copying.{followed_if, followed}
use Rattle.manager_spec.specs.Resync.{with_job, probe_answered}
use Rattle.manager_spec.specs.Audit.{with_table, audit_lost, alarm_as, alarm_came, notice_came}
use Rattle.manager_spec.specs.Jobs.{job_of, Wish, wish_in, is_free, send_wish, job_goes_on}
use Rattle.manager_spec.specs.Upgrade.{start_command, image_window, end_image_command}
use Rattle.manager_spec.specs.Steps.{code_of, response_of, followed_by, expected_counter, compared, counters_compared, first_value, checked_if, checked_by, job_probed, job_by, taken_as, not_taken, after_packet}
use Rattle.world_laws.proofs.Likeness.{SameLanes}
use Rattle.world_laws.proofs.Manager.{freed_lane, meant_by, taken_by, untaken}
use Rattle.world_laws.proofs.Keeping.{taking_is, is_beside}
use Rattle.ending_laws.proofs.Stages.{AwaitsJob, IsProbing, IsFree, Awaits, left_of, left_if, wait, budget, cost, Done, Runs, Leaves, is_job, IsBesideJob, IsJobSound}
use Rattle.ending_laws.proofs.Replies.{leave_job, audit_fails, Next, IsSending, awaited_is, reply_next}
use Rattle.ending_laws.proofs.Hearing.{Answers, heard}
use Rattle.ending_laws.proofs.Sending.{goes_quiet, none_goes, next_leaves, goes_asking}

-- ---- what is no reply

-- the job is as it was, or it was an audit that has ended
abbrev pub Beside : Manager → Manager → Type 0
Beside m n = (n.job ≡ m.job) ⊎ ((s : Stage) × (m.job ≡ Some s) × Done (job_of s) n)

lost_beside : (j : Option Stage) (why : AuditReason) (m : Manager) → m.job ≡ j
    → Beside m (audit_lost j why m)
lost_beside None why m e = inl refl
lost_beside (Some (Probing high low)) why m e = inl refl
lost_beside (Some Asking) why m e = inl refl
lost_beside (Some (Gathering expected next copy)) why m e = inl refl
lost_beside (Some AskingAlarms) why m e = inr (AskingAlarms, e, audit_fails why m)
lost_beside (Some (GatheringRows expected next)) why m e =
    inr (GatheringRows expected next, e, audit_fails why m)
lost_beside (Some (StartingImage order asked image)) why m e = inl refl
lost_beside (Some (SendingImage order outgoing resent)) why m e = inl refl
lost_beside (Some (EndingImage order image busy)) why m e = inl refl
lost_beside (Some (DelayingEnd order image busy)) why m e = inl refl

alarm_beside : (a : TakenAlarm) (one : EntityId) (bitmap : List ℕ) (number : ℕ) (m : Manager)
    → Beside m (alarm_as a one bitmap number m).manager
alarm_beside taken.Unaudited one bitmap number m = inl refl
alarm_beside taken.Repeat one bitmap number m = inl refl
alarm_beside (taken.Gap want have) one bitmap number m =
    lost_beside m.job (audit.Gap want have) (with_report (report.AlarmGap want have) m) refl
alarm_beside taken.Overflow one bitmap number m =
    lost_beside m.job audit.Overflow (with_report (report.AlarmOverflow number) m) refl
alarm_beside taken.Taken one bitmap number m = inl refl

notice_beside : (one : EntityId) (notice : Notice) (f : Frame) (m : Manager)
    → Beside m (notice_came one notice f m).manager
unfolding alarm_came
notice_beside one (notices.Alarm bitmap number) f m =
    alarm_beside (take_answer number m.table) one bitmap number
    (with_table (after_take one bitmap number m.table) m)
notice_beside one (notices.Change mask values) f m = inl refl

message_beside : (r : Result Message ContentsFault) (f : Frame) (m : Manager)
    → Beside m (not_taken r f m).manager
message_beside (Ok (Told tci entity notice)) f m = notice_beside entity notice f m
message_beside (Ok (Asked tci entity r)) f m = inl refl
message_beside (Ok (Answered tci entity r)) f m = inl refl
message_beside (Err fault) f m = inl refl

pub untaken_beside : (o : Option Frame) (m : Manager) → Beside m (untaken o m).manager
untaken_beside None m = inl refl
untaken_beside (Some f) m = message_beside (message_of f) f m

-- ---- a reply to a command that isn't the job's

followed_if_job : (b : Bool) (one : EntityId) (r : Request) (m : Manager)
    → (followed_if b one r m).job ≡ m.job
followed_if_job true one r m = refl
followed_if_job false one r m = refl

followed_job : (c : Command) (r : Option Response) (m : Manager) → (followed_by c r m).job ≡ m.job
unfolding followed
followed_job c None m = refl
followed_job c (Some r) m = followed_if_job (code_of r == SUCCESS.0) c.entity c.request m

compared_job : (b : Bool) (m : Manager) → (compared b m).job ≡ m.job
compared_job true m = refl
compared_job false m = leave_job m

checked_if_job : (b : Bool) (r : Response) (f : Frame) (m : Manager)
    → (checked_if b r f m).job ≡ m.job
checked_if_job true r f m =
    compared_job (first_value r == expected_counter m)
    (with_report (report.Checked (first_value r) (expected_counter m)) m)
checked_if_job false r f m = leave_job (with_report (report.Took f) m)

checked_job : (r : Option Response) (f : Frame) (m : Manager) → (checked_by r f m).job ≡ m.job
checked_job None f m = leave_job (with_report (report.Took f) m)
checked_job (Some r) f m = checked_if_job (code_of r == SUCCESS.0) r f m

-- the stage after the reply to a probe or another command
abbrev after_other : Bool → Priority → Stage → Stage
after_other true l s = probe_answered l s
after_other false l s = s

other_job : (why : Purpose) (l : Priority) (c : Command) (f : Frame) (m : Manager) (s : Stage)
    → is_job why ≡ false → m.job ≡ Some s
    → (taken_as why l c f m).manager.job ≡ Some (after_other (is_probe why) l s)
other_job purpose.Probe l c f m s other e = ap (job_probed l) e
other_job purpose.Submission l c f m s other e =
    followed_job c (response_of f) (with_report (report.Took f) m) ∙ e
other_job purpose.Check l c f m s other e = checked_job (response_of f) f m ∙ e
other_job purpose.Job l c f m s other e = absurd (cc)

-- where no job runs, none begins
pub none_taken : (why : Purpose) (l : Priority) (c : Command) (f : Frame) (m : Manager)
    → m.job ≡ None → (taken_as why l c f m).manager.job ≡ None
none_taken purpose.Probe l c f m e = ap (job_probed l) e
none_taken purpose.Submission l c f m e =
    followed_job c (response_of f) (with_report (report.Took f) m) ∙ e
none_taken purpose.Check l c f m e = checked_job (response_of f) f m ∙ e
none_taken purpose.Job l c f m e =
    ap (λ j. (job_by j (response_of f) f m).job) e ∙ e

-- ---- a stage that a lane's reply leaves alone

abbrev pub Unprobed : Stage → Type 0
Unprobed (Probing high low) = high ≡ false
Unprobed _ = Unit {0}

unprobed_stays : (b : Bool) (s : Stage) → Unprobed s → after_other b High s ≡ s
unprobed_stays false s u = refl
unprobed_stays true (Probing high low) u = ap (λ h. Probing h low) (sym u)
unprobed_stays true Asking u = refl
unprobed_stays true (Gathering expected next copy) u = refl
unprobed_stays true AskingAlarms u = refl
unprobed_stays true (GatheringRows expected next) u = refl
unprobed_stays true (StartingImage order asked image) u = refl
unprobed_stays true (SendingImage order outgoing resent) u = refl
unprobed_stays true (EndingImage order image busy) u = refl
unprobed_stays true (DelayingEnd order image busy) u = refl

-- such a stage asks nothing of the high lane
pub other_high : (s : Stage) (low high x : Lane) → Unprobed s → Awaits s low high → Awaits s low x
other_high (Probing true low_) low high x u a = absurd (cc)
other_high (Probing false true) low high x u a = a
other_high (Probing false false) low high x u a = a
other_high Asking low high x u a = a
other_high (Gathering expected next copy) low high x u a = a
other_high AskingAlarms low high x u a = a
other_high (GatheringRows expected next) low high x u a = a
other_high (StartingImage order asked image) low high x u a = a
other_high (SendingImage order outgoing resent) low high x u a = a
other_high (EndingImage order image busy) low high x u a = a
other_high (DelayingEnd order image busy) low high x u a = a

pub other_cost : (s : Stage) (low high x : Lane) → Unprobed s → cost s low x ≡ cost s low high
other_cost (Probing true low_) low high x u = absurd (cc)
other_cost (Probing false b) low high x u = refl
other_cost Asking low high x u = refl
other_cost (Gathering expected next copy) low high x u = refl
other_cost AskingAlarms low high x u = refl
other_cost (GatheringRows expected next) low high x u = refl
other_cost (StartingImage order asked image) low high x u = refl
other_cost (SendingImage order outgoing resent) low high x u = refl
other_cost (EndingImage order image busy) low high x u = refl
other_cost (DelayingEnd order image busy) low high x u = refl

pub equal_less : (a b : ℕ) → a ≡ b → a + 0 ≤ b
equal_less a b e = omega (arith, e)

pub lanes_awaits : (s : Stage) (l x h y : Lane) → x ≡ l → y ≡ h → Awaits s l h → Awaits s x y
lanes_awaits s l x h y el eh a =
    subst (λ z. Awaits s x z) (sym eh) (subst (λ z. Awaits s z h) (sym el) a)

pub lanes_cost : (s : Stage) (l x h y : Lane) → x ≡ l → y ≡ h → cost s x y ≡ cost s l h
lanes_cost s l x h y el eh = ap (λ z. cost s z y) el ∙ ap (λ z. cost s l z) eh

-- the manager goes on as it waits
stays_running : (s t : Stage) (m n : Manager) → n.job ≡ Some t → job_of t ≡ job_of s
    → Awaits t n.low n.high → cost t n.low n.high ≤ cost s m.low m.high
    → Leaves s 0 m (job_goes_on n).manager
stays_running s t m n e same a less =
    inr (subst (λ o. Runs (job_of s) 0 (cost s m.low m.high) o.manager) (sym (goes_quiet t n e a))
    (record { stage = t; is = e; same = same; awaits = a; less = no_more less }))
  where
    no_more : {a b : ℕ} → a ≤ b → a + 0 ≤ b
    no_more h = omega (arith, h)

module _ (f : Frame) (w : Waiting) (m : Manager) (s : Stage) (e : m.job ≡ Some s) (a : Awaits s m.low m.high) where
  -- ---- in the high lane

  module _ (out : m.high.outstanding ≡ Some w) where
    abbrev high_freed : Manager
    high_freed = freed_lane High w m

    abbrev high_meant : Manager
    high_meant = (meant_by High f w m).manager

    high_lanes : SameLanes high_freed high_meant
    high_lanes = (taking_is w.command.purpose High w.command f high_freed).same

    high_unprobed : is_job w.command.purpose ≡ false → Unprobed s
        → Leaves s 0 m (taken_by High f w m).manager
    high_unprobed other u =
        stays_running s s m high_meant
        (other_job w.command.purpose High w.command f high_freed s other e
        ∙ ap (λ t. Some t) (unprobed_stays (is_probe w.command.purpose) s u)) refl
        (lanes_awaits s m.low high_meant.low high_freed.high high_meant.high high_lanes.low high_lanes.high
        (other_high s m.low m.high high_freed.high u a))
        (same_cost (lanes_cost s m.low high_meant.low high_freed.high high_meant.high high_lanes.low high_lanes.high
        ∙ other_cost s m.low m.high high_freed.high u))
      where
        same_cost : {x y : ℕ} → x ≡ y → x ≤ y
        same_cost k = omega (arith, k)

    probed_is : IsProbing m.high → w.command.purpose ≡ purpose.Probe
    probed_is p = ap (λ x. x.command.purpose) (same_Some w p.waiting (sym out ∙ p.waits)) ∙ p.probe

  -- ---- in the low lane

  module _ (out : m.low.outstanding ≡ Some w) where
    abbrev low_freed : Manager
    low_freed = freed_lane Low w m

    abbrev low_meant : Manager
    low_meant = (meant_by Low f w m).manager

    low_lanes : SameLanes low_freed low_meant
    low_lanes = (taking_is w.command.purpose Low w.command f low_freed).same

    -- the lane is free again where it was proved, or was probed
    low_free : is_probe w.command.purpose || m.low.proved ≡ true → IsFree low_meant.low
    low_free p = record {
      none = ap (λ l. l.outstanding) low_lanes.low;
      proved = ap (λ l. l.proved) low_lanes.low ∙ p;
    }

    job_replied : (c : Command) → AwaitsJob c m.low → c.purpose ≡ purpose.Job → IsSending s
        → answers w.tci w.command f ≡ true → AreBytes f.contents
        → Leaves s 0 m (taken_by Low f w m).manager
    job_replied c k why sending does bytes =
        next_leaves s (cost s m.low m.high) low_meant (fits (wait s m.low m.high) (budget s))
        (low_free (or_proved (is_probe w.command.purpose) m.low.proved k.proved))
        (subst (Next s) (sym meant_is)
        (reply_next m.low w out f does s m.high low_freed sending a bytes))
      where
        fits : (x y : ℕ) → y ≤ x + y
        fits x y = omega arith

        or_proved : (x y : Bool) → y ≡ true → (x || y) ≡ true
        or_proved true y h = refl
        or_proved false y h = h

        meant_is : low_meant ≡ job_by (Some s) (response_of f) f low_freed
        meant_is =
            ap (λ q. (taken_as q Low w.command f low_freed).manager)
            (ap (λ x. x.purpose) (awaited_is m.low w out f does c k) ∙ why)
            ∙ ap (λ j. job_by j (response_of f) f low_freed) e

-- ---- by the stage

probe_other : (why : Purpose) → why ≡ purpose.Probe → is_job why ≡ false
probe_other why e = ap is_job e

-- the probe of a lane was answered
probed_job : (l : Priority) (f : Frame) (w : Waiting) (m : Manager) (s : Stage) → m.job ≡ Some s
    → w.command.purpose ≡ purpose.Probe
    → (taken_as w.command.purpose l w.command f m).manager.job ≡ Some (probe_answered l s)
probed_job l f w m s e p =
    other_job w.command.purpose l w.command f m s (probe_other w.command.purpose p) e
    ∙ ap (λ why. Some (after_other (is_probe why) l s)) p

probing_purpose : (l : Lane) (w : Waiting) → l.outstanding ≡ Some w → IsProbing l
    → w.command.purpose ≡ purpose.Probe
probing_purpose l w out p =
    ap (λ x. x.command.purpose) (same_Some w p.waiting (sym out ∙ p.waits)) ∙ p.probe

not_idle : (l : Lane) (w : Waiting) → l.outstanding ≡ Some w → l.outstanding ≡ None → ⊥
not_idle l w out none = differ w (sym none ∙ out)
  where
    differ : (v : Waiting) → None ≡ Some v → ⊥
    differ v e = cc

max_right : (x y z b : ℕ) → x ≡ y → max 0 x + b ≤ max z y + b
max_right x y z b e = omega (arith, e)

max_left : (x y z b : ℕ) → x ≡ y → max x 0 + b ≤ max y z + b
max_left x y z b e = omega (arith, e)

budget_less : (x y : ℕ) → y ≤ x + y
budget_less x y = omega arith

pub high_taken : (s : Stage) (f : Frame) (w : Waiting) (m : Manager) → m.job ≡ Some s
    → Awaits s m.low m.high → m.high.outstanding ≡ Some w → is_job w.command.purpose ≡ false
    → Leaves s 0 m (taken_by High f w m).manager
high_taken (Probing true true) f w m e a out other =
    let p = high_meant f w m (Probing true true) e a out in
    let same = high_lanes f w m (Probing true true) e a out in
    stays_running (Probing true true) (Probing false true) m p
    (probed_job High f w (freed_lane High w m) (Probing true true) e
    (probing_purpose m.high w out a.1)) refl
    (subst IsProbing (sym same.low) a.0)
    (max_right (left_of Low p.low.outstanding) (left_of Low m.low.outstanding)
    (left_of High m.high.outstanding) (budget (Probing false true))
    (ap (λ l. left_of Low l.outstanding) same.low))
high_taken (Probing true false) f w m e a out other =
    let p = high_meant f w m (Probing true false) e a out in
    let same = high_lanes f w m (Probing true false) e a out in
    inr (goes_asking (cost (Probing true false) m.low m.high) p
    (probed_job High f w (freed_lane High w m) (Probing true false) e
    (probing_purpose m.high w out a.1))
    (subst IsFree (sym same.low) a.0)
    (budget_less (wait (Probing true false) m.low m.high) (budget (Probing false false))))
high_taken (Probing false true) f w m e a out other = high_unprobed f w m (Probing false true) e a out other refl
high_taken (Probing false false) f w m e a out other = absurd a
high_taken Asking f w m e a out other = high_unprobed f w m Asking e a out other tt
high_taken (Gathering expected next copy) f w m e a out other = high_unprobed f w m (Gathering expected next copy) e a out other tt
high_taken AskingAlarms f w m e a out other = high_unprobed f w m AskingAlarms e a out other tt
high_taken (GatheringRows expected next) f w m e a out other = high_unprobed f w m (GatheringRows expected next) e a out other tt
high_taken (StartingImage order asked image) f w m e a out other = high_unprobed f w m (StartingImage order asked image) e a out other tt
high_taken (SendingImage order o resent) f w m e a out other = high_unprobed f w m (SendingImage order o resent) e a out other tt
high_taken (EndingImage order image busy) f w m e a out other = high_unprobed f w m (EndingImage order image busy) e a out other tt
high_taken (DelayingEnd order image busy) f w m e a out other = high_unprobed f w m (DelayingEnd order image busy) e a out other tt

low_probed : (b : Bool) (why : Purpose) (proved : Bool) → why ≡ purpose.Probe
    → (is_probe why || proved) ≡ true
low_probed b why proved e = ap (λ q. is_probe q || proved) e

pub low_taken : (s : Stage) (f : Frame) (w : Waiting) (m : Manager) → m.job ≡ Some s
    → Awaits s m.low m.high → m.low.outstanding ≡ Some w → answers w.tci w.command f ≡ true
    → AreBytes f.contents → Leaves s 0 m (taken_by Low f w m).manager
unfolding image_window
low_taken (Probing true true) f w m e a out does bytes =
    let s = Probing true true in
    let p = low_meant f w m s e a out in
    let same = low_lanes f w m s e a out in
    let why = probing_purpose m.low w out a.0 in
    stays_running s (Probing true false) m p
    (probed_job Low f w (freed_lane Low w m) s e why) refl (
      low_free f w m s e a out (low_probed true w.command.purpose m.low.proved why),
      subst IsProbing (sym same.high) a.1,
    )
    (max_left (left_of High p.high.outstanding) (left_of High m.high.outstanding)
    (left_of Low m.low.outstanding) (budget (Probing true false))
    (ap (λ l. left_of High l.outstanding) same.high))
low_taken (Probing false true) f w m e a out does bytes =
    let s = Probing false true in
    let why = probing_purpose m.low w out a in
    inr (goes_asking (cost s m.low m.high) (low_meant f w m s e a out)
    (probed_job Low f w (freed_lane Low w m) s e why)
    (low_free f w m s e a out (low_probed true w.command.purpose m.low.proved why))
    (budget_less (wait s m.low m.high) (budget (Probing false false))))
low_taken (Probing true false) f w m e a out does bytes = absurd (not_idle m.low w out a.0.none)
low_taken (Probing false false) f w m e a out does bytes = absurd a
low_taken Asking f w m e a out does bytes =
    job_replied f w m Asking e a out (job_command sync_entity request.Upload) a refl tt does bytes
low_taken (Gathering expected next copy) f w m e a out does bytes =
    job_replied f w m (Gathering expected next copy) e a out
    (job_command sync_entity (request.UploadNext next)) a.1 refl tt does bytes
low_taken AskingAlarms f w m e a out does bytes =
    job_replied f w m AskingAlarms e a out (job_command sync_entity (request.Alarms 0)) a refl tt
    does bytes
low_taken (GatheringRows expected next) f w m e a out does bytes =
    job_replied f w m (GatheringRows expected next) e a out
    (job_command sync_entity (request.AlarmsNext next)) a.1 refl tt does bytes
low_taken (StartingImage order asked image) f w m e a out does bytes =
    job_replied f w m (StartingImage order asked image) e a out (start_command order asked image)
    a.1 refl tt does bytes
low_taken (SendingImage order o resent) f w m e a out does bytes =
    job_replied f w m (SendingImage order o resent) e a out (image_window order o) a.1 refl tt does
    bytes
low_taken (EndingImage order image busy) f w m e a out does bytes =
    job_replied f w m (EndingImage order image busy) e a out (end_image_command order image) a.1 refl
    tt does bytes
low_taken (DelayingEnd order image busy) f w m e a out does bytes =
    absurd (not_idle m.low w out a.1.none)

-- ---- a packet

unless_read : (b : Bool) (bytes : List ℕ) (f : Frame)
    → cond b (Some (frame_of bytes)) None ≡ Some f → frame_of bytes ≡ f
unless_read true bytes f e = same_Some (frame_of bytes) f e
unless_read false bytes f e = absurd (cc)

read_by : (o : Option FrameFault) (bytes : List ℕ) (f : Frame) → frame_unless o bytes ≡ Some f
    → frame_of bytes ≡ f
unfolding frame_unless
read_by None bytes f e = unless_read _ bytes f e
read_by (Some fault) bytes f e = absurd (cc)

contents_are_bytes : (bytes : List ℕ) (f : Frame) → AreBytes bytes → packet_frame bytes ≡ Some f
    → AreBytes f.contents
unfolding packet_frame frame_of
contents_are_bytes bytes f h e =
    subst (λ (x : Frame). AreBytes x.contents) (read_by (fault_of bytes) bytes f e)
    (AreBytes-take 32 (drop 8 bytes) (AreBytes-drop 8 bytes h))

module _ (bytes : List ℕ) (m : Manager) (s : Stage) (e : m.job ≡ Some s) (sound : IsJobSound m) (are : AreBytes bytes) where
  in_lane : (l : Priority) (f : Frame) (w : Waiting) → packet_frame bytes ≡ Some f
      → (lane_in l m).outstanding ≡ Some w → answers w.tci w.command f ≡ true
      → Leaves s 0 m (taken_by l f w m).manager
  in_lane High f w read out does =
      high_taken s f w m e (sound.awaits s e) out (sound.beside w out)
  in_lane Low f w read out does =
      low_taken s f w m e (sound.awaits s e) out does (contents_are_bytes bytes f are read)

  beside_leaves : (n : Manager) → SameLanes m n → Beside m n → Leaves s 0 m n
  beside_leaves n same (inl j) = inr (record {
    stage = s;
    is = j ∙ e;
    same = refl;
    awaits = lanes_awaits s m.low n.low m.high n.high same.low same.high (sound.awaits s e);
    less = equal_less (cost s n.low n.high) (cost s m.low m.high)
        (lanes_cost s m.low n.low m.high n.high same.low same.high);
  })
  beside_leaves n same (inr d) =
      inl (subst (λ t. Done (job_of t) n) (same_Some d.0 s (sym d.1 ∙ e)) d.2)

  heard_leaves : (o : Outcome) → (o ≡ untaken (packet_frame bytes) m) ⊎ Answers bytes m o
      → Leaves s 0 m o.manager
  heard_leaves o (inl is) =
      beside_leaves o.manager (is_beside (packet_frame bytes) m o is).keeps.same
      (subst (λ x. Beside m x.manager) (sym is) (untaken_beside (packet_frame bytes) m))
  heard_leaves o (inr a) =
      subst (λ x. Leaves s 0 m x.manager) (sym a.answered.is)
      (in_lane a.lane a.frame a.answered.waiting a.read a.answered.waits a.answered.does)

  pub packet_leaves : Leaves s 0 m (after_packet bytes m).manager
  packet_leaves = heard_leaves (after_packet bytes m) (heard bytes m)

-- ---- where no job runs

freed_job : (l : Priority) (w : Waiting) (m : Manager) → (freed_lane l w m).job ≡ m.job
freed_job Low w m = refl
freed_job High w m = refl

pub some_none : (s : Stage) → None ≡ Some s → ⊥
some_none s e = cc

none_beside : (m n : Manager) → m.job ≡ None → Beside m n → n.job ≡ None
none_beside m n e (inl j) = j ∙ e
none_beside m n e (inr d) = absurd (some_none d.0 (sym e ∙ d.1))

none_answered : (l : Priority) (f : Frame) (w : Waiting) (m : Manager) → m.job ≡ None
    → (taken_by l f w m).manager.job ≡ None
none_answered l f w m e =
    let n = (meant_by l f w m).manager in
    let none = none_taken w.command.purpose l w.command f (freed_lane l w m) (freed_job l w m ∙ e) in
    ap (λ o. o.manager.job) (none_goes n none) ∙ none

none_heard : (bytes : List ℕ) (m : Manager) (o : Outcome) → m.job ≡ None
    → (o ≡ untaken (packet_frame bytes) m) ⊎ Answers bytes m o → o.manager.job ≡ None
none_heard bytes m o e (inl is) =
    none_beside m o.manager e
    (subst (λ x. Beside m x.manager) (sym is) (untaken_beside (packet_frame bytes) m))
none_heard bytes m o e (inr a) =
    ap (λ x. x.manager.job) a.answered.is
    ∙ none_answered a.lane a.frame a.answered.waiting m e

pub packet_none : (bytes : List ℕ) (m : Manager) → m.job ≡ None
    → (after_packet bytes m).manager.job ≡ None
packet_none bytes m e = none_heard bytes m (after_packet bytes m) e (heard bytes m)

-- ---- the high lane

pub beside_same : (l x : Lane) → x ≡ l → IsBesideJob l → IsBesideJob x
beside_same l x e h = subst IsBesideJob (sym e) h

pub beside_idle : (l : Lane) → l.outstanding ≡ None → IsBesideJob l
beside_idle l none = λ w out. absurd (not_idle l w out none)

sent_high : (free : Bool) (w : Option Wish) (m : Manager)
    → (send_wish free w m).manager.high ≡ m.high
sent_high free None m = refl
sent_high false (Some w) m = refl
sent_high true (Some w) m = refl

pub goes_high : (m : Manager) → (job_goes_on m).manager.high ≡ m.high
unfolding job_goes_on
goes_high m = sent_high (is_free m.low) (wish_in m.job) m

answered_high : (l : Priority) (f : Frame) (w : Waiting) (m : Manager) → IsBesideJob m.high
    → IsBesideJob (taken_by l f w m).manager.high
answered_high High f w m h =
    let n = (meant_by High f w m).manager in
    beside_same n.high (job_goes_on n).manager.high (goes_high n)
    (beside_idle n.high (ap (λ l. l.outstanding) (taking_is w.command.purpose High w.command f (freed_lane High w m)).same.high))
answered_high Low f w m h =
    let n = (meant_by Low f w m).manager in
    beside_same m.high (job_goes_on n).manager.high
    (goes_high n ∙ (taking_is w.command.purpose Low w.command f (freed_lane Low w m)).same.high) h

heard_high : (bytes : List ℕ) (m : Manager) (o : Outcome) → IsBesideJob m.high
    → (o ≡ untaken (packet_frame bytes) m) ⊎ Answers bytes m o → IsBesideJob o.manager.high
heard_high bytes m o h (inl is) =
    beside_same m.high o.manager.high (is_beside (packet_frame bytes) m o is).keeps.same.high h
heard_high bytes m o h (inr a) =
    subst (λ x. IsBesideJob x.manager.high) (sym a.answered.is)
    (answered_high a.lane a.frame a.answered.waiting m h)

pub packet_high : (bytes : List ℕ) (m : Manager) → IsBesideJob m.high
    → IsBesideJob (after_packet bytes m).manager.high
packet_high bytes m h = heard_high bytes m (after_packet bytes m) h (heard bytes m)
