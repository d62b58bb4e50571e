-- The reply that a job's command gets, and what comes of it: the job has ended, or it wants to send
-- a command more, of which fewer are left.
use Rattle.std.proofs.Common.{◌≡◌, ℕ, ◌+◌, ◌-◌, ◌*◌, ◌≤◌, ◌<◌, ◌^◌, ◌&&◌, ◌||◌, ◌==◌, eqb, cond, min, Bool, true, false, nat_le, nat_lt, List, [], ◌∷◌, ◌++◌, take, drop, length, Option, Some, None, Result, Ok, Err, is_some, ◌⊎◌, inl, inr, refl, sym, ap, subst, ◌∙◌, arith}
use Rattle.std.specs.Prelude.{slice_index}
use Rattle.std.specs.Int.{w16, from_be_bytes}
use Rattle.std.proofs.lemmas.Option.{same_Some}
use Rattle.std.proofs.lemmas.Bool.{eqb-true, and_parts}
use Rattle.std.proofs.lemmas.Bool.Decides.{nat_tests}
use Rattle.omci_types.specs.declared.Frame.{Frame}
use Rattle.omci_types.specs.declared.TheConstants.Code.{SUCCESS, BUSY}
use Rattle.message_spec.specs.declared.Action.{Action}
use Rattle.message_spec.specs.declared.Action.TheVariants as action
use Rattle.message_spec.specs.declared.Kind.TheVariants as kinds
use Rattle.message_spec.specs.declared.Response.{Response}
use Rattle.message_spec.specs.declared.Response.TheVariants as response
use Rattle.message_spec.specs.declared.Request.{Request}
use Rattle.message_spec.specs.declared.Request.TheVariants as request
use Rattle.message_spec.specs.Fields.{AreBytes, values_at}
use Rattle.message_spec.specs.Types.{row, kind_of, type_byte, layout}
use Rattle.message_spec.specs.Requests.{request_kind}
use Rattle.message_spec.specs.Responses.{response_with}
use Rattle.message_spec.specs.Reading.{plain, message_typed, message_of}
use Rattle.message_laws.proofs.Rows.{kind_found}
use Rattle.message_laws.proofs.Places.{AreBytes-drop, AreBytes-take}
use Rattle.alarm_spec.specs.declared.BadRow.{BadRow}
use Rattle.alarm_spec.specs.declared.BadRow.TheVariants as bad
use Rattle.alarm_spec.specs.Table.{gathered, row_fault, after_row, begun}
use Rattle.upload_spec.specs.declared.PieceFault.{PieceFault}
use Rattle.upload_spec.specs.declared.PieceFault.TheVariants as fault
use Rattle.upload_spec.specs.Pieces.{Copy}
use Rattle.upload_spec.specs.Copies.{with_piece, piece_fault, copied_counter, copy_counter}
use Rattle.window_spec.specs.Outgoing.{Outgoing, new_outgoing, section_count, sections_left, is_last, after_window}
use Rattle.lane_spec.specs.declared.Purpose.TheVariants as purpose
use Rattle.lane_spec.specs.Lane.{Lane, Waiting}
use Rattle.lane_spec.specs.Command.{Command, sync_entity, job_command, command_frame, is_probe, same_entity, is_response, answers}
use Rattle.manager_spec.specs.declared.TheConstants.{MOST_RESENT, MOST_BUSY}
use Rattle.manager_spec.specs.declared.Phase.{Phase}
use Rattle.manager_spec.specs.declared.Phase.TheVariants as phase
use Rattle.manager_spec.specs.declared.Job.{Job}
use Rattle.manager_spec.specs.declared.Job.TheVariants as job
use Rattle.manager_spec.specs.declared.ResyncReason.{ResyncReason}
use Rattle.manager_spec.specs.declared.ResyncReason.TheVariants as reason
use Rattle.manager_spec.specs.declared.AuditReason.{AuditReason}
use Rattle.manager_spec.specs.declared.AuditReason.TheVariants as audit
use Rattle.manager_spec.specs.declared.ImageReason.{ImageReason}
use Rattle.manager_spec.specs.declared.ImageReason.TheVariants as images
use Rattle.manager_spec.specs.declared.Report.TheVariants as report
use Rattle.manager_spec.specs.Manager.{Order, Stage, Probing, Asking, Gathering, AskingAlarms, GatheringRows, StartingImage, SendingImage, EndingImage, DelayingEnd, Manager, phase_left, leave_step, with_report}
use Rattle.manager_spec.specs.Copying.{counted_in_step}
use Rattle.manager_spec.specs.Resync.{with_job, resync_failed, resync_done, done_if_counted, all_gathered, gather_unless_all, gather_on, piece_by}
use Rattle.manager_spec.specs.Audit.{with_table, audit_failed, audit_done, rows_unless_all, rows_on, row_by, audit_begun}
use Rattle.manager_spec.specs.Upgrade.{start_command, image_window, end_image_command, image_failed, refused_by, image_done, started_if, image_started, window_taken, window_refused, window_by, window_answered, busy_if, end_delayed, end_by, end_answered}
use Rattle.manager_spec.specs.Jobs.{job_of, lost_by}
use Rattle.manager_spec.specs.Steps.{response_in, response_of, job_by}
use Rattle.world_laws.proofs.Keeping.{leave_keeps}
use Rattle.ending_spec.specs.Moves.{is_told}
use Rattle.ending_spec.specs.Jobs.{MOST_TOLD, ends_left, windows_left, image_left, commands_left, delays_left, reports_job}
use Rattle.ending_laws.proofs.Told.{reports_grow, told_last, told_left}
use Rattle.ending_laws.proofs.Stages.{AwaitsJob, Awaits, Done, budget}

-- ---- the end of a job

left_job : (p : Phase) (m : Manager) → (phase_left p m).job ≡ m.job
left_job phase.InStep m = refl
left_job phase.New m = refl
left_job phase.Out m = refl

pub leave_job : (m : Manager) → (leave_step m).job ≡ m.job
leave_job m = left_job m.phase m

left_done : (j : Job) (m : Manager) → Done j m → Done j (leave_step m)
left_done j m d = let k = leave_keeps m in record {
  none = leave_job m ∙ d.none;
  told = reports_grow m (leave_step m) k.added k.reports (reports_job j) d.told;
}

resync_fails : (why : ResyncReason) (m : Manager) → Done job.Resync (resync_failed why m)
resync_fails why m =
    let n = with_report (report.ResyncFailed why) (with_job None m) in
    let d = left_done job.Resync n (record {
      none = refl;
      told = told_last (reports_job job.Resync) m.reports (report.ResyncFailed why) refl;
    }) in
    record { none = d.none; told = d.told }

pub audit_fails : (why : AuditReason) (m : Manager) → Done job.Audit (audit_failed why m)
audit_fails why m = record {
  none = refl;
  told = told_last (reports_job job.Audit) m.reports (report.AuditFailed why) refl;
}

image_fails : (why : ImageReason) (m : Manager) → Done job.Image (image_failed why m)
image_fails why m = record {
  none = refl;
  told = told_last (reports_job job.Image) m.reports (report.ImageFailed why) refl;
}

pub lost_done : (j : Job) (tci : ℕ) (m : Manager) → Done j (lost_by j tci m)
lost_done job.Resync tci m = resync_fails (reason.GaveUp tci) m
lost_done job.Audit tci m = audit_fails (audit.GaveUp tci) m
lost_done job.Image tci m =
    left_done job.Image (image_failed (images.GaveUp tci) m)
    (image_fails (images.GaveUp tci) m)

-- ---- it goes on

-- a stage that sends its command next, or with the next second
abbrev pub Ready : Stage → Type 0
Ready (Probing high low) = ⊥
Ready Asking = ⊥
Ready (Gathering expected next copy) = next < expected
Ready AskingAlarms = ⊥
Ready (GatheringRows expected next) = next < expected
Ready (StartingImage order asked image) = ⊥
Ready (SendingImage order o resent) = 1 ≤ o.most
Ready (EndingImage order image busy) = busy ≤ MOST_BUSY
Ready (DelayingEnd order image busy) = busy ≤ MOST_BUSY

-- the seconds of the command that it sends
abbrev pub first_wait : Stage → ℕ
first_wait (DelayingEnd order image busy) = 0
first_wait _ = 9

pub record Sends (s : Stage) (m : Manager) : Type 0 where
  pub stage : Stage
  pub is : m.job ≡ Some stage
  pub same : job_of stage ≡ job_of s
  pub ready : Ready stage
  pub less : first_wait stage + budget stage ≤ budget s

abbrev pub Next : Stage → Manager → Type 0
Next s m = Done (job_of s) m ⊎ Sends s m

over : (a b : ℕ) → nat_le a b ≡ false → b < a
over a b e = grind (arith, nat_tests)

within : (a b : ℕ) → nat_le a b ≡ true → a ≤ b
within a b e = grind (arith, nat_tests)

below : (a b : ℕ) → nat_lt a b ≡ true → a < b
below a b e = grind (arith, nat_tests)

-- ---- pieces

counted_done : (b : Bool) (copy : Copy) (m : Manager) → Done job.Resync (done_if_counted b copy m)
counted_done false copy m = resync_fails reason.Missing m
counted_done true copy m = record {
  none = refl;
  told = told_left (reports_job job.Resync)
      (m.reports ++ report.Synced (length copy) (copy_counter copy) ∷ []) (report.PhaseIn ∷ [])
      (told_last (reports_job job.Resync) m.reports
      (report.Synced (length copy) (copy_counter copy)) refl);
}

-- the pieces from that number on are gathered next
gather_by : (b : Bool) (s : Stage) (expected next : ℕ) (copy : Copy) (m : Manager)
    → nat_le expected next ≡ b → job_of s ≡ job.Resync
    → (next < expected → 9 + budget (Gathering expected next copy) ≤ budget s)
    → Next s (gather_unless_all b expected next copy m)
gather_by true s expected next copy m e is less =
    inl (subst (λ j. Done j (all_gathered copy m)) (sym is)
    (counted_done (is_some (copied_counter copy)) copy m))
gather_by false s expected next copy m e is less = inr (record {
  stage = Gathering expected next copy;
  is = refl;
  same = sym is;
  ready = over expected next e;
  less = less (over expected next e);
})

gather_next : (s : Stage) (expected next : ℕ) (copy : Copy) (m : Manager) → job_of s ≡ job.Resync
    → (next < expected → 9 + budget (Gathering expected next copy) ≤ budget s)
    → Next s (gather_on expected next copy m)
unfolding gather_on
gather_next s expected next copy m is less =
    gather_by (nat_le expected next) s expected next copy m refl is less

one_piece : (expected next : ℕ) → next + 1 < expected
    → 9 + (9 * (expected - (next + 1 + 1)) + 0) ≤ 9 * (expected - (next + 1)) + 0
one_piece expected next lt = omega (arith, lt)

piece_next : (o : Option PieceFault) (expected next : ℕ) (old : Copy) (piece : List ℕ) (copy : Copy)
    (m : Manager) → Next (Gathering expected next old) (piece_by o expected next piece copy m)
piece_next None expected next old piece copy m =
    gather_next (Gathering expected next old) expected (next + 1) (with_piece piece copy) m refl
    (one_piece expected next)
piece_next (Some fault.Empty) expected next old piece copy m = inl (resync_fails reason.Empty m)
piece_next (Some (fault.ClassUnknown class)) expected next old piece copy m =
    gather_next (Gathering expected next old) expected (next + 1) copy m refl
    (one_piece expected next)
piece_next (Some (fault.Truncated one)) expected next old piece copy m =
    inl (resync_fails (reason.Truncated one) m)
piece_next (Some (fault.Repeated one attribute)) expected next old piece copy m =
    inl (resync_fails (reason.Repeated one attribute) m)

first_piece : (count : ℕ) → count < 65536 → 0 < count
    → 9 + (9 * (count - (0 + 1)) + 0) ≤ 9 * 65535 + 0
first_piece count lt some = omega (arith, lt, some)

-- ---- rows

rows_by : (b : Bool) (s : Stage) (expected next : ℕ) (m : Manager) → nat_le expected next ≡ b
    → job_of s ≡ job.Audit
    → (next < expected → 9 + budget (GatheringRows expected next) ≤ budget s)
    → Next s (rows_unless_all b expected next m)
rows_by true s expected next m e is less =
    inl (subst (λ j. Done j (audit_done m)) (sym is)
    (record { none = refl; told = told_last (reports_job job.Audit) m.reports _ refl }))
rows_by false s expected next m e is less = inr (record {
  stage = GatheringRows expected next;
  is = refl;
  same = sym is;
  ready = over expected next e;
  less = less (over expected next e);
})

rows_next : (s : Stage) (expected next : ℕ) (m : Manager) → job_of s ≡ job.Audit
    → (next < expected → 9 + budget (GatheringRows expected next) ≤ budget s)
    → Next s (rows_on expected next m)
unfolding rows_on
rows_next s expected next m is less =
    rows_by (nat_le expected next) s expected next m refl is less

row_next : (o : Option BadRow) (expected next : ℕ) (row : List ℕ) (m : Manager)
    → Next (GatheringRows expected next) (row_by o expected next row m)
row_next None expected next row m =
    rows_next (GatheringRows expected next) expected (next + 1) (with_table (after_row row m.table) m)
    refl (one_piece expected next)
row_next (Some bad.Empty) expected next row m = inl (audit_fails audit.Empty m)
row_next (Some (bad.Repeated one)) expected next row m = inl (audit_fails (audit.Repeated one) m)

-- ---- windows

start_next : (b : Bool) (number granted : ℕ) (order : Order) (asked : ℕ) (image : List ℕ)
    (m : Manager) → 1 ≤ asked → 1 ≤ granted
    → Next (StartingImage order asked image) (started_if b number granted order asked image m)
start_next true number granted order asked image m a g = inr (record {
  stage = SendingImage order (new_outgoing image (min asked granted)) 0;
  is = refl;
  same = refl;
  ready = least asked granted a g;
  less = one_more (image_left (new_outgoing image 1) 0);
})
  where
    least : (x y : ℕ) → 1 ≤ x → 1 ≤ y → 1 ≤ min x y
    least x y h k = omega (arith, h, k)

    one_more : (n : ℕ) → 9 + (9 * n + 60) ≤ 9 * (n + 1) + 60
    one_more n = omega arith
start_next false number granted order asked image m a g =
    inl (image_fails (images.Code (record { 0 = number })) m)

-- a window more has fewer sections after it
fewer : (sections first most resent : ℕ) → 1 ≤ most → nat_le (sections - first) most ≡ false
    → 9 + (9 * ((8 - 0) + 9 * ((sections - (first + most)) - 1) + (60 + 1)) + 60)
    ≤ 9 * ((8 - resent) + 9 * ((sections - first) - 1) + (60 + 1)) + 60
fewer sections first most resent some e =
    let left : most < sections - first = over (sections - first) most e in
    omega (arith, some, left)

next_window : (o : Outgoing) → is_last o ≡ false
    → after_window o ≡ record o { first = o.first + o.most }
unfolding after_window
next_window o e = ap (λ b. cond b o (record o { first = o.first + o.most })) e

taken_next : (b : Bool) (order : Order) (o : Outgoing) (resent : ℕ) (m : Manager) → is_last o ≡ b
    → 1 ≤ o.most → Next (SendingImage order o resent) (window_taken b order o m)
taken_next true order o resent m e some = inr (record {
  stage = EndingImage order o.image 0;
  is = refl;
  same = refl;
  ready = omega arith;
  less = ends_next (windows_left o resent);
})
  where
    ends_next : (n : ℕ) → 9 + (9 * (60 - 0) + (60 - 0)) ≤ 9 * (n + (60 + 1)) + 60
    ends_next n = omega arith
taken_next false order o resent m e some =
    let v = record o { first = o.first + o.most } in
    inr (record {
      stage = SendingImage order (after_window o) 0;
      is = refl;
      same = refl;
      ready = subst (λ (x : Outgoing). 1 ≤ x.most) (sym (next_window o e)) some;
      less = subst (λ x. 9 + budget (SendingImage order x 0) ≤ budget (SendingImage order o resent))
          (sym (next_window o e))
          (fewer (section_count o.image) o.first o.most resent some e);
    })

refused_next : (b : Bool) (number : ℕ) (order : Order) (o : Outgoing) (resent : ℕ) (m : Manager)
    → nat_lt resent MOST_RESENT ≡ b → 1 ≤ o.most
    → Next (SendingImage order o resent) (window_refused b number order o resent m)
refused_next true number order o resent m e some = inr (record {
  stage = SendingImage order o (resent + 1);
  is = refl;
  same = refl;
  ready = some;
  less = anew resent (sections_left o - 1) (below resent 8 e);
})
  where
    anew : (r n : ℕ) → r < 8
        → 9 + (9 * ((8 - (r + 1)) + 9 * n + (60 + 1)) + 60) ≤ 9 * ((8 - r) + 9 * n + (60 + 1)) + 60
    anew r n lt = omega (arith, lt)
refused_next false number order o resent m e some =
    inl (image_fails (images.Code (record { 0 = number })) m)

window_next : (b : Bool) (number : ℕ) (order : Order) (o : Outgoing) (resent : ℕ) (m : Manager)
    → 1 ≤ o.most → Next (SendingImage order o resent) (window_by b number order o resent m)
window_next true number order o resent m some =
    taken_next (is_last o) order o resent m refl some
window_next false number order o resent m some =
    refused_next (nat_lt resent MOST_RESENT) number order o resent m refl some

-- ---- the end of a download

delayed_next : (b : Bool) (order : Order) (image : List ℕ) (busy : ℕ) (m : Manager)
    → nat_le (busy + 1) MOST_BUSY ≡ b
    → Next (EndingImage order image busy) (busy_if b order image (busy + 1) m)
delayed_next true order image busy m e = inr (record {
  stage = DelayingEnd order image (busy + 1);
  is = refl;
  same = refl;
  ready = within (busy + 1) 60 e;
  less = waits busy (within (busy + 1) 60 e);
})
  where
    waits : (n : ℕ) → n + 1 ≤ 60
        → 0 + (9 * ((60 - (n + 1)) + 1) + ((60 - (n + 1)) + 1)) ≤ 9 * (60 - n) + (60 - n)
    waits n le = omega (arith, le)
delayed_next false order image busy m e = inl (image_fails (images.Code (record { 0 = BUSY.0 })) m)

end_next : (done busy : Bool) (number : ℕ) (order : Order) (image : List ℕ) (times : ℕ)
    (m : Manager)
    → Next (EndingImage order image times) (end_by done busy number order image times m)
end_next true busy number order image times m = inl (record {
  none = refl;
  told = told_last (reports_job job.Image) (counted_in_step m).reports (report.ImageDone order.slot)
      refl;
})
end_next false true number order image times m =
    delayed_next (nat_le (times + 1) MOST_BUSY) order image times
    (with_report (report.Busy (times + 1)) m) refl
end_next false false number order image times m =
    inl (image_fails (images.Code (record { 0 = number })) m)

-- ---- the reply's message

number_of : (a b c : ℕ) → eqb (a + 32) (64 + b) ≡ true → a ≡ 32 + b
number_of a b c e = let k = eqb-true (a + 32) (64 + b) e in omega (arith, k)

-- a frame of a response's type is that response
read_as : (a : Action) (f : Frame) → f.kind ≡ type_byte (kinds.Response a)
    → response_of f ≡ Some (response_with a (values_at (layout (kinds.Response a)) f.contents))
unfolding response_of message_of
read_as a f e = ap (λ k. response_in (message_typed f k)) (ap kind_of e ∙ kind_found (kinds.Response a))

-- what answers a request of that type
reply_is : (tci : ℕ) (c : Command) (a : Action) (f : Frame) → is_probe c.purpose ≡ false
    → request_kind c.request ≡ kinds.Request a → answers tci c f ≡ true
    → response_of f ≡ Some (response_with a (values_at (layout (kinds.Response a)) f.contents))
unfolding command_frame plain
reply_is tci c a f why kind e =
    read_as a f (number_of f.kind (row a).number 0
    (subst (λ k. eqb (f.kind + 32) (type_byte k) ≡ true) kind
    (and_parts (eqb (f.kind + 32) (type_byte (request_kind c.request)))
    (same_entity f.entity c.entity) responds).0))
  where
    both : (f.tci == tci ≡ true)
        × (is_probe c.purpose || is_response (command_frame tci c) f ≡ true)
    both = and_parts (f.tci == tci) (is_probe c.purpose || is_response (command_frame tci c) f) e

    responds : is_response (command_frame tci c) f ≡ true
    responds = subst (λ b. b || is_response (command_frame tci c) f ≡ true) why both.1

-- two bytes tell less than 65,536
two_less : (bytes : List ℕ) → AreBytes bytes → from_be_bytes w16 bytes < 65536
two_less bytes h = let a = h 0 in let b = h 1 in omega (arith, a, b)

told_less : (f : Frame) → AreBytes f.contents → from_be_bytes w16 (take 2 (drop 0 f.contents)) < 65536
told_less f h = two_less (take 2 (drop 0 f.contents))
    (AreBytes-take 2 (drop 0 f.contents) (AreBytes-drop 0 f.contents h))

one_at_least : (n : ℕ) → 1 ≤ n + 1
one_at_least n = omega arith

-- ---- the reply that a stage waits for

-- a stage whose command is outstanding in the low lane
abbrev pub IsSending : Stage → Type 0
IsSending (Probing high low) = ⊥
IsSending (DelayingEnd order image busy) = ⊥
IsSending _ = Unit {0}

module _ (l : Lane) (w : Waiting) (out : l.outstanding ≡ Some w) (f : Frame) (e : answers w.tci w.command f ≡ true) where
  -- it is the command that is awaited
  pub awaited_is : (c : Command) → AwaitsJob c l → w.command ≡ c
  awaited_is c a = sym (ap (λ x. x.command) (same_Some a.waiting w (sym a.waits ∙ out))) ∙ a.command

  read_reply : (c : Command) (a : Action) → AwaitsJob c l → is_probe c.purpose ≡ false
      → request_kind c.request ≡ kinds.Request a
      → response_of f ≡ Some (response_with a (values_at (layout (kinds.Response a)) f.contents))
  read_reply c a k why kind = reply_is w.tci c a f why kind
      (subst (λ x. answers w.tci x f ≡ true) (awaited_is c k) e)

  pub reply_next : (s : Stage) (high : Lane) (m : Manager) → IsSending s → Awaits s l high
      → AreBytes f.contents → Next s (job_by (Some s) (response_of f) f m)
  unfolding image_started window_answered end_answered image_window
  reply_next (Probing h b) high m sending a bytes = absurd sending
  reply_next Asking high m sending a bytes =
      let count = from_be_bytes w16 (take 2 (drop 0 f.contents)) in
      subst (λ r. Next Asking (job_by (Some Asking) r f m))
      (sym (read_reply (job_command sync_entity request.Upload) action.Upload a refl refl))
      (gather_next Asking count 0 [] m refl (first_piece count (told_less f bytes)))
  reply_next (Gathering expected next copy) high m sending a bytes =
      let s = Gathering expected next copy in
      let piece = take 32 (drop 0 f.contents) in
      subst (λ r. Next s (job_by (Some s) r f m))
      (sym (read_reply (job_command sync_entity (request.UploadNext next)) action.UploadNext a.1
      refl refl))
      (piece_next (piece_fault piece copy) expected next copy piece copy m)
  reply_next AskingAlarms high m sending a bytes =
      let count = from_be_bytes w16 (take 2 (drop 0 f.contents)) in
      subst (λ r. Next AskingAlarms (job_by (Some AskingAlarms) r f m))
      (sym (read_reply (job_command sync_entity (request.Alarms 0)) action.Alarms a refl refl))
      (rows_next AskingAlarms count 0 (with_table (begun m.table) m) refl
      (first_piece count (told_less f bytes)))
  reply_next (GatheringRows expected next) high m sending a bytes =
      let s = GatheringRows expected next in
      let row = take 32 (drop 0 f.contents) in
      subst (λ r. Next s (job_by (Some s) r f m))
      (sym (read_reply (job_command sync_entity (request.AlarmsNext next)) action.AlarmsNext a.1
      refl refl))
      (row_next (row_fault row (gathered m.table)) expected next row m)
  reply_next (StartingImage order asked image) high m sending a bytes =
      let s = StartingImage order asked image in
      let number = slice_index f.contents 0 in
      subst (λ r. Next s (job_by (Some s) r f m))
      (sym (read_reply (start_command order asked image) action.Start a.1 refl refl))
      (start_next (number == SUCCESS.0) number (slice_index f.contents 1 + 1) order asked image m a.0
      (one_at_least (slice_index f.contents 1)))
  reply_next (SendingImage order o resent) high m sending a bytes =
      let s = SendingImage order o resent in
      let number = slice_index f.contents 0 in
      subst (λ r. Next s (job_by (Some s) r f m))
      (sym (read_reply (image_window order o) action.Section a.1 refl refl))
      (window_next (number == SUCCESS.0) number order o resent m a.0)
  reply_next (EndingImage order image busy) high m sending a bytes =
      let s = EndingImage order image busy in
      let number = slice_index f.contents 0 in
      subst (λ r. Next s (job_by (Some s) r f m))
      (sym (read_reply (end_image_command order image) action.End a.1 refl refl))
      (end_next (number == SUCCESS.0) (number == BUSY.0) number order image busy m)
  reply_next (DelayingEnd order image busy) high m sending a bytes = absurd sending
