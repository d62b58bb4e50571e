-- What a step of the manager does to its lanes, its phase and its copy.
use Rattle.std.proofs.Common.{◌≡◌, ℕ, Bool, true, false, eqb, List, Option, Some, None, ◌⊎◌, inl}
use Rattle.std.proofs.Common.{inr, refl, sym, ap, subst, ◌∙◌, ◌==◌}
use Rattle.std.proofs.lemmas.Option.{same_Some}
use Rattle.std.proofs.lemmas.Bool.{and_parts, false≢true, eqb-true}
use Rattle.omci_types.specs.declared.Frame.{Frame}
use Rattle.omci_types.specs.declared.Priority.{Priority}
use Rattle.omci_types.specs.declared.Priority.TheVariants.{Low, High}
use Rattle.tci_spec.specs.Tci.{priority_of}
use Rattle.frame_spec.specs.Baseline.{packet_frame}
use Rattle.message_spec.specs.declared.Response.{Response}
use Rattle.message_spec.specs.Reading.{message_of}
use Rattle.lane_spec.specs.Command.{Command, is_changing, answers}
use Rattle.lane_spec.specs.Lane.{Lane, Waiting, end_command, reply_by, reply_to, lane_reply}
use Rattle.lane_spec.specs.Lane.{Replied}
use Rattle.manager_spec.specs.declared.Phase.{Phase}
use Rattle.manager_spec.specs.declared.Phase.TheVariants as phase
use Rattle.manager_spec.specs.declared.ResyncReason.{ResyncReason}
use Rattle.manager_spec.specs.declared.ResyncReason.TheVariants as reason
use Rattle.manager_spec.specs.declared.Report.{Report}
use Rattle.manager_spec.specs.declared.Report.TheVariants as report
use Rattle.manager_spec.specs.Manager.{Stage, Manager, Outcome, lane_in, with_lane, with_report}
use Rattle.manager_spec.specs.Manager.{phase_left, leave_step, and_then, Probing, Asking, Gathering}
use Rattle.manager_spec.specs.Manager.{AskingAlarms, GatheringRows}
use Rattle.manager_spec.specs.Manager.{StartingImage, SendingImage, EndingImage, DelayingEnd}
use Rattle.manager_spec.specs.declared.AuditReason.{AuditReason}
use Rattle.manager_spec.specs.declared.AuditReason.TheVariants as audit
use Rattle.manager_spec.specs.declared.ImageReason.{ImageReason}
use Rattle.manager_spec.specs.declared.ImageReason.TheVariants as image_reason
use Rattle.manager_spec.specs.Resync.{resync_failed}
use Rattle.manager_spec.specs.Upgrade.{image_failed}
use Rattle.manager_spec.specs.Audit.{audit_failed}
use Rattle.manager_spec.specs.Jobs.{job_lost, job_goes_on}
use Rattle.manager_spec.specs.Steps.{code_of, first_value, expected_counter, compared}
use Rattle.manager_spec.specs.Steps.{counters_compared, checked_if, checked_by, loss_seen, taken_as}
use Rattle.manager_spec.specs.Steps.{packet_dropped, not_taken, take_if, frame_came, for_frame}
use Rattle.manager_spec.specs.Steps.{after_packet}
use Rattle.resync_laws.proofs.Mild.{fails, mild_leave}
use Rattle.step_laws.proofs.Parts.{lane_at, out_in, is_image, AtCommand}
use Rattle.step_laws.proofs.Milder.{Waited, Fewer, KeepsCommand, Milder}

-- ---- lanes

-- a lane that draws no command; while P, it loses no change
pub record LaneMild (P : Type 0) (x y : Lane) : Type 0 where
  pub priority : y.priority ≡ x.priority
  pub next : y.next ≡ x.next
  pub out : (w : Waiting) → y.outstanding ≡ Some w
      → (v : Waiting) × (x.outstanding ≡ Some v) × (v.tci ≡ w.tci) × (v.command ≡ w.command)
  pub kept : P → (w : Waiting) → x.outstanding ≡ Some w → is_changing w.command.request ≡ true
      → (v : Waiting) × (y.outstanding ≡ Some v) × (v.tci ≡ w.tci) × (v.command ≡ w.command)

pub lane_still : (P : Type 0) (x : Lane) → LaneMild P x x
lane_still P x = record {
  priority = refl;
  next = refl;
  out = λ w e. (w, e, refl, refl);
  kept = λ p w e c. (w, e, refl, refl);
}

pub lane_ended : (P : Type 0) (x : Lane) (w : Waiting) (proved : Bool) → x.outstanding ≡ Some w
    → (P → is_changing w.command.request ≡ false)
    → LaneMild P x (record x { proved = proved; outstanding = None })
lane_ended P x w proved e mild = record {
  priority = refl;
  next = refl;
  out = λ v f. absurd (cc);
  kept = λ p v f c.
      let same = ap (λ (z : Waiting). is_changing z.command.request) (same_Some v w (sym f ∙ e)) in
      absurd (false≢true (sym (mild p) ∙ sym same ∙ c));
}

pub lane_later : (P : Type 0) (x : Lane) (w v : Waiting) → x.outstanding ≡ Some w → v.tci ≡ w.tci
    → v.command ≡ w.command → LaneMild P x (record x { outstanding = Some v })
lane_later P x w v e tci command = record {
  priority = refl;
  next = refl;
  out = λ z f. let s = same_Some v z f in (
    w,
    e,
    sym tci ∙ ap (λ (y : Waiting). y.tci) s,
    sym command
        ∙ ap (λ (y : Waiting). y.command) s,
  );
  kept = λ p z f c. let s = same_Some w z (sym e ∙ f) in
      (v, refl, tci ∙ ap (λ (y : Waiting). y.tci) s, command ∙ ap (λ (y : Waiting). y.command) s);
}

pub fewer_of : (P : Type 0) (m a : Manager) → LaneMild P m.low a.low → LaneMild P m.high a.high
    → Fewer m a
fewer_of P m a low high = record { priority = priority_by; next = next_by; out = out_by }
  where
    priority_by : (lane : Priority) → (lane_at lane a.low a.high).priority ≡ (lane_at lane m.low
        m.high).priority
    priority_by Low = low.priority
    priority_by High = high.priority

    next_by : (lane : Priority) → (lane_at lane a.low a.high).next ≡ (lane_at lane m.low
        m.high).next
    next_by Low = low.next
    next_by High = high.next

    out_by : (lane : Priority) (w : Waiting) → out_in lane a ≡ Some w → Waited lane m w
    out_by Low w e = let k = low.out w e in
        record { waiting = k.0; waits = k.1; tci = k.2; command = k.3 }
    out_by High w e = let k = high.out w e in
        record { waiting = k.0; waits = k.1; tci = k.2; command = k.3 }

pub milder_of : (m a : Manager) → LaneMild (a.phase ≡ phase.InStep) m.low a.low
    → LaneMild (a.phase ≡ phase.InStep) m.high a.high
    → ((s : Stage) → a.job ≡ Some s → m.job ≡ Some s)
    → (a.phase ≡ phase.InStep → m.phase ≡ phase.InStep) → (a.phase ≡ phase.InStep → a.copy ≡ m.copy)
    → (a.phase ≡ phase.InStep → KeepsCommand m.job a.job) → Milder m a
milder_of m a low high job was copy command = record {
  fewer = fewer_of (a.phase ≡ phase.InStep) m a low high;
  job = job;
  kept = kept_by;
  was = was;
  copy = copy;
  command = command;
}
  where
    kept_by : (lane : Priority) (w : Waiting) → a.phase ≡ phase.InStep → out_in lane m ≡ Some w
        → is_changing w.command.request ≡ true → Waited lane a w
    kept_by Low w p e c = let k = low.kept p w e c in
        record { waiting = k.0; waits = k.1; tci = k.2; command = k.3 }
    kept_by High w p e c = let k = high.kept p w e c in
        record { waiting = k.0; waits = k.1; tci = k.2; command = k.3 }

-- ---- what leaves the lanes alone

pub record Like (m a : Manager) : Type 0 where
  pub low : a.low ≡ m.low
  pub high : a.high ≡ m.high
  pub job : (s : Stage) → a.job ≡ Some s → m.job ≡ Some s
  pub was : a.phase ≡ phase.InStep → m.phase ≡ phase.InStep
  pub copy : a.phase ≡ phase.InStep → a.copy ≡ m.copy
  pub command : a.phase ≡ phase.InStep → KeepsCommand m.job a.job

pub like_same : (m : Manager) → Like m m
like_same m = record {
  low = refl;
  high = refl;
  job = λ s e. e;
  was = λ e. e;
  copy = λ e. refl;
  command = λ e c h. h;
}

pub like_then : (m a b : Manager) → Like m a → Like a b → Like m b
like_then m a b h k = record {
  low = k.low ∙ h.low;
  high = k.high ∙ h.high;
  job = λ s e. h.job s (k.job s e);
  was = λ e. h.was (k.was e);
  copy = λ e. k.copy e ∙ h.copy (k.was e);
  command = λ e c x. k.command e c (h.command (k.was e) c x);
}

pub like_report : (r : Report) (m : Manager) → Like m (with_report r m)
like_report r m = record {
  low = refl;
  high = refl;
  job = λ s e. e;
  was = λ e. e;
  copy = λ e. refl;
  command = λ e c h. h;
}

-- a manager that leaves the step isn't in step
left_out : (p : Phase) (m : Manager) → m.phase ≡ p → (phase_left p m).phase ≡ phase.InStep → ⊥
left_out phase.InStep m e f = cc
left_out phase.New m e f = cc
left_out phase.Out m e f = cc

pub leave_out : (m : Manager) → (leave_step m).phase ≡ phase.InStep → ⊥
leave_out m e = left_out m.phase m refl e

pub like_leave : (m : Manager) → Like m (leave_step m)
like_leave m = let k = mild_leave m in record {
  low = k.low;
  high = k.high;
  job = λ s e. sym k.job ∙ e;
  was = λ e. absurd (leave_out m e);
  copy = λ e. absurd (leave_out m e);
  command = λ e. absurd (leave_out m e);
}

pub failed_out : (why : ResyncReason) (m : Manager) → (resync_failed why m).phase ≡ phase.InStep → ⊥
failed_out why m e = cc

pub like_failed : (why : ResyncReason) (m : Manager) → Like m (resync_failed why m)
like_failed why m = let k = fails why m in record {
  low = k.low;
  high = k.high;
  job = λ s e. absurd (let j = k.job in cc);
  was = λ e. absurd (failed_out why m e);
  copy = λ e. absurd (failed_out why m e);
  command = λ e. absurd (failed_out why m e);
}

-- an audit, and no download, runs
pub like_unaudited : (why : AuditReason) (m : Manager)
    → ((c : Command) → AtCommand m.job c → ⊥) → Like m (audit_failed why m)
like_unaudited why m other = record {
  low = refl;
  high = refl;
  job = λ s e. absurd (cc);
  was = λ e. e;
  copy = λ e. refl;
  command = λ e c h. absurd (other c h);
}

like_compared : (b : Bool) (m : Manager) → Like m (compared b m)
like_compared true m = like_same m
like_compared false m = like_leave m

like_counters : (given : ℕ) (m : Manager) → Like m (counters_compared given m)
like_counters given m =
    let x : Manager = with_report (report.Checked given (expected_counter m)) m in
    like_then m x (counters_compared given m)
    (like_report (report.Checked given (expected_counter m)) m)
    (like_compared (given == expected_counter m) x)

like_took : (f : Frame) (m : Manager) → Like m (leave_step (with_report (report.Took f) m))
like_took f m =
    let x : Manager = with_report (report.Took f) m in
    like_then m x (leave_step x) (like_report (report.Took f) m) (like_leave x)

like_checked_if : (b : Bool) (r : Response) (f : Frame) (m : Manager) → Like m (checked_if b r f m)
like_checked_if true r f m = like_counters (first_value r) m
like_checked_if false r f m = like_took f m

pub like_checked : (o : Option Response) (f : Frame) (m : Manager) → Like m (checked_by o f m)
like_checked None f m = like_took f m
like_checked (Some r) f m = like_checked_if (code_of r == 0) r f m

pub like_milder : (m a : Manager) → Like m a → Milder m a
like_milder m a k =
    milder_of m a (subst (LaneMild (a.phase ≡ phase.InStep) m.low) (sym k.low)
    (lane_still (a.phase ≡ phase.InStep) m.low))
    (subst (LaneMild (a.phase ≡ phase.InStep) m.high) (sym k.high)
    (lane_still (a.phase ≡ phase.InStep) m.high)) k.job k.was k.copy k.command

-- ---- a lane's command ends, and then that

pub over_milder : (l : Priority) (w : Waiting) (proved : Bool) (m a : Manager) → out_in l m ≡ Some w
    → Like (with_lane l (record (lane_in l m) { proved = proved; outstanding = None }) m) a
    → (a.phase ≡ phase.InStep → is_changing w.command.request ≡ false) → Milder m a
over_milder Low w proved m a e k mild =
    milder_of m a
    (subst (LaneMild (a.phase ≡ phase.InStep) m.low) (sym k.low)
    (lane_ended (a.phase ≡ phase.InStep) m.low w proved e mild))
    (subst (LaneMild (a.phase ≡ phase.InStep) m.high) (sym k.high)
    (lane_still (a.phase ≡ phase.InStep) m.high)) k.job k.was k.copy k.command
over_milder High w proved m a e k mild =
    milder_of m a
    (subst (LaneMild (a.phase ≡ phase.InStep) m.low) (sym k.low)
    (lane_still (a.phase ≡ phase.InStep) m.low))
    (subst (LaneMild (a.phase ≡ phase.InStep) m.high) (sym k.high)
    (lane_ended (a.phase ≡ phase.InStep) m.high w proved e mild)) k.job k.was k.copy k.command

-- ---- a give-up

pub record Lost (changes : Bool) (m a : Manager) : Type 0 where
  pub like : Like m a
  pub mild : a.phase ≡ phase.InStep → changes ≡ false

image_lost : (why : ImageReason) (m : Manager) → Like m (leave_step (image_failed why m))
image_lost why m =
    let x : Manager = image_failed why m in
    let k = mild_leave x in
    record {
      low = k.low;
      high = k.high;
      job = λ s e. absurd (let j = k.job in cc);
      was = λ e. absurd (leave_out x e);
      copy = λ e. absurd (leave_out x e);
      command = λ e. absurd (leave_out x e);
    }

no_command : (s : Stage) (m : Manager) → m.job ≡ Some s → is_image s ≡ false → (c : Command)
    → AtCommand m.job c → ⊥
no_command (Probing high low) m e f c h = subst (λ j. AtCommand j c) e h
no_command Asking m e f c h = subst (λ j. AtCommand j c) e h
no_command (Gathering expected next copy) m e f c h = subst (λ j. AtCommand j c) e h
no_command AskingAlarms m e f c h = subst (λ j. AtCommand j c) e h
no_command (GatheringRows expected next) m e f c h = subst (λ j. AtCommand j c) e h
no_command (StartingImage order asked image) m e f c h = false≢true (sym f)
no_command (SendingImage order outgoing resent) m e f c h = false≢true (sym f)
no_command (EndingImage order image busy) m e f c h = false≢true (sym f)
no_command (DelayingEnd order image busy) m e f c h = false≢true (sym f)

-- the job that runs is lost; a download leaves the step with it
lost_at : (job : Option Stage) (changes : Bool) (tci : ℕ) (m : Manager) → m.job ≡ job
    → ((s : Stage) → job ≡ Some s → is_image s ≡ false → changes ≡ false)
    → (job ≡ None → changes ≡ false) → Lost changes m (job_lost job tci m)
lost_at None changes tci m e f g = record { like = like_same m; mild = λ p. g refl }
lost_at (Some (Probing high low)) changes tci m e f g =
    record { like = like_failed (reason.GaveUp tci) m; mild = λ p. f _ refl refl }
lost_at (Some Asking) changes tci m e f g =
    record { like = like_failed (reason.GaveUp tci) m; mild = λ p. f _ refl refl }
lost_at (Some (Gathering expected next copy)) changes tci m e f g =
    record { like = like_failed (reason.GaveUp tci) m; mild = λ p. f _ refl refl }
lost_at (Some AskingAlarms) changes tci m e f g = record {
  like = like_unaudited (audit.GaveUp tci) m (no_command AskingAlarms m e refl);
  mild = λ p. f _ refl refl;
}
lost_at (Some (GatheringRows expected next)) changes tci m e f g = record {
  like = like_unaudited (audit.GaveUp tci) m (no_command (GatheringRows expected next) m e refl);
  mild = λ p. f _ refl refl;
}
lost_at (Some (StartingImage order asked image)) changes tci m e f g = record {
  like = image_lost (image_reason.GaveUp tci) m;
  mild = λ p. absurd (leave_out (image_failed (image_reason.GaveUp tci) m) p);
}
lost_at (Some (SendingImage order outgoing resent)) changes tci m e f g = record {
  like = image_lost (image_reason.GaveUp tci) m;
  mild = λ p. absurd (leave_out (image_failed (image_reason.GaveUp tci) m) p);
}
lost_at (Some (EndingImage order image busy)) changes tci m e f g = record {
  like = image_lost (image_reason.GaveUp tci) m;
  mild = λ p. absurd (leave_out (image_failed (image_reason.GaveUp tci) m) p);
}
lost_at (Some (DelayingEnd order image busy)) changes tci m e f g = record {
  like = image_lost (image_reason.GaveUp tci) m;
  mild = λ p. absurd (leave_out (image_failed (image_reason.GaveUp tci) m) p);
}

pub lost : (waits changes : Bool) (tci : ℕ) (m : Manager)
    → (waits ≡ true → (s : Stage) → m.job ≡ Some s → is_image s ≡ false → changes ≡ false)
    → (waits ≡ true → m.job ≡ None → changes ≡ false)
    → Lost changes m (loss_seen waits changes tci m)
lost true changes tci m f g = lost_at m.job changes tci m refl (f refl) (g refl)
lost false true tci m f g = record { like = like_leave m; mild = λ e. absurd (leave_out m e) }
lost false false tci m f g = record { like = like_same m; mild = λ e. refl }

-- ---- a packet that comes is a reply that is taken, or answers nothing

pub record IsTaken (bytes : List ℕ) (m : Manager) (o : Outcome) : Type 0 where
  pub lane : Priority
  pub waiting : Waiting
  pub frame : Frame
  pub read : packet_frame bytes ≡ Some frame
  pub waits : (lane_in lane m).outstanding ≡ Some waiting
  pub tci : frame.tci ≡ waiting.tci
  pub answered : answers waiting.tci waiting.command frame ≡ true
  pub in_lane : priority_of frame.tci ≡ lane
  pub is : o ≡ and_then
      (taken_as waiting.command.purpose lane waiting.command frame
      (with_lane lane (end_command waiting (lane_in lane m)) m))
      job_goes_on

-- it answers nothing
pub record IsAside (m : Manager) (o : Outcome) : Type 0 where
  pub frame : Frame
  pub is : o ≡ not_taken (message_of frame) frame m

abbrev pub Takes : List ℕ → Manager → Outcome → Type 0
Takes bytes m o = (o ≡ packet_dropped m) ⊎ (IsAside m o ⊎ IsTaken bytes m o)

module _ (bytes : List ℕ) (f : Frame) (read : packet_frame bytes ≡ Some f) (m : Manager) where
  replied_is : (lane : Priority) (w : Waiting) (b : Bool) → (lane_in lane m).outstanding ≡ Some w
      → answers w.tci w.command f ≡ b → lane_reply f (lane_in lane m) ≡ reply_by b w
      (lane_in lane m)
  unfolding lane_reply
  replied_is lane w b e a = ap (λ o. reply_to o f (lane_in lane m)) e
      ∙ ap (λ x. reply_by x w (lane_in lane m)) a

  by_answer : (lane : Priority) (w : Waiting) (b : Bool) → priority_of f.tci ≡ lane
      → (lane_in lane m).outstanding ≡ Some w → answers w.tci w.command f ≡ b
      → Takes bytes m (frame_came lane f m)
  by_answer lane w false l e a =
      inr (inl (record {
        frame = f;
        is = ap (λ (r : Replied). take_if r.taken (lane_in lane m).outstanding lane f m)
            (replied_is lane w false e a);
      }))
  by_answer lane w true l e a =
      let is = replied_is lane w true e a in
      inr (inr (record {
        lane = lane;
        waiting = w;
        frame = f;
        read = read;
        waits = e;
        tci = eqb-true f.tci w.tci (and_parts (eqb f.tci w.tci) _ a).0;
        answered = a;
        in_lane = l;
        is = ap (λ (r : Replied). take_if r.taken (lane_in lane m).outstanding lane f m) is
            ∙ ap (λ o. take_if true o lane f m) e
            ∙ ap (λ (r : Replied). and_then
            (taken_as w.command.purpose lane w.command f (with_lane lane r.lane m)) job_goes_on) is;
      }))

  by_waiting : (lane : Priority) (o : Option Waiting) → priority_of f.tci ≡ lane
      → (lane_in lane m).outstanding ≡ o → Takes bytes m (frame_came lane f m)
  by_waiting lane None l e =
      inr (inl (record {
        frame = f;
        is = ap (λ o. take_if (lane_reply f (lane_in lane m)).taken o lane f m) e
            ∙ none_waits (lane_reply f (lane_in lane m)).taken;
      }))
    where
      none_waits : (b : Bool) → take_if b None lane f m ≡ not_taken (message_of f) f m
      none_waits true = refl
      none_waits false = refl
  by_waiting lane (Some w) l e = by_answer lane w (answers w.tci w.command f) l e refl

by_frame : (o : Option Frame) (bytes : List ℕ) (m : Manager) → packet_frame bytes ≡ o
    → Takes bytes m (for_frame o m)
by_frame None bytes m e = inl refl
by_frame (Some f) bytes m e = by_waiting bytes f e m (priority_of f.tci)
    (lane_in (priority_of f.tci) m).outstanding refl refl

pub takes : (bytes : List ℕ) (m : Manager) → Takes bytes m (after_packet bytes m)
unfolding after_packet
takes bytes m = by_frame (packet_frame bytes) bytes m refl
