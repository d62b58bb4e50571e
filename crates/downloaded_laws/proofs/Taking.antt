-- Packets that come to the manager.
use Rattle.std.proofs.Common.{◌≡◌, ◌≢◌, ℕ, ◌+◌, ◌<◌, ◌≤◌, Bool, true, false, ◌||◌, ◌==◌, List, [], ◌∷◌, ◌++◌, length, Option, Some, None, Result, Ok, Err, ◌⊎◌, inl, inr, min, nat_le, nat_lt, refl, sym, ap, subst, ◌∙◌, arith}
use Rattle.std.proofs.lemmas.Option.{same_Some}
use Rattle.std.proofs.lemmas.Bool.{eqb-true, eqb-false}
use Rattle.std.specs.Prelude.{if◌then◌else◌}
use Rattle.std.specs.List.{flat_map}
use Rattle.omci_types.specs.declared.EntityId.{EntityId}
use Rattle.omci_types.specs.declared.Frame.{Frame}
use Rattle.omci_types.specs.declared.Priority.{Priority}
use Rattle.omci_types.specs.declared.Priority.TheVariants.{Low, High}
use Rattle.omci_types.specs.declared.TheConstants.Code.{SUCCESS, BUSY}
use Rattle.frame_spec.specs.Baseline.{packet_frame}
use Rattle.tci_spec.specs.Tci.{priority_of}
use Rattle.message_spec.specs.declared.ContentsFault.{ContentsFault}
use Rattle.message_spec.specs.declared.Message.{Message}
use Rattle.message_spec.specs.declared.Message.TheVariants.{Asked, Answered, Told as ToldOf}
use Rattle.message_spec.specs.declared.Notice.{Notice}
use Rattle.message_spec.specs.declared.Notice.TheVariants as notices
use Rattle.message_spec.specs.Reading.{message_of}
use Rattle.alarm_spec.specs.declared.TakenAlarm.{TakenAlarm}
use Rattle.alarm_spec.specs.declared.TakenAlarm.TheVariants as taken
use Rattle.alarm_spec.specs.Table.{take_answer, after_take}
use Rattle.window_spec.specs.Outgoing.{Outgoing, new_outgoing, section_count, is_last, after_window}
use Rattle.window_laws.proofs.Sections.{count_reaches}
use Rattle.window_laws.proofs.Windows.{window_within}
use Rattle.lane_spec.specs.declared.Purpose.{Purpose}
use Rattle.lane_spec.specs.declared.Purpose.TheVariants as purpose
use Rattle.lane_spec.specs.Command.{Command, is_probe}
use Rattle.lane_spec.specs.Lane.{Waiting, end_command}
use Rattle.manager_spec.specs.declared.TheConstants.{MOST_RESENT, MOST_BUSY}
use Rattle.manager_spec.specs.declared.AuditReason.TheVariants as audit
use Rattle.manager_spec.specs.declared.ImageReason.TheVariants as image_reason
use Rattle.manager_spec.specs.declared.Report.{Report}
use Rattle.manager_spec.specs.declared.Report.TheVariants as report
use Rattle.manager_spec.specs.Manager.{Order, Stage, Probing, Asking, Gathering, AskingAlarms, GatheringRows, StartingImage, SendingImage, EndingImage, DelayingEnd, Manager, Outcome, Sending, lane_in, with_report, and_then}
use Rattle.manager_spec.specs.Copying.{counted_in_step}
use Rattle.manager_spec.specs.Upgrade.{image_window, refused_by, started_if, image_started, window_taken, window_refused, window_by, window_answered, busy_if, end_by, end_answered}
use Rattle.manager_spec.specs.Audit.{with_table, alarm_as, alarm_came, notice_came}
use Rattle.manager_spec.specs.Jobs.{is_free, send_wish, job_goes_on}
use Rattle.manager_spec.specs.Steps.{response_of, with_taken, probe_taken, followed_by, checked_by, start_by_reply, window_by_reply, end_by_reply, job_by, taken_as, packet_dropped, not_taken, after_packet}
use Rattle.unit_spec.specs.Onu.{Onu}
use Rattle.history_spec.specs.History.{LastChecked, DownloadedRight}
use Rattle.world_spec.specs.Ends.{sends}
use Rattle.world_spec.specs.History.{Told, tell_all}
use Rattle.world_laws.proofs.Manager.{taken_by, untaken, IsTaken, hearing_is}
use Rattle.download_laws.proofs.Carrying.{next_has, whole_is}
use Rattle.resync_laws.proofs.Invariants.{Lanes}
use Rattle.resync_laws.proofs.Going.{IsFree, silent}
use Rattle.resync_laws.proofs.Taking.{mild_followed, mild_checked, or_true, not_job, IsOwn, IsHeard}
use Rattle.downloaded_laws.proofs.Reading.{IsOrder, start_read, section_read, end_read}
use Rattle.downloaded_laws.proofs.Invariants.{state_of, Has, HasFront, HasWindow, HasAfter, Starts, IsSending, Sends, Ends, is_image, JobOk, NoImage, job_other, stage_kept, lane_same, same_unit, keeps_of}
use Rattle.downloaded_laws.proofs.Telling.{Steady, Known, is_ending, NoneDone, done_more, Did, did_quiet, did_done}
use Rattle.downloaded_laws.proofs.Going.{Ready, JobReady, ready_of, other_ready, did_then}
use Rattle.downloaded_laws.proofs.Aside.{stage_no, none_no, same_no, no_ending, job_no, probed_is, followed_done, checked_done, loses}

-- ---- what answers nothing: a notice, or it is dropped

-- nothing is sent, and the low lane stays
record Untaken (m : Manager) (o : Outcome) : Type 0 where
  empty : o.sendings ≡ []
  low : o.manager.low ≡ m.low
  job : (o.manager.job ≡ m.job) ⊎ NoImage o.manager
  done : NoneDone m.reports → NoneDone o.manager.reports

dropped : (m : Manager) → Untaken m (packet_dropped m)
dropped m = record {
  empty = refl;
  low = refl;
  job = inl refl;
  done = λ n. done_more m.reports report.Dropped n refl;
}

alarm_untaken : (a : TakenAlarm) (one : EntityId) (bitmap : List ℕ) (number : ℕ) (m : Manager)
    → Untaken m (alarm_as a one bitmap number m)
alarm_untaken taken.Unaudited one bitmap number m = record {
  empty = refl;
  low = refl;
  job = inl refl;
  done = λ n. done_more m.reports (report.AlarmUnaudited number) n refl;
}
alarm_untaken taken.Repeat one bitmap number m = record {
  empty = refl;
  low = refl;
  job = inl refl;
  done = λ n. done_more m.reports (report.AlarmRepeat number) n refl;
}
alarm_untaken (taken.Gap want have) one bitmap number m =
    let b = with_report (report.AlarmGap want have) m in
    let k = loses m.job (audit.Gap want have) b in
    record {
      empty = refl;
      low = k.low;
      job = k.job;
      done = λ n. k.done (done_more m.reports (report.AlarmGap want have) n refl);
    }
alarm_untaken taken.Overflow one bitmap number m =
    let b = with_report (report.AlarmOverflow number) m in
    let k = loses m.job audit.Overflow b in
    record {
      empty = refl;
      low = k.low;
      job = k.job;
      done = λ n. k.done (done_more m.reports (report.AlarmOverflow number) n refl);
    }
alarm_untaken taken.Taken one bitmap number m = record {
  empty = refl;
  low = refl;
  job = inl refl;
  done = λ n. done_more m.reports (report.AlarmTaken number) n refl;
}

alarm_came_untaken : (one : EntityId) (bitmap : List ℕ) (number : ℕ) (m : Manager)
    → Untaken m (alarm_came one bitmap number m)
unfolding alarm_came
alarm_came_untaken one bitmap number m =
    let b = with_table (after_take one bitmap number m.table) m in
    let k = alarm_untaken (take_answer number m.table) one bitmap number b in
    record { empty = k.empty; low = k.low; job = k.job; done = k.done }

notice_untaken : (one : EntityId) (notice : Notice) (f : Frame) (m : Manager)
    → Untaken m (notice_came one notice f m)
notice_untaken one (notices.Alarm bitmap number) f m = alarm_came_untaken one bitmap number m
notice_untaken one (notices.Change mask values) f m = record {
  empty = refl;
  low = refl;
  job = inl refl;
  done = λ n. done_more m.reports (report.Change f) n refl;
}

not_taken_is : (r : Result Message ContentsFault) (f : Frame) (m : Manager)
    → Untaken m (not_taken r f m)
not_taken_is (Ok (ToldOf tci entity notice)) f m = notice_untaken entity notice f m
not_taken_is (Ok (Asked tci entity r)) f m = dropped m
not_taken_is (Ok (Answered tci entity r)) f m = dropped m
not_taken_is (Err fault) f m = dropped m

untaken_is : (o : Option Frame) (m : Manager) → Untaken m (untaken o m)
untaken_is None m = dropped m
untaken_is (Some f) m = not_taken_is (message_of f) f m

-- the job beside it
job_beside : (lives : ℕ) (unit : Option Onu) (m b : Manager) (t u : Told) → Steady t u
    → b.low ≡ m.low → (b.job ≡ m.job) ⊎ NoImage b → JobOk lives unit m t → JobOk lives unit b u
job_beside lives unit m b t u s low (inl same) j = λ x e.
    stage_kept _ _
    (keeps_of lives unit unit m b t u s.low s.passes (lane_same m.low b.low low) (same_unit unit)) x
    (j x (sym same ∙ e))
job_beside lives unit m b t u s low (inr other) j = job_other lives unit b u other

untaken_did : (m : Manager) (o : Outcome) (lives : ℕ) (unit : Option Onu) (t : Told)
    → Untaken m o → JobOk lives unit m t → DownloadedRight t.history → m.reports ≡ []
    → Did m.job o lives unit t
untaken_did m o lives unit t k j right quiet =
    did_quiet m.job o lives unit t (inr (k.done (subst NoneDone (sym quiet) tt))) right
    (λ u s. subst
    (λ (l : List Sending). JobOk lives unit o.manager (tell_all (flat_map sends l) u)) (sym k.empty)
    (job_beside lives unit m o.manager t u s k.low k.job j))

pub drops_on : (m : Manager) (lives : ℕ) (unit : Option Onu) (t : Told) → JobOk lives unit m t
    → DownloadedRight t.history → m.reports ≡ [] → Did m.job (packet_dropped m) lives unit t
drops_on m lives unit t j right quiet =
    untaken_did m (packet_dropped m) lives unit t (dropped m) j right quiet

-- ---- numbers

code_zero : (n : ℕ) → (n == SUCCESS.0) ≡ true → n ≡ 0
code_zero n e = eqb-true n 0 e

code_other : (n : ℕ) → (n == SUCCESS.0) ≡ false → n ≢ 0
code_other n e = eqb-false n 0 e

some_sections : (image : List ℕ) → 1 ≤ length image → 0 < section_count image
some_sections image some = let r = count_reaches image in omega (arith, r, some)

after_same : (b : Bool) (o : Outgoing)
    → ((if b then o else record o { first = o.first + o.most }).image ≡ o.image)
    × ((if b then o else record o { first = o.first + o.most }).most ≡ o.most)
after_same true o = (refl, refl)
after_same false o = (refl, refl)

next_same : (o : Outgoing)
    → ((after_window o).image ≡ o.image) × ((after_window o).most ≡ o.most)
unfolding after_window
next_same o = after_same (is_last o) o

next_sending : (order : Order) (o : Outgoing) → IsSending order o
    → IsSending order (after_window o)
next_sending order o h =
    let same = next_same o in
    let most = same.1 in let few = h.most in let some = h.some in
    record {
      ordered = subst (IsOrder order) (sym same.0) h.ordered;
      some = omega (arith, most, some);
      most = omega (arith, most, few);
      within = subst (λ image. (after_window o).first < section_count image) (sym same.0)
          (window_within o h.within);
    }

window_job : (order : Order) (o : Outgoing) → (image_window order o).purpose ≡ purpose.Job
unfolding image_window
window_job order o = refl

-- ---- a reply

module _ (bytes : List ℕ) (f : Frame) (read : packet_frame bytes ≡ Some f) (m : Manager) (lives : ℕ) (unit : Option Onu) (t : Told) (known : Known t) (lanes : Lanes m.low m.high t.drawn t.low t.high) (j : JobOk lives unit m t) (right : DownloadedRight t.history) (quiet : m.reports ≡ []) where
  none_done : NoneDone m.reports
  none_done = subst NoneDone (sym quiet) tt

  module _ (w : Waiting) (waits : m.low.outstanding ≡ Some w) where
    abbrev low_free : Manager
    low_free = record m { low = end_command w m.low }

    low_is_free : m.low.proved ≡ true → IsFree low_free.low
    low_is_free proved = record {
      proved = ap (λ b. is_probe w.command.purpose || b) proved ∙ or_true (is_probe w.command.purpose);
      none = refl;
    }

    -- ---- another job's

    other_ready_at : (b : Manager) → NoImage b → (u : Told) → JobReady lives unit b u
    other_ready_at b h u s e = other_ready s _ (h s e)

    other_did : (a : Outcome) → a.sendings ≡ [] → NoImage m → NoImage a.manager
        → Did m.job (and_then a job_goes_on) lives unit t
    other_did a empty before after =
        did_then m.job a lives unit t (inl (no_ending m.job before)) empty right known
        (λ u s. other_ready_at a.manager after u)

    probed_no : NoImage m → NoImage (probe_taken Low low_free).manager
    probed_no h s e =
        let x = probed_is Low m.job s e in
        elim x.2 as (λ _. is_image s ≡ false) [
          | inl both ↦ both.1
          | inr same ↦ subst (λ y. is_image y ≡ false) same (h x.0 x.1)
        ]

    other_taken : (p : Purpose) → NoImage m
        → Did m.job (and_then (taken_as p Low w.command f low_free) job_goes_on) lives unit t
    other_taken purpose.Probe h = other_did (probe_taken Low low_free) refl h (probed_no h)
    other_taken purpose.Submission h =
        let b = followed_by w.command (response_of f) (with_report (report.Took f) low_free) in
        other_did (with_taken Low b) refl h
        (same_no m b (mild_followed w.command (response_of f) (with_report (report.Took f) low_free)).job h)
    other_taken purpose.Check h =
        let b = checked_by (response_of f) f low_free in
        other_did (with_taken Low b) refl h (same_no m b (mild_checked (response_of f) f low_free).job h)
    other_taken purpose.Job h =
        let b = job_by m.job (response_of f) f low_free in
        other_did (with_taken Low b) refl h (job_no m.job h (response_of f) f low_free h)

    -- ---- a download's

    went_on : (b : Manager) (x s : Stage) → m.job ≡ Some x → is_ending (Some x) ≡ false
        → b.job ≡ Some s → ((u : Told) → Ready (state_of lives unit b u) s)
        → Did m.job (and_then (with_taken Low b) job_goes_on) lives unit t
    went_on b x s e not k ready =
        did_then m.job (with_taken Low b) lives unit t (inl (ap is_ending e ∙ not)) refl right known
        (λ u v y g. subst (Ready (state_of lives unit b u)) (same_Some s y (sym k ∙ g)) (ready u))

    failed_on : (b : Manager) (x : Stage) → m.job ≡ Some x → is_ending (Some x) ≡ false
        → b.job ≡ None → Did m.job (and_then (with_taken Low b) job_goes_on) lives unit t
    failed_on b x e not k =
        did_then m.job (with_taken Low b) lives unit t (inl (ap is_ending e ∙ not)) refl right known
        (λ u v y g. absurd (cc))

    -- its start
    started_by : (b : Bool) (number granted : ℕ) (order : Order) (asked : ℕ) (image : List ℕ)
        → (number == SUCCESS.0) ≡ b → m.job ≡ Some (StartingImage order asked image)
        → Starts (state_of lives unit m t) order asked image → 1 ≤ granted
        → (number ≡ 0 → Has unit (λ l. (most : ℕ) → HasFront order (new_outgoing image most) l))
        → Did m.job (and_then (with_taken Low (started_if b number granted order asked image low_free)) job_goes_on) lives unit t
    unfolding counted_in_step
    started_by true number granted order asked image e k at more good =
        let o = new_outgoing image (min asked granted) in
        let some = at.some in let most = at.most in
        went_on (started_if true number granted order asked image low_free)
        (StartingImage order asked image) (SendingImage order o 0) k refl refl
        (λ u. inr (record {
          free = low_is_free at.proved;
          sending = record {
            ordered = at.ordered;
            some = omega (arith, some, more);
            most = omega (arith, most);
            within = some_sections image at.ordered.some;
          };
          has = λ v l on has. good (code_zero number e) v l on has (min asked granted);
        }))
    started_by false number granted order asked image e k at more good =
        failed_on (refused_by number low_free) (StartingImage order asked image) k refl refl

    start_on : (order : Order) (asked : ℕ) (image : List ℕ)
        → m.job ≡ Some (StartingImage order asked image)
        → Starts (state_of lives unit m t) order asked image → IsOwn lives t bytes
        → Did m.job (and_then (with_taken Low (start_by_reply (response_of f) order asked image f low_free)) job_goes_on) lives unit t
    unfolding image_started
    start_on order asked image k at own =
        let c = at.reply bytes own.last in
        let r = start_read c.frame c.number c.granted f (ap packet_frame (sym c.is) ∙ read) in
        subst (λ o. Did m.job (and_then (with_taken Low (start_by_reply o order asked image f low_free)) job_goes_on) lives unit t)
        (sym r.is)
        (started_by (r.given.0 == SUCCESS.0) r.given.0 r.granted order asked image refl k at r.some
        (λ e. c.good (sym r.code_is ∙ e) own.carried))

    -- a window
    taken_window : (b : Bool) (order : Order) (o : Outgoing) (resent : ℕ) → is_last o ≡ b
        → m.job ≡ Some (SendingImage order o resent) → Sends (state_of lives unit m t) order o
        → Has unit (HasWindow order o)
        → Did m.job (and_then (with_taken Low (window_taken b order o low_free)) job_goes_on) lives unit t
    taken_window true order o resent e k at has =
        went_on (window_taken true order o low_free) (SendingImage order o resent)
        (EndingImage order o.image 0) k refl refl
        (λ u. inr (record {
          free = low_is_free at.proved;
          ordered = at.sending.ordered;
          has = λ v l on x.
              let h = has v l on x in
              let lt = at.sending.within in
              record { target = h.target; put = whole_is o l h.has e (omega (arith, lt)) };
        }))
    taken_window false order o resent e k at has =
        went_on (window_taken false order o low_free) (SendingImage order o resent)
        (SendingImage order (after_window o) 0) k refl refl
        (λ u. inr (record {
          free = low_is_free at.proved;
          sending = next_sending order o at.sending;
          has = λ v l on x.
              let h = has v l on x in record { target = h.target; has = next_has o l h.has e };
        }))

    refused_window : (b : Bool) (number : ℕ) (order : Order) (o : Outgoing) (resent : ℕ)
        → m.job ≡ Some (SendingImage order o resent) → Sends (state_of lives unit m t) order o
        → Has unit (HasFront order o)
        → Did m.job (and_then (with_taken Low (window_refused b number order o resent low_free)) job_goes_on) lives unit t
    refused_window true number order o resent k at has =
        went_on (window_refused true number order o resent low_free) (SendingImage order o resent)
        (SendingImage order o (resent + 1)) k refl refl
        (λ u. inr (record { free = low_is_free at.proved; sending = at.sending; has = has }))
    refused_window false number order o resent k at has =
        failed_on (window_refused false number order o resent low_free) (SendingImage order o resent)
        k refl refl

    after_good : (number : ℕ) (order : Order) (o : Outgoing) → number ≡ 0
        → Has unit (HasAfter number order o) → Has unit (HasWindow order o)
    after_good number order o e h v l on has = elim (h v l on has) [
      | inl x ↦ x.1
      | inr x ↦ absurd (x.0 e)
    ]

    after_bad : (number : ℕ) (order : Order) (o : Outgoing) → number ≢ 0
        → Has unit (HasAfter number order o) → Has unit (HasFront order o)
    after_bad number order o e h v l on has = elim (h v l on has) [
      | inl x ↦ absurd (e x.0)
      | inr x ↦ x.1
    ]

    window_coded : (b : Bool) (number : ℕ) (order : Order) (o : Outgoing) (resent : ℕ)
        → (number == SUCCESS.0) ≡ b → m.job ≡ Some (SendingImage order o resent)
        → Sends (state_of lives unit m t) order o → Has unit (HasAfter number order o)
        → Did m.job (and_then (with_taken Low (window_by b number order o resent low_free)) job_goes_on) lives unit t
    window_coded true number order o resent e k at has =
        taken_window (is_last o) order o resent refl k at
        (after_good number order o (code_zero number e) has)
    window_coded false number order o resent e k at has =
        refused_window (nat_lt resent MOST_RESENT) number order o resent k at
        (after_bad number order o (code_other number e) has)

    window_on : (order : Order) (o : Outgoing) (resent : ℕ)
        → m.job ≡ Some (SendingImage order o resent) → Sends (state_of lives unit m t) order o
        → IsOwn lives t bytes
        → Did m.job (and_then (with_taken Low (window_by_reply (response_of f) order o resent f low_free)) job_goes_on) lives unit t
    unfolding window_answered
    window_on order o resent k at own =
        let c = at.reply bytes own.last in
        let r = section_read c.frame c.number c.section f (ap packet_frame (sym c.is) ∙ read) in
        subst (λ x. Did m.job (and_then (with_taken Low (window_by_reply x order o resent f low_free)) job_goes_on) lives unit t)
        (sym r.is)
        (window_coded (r.given.0 == SUCCESS.0) r.given.0 order o resent refl k at
        (subst (λ n. Has unit (HasAfter n order o)) (sym r.code_is) (c.says own.carried)))

    -- its end
    delayed_by : (b : Bool) (order : Order) (image : List ℕ) (busy times : ℕ)
        → m.job ≡ Some (EndingImage order image busy) → Ends (state_of lives unit m t) order image
        → Did m.job (and_then (with_taken Low (busy_if b order image times (with_report (report.Busy times) low_free))) job_goes_on) lives unit t
    delayed_by true order image busy times k at =
        let b = busy_if true order image times (with_report (report.Busy times) low_free) in
        let free = low_is_free at.proved in
        did_then m.job (with_taken Low b) lives unit t
        (inr (done_more m.reports (report.Busy times) none_done refl)) refl right known
        (λ u v y g. subst (Ready (state_of lives unit b u))
        (same_Some (DelayingEnd order image times) y g)
        (record {
          ordered = at.ordered;
          proved = free.proved;
          none = refl;
          has = at.has;
        }))
    delayed_by false order image busy times k at =
        let b = busy_if false order image times (with_report (report.Busy times) low_free) in
        did_then m.job (with_taken Low b) lives unit t
        (inr (done_more (m.reports ++ report.Busy times ∷ [])
        (report.ImageFailed (image_reason.Code (record { 0 = BUSY.0 })))
        (done_more m.reports (report.Busy times) none_done refl) refl)) refl right known
        (λ u v y g. absurd (cc))

    nothing_no : (b : Bool) (x : Manager) → NoImage x → NoImage (send_wish b None x).manager
    nothing_no true x h = h
    nothing_no false x h = h

    ended_by : (done more : Bool) (number : ℕ) (order : Order) (image : List ℕ) (busy : ℕ)
        → (number == SUCCESS.0) ≡ done → m.job ≡ Some (EndingImage order image busy)
        → Ends (state_of lives unit m t) order image
        → (number ≡ 0 → LastChecked order.slot image t.history)
        → Did m.job (and_then (with_taken Low (end_by done more number order image busy low_free)) job_goes_on) lives unit t
    unfolding counted_in_step job_goes_on
    ended_by true more number order image busy e k at good =
        let b = end_by true more number order image busy low_free in
        let o = and_then (with_taken Low b) job_goes_on in
        subst (λ x. Did x o lives unit t) (sym k)
        (did_done order image busy o lives unit t
        ((silent b).reports ∙ ap (λ (rs : List Report). rs ++ report.ImageDone order.slot ∷ []) quiet)
        right (good (code_zero number e))
        (nothing_no (is_free b.low) b (none_no b refl)))
    ended_by false true number order image busy e k at good =
        delayed_by (nat_le (busy + 1) MOST_BUSY) order image busy (busy + 1) k at
    ended_by false false number order image busy e k at good =
        let b = end_by false false number order image busy low_free in
        did_then m.job (with_taken Low b) lives unit t
        (inr (done_more m.reports (report.ImageFailed (image_reason.Code (record { 0 = number }))) none_done refl))
        refl right known (λ u v y g. absurd (cc))

    end_on : (order : Order) (image : List ℕ) (busy : ℕ)
        → m.job ≡ Some (EndingImage order image busy) → Ends (state_of lives unit m t) order image
        → IsOwn lives t bytes
        → Did m.job (and_then (with_taken Low (end_by_reply (response_of f) order image busy f low_free)) job_goes_on) lives unit t
    unfolding end_answered
    end_on order image busy k at own =
        let c = at.reply bytes own.last in
        let r = end_read c.frame c.number f (ap packet_frame (sym c.is) ∙ read) in
        subst (λ x. Did m.job (and_then (with_taken Low (end_by_reply x order image busy f low_free)) job_goes_on) lives unit t)
        (sym r.is)
        (ended_by (r.given.0 == SUCCESS.0) (r.given.0 == BUSY.0) r.given.0 order image busy refl k at
        (λ e. c.good (sym r.code_is ∙ e)))

    -- ---- by the stage

    same_purpose : (v : Waiting) (c : Command) → m.low.outstanding ≡ Some v → v.command ≡ c
        → c.purpose ≡ purpose.Job → w.command.purpose ≡ purpose.Job
    same_purpose v c e k p =
        ap (λ (x : Waiting). x.command.purpose) (same_Some w v (sym waits ∙ e))
        ∙ ap (λ (x : Command). x.purpose) k ∙ p

    as_job : (job : Option Stage) → m.job ≡ job → w.command.purpose ≡ purpose.Job
        → Did m.job (and_then (with_taken Low (job_by job (response_of f) f low_free)) job_goes_on) lives unit t
        → Did m.job (taken_by Low f w m) lives unit t
    as_job job e p d =
        subst (λ x. Did m.job (and_then (taken_as x Low w.command f low_free) job_goes_on) lives unit t)
        (sym p)
        (subst (λ x. Did m.job (and_then (with_taken Low (job_by x (response_of f) f low_free)) job_goes_on) lives unit t)
        (sym e) d)

    owned : w.command.purpose ≡ purpose.Job
        → (is_probe w.command.purpose ≡ false → IsOwn lives t bytes) → IsOwn lives t bytes
    owned p own = own (ap is_probe p)

    by_stage : (job : Option Stage) → m.job ≡ job
        → (is_probe w.command.purpose ≡ false → IsOwn lives t bytes)
        → Did m.job (taken_by Low f w m) lives unit t
    by_stage None e own = other_taken w.command.purpose (none_no m e)
    by_stage (Some (Probing high low)) e own =
        other_taken w.command.purpose (stage_no m (Probing high low) e refl)
    by_stage (Some Asking) e own = other_taken w.command.purpose (stage_no m Asking e refl)
    by_stage (Some (Gathering expected next copy)) e own =
        other_taken w.command.purpose (stage_no m (Gathering expected next copy) e refl)
    by_stage (Some AskingAlarms) e own =
        other_taken w.command.purpose (stage_no m AskingAlarms e refl)
    by_stage (Some (GatheringRows expected next)) e own =
        other_taken w.command.purpose (stage_no m (GatheringRows expected next) e refl)
    by_stage (Some (StartingImage order asked image)) e own =
        let at = j (StartingImage order asked image) e in
        let p = same_purpose at.waiting _ at.waits at.command refl in
        as_job (Some (StartingImage order asked image)) e p
        (start_on order asked image e at (owned p own))
    by_stage (Some (SendingImage order o resent)) e own =
        let at = j (SendingImage order o resent) e in
        let p = same_purpose at.waiting (image_window order o) at.waits at.command
        (window_job order o) in
        as_job (Some (SendingImage order o resent)) e p (window_on order o resent e at (owned p own))
    by_stage (Some (EndingImage order image busy)) e own =
        let at = j (EndingImage order image busy) e in
        let p = same_purpose at.waiting _ at.waits at.command refl in
        as_job (Some (EndingImage order image busy)) e p
        (end_on order image busy e at (owned p own))
    by_stage (Some (DelayingEnd order image busy)) e own =
        let at = j (DelayingEnd order image busy) e in
        let none = at.none in absurd (cc)

  -- ---- a reply of the high lane

  module _ (w : Waiting) (waits : m.high.outstanding ≡ Some w) where
    abbrev high_free : Manager
    high_free = record m { high = end_command w m.high }

    beside_did : (b : Manager) → b.low ≡ m.low → b.job ≡ m.job → NoneDone b.reports
        → Did m.job (and_then (with_taken High b) job_goes_on) lives unit t
    beside_did b low job done =
        did_then m.job (with_taken High b) lives unit t (inr done) refl right known
        (λ u s x e. ready_of _ x (job_beside lives unit m b t u s low (inl job) j x e))

    probed_ready : (u : Told) → Steady t u → JobReady lives unit (probe_taken High high_free).manager u
    probed_ready u s x e =
        let b = (probe_taken High high_free).manager in
        let y = probed_is High m.job x e in
        elim y.2 as (λ _. Ready (state_of lives unit b u) x) [
          | inl both ↦ other_ready x _ both.1
          | inr same ↦ ready_of _ x
              (stage_kept (state_of lives unit m t) _
              (keeps_of lives unit unit m b t u s.low s.passes (lane_same m.low b.low refl) (same_unit unit))
              x (j x (y.1 ∙ ap (λ z. Some z) same)))
        ]

    taken_high : (p : Purpose) → w.command.purpose ≡ p
        → Did m.job (and_then (taken_as p High w.command f high_free) job_goes_on) lives unit t
    taken_high purpose.Probe e =
        did_then m.job (probe_taken High high_free) lives unit t
        (inr (done_more m.reports (report.Proved High) none_done refl)) refl right known probed_ready
    taken_high purpose.Submission e =
        let x = with_report (report.Took f) high_free in
        let k = mild_followed w.command (response_of f) x in
        beside_did (followed_by w.command (response_of f) x) k.low k.job
        (followed_done w.command (response_of f) x
        (done_more m.reports (report.Took f) none_done refl))
    taken_high purpose.Check e =
        let k = mild_checked (response_of f) f high_free in
        beside_did (checked_by (response_of f) f high_free) k.low k.job
        (checked_done (response_of f) f high_free none_done)
    taken_high purpose.Job e = not_job w.command.purpose e (lanes.high_out w waits).callers

  taken_in : (lane : Priority) (w : Waiting) → (lane_in lane m).outstanding ≡ Some w
      → (lane ≡ Low → is_probe w.command.purpose ≡ false → IsOwn lives t bytes)
      → Did m.job (taken_by lane f w m) lives unit t
  taken_in Low w e own = by_stage w e m.job refl (own refl)
  taken_in High w e own = taken_high w e w.command.purpose refl

-- ---- a packet

heard_by : (bytes : List ℕ) (o : Outcome) (m : Manager) (lives : ℕ) (unit : Option Onu) (t : Told)
    → Known t → Lanes m.low m.high t.drawn t.low t.high → JobOk lives unit m t
    → DownloadedRight t.history → m.reports ≡ [] → IsHeard m.low lives t bytes
    → (o ≡ untaken (packet_frame bytes) m) ⊎ IsTaken bytes m o → Did m.job o lives unit t
heard_by bytes o m lives unit t known lanes j right quiet heard (inl not) =
    subst (λ x. Did m.job x lives unit t) (sym not)
    (untaken_did m (untaken (packet_frame bytes) m) lives unit t (untaken_is (packet_frame bytes) m) j
    right quiet)
heard_by bytes o m lives unit t known lanes j right quiet heard (inr k) =
    subst (λ x. Did m.job x lives unit t) (sym k.is)
    (taken_in bytes k.frame k.read m lives unit t known lanes j right quiet
    (priority_of k.frame.tci) k.waiting k.waits
    (λ low probe. heard k.waiting
    (subst (λ l. (lane_in l m).outstanding ≡ Some k.waiting) low k.waits)
    (sym k.tci_is ∙ k.same) (ap priority_of (sym k.tci_is) ∙ low) probe))

pub packet_good : (bytes : List ℕ) (m : Manager) (lives : ℕ) (unit : Option Onu) (t : Told)
    → Known t → Lanes m.low m.high t.drawn t.low t.high → JobOk lives unit m t
    → DownloadedRight t.history → m.reports ≡ [] → IsHeard m.low lives t bytes
    → Did m.job (after_packet bytes m) lives unit t
packet_good bytes m lives unit t known lanes j right quiet heard =
    heard_by bytes (after_packet bytes m) m lives unit t known lanes j right quiet heard
    (hearing_is bytes m)
