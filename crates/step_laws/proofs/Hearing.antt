-- Packets that come to the manager.
use Rattle.std.proofs.Common.{◌≡◌, ◌≢◌, ℕ, ◌+◌, ◌≤◌, Bool, true, false, List, [], ◌∷◌, ◌++◌, length}
use Rattle.std.proofs.Common.{Option, Some, None, ◌⊎◌, inl, inr, ⊎_elim, refl, sym, ap, subst, ◌∙◌}
use Rattle.std.proofs.Common.{arith, cond, ◌==◌, Result, Ok, Err}
use Rattle.std.specs.Option.{option_map}
use Rattle.std.proofs.lemmas.Option.{same_Some}
use Rattle.std.proofs.lemmas.Bool.{false≢true}
use Rattle.std.specs.List.{flat_map}
use Rattle.omci_types.specs.declared.Frame.{Frame}
use Rattle.omci_types.specs.declared.Priority.{Priority}
use Rattle.omci_types.specs.declared.Priority.TheVariants.{Low, High}
use Rattle.tci_spec.specs.Tci.{priority_of, packet_tci}
use Rattle.frame_spec.specs.Baseline.{packet_frame}
use Rattle.message_spec.specs.declared.Response.{Response}
use Rattle.message_spec.specs.declared.Response.TheVariants as response
use Rattle.message_spec.specs.declared.Message.{Message}
use Rattle.message_spec.specs.declared.Message.TheVariants.{Asked, Answered, Told as ToldOf}
use Rattle.message_spec.specs.declared.ContentsFault.{ContentsFault}
use Rattle.message_spec.specs.declared.Notice.{Notice}
use Rattle.message_spec.specs.declared.Notice.TheVariants as notices
use Rattle.message_spec.specs.Reading.{message_of}
use Rattle.alarm_spec.specs.declared.TakenAlarm.{TakenAlarm}
use Rattle.alarm_spec.specs.declared.TakenAlarm.TheVariants as taken
use Rattle.alarm_spec.specs.Table.{Table, take_answer, after_take, finished}
use Rattle.omci_types.specs.declared.EntityId.{EntityId}
use Rattle.upload_spec.specs.Pieces.{Copy}
use Rattle.upload_spec.specs.Copies.{copy_counter, copy_grown}
use Rattle.link_spec.specs.Link.{Sent, Link, lane_of}
use Rattle.lane_spec.specs.declared.Purpose.{Purpose}
use Rattle.lane_spec.specs.declared.Purpose.TheVariants as purpose
use Rattle.lane_spec.specs.Command.{Command, is_probe, is_changing, answers}
use Rattle.window_spec.specs.Outgoing.{Outgoing}
use Rattle.lane_spec.specs.Lane.{Lane, Waiting, end_command}
use Rattle.manager_spec.specs.declared.Phase.{Phase}
use Rattle.manager_spec.specs.declared.Phase.TheVariants as phase
use Rattle.manager_spec.specs.Copying.{grown_in_step}
use Rattle.manager_spec.specs.Upgrade.{image_started, end_answered}
use Rattle.manager_spec.specs.declared.AuditReason.{AuditReason}
use Rattle.manager_spec.specs.declared.AuditReason.TheVariants as audit
use Rattle.manager_spec.specs.declared.Report.{Report}
use Rattle.manager_spec.specs.declared.Report.TheVariants as report
use Rattle.manager_spec.specs.Manager.{Stage, Probing, Asking, Gathering, AskingAlarms}
use Rattle.manager_spec.specs.Manager.{GatheringRows, Manager, Outcome, lane_in, with_lane}
use Rattle.manager_spec.specs.Manager.{with_report, sends_nothing, and_then, Order}
use Rattle.manager_spec.specs.Manager.{StartingImage, SendingImage, EndingImage, DelayingEnd}
use Rattle.manager_spec.specs.Resync.{with_job, resync_done}
use Rattle.manager_spec.specs.Audit.{with_table, audit_done, notice_taken, audit_lost, alarm_as}
use Rattle.manager_spec.specs.Audit.{alarm_came, notice_came}
use Rattle.manager_spec.specs.Jobs.{job_goes_on}
use Rattle.manager_spec.specs.Steps.{response_of, with_taken, probe_taken, followed_by, checked_by}
use Rattle.manager_spec.specs.Steps.{freed, upload_by, piece_by_reply, alarms_by, row_by_reply}
use Rattle.manager_spec.specs.Steps.{start_by_reply, window_by_reply, end_by_reply}
use Rattle.manager_spec.specs.Steps.{job_by, taken_as, packet_dropped, not_taken, after_packet}
use Rattle.unit_spec.specs.Onu.{Onu}
use Rattle.history_spec.specs.History.{WasCarried, LastSnapshot, SyncedRight}
use Rattle.world_spec.specs.Happenings.{link_read}
use Rattle.world_spec.specs.Ends.{report_told, download_told}
use Rattle.world_spec.specs.History.{Told, drawn_in, tell_all}
use Rattle.resync_laws.proofs.Reading.{tci_read}
use Rattle.resync_laws.proofs.Invariants.{is_job, Good}
use Rattle.resync_laws.proofs.Telling.{is_synced, NoneSynced, none_more, did_told, synced_told}
use Rattle.resync_laws.proofs.Telling.{tell_append, deeds_of, all_deeds}
use Rattle.resync_laws.proofs.Telling.{audited_told}
use Rattle.resync_laws.proofs.Taking.{mild_followed, mild_checked, took_told}
use Rattle.step_laws.proofs.Coming.{Coming}
use Rattle.step_laws.proofs.Reading.{packets_change, form, AnswersForm, IsOther, answers_form}
use Rattle.step_laws.proofs.Copying.{followed_copy}
use Rattle.step_laws.proofs.Parts.{out_in, last_in, NoPacket, IsPut, IsCalm, AtStep, Steady}
use Rattle.step_laws.proofs.Parts.{has_asked, is_resync, is_probed, is_barred, probed_resync}
use Rattle.step_laws.proofs.Parts.{resync_bars, is_image, AtCommand, IsFollowed, IsImages}
use Rattle.step_laws.proofs.Parts.{counted_of}
use Rattle.step_laws.proofs.Milder.{Fewer, IsKept, fewer_steady, kept_phase, milder_steady}
use Rattle.step_laws.proofs.Milder.{rejob_steady}
use Rattle.step_laws.proofs.Sending.{not_both}
use Rattle.step_laws.proofs.Turning.{Like, like_same, like_report, like_checked, like_milder}
use Rattle.step_laws.proofs.Turning.{over_milder, IsTaken, Takes, takes, LaneMild, lane_still}
use Rattle.step_laws.proofs.Turning.{lane_ended, fewer_of}
use Rattle.step_laws.proofs.Taking.{IsOwn, noticed_steady, took_steady, audited_steady}
use Rattle.step_laws.proofs.Taking.{submission_steady, probed_steady, gathering_step, synced_steady}
use Rattle.step_laws.proofs.Taking.{change_steady}
use Rattle.step_laws.proofs.Going.{StepsTo, steps_after, steps_quiet, then_goes, image_step}
use Rattle.step_laws.proofs.Going.{image_quiet}
use Rattle.step_laws.proofs.Turns.{out_is}
use Rattle.step_laws.proofs.Becoming.{Quietly, Turns, quiet_report, turns_freed, turns_upload}
use Rattle.step_laws.proofs.Becoming.{turns_reply, quiet_then, quiet_table, quiet_audit, AuditTurns}
use Rattle.step_laws.proofs.Becoming.{audit_begins, audit_reply, Downs, downs_freed, start_downs}
use Rattle.step_laws.proofs.Becoming.{end_downs, window_reply_downs, other_form}

pub last_is : (lane : Priority) (t : Told) → drawn_in lane t ≡ last_in lane t
last_is Low t = refl
last_is High t = refl

-- ---- what is known of a reply that may be taken

-- no request that may come in the lane is of an older command than the last
abbrev pub IsFenced : Priority → ℕ → Sent → ℕ → Type 0
IsFenced lane last s name = lane_of s.bytes ≡ lane → last ≤ name

pub record Heard (l : Priority) (w : Waiting) (link : Link) (lives : ℕ) (t : Told)
    (bytes : List ℕ) : Type 0 where
  pub own : is_probe w.command.purpose ≡ false → IsOwn lives (last_in l t) t.history bytes
  pub fence : Coming (IsFenced l (last_in l t)) link t.names

abbrev pub IsHeard : Link → ℕ → Manager → Told → List ℕ → Type 0
IsHeard link lives m t bytes =
    (l : Priority) (w : Waiting) → out_in l m ≡ Some w → packet_tci bytes ≡ w.tci
    → priority_of (packet_tci bytes) ≡ l → Heard l w link lives t bytes

-- ---- a reply is taken

-- the history is right after the step, where the job was at some stage before
pub record SomeDid (o : Outcome) (link : Link) (lives : ℕ) (unit : Option Onu)
    (t : Told) : Type 0 where
  pub before : Option Stage
  pub did : Good (link_read (all_deeds before o) link).packets lives unit
      (Some (record o.manager { reports = [] })) (tell_all (all_deeds before o) t)

abbrev Steps : Outcome → Link → ℕ → Option Onu → Told → Type 0
Steps o link lives unit t = SomeDid o link lives unit t → StepsTo o link lives unit t

same_job : (l : Priority) (x : Lane) (m : Manager) → (with_lane l x m).job ≡ m.job
same_job Low x m = refl
same_job High x m = refl

same_phase : (l : Priority) (x : Lane) (m : Manager) → (with_lane l x m).phase ≡ m.phase
same_phase Low x m = refl
same_phase High x m = refl

same_reports : (l : Priority) (x : Lane) (m : Manager) → (with_lane l x m).reports ≡ m.reports
same_reports Low x m = refl
same_reports High x m = refl

-- the lane's command is answered
module _ (bytes : List ℕ) (f : Frame) (read : packet_frame bytes ≡ Some f) (m : Manager)
    (link : Link) (lives : ℕ) (unit : Option Onu) (t : Told) (h : Steady link lives unit m t)
    (quiet : m.reports ≡ []) (l : Priority) (w : Waiting) (waits : out_in l m ≡ Some w)
    (heard : Heard l w link lives t bytes) where
  abbrev ended : Manager
  ended = with_lane l (end_command w (lane_in l m)) m

  none_told : NoneSynced ended.reports
  none_told = subst NoneSynced (sym (same_reports l (end_command w (lane_in l m)) m ∙ quiet)) tt

  -- a command that isn't a submission is no change, while the manager is in step
  mild_out : (p : Purpose) → w.command.purpose ≡ p → p ≢ purpose.Submission
      → (AtCommand m.job w.command → ⊥) → m.phase ≡ phase.InStep
      → is_changing w.command.request ≡ false
  mild_out p e ne other in_step = go (is_changing w.command.request) refl
    where
      go : (b : Bool) → is_changing w.command.request ≡ b → is_changing w.command.request ≡ false
      go false g = g
      go true g = ⊎_elim
          (λ (x : IsFollowed w). absurd (ne (sym e ∙ x.submitted)))
          (λ (x : IsImages l m.job w). absurd (other x.at))
          ((h.phase in_step).phase.made l w waits g)

  -- only the job's command is that of a download
  callers_other : (p : Purpose) → w.command.purpose ≡ p → p ≢ purpose.Job
      → AtCommand m.job w.command → ⊥
  callers_other p e ne x = ne (sym e ∙ (counted_of m.job w.command x).jobs)

  over_steady : (a : Manager) → Like ended a → (p : Purpose) → w.command.purpose ≡ p
      → p ≢ purpose.Submission → (AtCommand m.job w.command → ⊥) → Steady link lives unit a t
  over_steady a k p e ne other =
      milder_steady link lives unit m a t
      (over_milder l w (end_command w (lane_in l m)).proved m a waits k
      (λ i. mild_out p e ne other (sym (same_phase l (end_command w (lane_in l m)) m) ∙ k.was i))) h

  quiet_steps : (a : Manager) → NoneSynced a.reports → Steady link lives unit a t
      → StepsTo (and_then (with_taken l a) job_goes_on) link lives unit t
  quiet_steps a none k =
      then_goes (with_taken l a) link lives unit t (took_told l t) refl refl none refl
      (took_steady l link lives unit a t k)

  -- ---- a probe

  -- no change may come in the lane any more
  probed_calm : (s : Stage) → m.job ≡ Some s → is_resync s ≡ true → Coming (IsCalm l) link t.names
  probed_calm s e resyncs = λ i x may way lane ch.
      let low = heard.fence i x may way lane in
      let k = (h.lanes l).newest i x may way in
      let high = k.0 lane in
      let among = k.1 w waits (omega (arith, low, high)) in
      not_both _ (packets_change w.tci w.command x.bytes among ch)
      ((h.job s e).quiet l w (resync_bars l s resyncs) waits)

  probe_steps : w.command.purpose ≡ purpose.Probe
      → StepsTo (and_then (probe_taken l ended) job_goes_on) link lives unit t
  probe_steps e =
      let x : Manager = with_report (report.Proved l) ended in
      then_goes (probe_taken l ended) link lives unit t t refl refl
      (none_more ended.reports (report.Proved l) none_told refl) refl
      (probed_steady l link lives unit x t
      (λ s j. probed_calm s (sym (same_job l (end_command w (lane_in l m)) m) ∙ j))
      (over_steady x (like_report (report.Proved l) ended) purpose.Probe e (λ z. cc)
      (callers_other purpose.Probe e (λ z. cc))))

  -- ---- a submission

  submitted_steps : is_probe w.command.purpose ≡ false
      → StepsTo (and_then (with_taken l
      (followed_by w.command (response_of f) (with_report (report.Took f) ended))) job_goes_on) link
      lives unit t
  submitted_steps other =
      let x : Manager = with_report (report.Took f) ended in
      quiet_steps (followed_by w.command (response_of f) x)
      ((mild_followed w.command (response_of f) x).reports
      (none_more ended.reports (report.Took f) none_told refl))
      (submission_steady l w link lives unit m t bytes f read waits (heard.own other) h)

  -- ---- a check

  checked_steps : w.command.purpose ≡ purpose.Check
      → StepsTo (and_then (with_taken l (checked_by (response_of f) f ended)) job_goes_on) link
      lives unit t
  checked_steps e =
      quiet_steps (checked_by (response_of f) f ended)
      ((mild_checked (response_of f) f ended).reports none_told)
      (over_steady (checked_by (response_of f) f ended)
      (like_checked (response_of f) f ended) purpose.Check e (λ z. cc)
      (callers_other purpose.Check e (λ z. cc)))

-- ---- the job's reply, in the low lane

module _ (bytes : List ℕ) (f : Frame) (read : packet_frame bytes ≡ Some f) (m : Manager)
    (link : Link) (lives : ℕ) (unit : Option Onu) (t : Told) (h : Steady link lives unit m t)
    (quiet : m.reports ≡ []) (w : Waiting) (waits : out_in Low m ≡ Some w)
    (heard : Heard Low w link lives t bytes) (e : w.command.purpose ≡ purpose.Job)
    (asking : m.job ≡ Some Asking → t.asking ≡ t.low) (other : AtCommand m.job w.command → ⊥) where
  abbrev freed_low : Manager
  freed_low = record m { low = end_command w m.low }

  low_steady : (a : Manager) → Like freed_low a → Steady link lives unit a t
  low_steady a k = over_steady bytes f read m link lives unit t h quiet Low w waits heard a k
      purpose.Job e (λ z. cc) other

  ended_steady : Steady link lives unit freed_low (took_told Low t)
  ended_steady = took_steady Low link lives unit freed_low t
      (low_steady freed_low (like_same freed_low))

  own : IsOwn lives t.low t.history bytes
  own = heard.own (ap is_probe e)

  none_left : (s : Stage) → m.job ≡ Some s → has_asked s ≡ true
      → IsPut NoPacket t.asking link lives freed_low (took_told Low t)
  none_left (Probing high low) j a = absurd (false≢true a)
  none_left AskingAlarms j a = absurd (false≢true a)
  none_left (GatheringRows expected next) j a = absurd (false≢true a)
  none_left (StartingImage order asked image) j a = absurd (false≢true a)
  none_left (SendingImage order outgoing resent) j a = absurd (false≢true a)
  none_left (EndingImage order image busy) j a = absurd (false≢true a)
  none_left (DelayingEnd order image busy) j a = absurd (false≢true a)
  none_left (Gathering expected next copy) j a =
      (ended_steady.job (Gathering expected next copy) j).put refl
  none_left Asking j a = record {
    early = ((ended_steady.job Asking j).put refl).early;
    packets = λ i x may way n. inr (subst (λ k. WasCarried lives k t.history)
        (sym (asking j)) own.carried);
    out = λ lane v g n bytes among. none_out lane v g n;
  }
    where
      none_out : (lane : Priority) (v : Waiting) → out_in lane freed_low ≡ Some v
          → last_in lane t ≡ t.asking → ⊥
      none_out Low v g n = cc
      none_out High v g n = h.apart w v waits g (sym (n ∙ asking j))

  quiet_turn : (a : Manager) → Quietly freed_low a
      → StepsTo (and_then (with_taken Low a) job_goes_on) link lives unit t
  quiet_turn a k =
      quiet_steps bytes f read m link lives unit t h quiet Low w waits heard a
      (k.told (subst NoneSynced (sym quiet) tt)) (low_steady a k.like)

  gathers_turn : (s : Stage) → m.job ≡ Some s → has_asked s ≡ true
      → (expected next : ℕ) (copy : Copy)
      → StepsTo (and_then (with_taken Low
      (with_job (Some (Gathering expected next copy)) freed_low)) job_goes_on) link lives unit t
  gathers_turn s j a expected next copy =
      let x : Manager = with_job (Some (Gathering expected next copy)) freed_low in
      then_goes (with_taken Low x) link lives unit t (took_told Low t) refl refl
      (subst NoneSynced (sym quiet) tt) refl
      (rejob_steady link lives unit freed_low (Some (Gathering expected next copy))
      (took_told Low t) ended_steady
      (λ z g. subst (AtStep link lives unit x (took_told Low t))
      (same_Some (Gathering expected next copy) z g)
      (gathering_step link lives unit freed_low (took_told Low t) s a (ended_steady.job s j)
      (none_left s j a) expected next copy (Some (Gathering expected next copy))))
      (λ v g y. cc))

  reports_are : (c : Copy) → tell_all
      (flat_map (report_told (resync_done c freed_low))
      ((m.reports ++ report.Synced (length c) (copy_counter c) ∷ []) ++ report.PhaseIn ∷ []))
      (took_told Low t) ≡ synced_told c (took_told Low t)
  reports_are c = ap (λ rs. tell_all (flat_map (report_told (resync_done c freed_low))
      ((rs ++ report.Synced (length c) (copy_counter c) ∷ []) ++ report.PhaseIn ∷ []))
      (took_told Low t)) quiet

  -- the copy is the database that was put by
  synced_last : (copy : Copy) → SomeDid (and_then
      (with_taken Low (resync_done copy freed_low)) job_goes_on) link lives unit t
      → LastSnapshot t.asking copy t.history
  unfolding job_goes_on
  synced_last copy did =
      let o = and_then (with_taken Low (resync_done copy freed_low)) job_goes_on in
      let ended = flat_map (download_told did.before) o.manager.reports in
      let told = tell_append (deeds_of o) ended t
      ∙ ap (λ rs. tell_all (flat_map (download_told did.before)
      ((rs ++ report.Synced (length copy) (copy_counter copy) ∷ []) ++ report.PhaseIn ∷ []))
      (tell_all (deeds_of o) t)) quiet
      ∙ did_told o t (took_told Low t) (synced_told copy (took_told Low t)) refl
      (reports_are copy) in
      (subst (λ (u : Told). SyncedRight u.history) told did.did.right).0

  syncs_turn : (s : Stage) → m.job ≡ Some s → has_asked s ≡ true → (copy : Copy)
      → Steps (and_then (with_taken Low (resync_done copy freed_low)) job_goes_on) link lives unit t
  unfolding job_goes_on
  syncs_turn s j a copy did =
      steps_after (and_then (with_taken Low (resync_done copy freed_low)) job_goes_on) link lives
      unit t (took_told Low t) (synced_told copy (took_told Low t)) refl
      (reports_are copy)
      (synced_steady link lives unit freed_low (took_told Low t) s a (ended_steady.job s j)
      (none_left s j a) copy (synced_last copy did) ended_steady)

  -- ---- an audit's

  rows_turn : (expected next : ℕ) (table : Table)
      → StepsTo (and_then (with_taken Low
      (with_job (Some (GatheringRows expected next)) (with_table table freed_low))) job_goes_on)
      link lives unit t
  rows_turn expected next table =
      let x : Manager = with_table table freed_low in
      then_goes (with_taken Low (with_job (Some (GatheringRows expected next)) x)) link lives unit t
      (took_told Low t) refl refl
      (subst NoneSynced (sym quiet) tt) refl
      (rejob_steady link lives unit x (Some (GatheringRows expected next)) (took_told Low t)
      (took_steady Low link lives unit x t (low_steady x (quiet_table table freed_low).like))
      (λ z g. subst (AtStep link lives unit (with_job (Some (GatheringRows expected next)) x)
      (took_told Low t)) (same_Some (GatheringRows expected next) z g) rows_step)
      (λ v g y. cc))
    where
      none_waits : (lane : Priority) (v : Waiting)
          → is_barred lane (GatheringRows expected next) ≡ true → out_in lane freed_low ≡ Some v
          → is_changing v.command.request ≡ false
      none_waits Low v b g = absurd (cc)
      none_waits High v b g = absurd (false≢true b)

      unprobed : (lane : Priority) → is_probed lane (GatheringRows expected next) ≡ true
          → Coming (IsCalm lane) link t.names
      unprobed lane p = absurd (false≢true (probed_resync lane (GatheringRows expected next) p))

      rows_step : AtStep link lives unit
          (with_job (Some (GatheringRows expected next)) (with_table table freed_low))
          (took_told Low t) (GatheringRows expected next)
      rows_step = record {
        quiet = none_waits;
        calm = unprobed;
        put = λ a. absurd (false≢true a);
        current = λ a. absurd (false≢true a);
      }

  audits_turn : (table : Table) → ((c : Command) → AtCommand m.job c → ⊥) → StepsTo
      (and_then (with_taken Low (audit_done (with_table table freed_low))) job_goes_on) link lives
      unit t
  unfolding job_goes_on
  audits_turn table idle =
      let x : Manager = with_table table freed_low in
      let y : Manager = audit_done x in
      let u : Told = took_told Low t in
      steps_after (and_then (with_taken Low y) job_goes_on) link lives unit t u
      (audited_told y u) refl
      (ap (λ rs. tell_all (flat_map (report_told y)
      (rs ++ report.Audited (length (finished table).rows) ∷ [])) u) quiet)
      (audited_steady link lives unit y u
      (took_steady Low link lives unit y t
      (low_steady y (record {
        low = refl;
        high = refl;
        job = λ s g. absurd (cc);
        was = λ g. g;
        copy = λ g. refl;
        command = λ g c y. absurd (idle c y);
      }))))

  audit_steps : (a : Manager) → ((c : Command) → AtCommand m.job c → ⊥) → AuditTurns freed_low a
      → StepsTo (and_then (with_taken Low a) job_goes_on) link lives unit t
  audit_steps a idle (inl k) = quiet_turn a k
  audit_steps a idle (inr (inl k)) =
      subst (λ x. StepsTo (and_then (with_taken Low x) job_goes_on) link lives unit t) (sym k.is)
      (rows_turn k.expected k.next k.table)
  audit_steps a idle (inr (inr k)) =
      subst (λ x. StepsTo (and_then (with_taken Low x) job_goes_on) link lives unit t) (sym k.is)
      (audits_turn k.table idle)

  turn_steps : (s : Stage) → m.job ≡ Some s → has_asked s ≡ true → (a : Manager) → Turns freed_low a
      → Steps (and_then (with_taken Low a) job_goes_on) link lives unit t
  turn_steps s j p a (inl k) did = quiet_turn a k
  turn_steps s j p a (inr (inl k)) did =
      subst (λ x. StepsTo (and_then (with_taken Low x) job_goes_on) link lives unit t) (sym k.is)
      (gathers_turn s j p k.expected k.next k.copy)
  turn_steps s j p a (inr (inr k)) did =
      subst (λ x. Steps (and_then (with_taken Low x) job_goes_on) link lives unit t) (sym k.is)
      (syncs_turn s j p k.copy) did

-- the reply to a command of a download
module _ (bytes : List ℕ) (f : Frame) (read : packet_frame bytes ≡ Some f) (m : Manager)
    (link : Link) (lives : ℕ) (unit : Option Onu) (t : Told) (h : Steady link lives unit m t)
    (quiet : m.reports ≡ []) (w : Waiting) (waits : out_in Low m ≡ Some w)
    (heard : Heard Low w link lives t bytes) (e : w.command.purpose ≡ purpose.Job)
    (s : Stage) (at : m.job ≡ Some s) (image : is_image s ≡ true) where
  abbrev image_low : Manager
  image_low = record m { low = end_command w m.low }

  module _ (a : Manager) (grown : Bool) (k : Downs image_low a grown)
      (still : is_changing w.command.request ≡ false → grown ≡ false)
      (copied : is_changing w.command.request ≡ true → m.phase ≡ phase.InStep → (copy : Copy)
      → m.copy ≡ Some copy
      → a.copy ≡ Some (followed_copy w.command.entity w.command.request (response_of f) copy)) where
    image_fewer : Fewer m a
    image_fewer =
        fewer_of ⊥ m a
        (subst (LaneMild ⊥ m.low) (sym k.low)
        (lane_ended ⊥ m.low w (end_command w m.low).proved waits (λ p. absurd p)))
        (subst (LaneMild ⊥ m.high) (sym k.high) (lane_still ⊥ m.high))

    image_gone : out_in Low a ≡ None
    image_gone = ap (λ (x : Lane). x.outstanding) k.low

    image_others : (q : Priority) (v : Waiting) → q ≢ Low → out_in q m ≡ Some v
        → out_in q a ≡ Some v
    image_others Low v ne o = absurd (ne refl)
    image_others High v ne o = ap (λ (x : Lane). x.outstanding) k.high ∙ o

    image_stays : (v : Waiting) → out_in Low a ≡ Some v → AtCommand m.job v.command
        → AtCommand a.job v.command
    image_stays v o x = absurd (let n = image_gone in cc)

    image_jobs : (x : Stage) → a.job ≡ Some x → AtStep link lives unit a t x
    image_jobs x j =
        image_step x link lives unit a t (k.job x j)
        (λ v o. image_quiet s link lives unit m t image (h.job s at) v
        (ap (λ (y : Lane). y.outstanding) (sym k.high) ∙ o))

    image_kept : is_changing w.command.request ≡ false → IsKept m a
    image_kept mild Low v o c =
        let same = same_Some w v (sym waits ∙ o) in
        absurd (false≢true (sym mild ∙ ap (λ (y : Waiting). is_changing y.command.request) same ∙ c))
    image_kept mild High v o c =
        record { waiting = v; waits = image_others High v (λ z. cc) o; tci = refl; command = refl }

    image_by : (b : Bool) → is_changing w.command.request ≡ b → Steady link lives unit a t
    image_by true g =
        change_steady Low w link lives unit m a t bytes f read waits g
        (heard.own (ap is_probe e)).carried (heard.own (ap is_probe e)).reply image_fewer image_gone
        image_others image_stays image_jobs (λ p. sym k.phase ∙ p)
        (λ copy p has. copied g p copy has) h
    image_by false g =
        fewer_steady link lives unit m a t image_fewer h image_jobs (λ p.
        let c = h.phase (sym k.phase ∙ p) in
        record {
          copy = c.copy;
          upload = c.upload;
          has =
              k.copy
              ∙ ap (λ b. cond b (option_map (grown_in_step m.phase) m.copy) m.copy) (still g)
              ∙ c.has;
          phase = kept_phase link lives unit m a t image_fewer (image_kept g) image_stays c.copy
              c.upload c.phase;
        })

    image_turn : StepsTo (and_then (with_taken Low a) job_goes_on) link lives unit t
    image_turn =
        then_goes (with_taken Low a) link lives unit t (took_told Low t) refl refl
        (k.told (subst NoneSynced (sym quiet) tt)) refl
        (took_steady Low link lives unit a t (image_by (is_changing w.command.request) refl))

-- ---- the job's reply

module _ (bytes : List ℕ) (f : Frame) (read : packet_frame bytes ≡ Some f) (m : Manager)
    (link : Link) (lives : ℕ) (unit : Option Onu) (t : Told) (h : Steady link lives unit m t)
    (quiet : m.reports ≡ []) (w : Waiting) (waits : out_in Low m ≡ Some w)
    (heard : Heard Low w link lives t bytes) (e : w.command.purpose ≡ purpose.Job)
    (asking : m.job ≡ Some Asking → t.asking ≡ t.low)
    (answered : answers w.tci w.command f ≡ true) where
  abbrev job_low : Manager
  job_low = record m { low = end_command w m.low }

  -- a change of the job is that of its stage
  its_command : is_changing w.command.request ≡ true → m.phase ≡ phase.InStep
      → AtCommand m.job w.command
  its_command g p = ⊎_elim
      (λ (x : IsFollowed w). absurd (let z = sym e ∙ x.submitted in cc))
      (λ (x : IsImages Low m.job w). x.at) ((h.phase p).phase.made Low w waits g)

  replied : AnswersForm (form w.command.request) (response_of f)
  replied = answers_form w.tci w.command f e answered

  replied_other : is_changing w.command.request ≡ false → IsOther (response_of f)
  replied_other g = subst (λ n. AnswersForm n (response_of f)) (other_form w.command.request g) replied

  grown_copy : (b : Bool) (o : Option Copy) (copy : Copy) (p : Phase) → p ≡ phase.InStep
      → o ≡ Some copy → cond b (option_map (grown_in_step p) o) o ≡ Some (cond b (copy_grown copy) copy)
  grown_copy true o copy p i has =
      ap (λ q. option_map (grown_in_step q) o) i ∙ ap (option_map (grown_in_step phase.InStep)) has
  grown_copy false o copy p i has = has

  start_turn : (o : Option Response) → response_of f ≡ o → (order : Order) (asked : ℕ)
      (image : List ℕ) → m.job ≡ Some (StartingImage order asked image)
      → StepsTo (and_then (with_taken Low (start_by_reply o order asked image f job_low))
      job_goes_on) link lives unit t
  start_turn (Some (response.Start code granted)) is order asked image j =
      let s : Stage = StartingImage order asked image in
      image_turn bytes f read m link lives unit t h quiet w waits heard e s j refl
      (image_started code.0 granted order asked image job_low) (code.0 == 0)
      (start_downs code.0 granted order asked image job_low)
      (λ g. absurd (subst IsOther is (replied_other g)))
      (λ g p copy has.
      let c = subst (λ q. AtCommand q w.command) j (its_command g p) in
      (start_downs code.0 granted order asked image job_low).copy
      ∙ grown_copy (code.0 == 0) m.copy copy m.phase p has
      ∙ ap (λ (d : Command). Some (followed_copy d.entity d.request
      (Some (response.Start code granted)) copy)) (sym c)
      ∙ ap (λ x. Some (followed_copy w.command.entity w.command.request x copy)) (sym is))
  start_turn _ is order asked image j =
      let s : Stage = StartingImage order asked image in
      image_turn bytes f read m link lives unit t h quiet w waits heard e s j refl
      (freed f job_low) false (downs_freed f s job_low j refl) (λ g. refl)
      (λ g p copy has.
      let c = subst (λ q. AtCommand q w.command) j (its_command g p) in
      let one : form w.command.request ≡ 1 = ap (λ (d : Command). form d.request) c in
      let r = subst (λ n. AnswersForm n (response_of f)) one replied in
      absurd (let z = sym is ∙ r.2 in cc))

  end_turn : (o : Option Response) → response_of f ≡ o → (order : Order) (image : List ℕ) (busy : ℕ)
      → m.job ≡ Some (EndingImage order image busy)
      → StepsTo (and_then (with_taken Low (end_by_reply o order image busy f job_low)) job_goes_on)
      link lives unit t
  end_turn (Some (response.End code)) is order image busy j =
      let s : Stage = EndingImage order image busy in
      image_turn bytes f read m link lives unit t h quiet w waits heard e s j refl
      (end_answered code.0 order image busy job_low) (code.0 == 0)
      (end_downs code.0 order image busy job_low)
      (λ g. absurd (subst IsOther is (replied_other g)))
      (λ g p copy has.
      let c = subst (λ q. AtCommand q w.command) j (its_command g p) in
      (end_downs code.0 order image busy job_low).copy
      ∙ grown_copy (code.0 == 0) m.copy copy m.phase p has
      ∙ ap (λ (d : Command). Some (followed_copy d.entity d.request (Some (response.End code)) copy))
      (sym c)
      ∙ ap (λ x. Some (followed_copy w.command.entity w.command.request x copy)) (sym is))
  end_turn _ is order image busy j =
      let s : Stage = EndingImage order image busy in
      image_turn bytes f read m link lives unit t h quiet w waits heard e s j refl
      (freed f job_low) false (downs_freed f s job_low j refl) (λ g. refl)
      (λ g p copy has.
      let c = subst (λ q. AtCommand q w.command) j (its_command g p) in
      let two : form w.command.request ≡ 2 = ap (λ (d : Command). form d.request) c in
      let r = subst (λ n. AnswersForm n (response_of f)) two replied in
      absurd (let z = sym is ∙ r.1 in cc))

  window_turn : (order : Order) (outgoing : Outgoing) (resent : ℕ)
      → m.job ≡ Some (SendingImage order outgoing resent)
      → StepsTo (and_then (with_taken Low
      (window_by_reply (response_of f) order outgoing resent f job_low)) job_goes_on) link lives unit t
  window_turn order outgoing resent j =
      let s : Stage = SendingImage order outgoing resent in
      image_turn bytes f read m link lives unit t h quiet w waits heard e s j refl
      (window_by_reply (response_of f) order outgoing resent f job_low) false
      (window_reply_downs (response_of f) order outgoing resent f job_low j) (λ g. refl)
      (λ g p. absurd (subst (λ q. AtCommand q w.command) j (its_command g p)))

  delayed_turn : (order : Order) (image : List ℕ) (busy : ℕ)
      → m.job ≡ Some (DelayingEnd order image busy)
      → StepsTo (and_then (with_taken Low (freed f job_low)) job_goes_on) link lives unit t
  delayed_turn order image busy j =
      let s : Stage = DelayingEnd order image busy in
      image_turn bytes f read m link lives unit t h quiet w waits heard e s j refl
      (freed f job_low) false (downs_freed f s job_low j refl) (λ g. refl)
      (λ g p. absurd (subst (λ q. AtCommand q w.command) j (its_command g p)))

  -- no download runs
  other_at : (o : Option Stage) → m.job ≡ o → (AtCommand o w.command → ⊥)
      → AtCommand m.job w.command → ⊥
  other_at o j k x = k (subst (λ q. AtCommand q w.command) j x)

  idle_at : (o : Option Stage) → m.job ≡ o → ((c : Command) → AtCommand o c → ⊥)
      → (c : Command) → AtCommand m.job c → ⊥
  idle_at o j k c x = k c (subst (λ q. AtCommand q c) j x)

  job_steps : (o : Option Stage) → m.job ≡ o
      → Steps (and_then (with_taken Low (job_by o (response_of f) f job_low)) job_goes_on) link
      lives unit t
  job_steps None j did =
      quiet_turn bytes f read m link lives unit t h quiet w waits heard e asking
      (other_at None j (λ x. x)) (freed f job_low) (turns_freed f job_low)
  job_steps (Some (Probing high low)) j did =
      quiet_turn bytes f read m link lives unit t h quiet w waits heard e asking
      (other_at (Some (Probing high low)) j (λ x. x)) (freed f job_low) (turns_freed f job_low)
  job_steps (Some Asking) j did =
      turn_steps bytes f read m link lives unit t h quiet w waits heard e asking
      (other_at (Some Asking) j (λ x. x)) Asking j refl (upload_by (response_of f) f job_low)
      (turns_upload (response_of f) f job_low) did
  job_steps (Some (Gathering expected next copy)) j did =
      turn_steps bytes f read m link lives unit t h quiet w waits heard e asking
      (other_at (Some (Gathering expected next copy)) j (λ x. x)) (Gathering expected next copy) j refl
      (piece_by_reply (response_of f) expected next copy f job_low)
      (turns_reply (response_of f) expected next copy f job_low) did
  job_steps (Some AskingAlarms) j did =
      audit_steps bytes f read m link lives unit t h quiet w waits heard e asking
      (other_at (Some AskingAlarms) j (λ x. x)) (alarms_by (response_of f) f job_low)
      (idle_at (Some AskingAlarms) j (λ c x. x)) (audit_begins (response_of f) f job_low)
  job_steps (Some (GatheringRows expected next)) j did =
      audit_steps bytes f read m link lives unit t h quiet w waits heard e asking
      (other_at (Some (GatheringRows expected next)) j (λ x. x))
      (row_by_reply (response_of f) expected next f job_low)
      (idle_at (Some (GatheringRows expected next)) j (λ c x. x))
      (audit_reply (response_of f) expected next f job_low
      (idle_at (Some (GatheringRows expected next)) j (λ c x. x)))
  job_steps (Some (StartingImage order asked image)) j did =
      start_turn (response_of f) refl order asked image j
  job_steps (Some (SendingImage order outgoing resent)) j did = window_turn order outgoing resent j
  job_steps (Some (EndingImage order image busy)) j did =
      end_turn (response_of f) refl order image busy j
  job_steps (Some (DelayingEnd order image busy)) j did = delayed_turn order image busy j

-- ---- a packet

module _ (bytes : List ℕ) (m : Manager) (link : Link) (lives : ℕ) (unit : Option Onu) (t : Told)
    (h : Steady link lives unit m t) (quiet : m.reports ≡ []) (heard : IsHeard link lives m t bytes)
    (callers : (w : Waiting) → m.high.outstanding ≡ Some w → is_job w.command.purpose ≡ false)
    (asking : m.job ≡ Some Asking → t.asking ≡ t.low) where
  -- ---- it answers nothing

  aside_steady : (a : Manager) → Quietly m a → Steady link lives unit a t
  aside_steady a k = milder_steady link lives unit m a t (like_milder m a k.like) h

  aside_told : (a : Manager) → Quietly m a → NoneSynced a.reports
  aside_told a k = k.told (subst NoneSynced (sym quiet) tt)

  aside_steps : (a : Manager) → Quietly m a → StepsTo (sends_nothing a) link lives unit t
  aside_steps a k = steps_quiet (sends_nothing a) link lives unit t t refl (aside_told a k)
      (aside_steady a k)

  dropped_steps : StepsTo (packet_dropped m) link lives unit t
  dropped_steps = aside_steps (with_report report.Dropped m)
      (quiet_report report.Dropped m (refl, tt))

  noticed_steps : (one : EntityId) (bitmap : List ℕ) (a : Manager) → Quietly m a
      → StepsTo (notice_taken one bitmap a) link lives unit t
  noticed_steps one bitmap a k =
      let more = t.notices ++ (one, bitmap) ∷ [] in
      steps_quiet (notice_taken one bitmap a) link lives unit t (record t { notices = more }) refl
      (aside_told a k)
      (noticed_steady link lives unit a t more (aside_steady a k))

  more : (r : Report) (a : Manager) → Quietly m a → is_synced r ≡ false
      → Quietly m (with_report r a)
  more r a k n = quiet_then m a (with_report r a) k (quiet_report r a (n, tt))

  lost_steps : (job : Option Stage) (why : AuditReason) (a : Manager) → a.job ≡ job → Quietly m a
      → StepsTo (sends_nothing (audit_lost job why a)) link lives unit t
  lost_steps job why a e k = aside_steps (audit_lost job why a)
      (quiet_then m a (audit_lost job why a) k (quiet_audit job why a e))

  alarm_steps : (o : TakenAlarm) (one : EntityId) (bitmap : List ℕ) (number : ℕ) (a : Manager)
      → Quietly m a → StepsTo (alarm_as o one bitmap number a) link lives unit t
  alarm_steps taken.Unaudited one bitmap number a k =
      aside_steps _ (more (report.AlarmUnaudited number) a k refl)
  alarm_steps taken.Repeat one bitmap number a k =
      aside_steps _ (more (report.AlarmRepeat number) a k refl)
  alarm_steps (taken.Gap want have) one bitmap number a k =
      lost_steps a.job (audit.Gap want have) _ refl (more (report.AlarmGap want have) a k refl)
  alarm_steps taken.Overflow one bitmap number a k =
      lost_steps a.job audit.Overflow _ refl (more (report.AlarmOverflow number) a k refl)
  alarm_steps taken.Taken one bitmap number a k =
      noticed_steps one bitmap _ (more (report.AlarmTaken number) a k refl)

  alarm_came_steps : (one : EntityId) (bitmap : List ℕ) (number : ℕ)
      → StepsTo (alarm_came one bitmap number m) link lives unit t
  unfolding alarm_came
  alarm_came_steps one bitmap number =
      alarm_steps (take_answer number m.table) one bitmap number
      (with_table (after_take one bitmap number m.table) m)
      (quiet_table (after_take one bitmap number m.table) m)

  notice_steps : (one : EntityId) (notice : Notice) (f : Frame)
      → StepsTo (notice_came one notice f m) link lives unit t
  notice_steps one (notices.Alarm bitmap number) f = alarm_came_steps one bitmap number
  notice_steps one (notices.Change mask values) f =
      aside_steps _ (quiet_report (report.Change f) m (refl, tt))

  not_taken_steps : (r : Result Message ContentsFault) (f : Frame)
      → StepsTo (not_taken r f m) link lives unit t
  not_taken_steps (Ok (ToldOf tci entity notice)) f = notice_steps entity notice f
  not_taken_steps (Ok (Asked tci entity r)) f = dropped_steps
  not_taken_steps (Ok (Answered tci entity r)) f = dropped_steps
  not_taken_steps (Err fault) f = dropped_steps

  -- ---- it is taken

  by_purpose : (l : Priority) (w : Waiting) (f : Frame) → packet_frame bytes ≡ Some f
      → out_in l m ≡ Some w → Heard l w link lives t bytes → answers w.tci w.command f ≡ true
      → (p : Purpose) → w.command.purpose ≡ p
      → Steps (and_then (taken_as p l w.command f (with_lane l (end_command w (lane_in l m)) m))
      job_goes_on) link lives unit t
  by_purpose l w f read e k a purpose.Probe p did =
      probe_steps bytes f read m link lives unit t h quiet l w e k p
  by_purpose l w f read e k a purpose.Submission p did =
      submitted_steps bytes f read m link lives unit t h quiet l w e k (ap is_probe p)
  by_purpose l w f read e k a purpose.Check p did =
      checked_steps bytes f read m link lives unit t h quiet l w e k p
  by_purpose Low w f read e k a purpose.Job p did =
      job_steps bytes f read m link lives unit t h quiet w e k p asking a m.job refl did
  by_purpose High w f read e k a purpose.Job p did =
      absurd (false≢true (sym (callers w e) ∙ ap is_job p))

  taken_steps : (o : Outcome) → IsTaken bytes m o → Steps o link lives unit t
  taken_steps o k =
      let tci : frame_tci k ≡ packet_tci bytes = tci_read bytes k.frame k.read in
      let waits = sym (out_is k.lane m) ∙ k.waits in
      subst (λ x. Steps x link lives unit t) (sym k.is)
      (by_purpose k.lane k.waiting k.frame k.read waits
      (heard k.lane k.waiting waits (sym tci ∙ k.tci) (ap priority_of (sym tci) ∙ k.in_lane))
      k.answered
      k.waiting.command.purpose refl)
    where
      frame_tci : IsTaken bytes m o → ℕ
      frame_tci x = x.frame.tci

  by_takes : (o : Outcome) → Takes bytes m o → Steps o link lives unit t
  by_takes o (inl e) did = subst (λ x. StepsTo x link lives unit t) (sym e) dropped_steps
  by_takes o (inr (inl k)) did =
      subst (λ x. StepsTo x link lives unit t) (sym k.is)
      (not_taken_steps (message_of k.frame) k.frame)
  by_takes o (inr (inr k)) did = taken_steps o k did

  pub packet_steps : Steps (after_packet bytes m) link lives unit t
  packet_steps did = by_takes (after_packet bytes m) (takes bytes m) did
