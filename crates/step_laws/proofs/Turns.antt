-- What is asked of the manager, and a second.
use Rattle.std.proofs.Common.{◌≡◌, ◌≢◌, ℕ, ◌+◌, ◌<◌, ◌^◌, Bool, true, false, not, if◌then◌else◌, List, inl}
use Rattle.std.proofs.Common.{[], ◌∷◌, ◌++◌, map, Option, Some, None, refl, sym, ap, subst, ◌∙◌}
use Rattle.std.proofs.Common.{nat_le, nat_lt}
use Rattle.std.proofs.lemmas.Option.{same_Some}
use Rattle.std.proofs.lemmas.Bool.{false≢true}
use Rattle.omci_types.specs.declared.EntityId.{EntityId}
use Rattle.omci_types.specs.declared.Priority.{Priority}
use Rattle.omci_types.specs.declared.Priority.TheVariants.{Low, High}
use Rattle.tci_spec.specs.Tci.{tci_of}
use Rattle.message_spec.specs.declared.Request.{Request}
use Rattle.message_spec.specs.declared.Request.TheVariants as request
use Rattle.link_spec.specs.Link.{Link}
use Rattle.lane_spec.specs.declared.TheConstants.{MOST_REPEATS}
use Rattle.lane_spec.specs.Command.{Command, probe_command, check_command, ask, is_changing}
use Rattle.lane_spec.specs.Command.{command_packets}
use Rattle.lane_spec.specs.declared.LaneTick.TheVariants.{Repeat}
use Rattle.lane_spec.specs.Lane.{Lane, Waiting, next_tci, timeout_of, tick_by, tick_waiting, lane_tick}
use Rattle.manager_spec.specs.declared.Phase.TheVariants as phase
use Rattle.manager_spec.specs.declared.Refusal.{Refusal}
use Rattle.manager_spec.specs.declared.Refusal.TheVariants.{ChangeOutstanding}
use Rattle.manager_spec.specs.declared.Report.TheVariants as report
use Rattle.manager_spec.specs.Manager.{Stage, Probing, Asking, Gathering, AskingAlarms}
use Rattle.manager_spec.specs.Manager.{GatheringRows, Manager, Outcome, lane_in, with_lane}
use Rattle.manager_spec.specs.Manager.{with_report, and_then, command_sent, Order}
use Rattle.manager_spec.specs.Manager.{StartingImage, SendingImage, EndingImage, DelayingEnd}
use Rattle.manager_spec.specs.Upgrade.{start_command}
use Rattle.manager_spec.specs.Resync.{with_job}
use Rattle.manager_spec.specs.Jobs.{waits_for, resumed_by, job_resumes}
use Rattle.manager_spec.specs.Submitting.{unproven, occupied, job_running, out_of_step, goes_beside}
use Rattle.manager_spec.specs.Submitting.{job_in_the_way, changing_by, other_change, second_change}
use Rattle.manager_spec.specs.Submitting.{first_refusal, probe_refusal, needs_copy, submit_refusal}
use Rattle.manager_spec.specs.Submitting.{leaves_copy, leave_if, check_refusal, resync_refusal}
use Rattle.manager_spec.specs.Submitting.{resync_begun, audit_refusal, audit_asked, image_refusal}
use Rattle.manager_spec.specs.Submitting.{image_asked}
use Rattle.manager_spec.specs.Steps.{loss_seen, lane_ticked, tick_lane, after_tick}
use Rattle.unit_spec.specs.Onu.{Onu}
use Rattle.alarm_spec.specs.Alarms.{Alarm}
use Rattle.world_spec.specs.Happenings.{ReplyTaken, NoticeTaken}
use Rattle.world_spec.specs.History.{Told, tell_all}
use Rattle.resync_laws.proofs.Reading.{is_plain}
use Rattle.resync_laws.proofs.Telling.{NoneSynced}
use Rattle.resync_laws.proofs.Mild.{mild_leave}
use Rattle.resync_laws.proofs.Turns.{two_none, three_none, five_none, not_occupied, not_running}
use Rattle.resync_laws.proofs.Turns.{lane_quiet, lane_taken, lane_noticed, resume_silent}
use Rattle.step_laws.proofs.Reading.{IsExact}
use Rattle.step_laws.proofs.Coming.{Coming}
use Rattle.step_laws.proofs.Parts.{lane_at, out_in, IsCalm, AtStep, Steady, is_probed, is_barred}
use Rattle.step_laws.proofs.Parts.{is_image, AtCommand}
use Rattle.step_laws.proofs.Milder.{milder_steady, rejob_steady}
use Rattle.step_laws.proofs.Sending.{next_fits, sends_all}
use Rattle.step_laws.proofs.Turning.{lane_still, lane_later, milder_of, Like, like_same, like_then}
use Rattle.step_laws.proofs.Turning.{like_report, leave_out, like_leave, like_milder, over_milder}
use Rattle.step_laws.proofs.Turning.{lost}
use Rattle.step_laws.proofs.Going.{StepsTo, SendsTo, steps_quiet, sends_both, send_steady}
use Rattle.step_laws.proofs.Going.{asks_alarms, sends_once, sends_counted, image_step, image_quiet, goes_on}

pub out_is : (lane : Priority) (m : Manager) → (lane_in lane m).outstanding ≡ out_in lane m
out_is Low m = refl
out_is High m = refl

-- ---- refusals

-- all of four but the first
four_all : (a b c d : Option Refusal) → first_refusal (a ∷ b ∷ c ∷ d ∷ []) ≡ None
    → (b ≡ None) × (c ≡ None) × (d ≡ None)
four_all None None None None e = (refl, refl, refl)
four_all None None None (Some d) e = absurd (cc)
four_all None None (Some c) d e = absurd (cc)
four_all None (Some b) c d e = absurd (cc)
four_all (Some a) b c d e = absurd (cc)

-- the last of five
five_last : (a b c d e : Option Refusal) → first_refusal (a ∷ b ∷ c ∷ d ∷ e ∷ []) ≡ None → e ≡ None
five_last None None None None None f = refl
five_last None None None None (Some e) f = absurd (cc)
five_last None None None (Some d) e f = absurd (cc)
five_last None None (Some c) d e f = absurd (cc)
five_last None (Some b) c d e f = absurd (cc)
five_last (Some a) b c d e f = absurd (cc)

no_change : (o : Option Waiting) (v : Waiting) → changing_by o ≡ None → o ≡ Some v
    → is_changing v.command.request ≡ false
no_change None v h e = absurd (cc)
no_change (Some w) v h e =
    subst (λ (x : Waiting). is_changing x.command.request ≡ false) (same_Some w v e)
    (go (is_changing w.command.request) refl h)
  where
    go : (b : Bool) → is_changing w.command.request ≡ b
        → (if b then Some (ChangeOutstanding w.tci) else None) ≡ None
        → is_changing w.command.request ≡ false
    go false f g = f
    go true f g = absurd (cc)

alone_by : (b : Bool) (r : Request) (lane : Priority) (m : Manager) → is_changing r ≡ b → b ≡ true
    → second_change r lane m ≡ None → other_change lane m ≡ None
alone_by false r lane m e f h = absurd (false≢true f)
alone_by true r lane m e f h = sym (ap (λ x. if x then other_change lane m else None) e) ∙ h

alone : (r : Request) (lane : Priority) (m : Manager) → is_changing r ≡ true
    → second_change r lane m ≡ None
    → (k : Priority) (v : Waiting) → k ≢ lane → out_in k m ≡ Some v
    → is_changing v.command.request ≡ false
alone r Low m g h High v ne e = no_change m.high.outstanding v (alone_by true r Low m g refl h) e
alone r High m g h Low v ne e = no_change m.low.outstanding v (alone_by true r High m g refl h) e
alone r Low m g h Low v ne e = absurd (ne refl)
alone r High m g h High v ne e = absurd (ne refl)

beside_mild : (lane : Priority) (r : Request) → goes_beside lane r ≡ true → is_changing r ≡ false
beside_mild Low r e = absurd (false≢true e)
beside_mild High (request.Get mask) e = refl
beside_mild High (request.Create values) e = absurd (false≢true e)
beside_mild High request.Delete e = absurd (false≢true e)
beside_mild High (request.Set mask values) e = absurd (false≢true e)
beside_mild High request.Reset e = absurd (false≢true e)
beside_mild High request.Commit e = absurd (false≢true e)
beside_mild High (request.Activate flags) e = absurd (false≢true e)
beside_mild High (request.Reboot flags) e = absurd (false≢true e)
beside_mild High (request.Start window size targets target) e = absurd (false≢true e)
beside_mild High (request.End check size targets target) e = absurd (false≢true e)
beside_mild High _ e = refl

job_mild : (lane : Priority) (r : Request) (m : Manager) (s : Stage)
    → job_in_the_way lane r m ≡ None
    → m.job ≡ Some s → is_changing r ≡ false
job_mild lane r m s h e = go (goes_beside lane r) refl h
  where
    go : (b : Bool) → goes_beside lane r ≡ b → (if b then None else job_running m) ≡ None
        → is_changing r ≡ false
    go true f g = beside_mild lane r f
    go false f g = absurd (let n = not_running m.job g in cc)

module _ (m : Manager) (link : Link) (lives : ℕ) (unit : Option Onu) (t : Told)
    (h : Steady link lives unit m t) (quiet : m.reports ≡ []) where
  none_told : NoneSynced m.reports
  none_told = subst NoneSynced (sym quiet) tt

  sent_steps : (lane : Priority) (c : Command) (a : Manager) → NoneSynced a.reports
      → SendsTo (command_sent false lane c a) link lives unit t
      → StepsTo (command_sent false lane c a) link lives unit t
  sent_steps Low c a n g = steps_quiet (command_sent false Low c a) link lives unit t t refl n g
  sent_steps High c a n g = steps_quiet (command_sent false High c a) link lives unit t t refl n g

  free_of : (lane : Priority) → occupied lane m ≡ None → out_in lane m ≡ None
  free_of lane e = sym (out_is lane m) ∙ not_occupied (lane_in lane m).outstanding e

  pub probe_steps : (lane : Priority) → probe_refusal lane m ≡ None
      → StepsTo (command_sent false lane probe_command m) link lives unit t
  probe_steps lane e =
      let k = two_none (occupied lane m) (job_running m) e in
      sent_steps lane probe_command m none_told
      (send_steady lane probe_command link lives unit m t h (free_of lane k.0)
      (λ c. absurd (false≢true c)) (λ s f. refl))

  pub check_steps : check_refusal m ≡ None
      → StepsTo (command_sent false Low check_command m) link lives unit t
  check_steps e =
      let k = five_none (unproven Low m) (occupied Low m) (out_of_step true m) (job_running m)
      (other_change Low m) e in
      sent_steps Low check_command m none_told
      (send_steady Low check_command link lives unit m t h (free_of Low k.0)
      (λ c. absurd (false≢true c)) (λ s f. refl))

  -- ---- a resynchronisation

  pub resync_steps : resync_refusal m ≡ None → StepsTo (resync_begun m) link lives unit t
  resync_steps e =
      let k = three_none (occupied High m) (occupied Low m) (job_running m) e in
      let begun : Manager = with_job (Some (Probing true true)) m in
      steps_quiet (resync_begun m) link lives unit t t refl none_told
      (sends_both (command_sent false High probe_command begun)
      (command_sent false Low probe_command) link lives unit t
      (send_steady High probe_command link lives unit begun t
      (rejob_steady link lives unit m (Some (Probing true true)) t h
      (λ s f. subst (AtStep link lives unit begun t) (same_Some (Probing true true) s f)
      (begins k.0 k.1))
      (λ w o x. absurd (subst (λ j. AtCommand j w.command) (not_running m.job k.2) x)))
      (free_of High k.0) (λ c. absurd (false≢true c)) (λ s f. refl))
      (λ l u g. send_steady Low probe_command l lives unit
      (command_sent false High probe_command begun).manager u g (free_of Low k.1)
      (λ c. absurd (false≢true c)) (λ s f. refl)))
    where
      begins : occupied High m ≡ None → occupied Low m ≡ None
          → AtStep link lives unit (with_job (Some (Probing true true)) m) t (Probing true true)
      begins high low = record {
        quiet = none_waits;
        calm = unprobed;
        put = λ a. absurd (false≢true a);
        current = λ a. absurd (false≢true a);
      }
        where
          none_waits : (lane : Priority) (w : Waiting) → is_barred lane (Probing true true) ≡ true
              → out_in lane m ≡ Some w → is_changing w.command.request ≡ false
          none_waits Low w b f = absurd (let n = free_of Low low in cc)
          none_waits High w b f = absurd (let n = free_of High high in cc)

          unprobed : (lane : Priority) → is_probed lane (Probing true true) ≡ true
              → Coming (IsCalm lane) link t.names
          unprobed Low f = absurd (false≢true f)
          unprobed High f = absurd (false≢true f)

  -- ---- an audit

  pub audit_steps : audit_refusal m ≡ None → StepsTo (audit_asked m) link lives unit t
  audit_steps e =
      let k = three_none (unproven Low m) (occupied Low m) (job_running m) e in
      steps_quiet (audit_asked m) link lives unit t t refl none_told
      (asks_alarms link lives unit m t h (free_of Low k.1) (not_running m.job k.2))

  -- ---- a download

  pub image_steps : (order : Order) (asked : ℕ) (image : List ℕ) → image_refusal m ≡ None
      → StepsTo (image_asked order asked image m) link lives unit t
  image_steps order asked image e =
      let s : Stage = StartingImage order asked image in
      let k = four_all (unproven Low m) (occupied Low m) (job_running m) (other_change Low m) e in
      steps_quiet (image_asked order asked image m) link lives unit t t refl none_told
      (sends_counted link lives unit m t h s (start_command order asked image) refl refl
      (free_of Low k.0) (λ w o. no_change m.high.outstanding w k.2 o)
      (λ c x. absurd (subst (λ j. AtCommand j c) (not_running m.job k.1) x)))

  -- ---- a request for an entity

  like_if : (b : Bool) → Like m (leave_if b m)
  like_if true = like_leave m
  like_if false = like_same m

  told_if : (b : Bool) → NoneSynced (leave_if b m).reports
  told_if true = (mild_leave m).reports none_told
  told_if false = none_told

  stays_if : (b : Bool) → (leave_if b m).phase ≡ phase.InStep → b ≡ false
  stays_if true e = absurd (leave_out m e)
  stays_if false e = refl

  module _ (a : Manager) (k : Like m a) (r : Request)
      (g : a.phase ≡ phase.InStep → leaves_copy r ≡ false) (lane : Priority)
      (entity : EntityId) where
    like_steady : Steady link lives unit a t
    like_steady = milder_steady link lives unit m a t (like_milder m a k) h

    like_out : (q : Priority) → out_in q a ≡ out_in q m
    like_out q = ap (λ z. (lane_at q z a.high).outstanding) k.low
        ∙ ap (λ z. (lane_at q m.low z).outstanding) k.high

    tci_fits : next_tci (lane_at lane a.low a.high) < 2 ^ 16
    tci_fits =
        let q = like_steady.lanes lane in
        subst (λ n. n < 2 ^ 16) (sym (ap (λ p. tci_of p (lane_at lane a.low a.high).next)
        q.priority))
        (next_fits lane (lane_at lane a.low a.high).next q.number)

    submit_sends : is_plain r ≡ true → (is_changing r ≡ true → (tci : ℕ) → tci < 2 ^ 16
        → IsExact tci (ask entity r)) → submit_refusal lane r m ≡ None
        → SendsTo (command_sent false lane (ask entity r) a) link lives unit t
    submit_sends plainly exact e =
        let q = five_none (unproven lane m) (occupied lane m) (out_of_step (needs_copy r) m)
        (job_in_the_way lane r m) (second_change r lane m) e in
        let last = five_last (unproven lane m) (occupied lane m) (out_of_step (needs_copy r) m)
        (job_in_the_way lane r m) (second_change r lane m) e in
        send_steady lane (ask entity r) link lives unit a t like_steady
        (like_out lane ∙ free_of lane q.0)
        (λ c. record {
          followed = λ p. inl (record {
            submitted = refl;
            plainly = plainly;
            stays = g p;
            exact = exact c _ tci_fits;
            single = refl;
          });
          alone = λ x v ne o. alone r lane m c last x v ne (sym (like_out x) ∙ o);
        })
        (λ s f. job_mild lane r m s q.1 (k.job s f))

  pub submit_steps : (lane : Priority) (entity : EntityId) (r : Request) → is_plain r ≡ true
      → (is_changing r ≡ true → (tci : ℕ) → tci < 2 ^ 16 → IsExact tci (ask entity r))
      → submit_refusal lane r m ≡ None
      → StepsTo (command_sent false lane (ask entity r) (leave_if (leaves_copy r) m)) link lives
      unit t
  submit_steps lane entity r plainly exact e =
      sent_steps lane (ask entity r) (leave_if (leaves_copy r) m) (told_if (leaves_copy r))
      (submit_sends (leave_if (leaves_copy r) m) (like_if (leaves_copy r)) r
      (stays_if (leaves_copy r)) lane entity plainly exact e)

-- ---- a second in a lane

module _ (m : Manager) (link : Link) (lives : ℕ) (unit : Option Onu) (t : Told)
    (h : Steady link lives unit m t) where
  later_low : (w v : Waiting) → m.low.outstanding ≡ Some w → v.tci ≡ w.tci → v.command ≡ w.command
      → Steady link lives unit (record m { low = record m.low { outstanding = Some v } }) t
  later_low w v e a b =
      let x : Manager = record m { low = record m.low { outstanding = Some v } } in
      milder_steady link lives unit m x t
      (milder_of m x (lane_later (x.phase ≡ phase.InStep) m.low w v e a b)
      (lane_still (x.phase ≡ phase.InStep) m.high) (λ s j. j) (λ p. p) (λ p. refl) (λ p c y. y)) h

  later_high : (w v : Waiting) → m.high.outstanding ≡ Some w → v.tci ≡ w.tci → v.command ≡ w.command
      → Steady link lives unit (record m { high = record m.high { outstanding = Some v } }) t
  later_high w v e a b =
      let x : Manager = record m { high = record m.high { outstanding = Some v } } in
      milder_steady link lives unit m x t
      (milder_of m x (lane_still (x.phase ≡ phase.InStep) m.low)
      (lane_later (x.phase ≡ phase.InStep) m.high w v e a b) (λ s j. j) (λ p. p) (λ p. refl) (λ p c y. y)) h

  waits_barred : (lane : Priority) (s : Stage) → waits_for lane (Some s) ≡ true
      → is_image s ≡ false → is_barred lane s ≡ true
  waits_barred Low s e f = ap not f
  waits_barred High (Probing high low) e f = refl
  waits_barred High Asking e f = refl
  waits_barred High (Gathering expected next copy) e f = refl
  waits_barred High AskingAlarms e f = absurd (false≢true e)
  waits_barred High (GatheringRows expected next) e f = absurd (false≢true e)
  waits_barred High (StartingImage order asked image) e f = absurd (false≢true e)
  waits_barred High (SendingImage order outgoing resent) e f = absurd (false≢true e)
  waits_barred High (EndingImage order image busy) e f = absurd (false≢true e)
  waits_barred High (DelayingEnd order image busy) e f = absurd (false≢true e)

  none_waits : (lane : Priority) (job : Option Stage) → job ≡ None → waits_for lane job ≡ true → ⊥
  none_waits lane None e f = false≢true f
  none_waits lane (Some s) e f = cc

  -- the job waits for no change, unless it is a download
  waited_mild : (lane : Priority) (w : Waiting) (s : Stage) → m.job ≡ Some s
      → waits_for lane m.job ≡ true → is_image s ≡ false
      → out_in lane m ≡ Some w → is_changing w.command.request ≡ false
  waited_mild lane w s e f g o =
      (h.job s e).quiet lane w
      (waits_barred lane s (sym (ap (waits_for lane) e) ∙ f) g) o

  given_job : (lane : Priority) (x : Lane) → (with_lane lane x m).job ≡ m.job
  given_job Low x = refl
  given_job High x = refl

  give_up : (lane : Priority) (w : Waiting) → out_in lane m ≡ Some w
      → Steady link lives unit (loss_seen (waits_for lane m.job)
      (is_changing w.command.request) w.tci
      (with_report (report.GaveUp w.tci)
      (with_lane lane (record (lane_in lane m) { proved = false; outstanding = None }) m))) t
  give_up lane w e =
      let l : Lane = record (lane_in lane m) { proved = false; outstanding = None } in
      let x : Manager = with_lane lane l m in
      let y : Manager = with_report (report.GaveUp w.tci) x in
      let z : Manager = loss_seen (waits_for lane m.job) (is_changing w.command.request) w.tci y in
      let same = given_job lane l in
      let k = lost (waits_for lane m.job) (is_changing w.command.request) w.tci y
      (λ f s j g. waited_mild lane w s (sym same ∙ j) f g e)
      (λ f j. absurd (none_waits lane m.job (sym same ∙ j) f)) in
      milder_steady link lives unit m z t
      (over_milder lane w false m z e (like_then x y z (like_report (report.GaveUp w.tci) x) k.like)
      k.mild) h

  low_by : (w : Waiting) → m.low.outstanding ≡ Some w → (over may : Bool)
      → SendsTo (lane_ticked (tick_by over may w m.low).tick Low (Some w)
      (tick_by over may w m.low).lane m) link lives unit t
  low_by w e false may = later_low w (record w { ticks = w.ticks + 1 }) e refl refl
  low_by w e true true =
      let v : Waiting = record w { ticks = 0; repeats = w.repeats + 1 } in
      let a : Manager = record m { low = record m.low { outstanding = Some v } } in
      sends_once (lane_ticked Repeat Low (Some w) (record m.low { outstanding = Some v }) m) Low false
      false (command_packets w.tci w.command) link lives unit t t refl refl
      (sends_all Low v link lives unit a t (later_low w v e refl refl) refl)
  low_by w e true false = give_up Low w e

  high_by : (w : Waiting) → m.high.outstanding ≡ Some w → (over may : Bool)
      → SendsTo (lane_ticked (tick_by over may w m.high).tick High (Some w)
      (tick_by over may w m.high).lane m) link lives unit t
  high_by w e false may = later_high w (record w { ticks = w.ticks + 1 }) e refl refl
  high_by w e true true =
      let v : Waiting = record w { ticks = 0; repeats = w.repeats + 1 } in
      let a : Manager = record m { high = record m.high { outstanding = Some v } } in
      sends_once (lane_ticked Repeat High (Some w) (record m.high { outstanding = Some v }) m) High false
      false (command_packets w.tci w.command) link lives unit t t refl refl
      (sends_all High v link lives unit a t (later_high w v e refl refl) refl)
  high_by w e true false = give_up High w e

  tick_by_waiting : (lane : Priority) (o : Option Waiting) → (lane_in lane m).outstanding ≡ o
      → SendsTo (lane_ticked (tick_waiting o (lane_in lane m)).tick lane o
      (tick_waiting o (lane_in lane m)).lane m) link lives unit t
  tick_by_waiting Low None e = h
  tick_by_waiting High None e = h
  tick_by_waiting Low (Some w) e = low_by w e (nat_le (timeout_of m.low.priority) (w.ticks + 1))
      (nat_lt w.repeats MOST_REPEATS)
  tick_by_waiting High (Some w) e = high_by w e (nat_le (timeout_of m.high.priority) (w.ticks + 1))
      (nat_lt w.repeats MOST_REPEATS)

  lane_ticks : (lane : Priority) → SendsTo (tick_lane lane m) link lives unit t
  unfolding lane_tick
  lane_ticks lane = tick_by_waiting lane (lane_in lane m).outstanding refl

-- ---- the job after a second

-- a delayed end is sent anew
end_rejobbed : (order : Order) (image : List ℕ) (busy : ℕ) (m : Manager) (link : Link) (lives : ℕ)
    (unit : Option Onu) (t : Told) → Steady link lives unit m t
    → m.job ≡ Some (DelayingEnd order image busy)
    → Steady link lives unit (with_job (Some (EndingImage order image busy)) m) t
end_rejobbed order image busy m link lives unit t h e =
    let x : Stage = EndingImage order image busy in
    let before : Stage = DelayingEnd order image busy in
    rejob_steady link lives unit m (Some x) t h
    (λ s f. subst (AtStep link lives unit (with_job (Some x) m) t) (same_Some x s f)
    (image_step x link lives unit (with_job (Some x) m) t refl
    (image_quiet before link lives unit m t refl (h.job before e))))
    (λ w o y. absurd (subst (λ j. AtCommand j w.command) e y))

resume_steps : (job : Option Stage) (m : Manager) (link : Link) (lives : ℕ) (unit : Option Onu)
    (t : Told) → m.job ≡ job → Steady link lives unit m t
    → SendsTo (resumed_by job m) link lives unit t
resume_steps (Some (DelayingEnd order image busy)) m link lives unit t e h =
    goes_on link lives unit (with_job (Some (EndingImage order image busy)) m) t
    (end_rejobbed order image busy m link lives unit t h e)
resume_steps None m link lives unit t e h = h
resume_steps (Some _) m link lives unit t e h = h

pub tick_steps : (m : Manager) (link : Link) (lives : ℕ) (unit : Option Onu) (t : Told)
    → Steady link lives unit m t → m.reports ≡ [] → StepsTo (after_tick m) link lives unit t
unfolding after_tick
tick_steps m link lives unit t h quiet =
    let a : Outcome = tick_lane High m in
    let b : Outcome = and_then a (tick_lane Low) in
    let q = resume_silent b.manager.job b.manager in
    let r : Outcome = job_resumes b.manager in
    steps_quiet (and_then b job_resumes) link lives unit t t
    (ap (λ (l : List Priority). tell_all (map ReplyTaken ((l ++ (tick_lane Low a.manager).taken) ++ r.taken) ++ map NoticeTaken (b.noticed ++ r.noticed)) t) (lane_taken High m)
    ∙ ap (λ (l : List Priority). tell_all (map ReplyTaken (l ++ r.taken) ++ map NoticeTaken (b.noticed ++ r.noticed)) t) (lane_taken Low a.manager)
    ∙ ap (λ (l : List Priority). tell_all (map ReplyTaken l ++ map NoticeTaken (b.noticed ++ r.noticed)) t) q.taken
    ∙ ap (λ (l : List Alarm). tell_all (map NoticeTaken ((l ++ (tick_lane Low a.manager).noticed) ++ r.noticed)) t) (lane_noticed High m)
    ∙ ap (λ (l : List Alarm). tell_all (map NoticeTaken (l ++ r.noticed)) t) (lane_noticed Low a.manager)
    ∙ ap (λ (l : List Alarm). tell_all (map NoticeTaken l) t) q.noticed)
    (subst NoneSynced (sym q.reports)
    (lane_quiet Low a.manager (lane_quiet High m (subst NoneSynced (sym quiet) tt))))
    (sends_both b job_resumes link lives unit t
    (sends_both a (tick_lane Low) link lives unit t (lane_ticks m link lives unit t h High)
    (λ l u g. lane_ticks a.manager l lives unit u g Low))
    (λ l u g. resume_steps b.manager.job b.manager l lives unit u refl g))
