-- Steps of the manager, with what is told of them.
use Rattle.std.proofs.Common.{◌≡◌, ◌≢◌, ℕ, ◌+◌, Bool, true, false, not, ◌||◌, List, [], ◌∷◌, ◌++◌, map, Option}
use Rattle.std.specs.List.{Contains}
use Rattle.std.proofs.Common.{Some, None, inl, inr, refl, sym, ap, subst, ◌∙◌, arith, append-nil}
use Rattle.std.proofs.lemmas.Option.{same_Some}
use Rattle.std.proofs.lemmas.Bool.{false≢true}
use Rattle.std.specs.List.{flat_map}
use Rattle.omci_types.specs.declared.Priority.{Priority}
use Rattle.omci_types.specs.declared.Priority.TheVariants.{Low, High}
use Rattle.frame_spec.specs.Baseline.{spelling}
use Rattle.message_spec.specs.declared.Request.TheVariants as request
use Rattle.link_spec.specs.Link.{Link}
use Rattle.lane_spec.specs.Command.{Command, sync_entity, job_command, command_frame, command_packets}
use Rattle.lane_spec.specs.Command.{is_changing}
use Rattle.lane_spec.specs.Lane.{Waiting, next_tci, with_command}
use Rattle.manager_spec.specs.Manager.{Stage, Probing, Asking, Gathering, AskingAlarms}
use Rattle.manager_spec.specs.Manager.{GatheringRows, Manager, Outcome, Sending, and_then}
use Rattle.manager_spec.specs.Manager.{command_sent, Order}
use Rattle.window_spec.specs.Outgoing.{Outgoing}
use Rattle.manager_spec.specs.Manager.{StartingImage, SendingImage, EndingImage, DelayingEnd}
use Rattle.manager_spec.specs.declared.Report.{Report}
use Rattle.manager_spec.specs.declared.Report.TheVariants as report
use Rattle.manager_spec.specs.Upgrade.{image_window, end_image_command}
use Rattle.manager_spec.specs.Resync.{with_job}
use Rattle.manager_spec.specs.Jobs.{is_free, wish_in, send_wish, job_goes_on}
use Rattle.unit_spec.specs.Onu.{Onu}
use Rattle.world_spec.specs.Happenings.{ReplyTaken, NoticeTaken, link_read}
use Rattle.world_spec.specs.Ends.{goes_down, if_drawn, if_asked, sends, image_told, download_told}
use Rattle.world_spec.specs.Ends.{report_told}
use Rattle.world_spec.specs.History.{Told, tell_all}
use Rattle.resync_laws.proofs.Passing.{link_downloads}
use Rattle.resync_laws.proofs.Taking.{or_true}
use Rattle.resync_laws.proofs.Sending.{drawn_low, drawn_high}
use Rattle.resync_laws.proofs.Telling.{tell_append, link_append, sends_append, NoneSynced}
use Rattle.resync_laws.proofs.Telling.{taken_deeds, deeds_of, all_deeds, did_link, did_told}
use Rattle.resync_laws.proofs.Telling.{quiet_told}
use Rattle.resync_laws.proofs.Going.{is_free_lane, silent}
use Rattle.step_laws.proofs.Coming.{Coming, coming_map}
use Rattle.step_laws.proofs.Parts.{lane_at, out_in, last_in, IsBelow, Uploads, IsLeft, IsPut}
use Rattle.step_laws.proofs.Parts.{IsCalm, AtStep, Steady, is_probed, is_barred, probed_resync}
use Rattle.step_laws.proofs.Parts.{asked_resync, resync_bars, is_resync, is_image, AtCommand}
use Rattle.step_laws.proofs.Parts.{resync_no_image}
use Rattle.step_laws.proofs.Reading.{only_packet}
use Rattle.step_laws.proofs.Milder.{KeepsCommand, milder_steady}
use Rattle.step_laws.proofs.Sending.{not_both, sends_all}
use Rattle.step_laws.proofs.Taking.{ended_steady}
use Rattle.step_laws.proofs.Turning.{like_milder}
use Rattle.step_laws.proofs.Drawing.{Draws, IsFair, draw_step, draw_quiet, draw_steady, is_drawn}

-- ---- what a step comes to

-- after all that happens in it, whatever its job was before, with its reports taken out
abbrev pub StepsTo : Outcome → Link → ℕ → Option Onu → Told → Type 0
StepsTo o link lives unit t =
    (before : Option Stage)
    → Steady (link_read (all_deeds before o) link) lives unit (record o.manager { reports = [] })
    (tell_all (all_deeds before o) t)

-- ---- a download that has ended

image_steady : (before : Option Stage) (slot : ℕ) (link : Link) (lives : ℕ) (unit : Option Onu)
    (m : Manager) (t : Told) → Steady link lives unit m t
    → Steady link lives unit m (tell_all (image_told before slot) t)
image_steady (Some (EndingImage order image busy)) slot link lives unit m t h =
    ended_steady slot image link lives unit m t h
image_steady None slot link lives unit m t h = h
image_steady (Some _) slot link lives unit m t h = h

download_steady : (before : Option Stage) (r : Report) (link : Link) (lives : ℕ)
    (unit : Option Onu) (m : Manager) (t : Told) → Steady link lives unit m t
    → Steady link lives unit m (tell_all (download_told before r) t)
download_steady before (report.ImageDone slot) link lives unit m t h =
    image_steady before slot link lives unit m t h
download_steady before _ link lives unit m t h = h

downloads_steady : (before : Option Stage) (rs : List Report) (link : Link) (lives : ℕ)
    (unit : Option Onu) (m : Manager) (t : Told) → Steady link lives unit m t
    → Steady link lives unit m (tell_all (flat_map (download_told before) rs) t)
downloads_steady before [] link lives unit m t h = h
downloads_steady before (r ∷ rs) link lives unit m t h =
    subst (λ u. Steady link lives unit m u)
    (sym (tell_append (download_told before r) (flat_map (download_told before) rs) t))
    (downloads_steady before rs link lives unit m (tell_all (download_told before r) t)
    (download_steady before r link lives unit m t h))

-- after what it sends
abbrev pub SendsTo : Outcome → Link → ℕ → Option Onu → Told → Type 0
SendsTo o link lives unit t =
    Steady (link_read (flat_map sends o.sendings) link) lives unit o.manager
    (tell_all (flat_map sends o.sendings) t)

pub steps_after : (o : Outcome) (link : Link) (lives : ℕ) (unit : Option Onu) (t u v : Told)
    → tell_all (taken_deeds o) t ≡ u
    → tell_all (flat_map (report_told o.manager) o.manager.reports) u ≡ v
    → SendsTo o link lives unit v → StepsTo o link lives unit t
steps_after o link lives unit t u v e f g before =
    let a : Manager = record o.manager { reports = [] } in
    let ended = flat_map (download_told before) o.manager.reports in
    let sent = flat_map sends o.sendings in
    subst (λ l. Steady l lives unit a (tell_all (deeds_of o ++ ended) t))
    (sym (link_append (deeds_of o) ended link
    ∙ link_downloads before o.manager.reports (link_read (deeds_of o) link) ∙ did_link o link))
    (subst (λ x. Steady (link_read sent link) lives unit a x)
    (sym (tell_append (deeds_of o) ended t ∙ ap (tell_all ended) (did_told o t u v e f)))
    (downloads_steady before o.manager.reports (link_read sent link) lives unit a (tell_all sent v)
    (milder_steady _ lives unit o.manager a _
    (like_milder o.manager a (record {
      low = refl;
      high = refl;
      job = λ s j. j;
      was = λ p. p;
      copy = λ p. refl;
      command = λ p c h. h;
    })) g)))

pub steps_quiet : (o : Outcome) (link : Link) (lives : ℕ) (unit : Option Onu) (t u : Told)
    → tell_all (taken_deeds o) t ≡ u → NoneSynced o.manager.reports
    → SendsTo o link lives unit u → StepsTo o link lives unit t
steps_quiet o link lives unit t u e none g =
    steps_after o link lives unit t u u e (quiet_told o.manager.reports o.manager u none) g

-- one and then another
pub sends_both : (a : Outcome) (f : Manager → Outcome) (link : Link) (lives : ℕ) (unit : Option Onu)
    (t : Told) → SendsTo a link lives unit t
    → ((l : Link) (u : Told) → Steady l lives unit a.manager u
    → SendsTo (f a.manager) l lives unit u)
    → SendsTo (and_then a f) link lives unit t
sends_both a f link lives unit t one two =
    let hs = flat_map sends a.sendings in
    let ks = flat_map sends (f a.manager).sendings in
    let b : Manager = (f a.manager).manager in
    let next = two (link_read hs link) (tell_all hs t) one in
    let split = sends_append a.sendings (f a.manager).sendings in
    let link_is = ap (λ l. link_read l link) split ∙ link_append hs ks link in
    let told_is = ap (λ l. tell_all l t) split ∙ tell_append hs ks t in
    subst (λ l. Steady l lives unit b (tell_all
    (flat_map sends (a.sendings ++ (f a.manager).sendings)) t)) (sym link_is)
    (subst (λ u. Steady (link_read ks (link_read hs link)) lives unit b u) (sym told_is) next)

-- ---- a command is drawn

fair_if : {A : Type 0} (b : Bool) → b ≡ false → b ≡ true → A
fair_if b e f = absurd (false≢true (sym e ∙ f))

-- what is sent at once
link_flags : (drawn asks : Bool) (lane : Priority) (l : Link)
    → link_read (if_drawn drawn lane ++ if_asked asks lane) l ≡ l
link_flags true true lane l = refl
link_flags true false lane l = refl
link_flags false true lane l = refl
link_flags false false lane l = refl

pub sends_once : (o : Outcome) (lane : Priority) (drawn asks : Bool) (ps : List (List ℕ))
    (link : Link) (lives : ℕ) (unit : Option Onu) (t u : Told)
    → o.sendings ≡ record { lane = lane; drawn = drawn; asks = asks; packets = ps } ∷ []
    → tell_all (if_drawn drawn lane ++ if_asked asks lane) t ≡ u
    → Steady (link_read (map (goes_down lane) ps) link) lives unit o.manager
    (tell_all (map (goes_down lane) ps) u)
    → SendsTo o link lives unit t
sends_once o lane drawn asks ps link lives unit t u e f h =
    let hs = if_drawn drawn lane ++ if_asked asks lane in
    let ks = map (goes_down lane) ps in
    let link_is : link_read (flat_map sends o.sendings) link ≡ link_read ks link =
    ap (λ ss. link_read (flat_map sends ss) link) e ∙ link_append (hs ++ ks) [] link
    ∙ link_append hs ks link ∙ ap (link_read ks) (link_flags drawn asks lane link) in
    let told_is : tell_all (flat_map sends o.sendings) t ≡ tell_all ks u =
    ap (λ ss. tell_all (flat_map sends ss) t) e ∙ tell_append (hs ++ ks) [] t
    ∙ tell_append hs ks t ∙ ap (tell_all ks) f in
    subst (λ l. Steady l lives unit o.manager (tell_all (flat_map sends o.sendings) t)) (sym link_is)
    (subst (λ v. Steady (link_read ks link) lives unit o.manager v) (sym told_is) h)

-- in the low lane
low_draws : (c : Command) (m : Manager) (j : Option Stage) (t : Told) (asking : ℕ)
    → m.low.outstanding ≡ None
    → Draws Low c m (record m { low = with_command c m.low; job = j }) t
    (record t { drawn = t.drawn + 1; low = t.drawn; asking = asking })
low_draws c m j t asking free = record {
  free = free;
  mine = refl;
  others = others;
  own = refl;
  other = other;
}
  where
    others : (k : Priority) → k ≢ Low → lane_at k
        (with_command c m.low) m.high ≡ lane_at k m.low m.high
    others Low ne = absurd (ne refl)
    others High ne = refl

    other : (k : Priority) → k ≢ Low → last_in k
        (record t { drawn = t.drawn + 1; low = t.drawn; asking = asking }) ≡ last_in k t
    other Low ne = absurd (ne refl)
    other High ne = refl

-- another job begins with a command of the low lane, or goes on with it
pub low_sends : (asks : Bool) (c : Command) (link : Link) (lives : ℕ) (unit : Option Onu)
    (m : Manager) (j : Option Stage) (t : Told) → Steady link lives unit m t
    → m.low.outstanding ≡ None
    → (is_changing c.request ≡ true → IsFair Low m j
    (record { tci = next_tci m.low; command = c; ticks = 0; repeats = 0 }))
    → KeepsCommand m.job j
    → ((s : Stage) → j ≡ Some s → AtStep link lives unit
    (record m { low = with_command c m.low; job = j }) (drawn_low asks t) s)
    → SendsTo (command_sent asks Low c (with_job j m)) link lives unit t
low_sends true c link lives unit m j t h free fair keeps job =
    sends_once (command_sent true Low c (with_job j m)) Low true true
    (command_packets (next_tci m.low) c) link lives unit t (drawn_low true t) refl refl
    (sends_all Low (record { tci = next_tci m.low; command = c; ticks = 0; repeats = 0 }) link lives
    unit (record m { low = with_command c m.low; job = j }) (drawn_low true t)
    (draw_steady Low c link lives unit m (with_command c m.low) m.high j t t.drawn t.high t.drawn h
    (low_draws c m j t t.drawn free) fair keeps job) refl)
low_sends false c link lives unit m j t h free fair keeps job =
    sends_once (command_sent false Low c (with_job j m)) Low true false
    (command_packets (next_tci m.low) c) link lives unit t (drawn_low false t) refl refl
    (sends_all Low (record { tci = next_tci m.low; command = c; ticks = 0; repeats = 0 }) link lives
    unit (record m { low = with_command c m.low; job = j }) (drawn_low false t)
    (draw_steady Low c link lives unit m (with_command c m.low) m.high j t t.drawn t.high t.asking h
    (low_draws c m j t t.asking free) fair keeps job) refl)

-- a job that goes on as it was keeps what it has
pub low_step : (c : Command) (link : Link) (lives : ℕ) (unit : Option Onu) (m : Manager)
    (t : Told) → Steady link lives unit m t → m.low.outstanding ≡ None
    → is_changing c.request ≡ false → (s : Stage) → AtStep link lives unit m t s
    → AtStep link lives unit (record m { low = with_command c m.low }) (drawn_low false t) s
low_step c link lives unit m t h free mild s k =
    draw_step Low c link lives unit m (with_command c m.low) m.high m.job t t.drawn t.high t.asking h
    (low_draws c m m.job t t.asking free) mild refl s k

pub send_steady : (l : Priority) (c : Command) (link : Link) (lives : ℕ) (unit : Option Onu)
    (m : Manager) (t : Told)
    → Steady link lives unit m t → out_in l m ≡ None
    → (is_changing c.request ≡ true → IsFair l m m.job
    (record { tci = next_tci (lane_at l m.low m.high); command = c; ticks = 0; repeats = 0 }))
    → ((s : Stage) → m.job ≡ Some s → is_changing c.request ≡ false)
    → SendsTo (command_sent false l c m) link lives unit t
send_steady Low c link lives unit m t h free fair mild =
    low_sends false c link lives unit m m.job t h free fair (λ d x. x)
    (λ s e. low_step c link lives unit m t h free (mild s e) s (h.job s e))
send_steady High c link lives unit m t h free fair mild =
    sends_once (command_sent false High c m) High true false
    (command_packets (next_tci m.high) c) link lives unit t (drawn_high t) refl refl
    (sends_all High (record { tci = next_tci m.high; command = c; ticks = 0; repeats = 0 }) link lives
    unit (record m { high = with_command c m.high }) (drawn_high t)
    (draw_steady High c link lives unit m m.low (with_command c m.high) m.job t t.low t.drawn t.asking
    h draws fair (λ d x. x)
    (λ s e. draw_step High c link lives unit m m.low
    (with_command c m.high) m.job t t.low t.drawn t.asking h draws (mild s e) refl s (h.job s e)))
    refl)
  where
    others : (k : Priority) → k ≢ High
        → lane_at k m.low (with_command c m.high) ≡ lane_at k m.low m.high
    others High ne = absurd (ne refl)
    others Low ne = refl

    other : (k : Priority) → k ≢ High
        → last_in k (record t { drawn = t.drawn + 1; high = t.drawn }) ≡ last_in k t
    other High ne = absurd (ne refl)
    other Low ne = refl

    draws : Draws High c m (record m { high = with_command c m.high }) t
        (record t { drawn = t.drawn + 1; high = t.drawn })
    draws = record { free = free; mine = refl; others = others; own = refl; other = other }

-- ---- a download

-- it has nothing to keep but the high lane, from which it keeps changes out
pub image_step : (s : Stage) (link : Link) (lives : ℕ) (unit : Option Onu) (m : Manager) (t : Told)
    → is_image s ≡ true
    → ((w : Waiting) → m.high.outstanding ≡ Some w → is_changing w.command.request ≡ false)
    → AtStep link lives unit m t s
image_step s link lives unit m t e high = record {
  quiet = quiet;
  calm = λ lane p. absurd (false≢true (sym (resync_no_image s e) ∙ probed_resync lane s p));
  put = λ a. absurd (false≢true (sym (resync_no_image s e) ∙ asked_resync s a));
  current = λ a. absurd (false≢true (sym (resync_no_image s e) ∙ asked_resync s a));
}
  where
    quiet : (lane : Priority) (w : Waiting) → is_barred lane s ≡ true → out_in lane m ≡ Some w
        → is_changing w.command.request ≡ false
    quiet Low w b o = absurd (false≢true (sym (ap not e) ∙ b))
    quiet High w b o = high w o

-- what it keeps out
pub image_quiet : (s : Stage) (link : Link) (lives : ℕ) (unit : Option Onu) (m : Manager) (t : Told)
    → is_image s ≡ true → AtStep link lives unit m t s → (w : Waiting)
    → m.high.outstanding ≡ Some w → is_changing w.command.request ≡ false
image_quiet s link lives unit m t e k w o =
    k.quiet High w (ap (λ b. is_resync s || b) e ∙ or_true (is_resync s)) o

window_mild : (order : Order) (o : Outgoing) → is_changing (image_window order o).request ≡ false
unfolding image_window
window_mild order o = refl

-- ---- the job goes on

module _ (link : Link) (lives : ℕ) (unit : Option Onu) (m : Manager) (t : Told)
    (h : Steady link lives unit m t) where
  -- it asks for the snapshot
  module _ (e : m.job ≡ Some (Probing false false)) (free : m.low.outstanding ≡ None) where
    abbrev upload_command : Command
    upload_command = job_command sync_entity request.Upload

    abbrev asking : Manager
    asking = record m { low = with_command upload_command m.low; job = Some Asking }

    abbrev asked : Told
    asked = drawn_low true t

    draws : Draws Low upload_command m asking t asked
    draws = low_draws upload_command m (Some Asking) t t.drawn free

    is_upload : (tci : ℕ) → Uploads (spelling (command_frame tci upload_command))
    unfolding command_frame
    is_upload tci = record { tci = tci; entity = sync_entity; is = refl }

    probed : (lane : Priority) → is_probed lane (Probing false false) ≡ true
    probed Low = refl
    probed High = refl

    asked_out : (lane : Priority) (w : Waiting) → out_in lane asking ≡ Some w
        → last_in lane asked ≡ t.drawn → (bytes : List ℕ)
        → Contains (command_packets w.tci w.command) bytes → Uploads bytes
    asked_out Low w f n bytes among =
        let v = is_drawn Low upload_command link lives unit m (with_command upload_command m.low)
        m.high (Some Asking) t t.drawn t.high t.drawn h draws w f in
        subst Uploads
        (sym (only_packet (next_tci m.low) upload_command bytes refl
        (subst (λ (x : Waiting). Contains (command_packets x.tci x.command) bytes) (sym v) among)))
        (is_upload (next_tci m.low))
    asked_out High w f n bytes among = let lt = (h.lanes High).out w f in let early = lt.early in
        absurd (omega (arith, early, n))

    asked_put : IsPut Uploads t.drawn link lives asking asked
    asked_put = record {
      early = omega arith;
      packets = coming_map (IsBelow t.drawn) (IsLeft Uploads t.drawn lives t.history) link t.names
          (λ s name lt n. absurd (omega (arith, lt, n))) h.below;
      out = asked_out;
    }

    asked_step : AtStep link lives unit asking asked Asking
    asked_step = let k = h.job (Probing false false) e in record {
      quiet = draw_quiet Low upload_command link lives unit m
          (with_command upload_command m.low) m.high
          (Some Asking) t t.drawn t.high t.drawn h draws refl Asking
          (λ lane w b o. k.quiet lane w (resync_bars lane (Probing false false) refl) o);
      calm = λ lane p. k.calm lane (probed lane);
      put = λ a. asked_put;
      current = λ a u on was. let lt = h.known lives t.drawn was in absurd (omega (arith, lt));
    }

    asks_now : SendsTo (command_sent true Low upload_command (with_job (Some Asking) m)) link lives
        unit t
    asks_now =
        low_sends true upload_command link lives unit m (Some Asking) t h free
        (λ c. absurd (false≢true c))
        (λ c x. absurd (subst (λ j. AtCommand j c) e x))
        (λ s f. subst (AtStep link lives unit asking asked) (same_Some Asking s f) asked_step)

  -- an audit asks for the alarms
  module _ (free : m.low.outstanding ≡ None) (none : m.job ≡ None) where
    abbrev alarms_command : Command
    alarms_command = job_command sync_entity (request.Alarms 0)

    abbrev auditing : Manager
    auditing = record m { low = with_command alarms_command m.low; job = Some AskingAlarms }

    abbrev audited : Told
    audited = drawn_low true t

    alarms_quiet : (lane : Priority) (w : Waiting) → is_barred lane AskingAlarms ≡ true
        → out_in lane auditing ≡ Some w → is_changing w.command.request ≡ false
    alarms_quiet Low w b e =
        subst (λ (v : Waiting). is_changing v.command.request ≡ false)
        (is_drawn Low alarms_command link lives unit m (with_command alarms_command m.low) m.high
        (Some AskingAlarms) t t.drawn t.high t.drawn h
        (low_draws alarms_command m (Some AskingAlarms) t t.drawn free) w e)
        refl
    alarms_quiet High w b e = absurd (false≢true b)

    unprobed : (lane : Priority) → is_probed lane AskingAlarms ≡ true
        → Coming (IsCalm lane) link t.names
    unprobed lane p = absurd (false≢true (probed_resync lane AskingAlarms p))

    alarms_step : AtStep link lives unit auditing audited AskingAlarms
    alarms_step = record {
      quiet = alarms_quiet;
      calm = unprobed;
      put = λ a. absurd (false≢true a);
      current = λ a. absurd (false≢true a);
    }

    pub asks_alarms : SendsTo (command_sent true Low alarms_command
        (with_job (Some AskingAlarms) m)) link lives unit t
    asks_alarms =
        low_sends true alarms_command link lives unit m (Some AskingAlarms) t h free
        (λ c. absurd (false≢true c))
        (λ c x. absurd (subst (λ j. AtCommand j c) none x))
        (λ s f. subst (AtStep link lives unit auditing audited) (same_Some AskingAlarms s f)
        alarms_step)

  -- the job asks for what comes next, without a change
  asks_next : (x : Stage) (c : Command) → is_changing c.request ≡ false → m.job ≡ Some x
      → m.low.outstanding ≡ None
      → SendsTo (command_sent false Low c (with_job (Some x) m)) link lives unit t
  asks_next x c mild e free =
      low_sends false c link lives unit m (Some x) t h free
      (λ f. not_both (is_changing c.request) f mild)
      (λ d y. subst (λ j. AtCommand j d) e y)
      (λ s f. again s (low_step c link lives unit m t h free mild s (h.job s (e ∙ f))))
    where
      again : (s : Stage)
          → AtStep link lives unit (record m { low = with_command c m.low }) (drawn_low false t) s
          → AtStep link lives unit (record m { low = with_command c m.low; job = Some x })
          (drawn_low false t) s
      again s k = record {
        quiet = k.quiet;
        calm = k.calm;
        put = λ a. let q = k.put a in record { early = q.early; packets = q.packets; out = q.out };
        current = k.current;
      }

  -- a download sends its start or its end
  pub sends_counted : (x : Stage) (c : Command) → is_image x ≡ true → AtCommand (Some x) c
      → m.low.outstanding ≡ None
      → ((w : Waiting) → m.high.outstanding ≡ Some w → is_changing w.command.request ≡ false)
      → ((d : Command) → AtCommand m.job d → AtCommand (Some x) d)
      → SendsTo (command_sent false Low c (with_job (Some x) m)) link lives unit t
  sends_counted x c image at free high keeps =
      low_sends false c link lives unit m (Some x) t h free
      (λ f. record { followed = λ p. inr (record { low = refl; at = at }); alone = alone })
      keeps
      (λ s f. subst (AtStep link lives unit after (drawn_low false t)) (same_Some x s f)
      (image_step x link lives unit after (drawn_low false t) image high))
    where
      after : Manager
      after = record m { low = with_command c m.low; job = Some x }

      alone : (k : Priority) (v : Waiting) → k ≢ Low → out_in k m ≡ Some v
          → is_changing v.command.request ≡ false
      alone Low v ne o = absurd (ne refl)
      alone High v ne o = high v o

  goes_by : (b : Bool) → is_free m.low ≡ b → (job : Option Stage) → m.job ≡ job
      → SendsTo (send_wish b (wish_in job) m) link lives unit t
  goes_by true f None e = h
  goes_by false f None e = h
  goes_by true f (Some (Probing true low)) e = h
  goes_by false f (Some (Probing true low)) e = h
  goes_by true f (Some (Probing false true)) e = h
  goes_by false f (Some (Probing false true)) e = h
  goes_by true f (Some (Probing false false)) e = asks_now e (is_free_lane m.low f).none
  goes_by false f (Some (Probing false false)) e = h
  goes_by true f (Some Asking) e = h
  goes_by false f (Some Asking) e = h
  goes_by true f (Some (Gathering expected next copy)) e =
      asks_next (Gathering expected next copy) (job_command sync_entity (request.UploadNext next))
      refl e (is_free_lane m.low f).none
  goes_by false f (Some (Gathering expected next copy)) e = h
  goes_by true f (Some AskingAlarms) e = h
  goes_by false f (Some AskingAlarms) e = h
  goes_by true f (Some (GatheringRows expected next)) e =
      asks_next (GatheringRows expected next) (job_command sync_entity (request.AlarmsNext next))
      refl e (is_free_lane m.low f).none
  goes_by false f (Some (GatheringRows expected next)) e = h
  goes_by true f (Some (StartingImage order sections image)) e = h
  goes_by false f (Some (StartingImage order sections image)) e = h
  goes_by true f (Some (SendingImage order outgoing resent)) e =
      asks_next (SendingImage order outgoing resent) (image_window order outgoing) (window_mild order outgoing) e
      (is_free_lane m.low f).none
  goes_by false f (Some (SendingImage order outgoing resent)) e = h
  goes_by true f (Some (EndingImage order image busy)) e =
      sends_counted (EndingImage order image busy) (end_image_command order image) refl refl
      (is_free_lane m.low f).none
      (image_quiet (EndingImage order image busy) link lives unit m t refl
      (h.job (EndingImage order image busy) e))
      (λ d x. subst (λ j. AtCommand j d) e x)
  goes_by false f (Some (EndingImage order image busy)) e = h
  goes_by true f (Some (DelayingEnd order image busy)) e = h
  goes_by false f (Some (DelayingEnd order image busy)) e = h

  pub goes_on : SendsTo (job_goes_on m) link lives unit t
  unfolding job_goes_on
  goes_on = goes_by (is_free m.low) refl m.job refl

-- a step that sends nothing, and then the job
pub then_goes : (a : Outcome) (link : Link) (lives : ℕ) (unit : Option Onu) (t u : Told)
    → tell_all (map ReplyTaken a.taken) t ≡ u → a.noticed ≡ [] → NoneSynced a.manager.reports
    → a.sendings ≡ [] → Steady link lives unit a.manager u
    → StepsTo (and_then a job_goes_on) link lives unit t
then_goes a link lives unit t u e unnoticed none nothing h =
    let q = silent a.manager in
    steps_quiet (and_then a job_goes_on) link lives unit t u
    (ap (λ l. tell_all (map ReplyTaken (a.taken ++ l) ++ map NoticeTaken
    (a.noticed ++ (job_goes_on a.manager).noticed)) t) q.taken
    ∙ ap (λ l. tell_all (map ReplyTaken l ++ map NoticeTaken
    (a.noticed ++ (job_goes_on a.manager).noticed)) t) (append-nil a.taken)
    ∙ ap (λ l. tell_all (map ReplyTaken a.taken ++ map NoticeTaken
    (l ++ (job_goes_on a.manager).noticed)) t) unnoticed
    ∙ ap (λ l. tell_all (map ReplyTaken a.taken ++ map NoticeTaken l) t) q.noticed
    ∙ ap (λ l. tell_all l t) (append-nil (map ReplyTaken a.taken)) ∙ e)
    (subst NoneSynced (sym q.reports) none)
    (sends_both a job_goes_on link lives unit u
    (subst (λ (l : List Sending). Steady (link_read (flat_map sends l) link) lives unit a.manager
    (tell_all (flat_map sends l) u)) (sym nothing) h)
    (λ l x k. goes_on l lives unit a.manager x k))
