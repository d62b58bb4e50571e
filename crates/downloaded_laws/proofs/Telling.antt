-- What is told of a step of the manager, for a download.
use Rattle.std.proofs.Common.{◌≡◌, ℕ, ◌<◌, ◌≤◌, Bool, true, false, List, [], ◌∷◌, ◌++◌, map, Option, Some, None, ◌⊎◌, inl, inr, refl, sym, ap, subst, ◌∙◌, arith}
use Rattle.std.proofs.lemmas.Bool.{false≢true}
use Rattle.std.specs.List.{flat_map}
use Rattle.omci_types.specs.declared.Priority.{Priority}
use Rattle.omci_types.specs.declared.Priority.TheVariants.{Low, High}
use Rattle.alarm_spec.specs.Alarms.{Alarm}
use Rattle.upload_spec.specs.Pieces.{Copy}
use Rattle.lane_spec.specs.Command.{Command, command_packets}
use Rattle.lane_spec.specs.Lane.{next_tci, with_command}
use Rattle.manager_spec.specs.declared.Report.{Report}
use Rattle.manager_spec.specs.declared.Report.TheVariants as report
use Rattle.manager_spec.specs.Manager.{Stage, Probing, Asking, Gathering, AskingAlarms, GatheringRows, StartingImage, SendingImage, EndingImage, DelayingEnd, Order, Manager, Outcome, Sending, and_then, command_sent}
use Rattle.unit_spec.specs.Onu.{Onu}
use Rattle.history_spec.specs.History.{WasCarried, LastChecked, DownloadedRight}
use Rattle.world_spec.specs.Happenings.{Happening, ReplyTaken, NoticeTaken}
use Rattle.world_spec.specs.Ends.{goes_down, if_drawn, if_asked, sends, copy_told, image_told, download_told, result_told, report_told}
use Rattle.world_spec.specs.History.{Told, tell, tell_all}
use Rattle.resync_laws.proofs.Sending.{drawn_low, drawn_high, sent_names}
use Rattle.resync_laws.proofs.Telling.{tell_append, sends_append, deeds_of, all_deeds}
use Rattle.downloaded_laws.proofs.Invariants.{JobOk, NoImage, other_stage, Passes, passes_same, passes_then}

-- ---- what is told beside

-- a later state of what is told, in which no command was drawn and nothing was carried out
pub record Steady (t u : Told) : Type 0 where
  pub low : u.low ≡ t.low
  pub drawn : u.drawn ≡ t.drawn
  pub passes : Passes t.history u.history
  pub right : DownloadedRight t.history → DownloadedRight u.history

pub steady_same : (t : Told) → Steady t t
steady_same t =
    record { low = refl; drawn = refl; passes = passes_same t.history; right = λ r. r }

pub steady_then : (t u v : Told) → Steady t u → Steady u v → Steady t v
steady_then t u v a b = record {
  low = b.low ∙ a.low;
  drawn = b.drawn ∙ a.drawn;
  passes = passes_then t.history u.history v.history a.passes b.passes;
  right = λ r. b.right (a.right r);
}

steady_taken : (lanes : List Priority) (t : Told) → Steady t (tell_all (map ReplyTaken lanes) t)
steady_taken [] t = steady_same t
steady_taken (lane ∷ lanes) t =
    steady_then t (tell (ReplyTaken lane) t) (tell_all (map ReplyTaken lanes) (tell (ReplyTaken lane) t))
    (record {
      low = refl;
      drawn = refl;
      passes = record {
        was = λ life c w. w;
        still = λ life c w. w;
        last = λ c r l. l;
        checked = λ slot image l. l;
      };
      right = λ r. r;
    })
    (steady_taken lanes (tell (ReplyTaken lane) t))

steady_noticed : (notices : List Alarm) (t : Told)
    → Steady t (tell_all (map NoticeTaken notices) t)
steady_noticed [] t = steady_same t
steady_noticed (one ∷ notices) t =
    steady_then t (tell (NoticeTaken one) t) (tell_all (map NoticeTaken notices) (tell (NoticeTaken one) t))
    (record { low = refl; drawn = refl; passes = passes_same t.history; right = λ r. r })
    (steady_noticed notices (tell (NoticeTaken one) t))

steady_copy : (copy : Option Copy) (t : Told) → Steady t (tell_all (copy_told copy) t)
steady_copy None t = steady_same t
steady_copy (Some copy) t = record {
  low = refl;
  drawn = refl;
  passes = record {
    was = λ life c w. w;
    still = λ life c w. w;
    last = λ c r l. l;
    checked = λ slot image l. l;
  };
  right = λ r. r;
}

steady_result : (r : Report) (m : Manager) (t : Told) → Steady t (tell_all (result_told r m) t)
steady_result (report.Synced entities counter) m t = steady_copy m.copy t
steady_result (report.Audited rows) m t = record {
  low = refl;
  drawn = refl;
  passes = record {
    was = λ life c w. w;
    still = λ life c w. w;
    last = λ c r l. l;
    checked = λ slot image l. l;
  };
  right = λ r. r;
}
steady_result _ m t = steady_same t

steady_reports : (rs : List Report) (m : Manager) (t : Told)
    → Steady t (tell_all (flat_map (report_told m) rs) t)
steady_reports [] m t = steady_same t
steady_reports (r ∷ rs) m t =
    subst (Steady t) (sym (tell_append (result_told r m) (flat_map (report_told m) rs) t))
    (steady_then t (tell_all (result_told r m) t) _ (steady_result r m t)
    (steady_reports rs m (tell_all (result_told r m) t)))

-- the replies, the notices and the reports of a step
abbrev front_of : Outcome → List Happening
front_of o =
    map ReplyTaken o.taken
    ++ map NoticeTaken o.noticed
    ++ flat_map (report_told o.manager) o.manager.reports

steady_front : (o : Outcome) (t : Told) → Steady t (tell_all (front_of o) t)
steady_front o t =
    let taken = map ReplyTaken o.taken in
    let noticed = map NoticeTaken o.noticed in
    let told = flat_map (report_told o.manager) o.manager.reports in
    let a = tell_all taken t in
    let b = tell_all noticed a in
    subst (Steady t)
    (sym (tell_append (taken ++ noticed) told t ∙ ap (tell_all told) (tell_append taken noticed t)))
    (steady_then t a (tell_all told b) (steady_taken o.taken t)
    (steady_then a b (tell_all told b) (steady_noticed o.noticed a)
    (steady_reports o.manager.reports o.manager b)))

-- ---- what is sent

-- a later state in which commands were drawn and sent
pub record Sent (t u : Told) : Type 0 where
  pub history : u.history ≡ t.history
  pub drawn : t.drawn ≤ u.drawn

sent_then : (t u v : Told) → Sent t u → Sent u v → Sent t v
sent_then t u v a b =
    let x = a.drawn in let y = b.drawn in
    record { history = b.history ∙ a.history; drawn = omega (arith, x, y) }

sent_drawn : (drawn : Bool) (lane : Priority) (t : Told) → Sent t (tell_all (if_drawn drawn lane) t)
sent_drawn true Low t = record { history = refl; drawn = omega arith }
sent_drawn true High t = record { history = refl; drawn = omega arith }
sent_drawn false lane t = record { history = refl; drawn = omega arith }

sent_asked : (asks : Bool) (lane : Priority) (t : Told) → Sent t (tell_all (if_asked asks lane) t)
sent_asked true lane t = record { history = refl; drawn = omega arith }
sent_asked false lane t = record { history = refl; drawn = omega arith }

sent_packets : (lane : Priority) (ps : List (List ℕ)) (t : Told)
    → Sent t (tell_all (map (goes_down lane) ps) t)
sent_packets lane ps t =
    subst (Sent t) (sym (sent_names lane ps t)) (record { history = refl; drawn = omega arith })

sent_one : (s : Sending) (t : Told) → Sent t (tell_all (sends s) t)
sent_one s t =
    let a = if_drawn s.drawn s.lane in
    let b = if_asked s.asks s.lane in
    let c = map (goes_down s.lane) s.packets in
    let u = tell_all a t in
    let v = tell_all b u in
    subst (Sent t) (sym (tell_append (a ++ b) c t ∙ ap (tell_all c) (tell_append a b t)))
    (sent_then t u (tell_all c v) (sent_drawn s.drawn s.lane t)
    (sent_then u v (tell_all c v) (sent_asked s.asks s.lane u) (sent_packets s.lane s.packets v)))

pub sent_all : (ss : List Sending) (t : Told) → Sent t (tell_all (flat_map sends ss) t)
sent_all [] t = record { history = refl; drawn = omega arith }
sent_all (s ∷ ss) t =
    subst (Sent t) (sym (tell_append (sends s) (flat_map sends ss) t))
    (sent_then t (tell_all (sends s) t) _ (sent_one s t) (sent_all ss (tell_all (sends s) t)))

-- what was carried out was drawn
abbrev pub Known : Told → Type 0
Known t = (life command : ℕ) → WasCarried life command t.history → command < t.drawn

pub known_steady : (t u : Told) → Steady t u → Known t → Known u
known_steady t u s k life command was =
    subst (λ n. command < n) (sym s.drawn) (k life command (s.passes.was life command was))

pub known_sent : (t u : Told) → Sent t u → Known t → Known u
known_sent t u s k life command was =
    let lt = k life command (subst (WasCarried life command) s.history was) in
    let le = s.drawn in omega (arith, lt, le)

-- ---- a download that has ended

abbrev pub is_done : Report → Bool
is_done (report.ImageDone slot) = true
is_done _ = false

abbrev pub NoneDone : List Report → Type 0
NoneDone [] = Unit {0}
NoneDone (r ∷ rest) = (is_done r ≡ false) × NoneDone rest

pub done_more : (rs : List Report) (r : Report) → NoneDone rs → is_done r ≡ false
    → NoneDone (rs ++ r ∷ [])
done_more [] r h e = (e, tt)
done_more (x ∷ rs) r h e = (h.0, done_more rs r h.1 e)

-- whether the end of a download was sent
abbrev pub is_ending : Option Stage → Bool
is_ending (Some (EndingImage order image busy)) = true
is_ending _ = false

-- a step that ends no download well
abbrev pub TellsNone : Option Stage → List Report → Type 0
TellsNone before rs = (is_ending before ≡ false) ⊎ NoneDone rs

unended : (before : Option Stage) (slot : ℕ) → is_ending before ≡ false
    → image_told before slot ≡ []
unended None slot e = refl
unended (Some (Probing high low)) slot e = refl
unended (Some Asking) slot e = refl
unended (Some (Gathering expected next copy)) slot e = refl
unended (Some AskingAlarms) slot e = refl
unended (Some (GatheringRows expected next)) slot e = refl
unended (Some (StartingImage order asked image)) slot e = refl
unended (Some (SendingImage order outgoing resent)) slot e = refl
unended (Some (EndingImage order image busy)) slot e = absurd (false≢true (sym e))
unended (Some (DelayingEnd order image busy)) slot e = refl

unended_one : (before : Option Stage) (r : Report) → is_ending before ≡ false
    → download_told before r ≡ []
unended_one before (report.ImageDone slot) e = unended before slot e
unended_one before _ e = refl

undone_one : (before : Option Stage) (r : Report) → is_done r ≡ false
    → download_told before r ≡ []
undone_one before (report.ImageDone slot) e = absurd (false≢true (sym e))
undone_one before _ e = refl

unended_all : (before : Option Stage) (rs : List Report) → is_ending before ≡ false
    → flat_map (download_told before) rs ≡ []
unended_all before [] e = refl
unended_all before (r ∷ rs) e =
    ap (λ l. l ++ flat_map (download_told before) rs) (unended_one before r e)
    ∙ unended_all before rs e

undone_all : (before : Option Stage) (rs : List Report) → NoneDone rs
    → flat_map (download_told before) rs ≡ []
undone_all before [] h = refl
undone_all before (r ∷ rs) h =
    ap (λ l. l ++ flat_map (download_told before) rs) (undone_one before r h.0)
    ∙ undone_all before rs h.1

tells_none : (before : Option Stage) (rs : List Report) → TellsNone before rs
    → flat_map (download_told before) rs ≡ []
tells_none before rs (inl e) = unended_all before rs e
tells_none before rs (inr h) = undone_all before rs h

-- ---- what a step comes to

-- the job and the history after it, where its job was at such a stage before
pub record JobRight (lives : ℕ) (unit : Option Onu) (m : Manager) (t : Told) : Type 0 where
  pub job : JobOk lives unit m t
  pub right : DownloadedRight t.history

abbrev pub Did : Option Stage → Outcome → ℕ → Option Onu → Told → Type 0
Did before o lives unit t =
    JobRight lives unit (record o.manager { reports = [] }) (tell_all (all_deeds before o) t)

-- the job after what it sent
abbrev pub Goes : Outcome → ℕ → Option Onu → Told → Type 0
Goes o lives unit t = JobOk lives unit o.manager (tell_all (flat_map sends o.sendings) t)

-- all that is told of it
all_told : (before : Option Stage) (o : Outcome) (t : Told)
    → tell_all (all_deeds before o) t
    ≡ tell_all (flat_map (download_told before) o.manager.reports)
    (tell_all (flat_map sends o.sendings) (tell_all (front_of o) t))
all_told before o t =
    let ended = flat_map (download_told before) o.manager.reports in
    tell_append (deeds_of o) ended t
    ∙ ap (tell_all ended) (tell_append (front_of o) (flat_map sends o.sendings) t)

after_sent : (o : Outcome) (t : Told) → DownloadedRight t.history
    → DownloadedRight (tell_all (flat_map sends o.sendings) (tell_all (front_of o) t)).history
after_sent o t right =
    subst DownloadedRight (sym (sent_all o.sendings (tell_all (front_of o) t)).history)
    ((steady_front o t).right right)

pub did_quiet : (before : Option Stage) (o : Outcome) (lives : ℕ) (unit : Option Onu) (t : Told)
    → TellsNone before o.manager.reports → DownloadedRight t.history
    → ((u : Told) → Steady t u → Goes o lives unit u) → Did before o lives unit t
did_quiet before o lives unit t none right goes =
    let u = tell_all (front_of o) t in
    let v = tell_all (flat_map sends o.sendings) u in
    subst (JobRight lives unit (record o.manager { reports = [] }))
    (sym (all_told before o t
    ∙ ap (λ hs. tell_all hs v) (tells_none before o.manager.reports none)))
    (record { job = goes u (steady_front o t); right = after_sent o t right })

-- a step that ends a download well, and sends nothing
pub did_done : (order : Order) (image : List ℕ) (busy : ℕ) (o : Outcome) (lives : ℕ)
    (unit : Option Onu) (t : Told) → o.manager.reports ≡ report.ImageDone order.slot ∷ []
    → DownloadedRight t.history → LastChecked order.slot image t.history → NoImage o.manager
    → Did (Some (EndingImage order image busy)) o lives unit t
did_done order image busy o lives unit t done right last none =
    let before = Some (EndingImage order image busy) in
    let u = tell_all (front_of o) t in
    let v = tell_all (flat_map sends o.sendings) u in
    let checked : LastChecked order.slot image v.history =
    subst (LastChecked order.slot image) (sym (sent_all o.sendings u).history)
    ((steady_front o t).passes.checked order.slot image last) in
    subst (JobRight lives unit (record o.manager { reports = [] }))
    (sym (all_told before o t
    ∙ ap (λ rs. tell_all (flat_map (download_told before) rs) v) done))
    (record {
      job = λ s e. other_stage s _ (none s e);
      right = (checked, after_sent o t right);
    })

-- ---- steps that send

sent_told : (lane : Priority) (drawn asks : Bool) (ps : List (List ℕ)) (t u : Told)
    → tell_all (if_drawn drawn lane ++ if_asked asks lane) t ≡ u
    → tell_all (flat_map sends (record { lane = lane; drawn = drawn; asks = asks; packets = ps } ∷ [])) t
    ≡ record u { names = (tell_all (map (goes_down lane) ps) u).names }
sent_told lane drawn asks ps t u e =
    let hs = if_drawn drawn lane ++ if_asked asks lane in
    let ks = map (goes_down lane) ps in
    tell_append (hs ++ ks) [] t ∙ tell_append hs ks t ∙ ap (tell_all ks) e ∙ sent_names lane ps u

-- of a step that sends once
pub goes_sent : (o : Outcome) (lane : Priority) (drawn asks : Bool) (ps : List (List ℕ))
    (lives : ℕ) (unit : Option Onu) (t u : Told)
    → o.sendings ≡ record { lane = lane; drawn = drawn; asks = asks; packets = ps } ∷ []
    → tell_all (if_drawn drawn lane ++ if_asked asks lane) t ≡ u
    → JobOk lives unit o.manager u → Goes o lives unit t
goes_sent o lane drawn asks ps lives unit t u e f j =
    subst (JobOk lives unit o.manager)
    (sym (ap (λ l. tell_all (flat_map sends l) t) e ∙ sent_told lane drawn asks ps t u f)) j

pub goes_low : (asks : Bool) (c : Command) (m : Manager) (lives : ℕ) (unit : Option Onu) (t : Told)
    → JobOk lives unit (record m { low = with_command c m.low }) (drawn_low asks t)
    → Goes (command_sent asks Low c m) lives unit t
goes_low true c m lives unit t j =
    goes_sent (command_sent true Low c m) Low true true (command_packets (next_tci m.low) c) lives unit
    t (drawn_low true t) refl refl j
goes_low false c m lives unit t j =
    goes_sent (command_sent false Low c m) Low true false (command_packets (next_tci m.low) c) lives
    unit t (drawn_low false t) refl refl j

pub goes_high : (c : Command) (m : Manager) (lives : ℕ) (unit : Option Onu) (t : Told)
    → JobOk lives unit (record m { high = with_command c m.high }) (drawn_high t)
    → Goes (command_sent false High c m) lives unit t
goes_high c m lives unit t j =
    goes_sent (command_sent false High c m) High true false (command_packets (next_tci m.high) c) lives
    unit t (drawn_high t) refl refl j

-- one and then another
pub goes_both : (a : Outcome) (f : Manager → Outcome) (lives : ℕ) (unit : Option Onu) (t : Told)
    → Goes a lives unit t
    → ((u : Told) → Sent t u → JobOk lives unit a.manager u → Goes (f a.manager) lives unit u)
    → Goes (and_then a f) lives unit t
goes_both a f lives unit t one two =
    let hs = flat_map sends a.sendings in
    let ks = flat_map sends (f a.manager).sendings in
    subst (JobOk lives unit (f a.manager).manager)
    (sym (ap (λ l. tell_all l t) (sends_append a.sendings (f a.manager).sendings)
    ∙ tell_append hs ks t))
    (two (tell_all hs t) (sent_all a.sendings t) one)
