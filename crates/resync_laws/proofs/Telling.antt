-- What is told of a step of the manager: of the replies that it took, of its reports, and of what it
-- sent.
use Rattle.std.proofs.Common.{◌≡◌, ◌≢◌, ℕ, ◌+◌, ◌<◌, Bool, true, false, cond, List, [], ◌∷◌, ◌++◌, map, Option, Some, None, refl, sym, ap, subst, ◌∙◌, append_assoc, arith}
use Rattle.std.specs.List.{flat_map}
use Rattle.omci_types.specs.declared.Priority.{Priority}
use Rattle.omci_types.specs.declared.Priority.TheVariants.{Low, High}
use Rattle.upload_spec.specs.Pieces.{Copy}
use Rattle.link_spec.specs.Link.{Link}
use Rattle.lane_spec.specs.Command.{Command, command_packets}
use Rattle.lane_spec.specs.Lane.{Waiting, next_tci, with_command}
use Rattle.manager_spec.specs.declared.Report.{Report}
use Rattle.manager_spec.specs.declared.Report.TheVariants as report
use Rattle.manager_spec.specs.Manager.{Stage, Manager, Outcome, Sending, sends_nothing, and_then, command_sent}
use Rattle.unit_spec.specs.Onu.{Onu}
use Rattle.alarm_spec.specs.Alarms.{Alarm}
use Rattle.history_spec.specs.History.{Remarked, Synced, Audited}
use Rattle.world_spec.specs.Happenings.{Happening, ReplyTaken, NoticeTaken, on_link, link_read}
use Rattle.world_spec.specs.Ends.{goes_down, sends, copy_told, download_told, result_told, report_told}
use Rattle.world_spec.specs.History.{Told, tell, tell_all}
use Rattle.resync_laws.proofs.Reading.{is_plain}
use Rattle.resync_laws.proofs.Invariants.{JobOk, Held, Good, good_of, is_job}
use Rattle.resync_laws.proofs.Passing.{downloads_good, link_downloads}
use Rattle.resync_laws.proofs.Sending.{drawn_low, drawn_high, held_low, held_high, low_fits, packets_low, low_packets, high_packets, sent_names}

-- ---- one after the other

pub tell_append : (xs ys : List Happening) (t : Told)
    → tell_all (xs ++ ys) t ≡ tell_all ys (tell_all xs t)
tell_append [] ys t = refl
tell_append (x ∷ xs) ys t = tell_append xs ys (tell x t)

pub link_append : (xs ys : List Happening) (l : Link)
    → link_read (xs ++ ys) l ≡ link_read ys (link_read xs l)
link_append [] ys l = refl
link_append (x ∷ xs) ys l = link_append xs ys (on_link x l)

pub sends_append : (a b : List Sending)
    → flat_map sends (a ++ b) ≡ flat_map sends a ++ flat_map sends b
sends_append [] b = refl
sends_append (x ∷ a) b =
    ap (λ l. sends x ++ l) (sends_append a b)
    ∙ sym (append_assoc (sends x) (flat_map sends a) (flat_map sends b))

-- ---- reports

abbrev pub is_synced : Report → Bool
is_synced (report.Synced entities counter) = true
is_synced (report.Audited rows) = true
is_synced _ = false

-- none of them is that of a resynchronisation or an audit that has ended well
abbrev pub NoneSynced : List Report → Type 0
NoneSynced [] = Unit {0}
NoneSynced (r ∷ rest) = (is_synced r ≡ false) × NoneSynced rest

pub none_more : (rs : List Report) (r : Report) → NoneSynced rs → is_synced r ≡ false
    → NoneSynced (rs ++ r ∷ [])
none_more [] r h e = (e, tt)
none_more (x ∷ rs) r h e = (h.0, none_more rs r h.1 e)

quiet_one : (r : Report) (m : Manager) → is_synced r ≡ false → result_told r m ≡ []
quiet_one (report.Synced entities counter) m e = absurd (cc)
quiet_one (report.Audited rows) m e = absurd (cc)
quiet_one _ m e = refl

pub quiet_told : (rs : List Report) (m : Manager) (t : Told) → NoneSynced rs
    → tell_all (flat_map (report_told m) rs) t ≡ t
quiet_told [] m t h = refl
quiet_told (r ∷ rs) m t h =
    ap (λ l. tell_all (l ++ flat_map (report_told m) rs) t) (quiet_one r m h.0)
    ∙ quiet_told rs m t h.1

link_copy : (copy : Option Copy) (l : Link) → link_read (copy_told copy) l ≡ l
link_copy None l = refl
link_copy (Some copy) l = refl

link_one : (r : Report) (m : Manager) (l : Link) → link_read (result_told r m) l ≡ l
link_one (report.Synced entities counter) m l = link_copy m.copy l
link_one (report.Audited rows) m l = refl
link_one _ m l = refl

link_told : (rs : List Report) (m : Manager) (l : Link)
    → link_read (flat_map (report_told m) rs) l ≡ l
link_told [] m l = refl
link_told (r ∷ rs) m l =
    link_append (result_told r m) (flat_map (report_told m) rs) l
    ∙ ap (link_read (flat_map (report_told m) rs)) (link_one r m l)
    ∙ link_told rs m l

link_taken : (lanes : List Priority) (l : Link) → link_read (map ReplyTaken lanes) l ≡ l
link_taken [] l = refl
link_taken (x ∷ lanes) l = link_taken lanes l

link_noticed : (notices : List Alarm) (l : Link) → link_read (map NoticeTaken notices) l ≡ l
link_noticed [] l = refl
link_noticed (x ∷ notices) l = link_noticed notices l

-- ---- what a step comes to

-- the replies and the notices that are taken in it
abbrev pub taken_deeds : Outcome → List Happening
taken_deeds o = map ReplyTaken o.taken ++ map NoticeTaken o.noticed

-- all that happens in it, but for a download that has ended
abbrev pub deeds_of : Outcome → List Happening
deeds_of o =
    map ReplyTaken o.taken
    ++ map NoticeTaken o.noticed
    ++ flat_map (report_told o.manager) o.manager.reports
    ++ flat_map sends o.sendings

-- the same with it, where the job was at such a stage before
abbrev pub all_deeds : Option Stage → Outcome → List Happening
all_deeds before o = deeds_of o ++ flat_map (download_told before) o.manager.reports

-- all is well after it, whatever its job was before, and its reports are taken out
abbrev pub Did : Outcome → Link → ℕ → Option Onu → Told → Type 0
Did o link lives unit t =
    (before : Option Stage)
    → Good (link_read (all_deeds before o) link).packets lives unit
    (Some (record o.manager { reports = [] })) (tell_all (all_deeds before o) t)

-- all is well but for the reports, after what it sent
pub record Goes (o : Outcome) (link : Link) (lives : ℕ) (unit : Option Onu) (t : Told) : Type 0 where
  pub held : Held (link_read (flat_map sends o.sendings) link).packets unit o.manager.low
      o.manager.high (tell_all (flat_map sends o.sendings) t)
  pub job : JobOk lives unit o.manager.low o.manager.job (tell_all (flat_map sends o.sendings) t).low
      (tell_all (flat_map sends o.sendings) t).asking (tell_all (flat_map sends o.sendings) t).history

pub did_link : (o : Outcome) (link : Link)
    → link_read (deeds_of o) link ≡ link_read (flat_map sends o.sendings) link
did_link o link =
    let taken = map ReplyTaken o.taken in
    let noticed = map NoticeTaken o.noticed in
    let told = flat_map (report_told o.manager) o.manager.reports in
    let sent = flat_map sends o.sendings in
    link_append (taken ++ noticed ++ told) sent link
    ∙ ap (link_read sent) (link_append (taken ++ noticed) told link
    ∙ ap (link_read told) (link_append taken noticed link
    ∙ ap (link_read noticed) (link_taken o.taken link) ∙ link_noticed o.noticed link)
    ∙ link_told o.manager.reports o.manager link)

pub did_told : (o : Outcome) (t u v : Told) → tell_all (taken_deeds o) t ≡ u
    → tell_all (flat_map (report_told o.manager) o.manager.reports) u ≡ v
    → tell_all (deeds_of o) t ≡ tell_all (flat_map sends o.sendings) v
did_told o t u v e f =
    let taken = taken_deeds o in
    let told = flat_map (report_told o.manager) o.manager.reports in
    let sent = flat_map sends o.sendings in
    tell_append (taken ++ told) sent t
    ∙ ap (tell_all sent) (tell_append taken told t ∙ ap (tell_all told) e ∙ f)

did_after : (o : Outcome) (link : Link) (lives : ℕ) (unit : Option Onu) (t u v : Told)
    → tell_all (taken_deeds o) t ≡ u
    → tell_all (flat_map (report_told o.manager) o.manager.reports) u ≡ v
    → Goes o link lives unit v → Did o link lives unit t
did_after o link lives unit t u v e f g before =
    let ended = flat_map (download_told before) o.manager.reports in
    let after : Manager = record o.manager { reports = [] } in
    let sent = flat_map sends o.sendings in
    subst (λ l. Good l.packets lives unit (Some after) (tell_all (deeds_of o ++ ended) t))
    (sym (link_append (deeds_of o) ended link
    ∙ link_downloads before o.manager.reports (link_read (deeds_of o) link) ∙ did_link o link))
    (subst (λ x. Good (link_read sent link).packets lives unit (Some after) x)
    (sym (tell_append (deeds_of o) ended t ∙ ap (tell_all ended) (did_told o t u v e f)))
    (downloads_good before o.manager.reports (link_read sent link).packets lives unit (Some after)
    (tell_all sent v) (good_of _ lives unit after _ g.held g.job refl)))

-- a step that ends no resynchronisation well
pub did_quiet : (o : Outcome) (link : Link) (lives : ℕ) (unit : Option Onu) (t u : Told)
    → tell_all (taken_deeds o) t ≡ u → NoneSynced o.manager.reports
    → Goes o link lives unit u → Did o link lives unit t
did_quiet o link lives unit t u e none g =
    did_after o link lives unit t u u e (quiet_told o.manager.reports o.manager u none) g

-- one that does
abbrev pub synced_told : Copy → Told → Told
synced_told copy u = record u { history = Remarked (Synced u.asking copy) ∷ u.history }

pub did_sync : (o : Outcome) (copy : Copy) (entities counter : ℕ) (link : Link) (lives : ℕ)
    (unit : Option Onu) (t u : Told)
    → tell_all (taken_deeds o) t ≡ u → o.manager.copy ≡ Some copy
    → o.manager.reports ≡ report.Synced entities counter ∷ report.PhaseIn ∷ []
    → Goes o link lives unit (synced_told copy u) → Did o link lives unit t
did_sync o copy entities counter link lives unit t u e c r g =
    did_after o link lives unit t u (synced_told copy u) e
    (ap (λ rs. tell_all (flat_map (report_told o.manager) rs) u) r
    ∙ ap (λ x. tell_all (copy_told x ++ report_told o.manager report.PhaseIn) u) c) g

-- one that ends an audit well
abbrev pub audited_told : Manager → Told → Told
audited_told m u =
    record u { history = Remarked (Audited u.asking m.table.rows u.notices) ∷ u.history }

pub did_audit : (o : Outcome) (rows : ℕ) (link : Link) (lives : ℕ) (unit : Option Onu) (t u : Told)
    → tell_all (taken_deeds o) t ≡ u → o.manager.reports ≡ report.Audited rows ∷ []
    → Goes o link lives unit (audited_told o.manager u) → Did o link lives unit t
did_audit o rows link lives unit t u e r g =
    did_after o link lives unit t u (audited_told o.manager u) e
    (ap (λ rs. tell_all (flat_map (report_told o.manager) rs) u) r) g

-- ---- steps that send

pub goes_nothing : (m : Manager) (link : Link) (lives : ℕ) (unit : Option Onu) (t : Told)
    → Held link.packets unit m.low m.high t
    → JobOk lives unit m.low m.job t.low t.asking t.history
    → Goes (sends_nothing m) link lives unit t
goes_nothing m link lives unit t h j = record { held = h; job = j }

-- what is sent at once
pub goes_sent : (o : Outcome) (s : Sending) (link : Link) (lives : ℕ) (unit : Option Onu) (t : Told)
    → o.sendings ≡ s ∷ []
    → Held (link_read (sends s) link).packets unit o.manager.low o.manager.high (tell_all (sends s) t)
    → JobOk lives unit o.manager.low o.manager.job (tell_all (sends s) t).low
    (tell_all (sends s) t).asking (tell_all (sends s) t).history
    → Goes o link lives unit t
goes_sent o s link lives unit t e h j =
    let link_is : link_read (flat_map sends o.sendings) link ≡ link_read (sends s) link =
    ap (λ l. link_read (flat_map sends l) link) e ∙ link_append (sends s) [] link in
    let told_is : tell_all (flat_map sends o.sendings) t ≡ tell_all (sends s) t =
    ap (λ l. tell_all (flat_map sends l) t) e ∙ tell_append (sends s) [] t in
    record {
      held =
          subst (λ l. Held l.packets unit o.manager.low o.manager.high (tell_all (flat_map sends o.sendings) t)) (sym link_is)
          (subst (λ u. Held (link_read (sends s) link).packets unit o.manager.low o.manager.high u) (sym told_is) h);
      job = subst (λ u. JobOk lives unit o.manager.low o.manager.job u.low u.asking u.history) (sym told_is) j;
    }

pub goes_low : (asks : Bool) (c : Command) (m : Manager) (link : Link) (lives : ℕ)
    (unit : Option Onu) (t : Told) → Held link.packets unit m.low m.high t
    → m.low.outstanding ≡ None
    → JobOk lives unit (with_command c m.low) m.job t.drawn (cond asks t.drawn t.asking) t.history
    → Goes (command_sent asks Low c m) link lives unit t
goes_low asks c m link lives unit t h free j = go asks j
  where
    ps : List (List ℕ)
    ps = command_packets (next_tci m.low) c

    after : (b : Bool) → Held (link_read (map (goes_down Low) ps) link).packets unit
        (with_command c m.low) m.high (tell_all (map (goes_down Low) ps) (drawn_low b t))
    after b =
        let before = h.lanes.number in
        low_packets ps link unit (with_command c m.low) m.high (drawn_low b t)
        (held_low b c link.packets unit m.low m.high t h free) (omega arith)
        (packets_low (next_tci m.low) c (low_fits m.low h.lanes.priority before))

    job_after : (b : Bool)
        → JobOk lives unit (with_command c m.low) m.job t.drawn (cond b t.drawn t.asking) t.history
        → (u : Told) → u ≡ record (drawn_low b t) { names = u.names }
        → JobOk lives unit (with_command c m.low) m.job u.low u.asking u.history
    job_after b k u e =
        subst (λ v. JobOk lives unit (with_command c m.low) m.job v.low v.asking v.history) (sym e) k

    go : (b : Bool)
        → JobOk lives unit (with_command c m.low) m.job t.drawn (cond b t.drawn t.asking) t.history
        → Goes (command_sent b Low c m) link lives unit t
    go true k =
        goes_sent (command_sent true Low c m)
        (record { lane = Low; drawn = true; asks = true; packets = ps }) link lives unit t refl
        (after true)
        (job_after true k (tell_all (map (goes_down Low) ps) (drawn_low true t))
        (sent_names Low ps (drawn_low true t)))
    go false k =
        goes_sent (command_sent false Low c m)
        (record { lane = Low; drawn = true; asks = false; packets = ps }) link lives unit t refl
        (after false)
        (job_after false k (tell_all (map (goes_down Low) ps) (drawn_low false t))
        (sent_names Low ps (drawn_low false t)))

pub goes_high : (c : Command) (m : Manager) (link : Link) (lives : ℕ) (unit : Option Onu) (t : Told)
    → Held link.packets unit m.low m.high t → m.high.outstanding ≡ None
    → is_plain c.request ≡ true → is_job c.purpose ≡ false → c.earlier ≡ []
    → JobOk lives unit m.low m.job t.low t.asking t.history
    → Goes (command_sent false High c m) link lives unit t
goes_high c m link lives unit t h free plainly callers single j =
    goes_sent (command_sent false High c m)
    (record { lane = High; drawn = true; asks = false; packets = ps }) link lives unit t refl
    (high_packets (next_tci m.high) c link unit m.low (with_command c m.high) (drawn_high t)
    (held_high c link.packets unit m.low m.high t h free plainly callers single) (omega arith)
    single plainly apart)
    (subst (λ v. JobOk lives unit m.low m.job v.low v.asking v.history)
    (sym (sent_names High ps (drawn_high t))) j)
  where
    ps : List (List ℕ)
    ps = command_packets (next_tci m.high) c

    apart : (w : Waiting) → m.low.outstanding ≡ Some w → t.drawn ≢ t.low
    apart w e same = let before = (h.lanes.low_out w e).1 in absurd (omega (arith, before, same))

-- one and then another
pub goes_both : (a : Outcome) (f : Manager → Outcome) (link : Link) (lives : ℕ) (unit : Option Onu)
    (t : Told) → Goes a link lives unit t
    → ((l : Link) (u : Told) → Goes (sends_nothing a.manager) l lives unit u
    → Goes (f a.manager) l lives unit u)
    → Goes (and_then a f) link lives unit t
goes_both a f link lives unit t one two =
    let hs = flat_map sends a.sendings in
    let ks = flat_map sends (f a.manager).sendings in
    let b : Manager = (f a.manager).manager in
    let next = two (link_read hs link) (tell_all hs t) (record { held = one.held; job = one.job }) in
    let split = sends_append a.sendings (f a.manager).sendings in
    let link_is = ap (λ l. link_read l link) split ∙ link_append hs ks link in
    let told_is = ap (λ l. tell_all l t) split ∙ tell_append hs ks t in
    record {
      held =
          subst (λ l. Held l.packets unit b.low b.high (tell_all (flat_map sends (a.sendings ++ (f a.manager).sendings)) t)) (sym link_is)
          (subst (λ u. Held (link_read ks (link_read hs link)).packets unit b.low b.high u) (sym told_is) next.held);
      job = subst (λ u. JobOk lives unit b.low b.job u.low u.asking u.history) (sym told_is) next.job;
    }
