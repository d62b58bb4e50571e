-- What is told of a step of the manager, for an audit.
use Rattle.std.proofs.Common.{◌≡◌, Bool, true, false, List, [], ◌∷◌, ◌++◌, map, ℕ, Option, Some, refl, sym, ap, subst, ◌∙◌}
use Rattle.std.specs.List.{flat_map}
use Rattle.lane_spec.specs.Command.{Command, command_packets}
use Rattle.lane_spec.specs.Lane.{next_tci, with_command}
use Rattle.omci_types.specs.declared.Priority.{Priority}
use Rattle.omci_types.specs.declared.Priority.TheVariants.{Low, High}
use Rattle.manager_spec.specs.declared.Report.TheVariants as report
use Rattle.manager_spec.specs.Manager.{Stage, Manager, Outcome, sends_nothing, and_then, command_sent}
use Rattle.upload_spec.specs.Pieces.{Copy}
use Rattle.unit_spec.specs.Onu.{Onu}
use Rattle.history_spec.specs.History.{AuditedRight}
use Rattle.world_spec.specs.Ends.{goes_down, if_drawn, if_asked, sends, copy_told, download_told, report_told}
use Rattle.world_spec.specs.History.{Told, tell_all}
use Rattle.resync_laws.proofs.Sending.{drawn_low, drawn_high, sent_names}
use Rattle.resync_laws.proofs.Telling.{tell_append, sends_append, taken_deeds, deeds_of, all_deeds, NoneSynced, quiet_told, did_told, synced_told, audited_told}
use Rattle.audit_laws.proofs.Invariants.{JobOk, JobRight, downloads_right}

-- the job and the history after it, whatever its job was before; its reports are taken out
abbrev pub Did : Outcome → ℕ → Option Onu → Told → Type 0
Did o lives unit t =
    (before : Option Stage)
    → JobRight lives unit (record o.manager { reports = [] }) (tell_all (all_deeds before o) t)

-- and after what it sent
pub record Goes (o : Outcome) (lives : ℕ) (unit : Option Onu) (t : Told) : Type 0 where
  pub job : JobOk lives unit o.manager (tell_all (flat_map sends o.sendings) t)
  pub right : AuditedRight (tell_all (flat_map sends o.sendings) t).history

did_after : (o : Outcome) (lives : ℕ) (unit : Option Onu) (t u v : Told)
    → tell_all (taken_deeds o) t ≡ u
    → tell_all (flat_map (report_told o.manager) o.manager.reports) u ≡ v
    → Goes o lives unit v → Did o lives unit t
did_after o lives unit t u v e f g before =
    let ended = flat_map (download_told before) o.manager.reports in
    let after : Manager = record o.manager { reports = [] } in
    subst (λ x. JobRight lives unit after x)
    (sym (tell_append (deeds_of o) ended t ∙ ap (tell_all ended) (did_told o t u v e f)))
    (downloads_right before o.manager.reports lives unit after (tell_all (flat_map sends o.sendings) v)
    (record { job = g.job; right = g.right }))

-- a step that ends no job well
pub did_quiet : (o : Outcome) (lives : ℕ) (unit : Option Onu) (t u : Told)
    → tell_all (taken_deeds o) t ≡ u → NoneSynced o.manager.reports → Goes o lives unit u
    → Did o lives unit t
did_quiet o lives unit t u e none g =
    did_after o lives unit t u u e (quiet_told o.manager.reports o.manager u none) g

-- one that ends a resynchronisation well
pub did_sync : (o : Outcome) (copy : Copy) (entities counter : ℕ) (lives : ℕ) (unit : Option Onu)
    (t u : Told) → tell_all (taken_deeds o) t ≡ u → o.manager.copy ≡ Some copy
    → o.manager.reports ≡ report.Synced entities counter ∷ report.PhaseIn ∷ []
    → Goes o lives unit (synced_told copy u) → Did o lives unit t
did_sync o copy entities counter lives unit t u e c r g =
    did_after o lives unit t u (synced_told copy u) e
    (ap (λ rs. tell_all (flat_map (report_told o.manager) rs) u) r
    ∙ ap (λ x. tell_all (copy_told x ++ report_told o.manager report.PhaseIn) u) c) g

-- one that ends an audit well
pub did_audit : (o : Outcome) (rows : ℕ) (lives : ℕ) (unit : Option Onu) (t u : Told)
    → tell_all (taken_deeds o) t ≡ u → o.manager.reports ≡ report.Audited rows ∷ []
    → Goes o lives unit (audited_told o.manager u) → Did o lives unit t
did_audit o rows lives unit t u e r g =
    did_after o lives unit t u (audited_told o.manager u) e
    (ap (λ rs. tell_all (flat_map (report_told o.manager) rs) u) r) g

-- ---- steps that send

pub goes_nothing : (m : Manager) (lives : ℕ) (unit : Option Onu) (t : Told)
    → JobOk lives unit m t → AuditedRight t.history → Goes (sends_nothing m) lives unit t
goes_nothing m lives unit t j r = record { job = j; right = r }

-- of what is told, packets change the names alone
pub sent_told : (lane : Priority) (drawn asks : Bool) (ps : List (List ℕ)) (t u : Told)
    → tell_all (if_drawn drawn lane ++ if_asked asks lane) t ≡ u
    → tell_all (flat_map sends (record { lane = lane; drawn = drawn; asks = asks; packets = ps } ∷ [])) t
    ≡ record u { names = (tell_all (map (goes_down lane) ps) u).names }
sent_told lane drawn asks ps t u e =
    let hs = if_drawn drawn lane ++ if_asked asks lane in
    let ks = map (goes_down lane) ps in
    tell_append (hs ++ ks) [] t ∙ tell_append hs ks t ∙ ap (tell_all ks) e ∙ sent_names lane ps u

-- the same of a step that sends once
pub goes_sent : (o : Outcome) (lane : Priority) (drawn asks : Bool) (ps : List (List ℕ))
    (lives : ℕ) (unit : Option Onu) (t u : Told)
    → o.sendings ≡ record { lane = lane; drawn = drawn; asks = asks; packets = ps } ∷ []
    → tell_all (if_drawn drawn lane ++ if_asked asks lane) t ≡ u
    → JobOk lives unit o.manager u → AuditedRight u.history → Goes o lives unit t
goes_sent o lane drawn asks ps lives unit t u e f j r =
    let same = sym (ap (λ l. tell_all (flat_map sends l) t) e ∙ sent_told lane drawn asks ps t u f) in
    record {
      job = subst (λ v. JobOk lives unit o.manager v) same j;
      right = subst (λ (v : Told). AuditedRight v.history) same r;
    }

pub goes_low : (asks : Bool) (c : Command) (m : Manager) (lives : ℕ) (unit : Option Onu) (t : Told)
    → JobOk lives unit (record m { low = with_command c m.low }) (drawn_low asks t)
    → AuditedRight t.history → Goes (command_sent asks Low c m) lives unit t
goes_low true c m lives unit t j r =
    goes_sent (command_sent true Low c m) Low true true (command_packets (next_tci m.low) c) lives unit
    t (drawn_low true t) refl refl j r
goes_low false c m lives unit t j r =
    goes_sent (command_sent false Low c m) Low true false (command_packets (next_tci m.low) c) lives
    unit t (drawn_low false t) refl refl j r

pub goes_high : (c : Command) (m : Manager) (lives : ℕ) (unit : Option Onu) (t : Told)
    → JobOk lives unit (record m { high = with_command c m.high }) (drawn_high t)
    → AuditedRight t.history → Goes (command_sent false High c m) lives unit t
goes_high c m lives unit t j r =
    goes_sent (command_sent false High c m) High true false (command_packets (next_tci m.high) c) lives
    unit t (drawn_high t) refl refl j r

-- one and then another
pub goes_both : (a : Outcome) (f : Manager → Outcome) (lives : ℕ) (unit : Option Onu) (t : Told)
    → Goes a lives unit t
    → ((u : Told) → JobOk lives unit a.manager u → AuditedRight u.history
    → Goes (f a.manager) lives unit u)
    → Goes (and_then a f) lives unit t
goes_both a f lives unit t one two =
    let hs = flat_map sends a.sendings in
    let ks = flat_map sends (f a.manager).sendings in
    let next = two (tell_all hs t) one.job one.right in
    let told_is = ap (λ l. tell_all l t) (sends_append a.sendings (f a.manager).sendings)
    ∙ tell_append hs ks t in
    record {
      job = subst (λ u. JobOk lives unit (f a.manager).manager u) (sym told_is) next.job;
      right = subst (λ (u : Told). AuditedRight u.history) (sym told_is) next.right;
    }
