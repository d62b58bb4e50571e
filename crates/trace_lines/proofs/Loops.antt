-- How far the loops over reports, and over the entities of a copy and of a table, have come.
use Rattle.std.proofs.Common.{◌≡◌, ℕ, zero, suc, ◌+◌, List, [], ◌∷◌, ◌++◌, length, ◌<◌, drop, refl, sym, ◌∙◌, ap, append_assoc, arith}
use Rattle.std.proofs.lemmas.List.{append-nil}
use Rattle.std.specs.List.{flat_map}
use Rattle.std.specs.Prelude.{slice_index_or}
use Rattle.omci_types.specs.declared.EntityId.{EntityId}
use Rattle.mib_spec.specs.Database.{Values, bytes_of}
use Rattle.upload_spec.specs.Pieces.{Copy, mask_of}
use Rattle.alarm_spec.specs.Alarms.{Alarm, Alarms}
use Rattle.alarm_log.specs.Places.{alarm_at}
use Rattle.manager_spec.specs.declared.Report.{Report}
use Rattle.world_spec.specs.Trace.{copy_line, entry_line, alarm_line, row_line}
use Rattle.olt_manager.specs.State.{State}
use Rattle.trace_lines.specs.Reports.{report_lines, reports_text}

-- ---- reports

abbrev pub cleared : State → State
cleared m = record m { manager = record m.manager { reports = [] } }

pub record ReportsSoFar (event : ℕ) (first now : State) (before text : List ℕ) : Type 0 where
  pub manager : cleared now ≡ cleared first
  pub lines : text ++ reports_text event now.manager.copy now.manager.table.rows now.manager.reports ≡ before ++ reports_text event first.manager.copy first.manager.table.rows first.manager.reports

-- taking a report out leaves all else as it was
abbrev pub taken_out : State → List Report → State
taken_out m rs = record m { manager = record m.manager { reports = rs } }

pub report_written : (event : ℕ) (first now after : State) (r : Report) (before text more : List ℕ) → ReportsSoFar event first now before text → now.manager.reports ≡ (r ∷ []) ++ after.manager.reports → after ≡ record now { manager = record now.manager { reports = after.manager.reports } } → more ≡ text ++ report_lines event after.manager.copy after.manager.table.rows r → ReportsSoFar event first after before more
report_written event first now after r before text more so_far taken rest written =
    let later = after.manager.reports in
    let line = report_lines event now.manager.copy now.manager.table.rows r in
    record {
      manager = ap cleared rest ∙ so_far.manager;
      lines =
          ap (λ t. t ++ reports_text event after.manager.copy after.manager.table.rows later) written
          ∙ ap (λ (m : State). (text ++ report_lines event m.manager.copy m.manager.table.rows r)
          ++ reports_text event m.manager.copy m.manager.table.rows later) rest
          ∙ append_assoc text line (reports_text event now.manager.copy now.manager.table.rows later)
          ∙ ap (λ rs. text ++ reports_text event now.manager.copy now.manager.table.rows rs) (sym taken)
          ∙ so_far.lines;
    }

pub reports_done : (event : ℕ) (first now after : State) (before text : List ℕ) → ReportsSoFar event first now before text → now.manager.reports ≡ [] → after ≡ record now { manager = record now.manager { reports = after.manager.reports } } → now.manager.reports ≡ [] ++ after.manager.reports → (after ≡ cleared first) × (text ≡ before ++ reports_text event first.manager.copy first.manager.table.rows first.manager.reports)
reports_done event first now after before text so_far none rest same = (
  rest ∙ ap (λ rs. record now { manager = record now.manager { reports = rs } }) (sym same ∙ none) ∙ so_far.manager,
  sym (append-nil text) ∙ ap (λ rs. text ++ reports_text event now.manager.copy now.manager.table.rows rs) (sym none) ∙ so_far.lines,
)

-- ---- the entities of a copy

-- the lines so far, and those of the entities that are left, are the lines of all
abbrev pub EntriesSoFar : ℕ → Copy → ℕ → List ℕ → List ℕ → Type 0
EntriesSoFar event copy place before text =
    text ++ flat_map (copy_line event) (drop place copy) ≡ before ++ flat_map (copy_line event) copy

-- an entry for reading past the end
abbrev pub no_entry : EntityId × Values
no_entry = (record { class = 0; instance = 0 }, [])

drop_there : (xs : Copy) (place : ℕ) → place < length xs
    → drop place xs ≡ slice_index_or xs place no_entry ∷ drop (place + 1) xs
drop_there [] place lt = absurd (omega arith)
drop_there (y ∷ rest) zero lt = refl
drop_there (y ∷ rest) (suc place) lt =
    let next : suc (place + 1) ≡ suc place + 1 = omega arith in
    drop_there rest place (omega arith)
    ∙ ap (λ k. slice_index_or rest place no_entry ∷ drop k (y ∷ rest)) next

pub entry_written : (event : ℕ) (copy : Copy) (place : ℕ) (one : EntityId) (mask : ℕ)
    (bytes before text more : List ℕ) → EntriesSoFar event copy place before text
    → place < length copy
    → ((other : EntityId × Values) → one ≡ (slice_index_or copy place other).0)
    → ((other : EntityId × Values) → mask ≡ mask_of (slice_index_or copy place other).1)
    → ((other : EntityId × Values) → bytes ≡ bytes_of (slice_index_or copy place other).1)
    → more ≡ text ++ entry_line event one mask bytes
    → EntriesSoFar event copy (place + 1) before more
entry_written event copy place one mask bytes before text more so_far lt one_is mask_is bytes_is written =
    let here = slice_index_or copy place no_entry in
    let later = flat_map (copy_line event) (drop (place + 1) copy) in
    ap (λ t. t ++ later) written
    ∙ ap (λ e. (text ++ entry_line event e mask bytes) ++ later) (one_is no_entry)
    ∙ ap (λ m. (text ++ entry_line event here.0 m bytes) ++ later) (mask_is no_entry)
    ∙ ap (λ b. (text ++ entry_line event here.0 (mask_of here.1) b) ++ later) (bytes_is no_entry)
    ∙ append_assoc text (copy_line event here) later
    ∙ ap (λ (es : Copy). text ++ flat_map (copy_line event) es) (sym (drop_there copy place lt))
    ∙ so_far

-- ---- the entities of a table

-- the lines so far, and those of the entities that are left, are the lines of all
abbrev pub AlarmsSoFar : ℕ → Alarms → ℕ → List ℕ → List ℕ → Type 0
AlarmsSoFar event alarms place before text =
    text ++ flat_map (alarm_line event) (drop place alarms)
    ≡ before ++ flat_map (alarm_line event) alarms

alarm_there : (xs : Alarms) (place : ℕ) → place < length xs
    → drop place xs ≡ alarm_at xs place ∷ drop (place + 1) xs
alarm_there [] place lt = absurd (omega arith)
alarm_there (y ∷ rest) zero lt = refl
alarm_there (y ∷ rest) (suc place) lt =
    let next : suc (place + 1) ≡ suc place + 1 = omega arith in
    alarm_there rest place (omega arith)
    ∙ ap (λ k. alarm_at rest place ∷ drop k (y ∷ rest)) next

pub alarm_written : (event : ℕ) (alarms : Alarms) (place : ℕ) (one : EntityId)
    (bitmap before text more : List ℕ) → AlarmsSoFar event alarms place before text
    → place < length alarms → (one, bitmap) ≡ alarm_at alarms place
    → more ≡ text ++ row_line event one bitmap
    → AlarmsSoFar event alarms (place + 1) before more
alarm_written event alarms place one bitmap before text more so_far lt is written =
    let later = flat_map (alarm_line event) (drop (place + 1) alarms) in
    ap (λ t. t ++ later) written
    ∙ ap (λ (x : Alarm). (text ++ alarm_line event x) ++ later) is
    ∙ append_assoc text (alarm_line event (alarm_at alarms place)) later
    ∙ ap (λ (xs : Alarms). text ++ flat_map (alarm_line event) xs) (sym (alarm_there alarms place lt))
    ∙ so_far
