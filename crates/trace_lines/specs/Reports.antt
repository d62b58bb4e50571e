-- The lines of the manager's reports.
use Rattle.std.specs.Prelude.{ℕ, List, [], ◌++◌, Option, Some, None}
use Rattle.std.specs.List.{flat_map}
use Rattle.upload_spec.specs.Pieces.{Copy}
use Rattle.alarm_spec.specs.Alarms.{Alarms}
use Rattle.manager_spec.specs.declared.Report.{Report}
use Rattle.manager_spec.specs.declared.Report.TheVariants as report
use Rattle.world_spec.specs.declared.Effect.TheVariants as effect
use Rattle.world_spec.specs.Trace.{line_text, copy_line, alarm_line}

-- a line for each entity of the copy, where there is one
abbrev pub copy_text : ℕ → Option Copy → List ℕ
copy_text event None = []
copy_text event (Some copy) = flat_map (copy_line event) copy

-- the lines of the copy after the report of a resynchronisation, and those of the table's alarms
-- after that of an audit
abbrev pub told_text : ℕ → Report → Option Copy → Alarms → List ℕ
told_text event (report.Synced entities counter) copy alarms = copy_text event copy
told_text event (report.Audited rows) copy alarms = flat_map (alarm_line event) alarms
told_text event _ copy alarms = []

-- the lines of a report
abbrev pub report_lines : ℕ → Option Copy → Alarms → Report → List ℕ
report_lines event copy alarms r =
    line_text event (effect.Reported r) ++ told_text event r copy alarms

-- the lines of each report
abbrev pub reports_text : ℕ → Option Copy → Alarms → List Report → List ℕ
reports_text event copy alarms reports = flat_map (report_lines event copy alarms) reports
