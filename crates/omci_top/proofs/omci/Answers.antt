use Rattle.std.proofs.Common.{refl}
use Rattle.omci_top.specs.Calls.{reads_source, writes_sink, calls_disk, calls_link, runs_world}
use Rattle.omci_top.proofs.TopLemmas.{runs_of, refuses_of, drill_of_words, drill_runs_of, is_called}
use Rattle.omci_top.proofs.OltLemmas.{olt_of_words, olt_runs_of, olt_refuses_of, olt_stops_of}
use Rattle.omci_top.proofs.UnitLemmas.{unit_of_words, unit_words}
use Rattle.omci_top.proofs.ShowLemmas.{show_runs_of, show_refuses_of, show_stops_of, check_runs_of, check_refuses_of, check_stops_of}
use Rattle.omci_top.proofs.FilterLemmas.{filter_of_words, filter_runs_of, filter_refuses_of, filter_stops_of}
use Rattle.omci_top.proofs.omci.Goals as goal

pub returns-in-Some-Replay-clause-replay_runs : goal.returns-in-Some-Replay-clause-replay_runs
returns-in-Some-Replay-clause-replay_runs g c = λ script bytes words told few spelled calm_source calm_sink some.
    runs_of _ _ _ _ _ _ _ _ _ c.replay-status.result.status c.replay-status.ensures.answers script bytes told few spelled calm_source calm_sink some

pub returns-in-Some-Replay-clause-replay_refuses : goal.returns-in-Some-Replay-clause-replay_refuses
returns-in-Some-Replay-clause-replay_refuses g c = λ place reason bytes words told few faulty calm_source calm_sink some.
    refuses_of _ _ _ _ _ _ _ _ _ c.replay-status.result.status c.replay-status.ensures.answers place reason bytes told few faulty calm_source calm_sink some

pub returns-in-Some-Show-clause-show_runs : goal.returns-in-Some-Show-clause-show_runs
returns-in-Some-Show-clause-show_runs g c = λ frames bytes words told few passes calm_source calm_sink some.
    show_runs_of bytes _ _ _ _ _ _ _ _ c.show-status.result c.show-status.ensures.answers frames told few passes calm_source calm_sink some

pub returns-in-Some-Show-clause-show_refuses : goal.returns-in-Some-Show-clause-show_refuses
returns-in-Some-Show-clause-show_refuses g c = λ frames place reason bytes words told has calm_source calm_sink some.
    show_refuses_of bytes _ _ _ _ _ _ _ _ c.show-status.result c.show-status.ensures.answers frames place reason told has calm_source calm_sink some

pub returns-in-Some-Show-clause-show_stops : goal.returns-in-Some-Show-clause-show_stops
returns-in-Some-Show-clause-show_stops g c = λ frames bytes words told long has calm_source calm_sink some.
    show_stops_of bytes _ _ _ _ _ _ _ _ c.show-status.result c.show-status.ensures.answers frames told long has calm_source calm_sink some

pub returns-in-Some-Check-clause-check_runs : goal.returns-in-Some-Check-clause-check_runs
returns-in-Some-Check-clause-check_runs g c = λ frames bytes words told few passes calm_source calm_sink some.
    check_runs_of bytes _ _ _ _ _ _ _ _ c.check-status.result c.check-status.ensures.answers frames told few passes calm_source calm_sink some

pub returns-in-Some-Check-clause-check_refuses : goal.returns-in-Some-Check-clause-check_refuses
returns-in-Some-Check-clause-check_refuses g c = λ frames place reason bytes words told has calm_source calm_sink some.
    check_refuses_of bytes _ _ _ _ _ _ _ _ c.check-status.result c.check-status.ensures.answers frames place reason told has calm_source calm_sink some

pub returns-in-Some-Check-clause-check_stops : goal.returns-in-Some-Check-clause-check_stops
returns-in-Some-Check-clause-check_stops g c = λ frames bytes words told long has calm_source calm_sink some.
    check_stops_of bytes _ _ _ _ _ _ _ _ c.check-status.result c.check-status.ensures.answers frames told long has calm_source calm_sink some

-- ---- the words of another command

pub returns-in-Some-Replay-clause-show_stops : goal.returns-in-Some-Replay-clause-show_stops
returns-in-Some-Replay-clause-show_stops g c = λ frames bytes words told long has calm_source calm_sink some.
    let is = c.in-Some-Replay.ensures.value in let which = c.in-Some-Replay.field-0-is in absurd (cc)

pub returns-in-Some-Replay-clause-check_stops : goal.returns-in-Some-Replay-clause-check_stops
returns-in-Some-Replay-clause-check_stops g c = λ frames bytes words told long has calm_source calm_sink some.
    let is = c.in-Some-Replay.ensures.value in let which = c.in-Some-Replay.field-0-is in absurd (cc)

pub returns-in-Some-Flash-clause-show_stops : goal.returns-in-Some-Flash-clause-show_stops
returns-in-Some-Flash-clause-show_stops g c = λ frames bytes words told long has calm_source calm_sink some.
    let is = c.in-Some-Flash.ensures.value in let which = c.in-Some-Flash.field-0-is in absurd (cc)

pub returns-in-Some-Flash-clause-check_stops : goal.returns-in-Some-Flash-clause-check_stops
returns-in-Some-Flash-clause-check_stops g c = λ frames bytes words told long has calm_source calm_sink some.
    let is = c.in-Some-Flash.ensures.value in let which = c.in-Some-Flash.field-0-is in absurd (cc)

pub returns-in-Some-Show-clause-check_stops : goal.returns-in-Some-Show-clause-check_stops
returns-in-Some-Show-clause-check_stops g c = λ frames bytes words told long has calm_source calm_sink some.
    let is = c.in-Some-Show.ensures.value in let which = c.in-Some-Show.field-0-is in absurd (cc)

pub returns-in-Some-Check-clause-show_stops : goal.returns-in-Some-Check-clause-show_stops
returns-in-Some-Check-clause-show_stops g c = λ frames bytes words told long has calm_source calm_sink some.
    let is = c.in-Some-Check.ensures.value in let which = c.in-Some-Check.field-0-is in absurd (cc)

pub returns-in-None-clause-show_stops : goal.returns-in-None-clause-show_stops
returns-in-None-clause-show_stops g c = λ frames bytes words told long has calm_source calm_sink some.
    let is = c.in-None.ensures.value in absurd (cc)

pub returns-in-None-clause-check_stops : goal.returns-in-None-clause-check_stops
returns-in-None-clause-check_stops g c = λ frames bytes words told long has calm_source calm_sink some.
    let is = c.in-None.ensures.value in absurd (cc)

-- ---- a drill

pub returns-in-Some-Drill-clause-drill : goal.returns-in-Some-Drill-clause-drill
returns-in-Some-Drill-clause-drill g c = λ seed words.
    drill_of_words _ _ c.in-Some-Drill.seed seed _ _ _ _ _ _ c.in-Some-Drill.ensures.value c.in-Some-Drill.field-0-is c.drill-status.ensures.answers words

pub returns-in-Some-Drill-clause-drill_runs : goal.returns-in-Some-Drill-clause-drill_runs
returns-in-Some-Drill-clause-drill_runs g c = λ seed words calm some.
    drill_runs_of c.drill-status.result.status _ _ _ _ _ _ c.drill-status.ensures.answers calm some

pub returns-in-Some-Drill-clause-show_stops : goal.returns-in-Some-Drill-clause-show_stops
returns-in-Some-Drill-clause-show_stops g c = λ frames bytes words told long has calm_source calm_sink some.
    let is = c.in-Some-Drill.ensures.value in let which = c.in-Some-Drill.field-0-is in absurd (cc)

pub returns-in-Some-Drill-clause-check_stops : goal.returns-in-Some-Drill-clause-check_stops
returns-in-Some-Drill-clause-check_stops g c = λ frames bytes words told long has calm_source calm_sink some.
    let is = c.in-Some-Drill.ensures.value in let which = c.in-Some-Drill.field-0-is in absurd (cc)

-- ---- what the command calls

pub returns-in-Some-Replay-clause-same_source : goal.returns-in-Some-Replay-clause-same_source
returns-in-Some-Replay-clause-same_source g c = λ no. absurd (is_called reads_source _ _ _ c.in-Some-Replay.ensures.value c.in-Some-Replay.field-0-is refl no)

pub returns-in-Some-Replay-clause-same_sink : goal.returns-in-Some-Replay-clause-same_sink
returns-in-Some-Replay-clause-same_sink g c = λ no. absurd (is_called writes_sink _ _ _ c.in-Some-Replay.ensures.value c.in-Some-Replay.field-0-is refl no)

pub returns-in-Some-Replay-clause-other_world : goal.returns-in-Some-Replay-clause-other_world
returns-in-Some-Replay-clause-other_world g c = λ no. absurd (is_called runs_world _ _ _ c.in-Some-Replay.ensures.value c.in-Some-Replay.field-0-is refl no)

pub returns-in-Some-Show-clause-same_source : goal.returns-in-Some-Show-clause-same_source
returns-in-Some-Show-clause-same_source g c = λ no. absurd (is_called reads_source _ _ _ c.in-Some-Show.ensures.value c.in-Some-Show.field-0-is refl no)

pub returns-in-Some-Show-clause-same_sink : goal.returns-in-Some-Show-clause-same_sink
returns-in-Some-Show-clause-same_sink g c = λ no. absurd (is_called writes_sink _ _ _ c.in-Some-Show.ensures.value c.in-Some-Show.field-0-is refl no)

pub returns-in-Some-Check-clause-same_source : goal.returns-in-Some-Check-clause-same_source
returns-in-Some-Check-clause-same_source g c = λ no. absurd (is_called reads_source _ _ _ c.in-Some-Check.ensures.value c.in-Some-Check.field-0-is refl no)

pub returns-in-Some-Check-clause-same_sink : goal.returns-in-Some-Check-clause-same_sink
returns-in-Some-Check-clause-same_sink g c = λ no. absurd (is_called writes_sink _ _ _ c.in-Some-Check.ensures.value c.in-Some-Check.field-0-is refl no)

pub returns-in-Some-Flash-clause-same_source : goal.returns-in-Some-Flash-clause-same_source
returns-in-Some-Flash-clause-same_source g c = λ no. absurd (is_called reads_source _ _ _ c.in-Some-Flash.ensures.value c.in-Some-Flash.field-0-is refl no)

pub returns-in-Some-Flash-clause-same_disk : goal.returns-in-Some-Flash-clause-same_disk
returns-in-Some-Flash-clause-same_disk g c = λ no. absurd (is_called calls_disk _ _ _ c.in-Some-Flash.ensures.value c.in-Some-Flash.field-0-is refl no)

pub returns-in-Some-Drill-clause-same_sink : goal.returns-in-Some-Drill-clause-same_sink
returns-in-Some-Drill-clause-same_sink g c = λ no. absurd (is_called writes_sink _ _ _ c.in-Some-Drill.ensures.value c.in-Some-Drill.field-0-is refl no)

pub returns-in-Some-Drill-clause-other_world : goal.returns-in-Some-Drill-clause-other_world
returns-in-Some-Drill-clause-other_world g c = λ no. absurd (is_called runs_world _ _ _ c.in-Some-Drill.ensures.value c.in-Some-Drill.field-0-is refl no)

-- ---- orders

pub returns-in-Some-Olt-clause-olt : goal.returns-in-Some-Olt-clause-olt
returns-in-Some-Olt-clause-olt g c = λ turns words.
    olt_of_words g.L.Link.left g.L.Link.sent g.L.Link.faults _ _ c.in-Some-Olt.turns turns _ _ _ _ _ _ _ _ _ _ _ c.in-Some-Olt.ensures.value c.in-Some-Olt.field-0-is c.olt-status.ensures.answers words

pub returns-in-Some-Olt-clause-olt_runs : goal.returns-in-Some-Olt-clause-olt_runs
returns-in-Some-Olt-clause-olt_runs g c = λ turns orders bytes words told few spelled calm_source calm_sink calm_link some.
    olt_runs_of g.L.Link.left g.L.Link.sent g.L.Link.faults _ _ _ _ _ _ _ _ _ _ _ c.olt-status.result c.olt-status.ensures.answers orders bytes told few spelled calm_source calm_sink calm_link some

pub returns-in-Some-Olt-clause-olt_refuses : goal.returns-in-Some-Olt-clause-olt_refuses
returns-in-Some-Olt-clause-olt_refuses g c = λ turns place reason bytes words told few faulty calm_source calm_sink calm_link some.
    olt_refuses_of g.L.Link.left g.L.Link.sent g.L.Link.faults _ _ _ _ _ _ _ _ _ _ _ c.olt-status.result c.olt-status.ensures.answers place reason bytes told few faulty calm_source calm_sink calm_link some

pub returns-in-Some-Olt-clause-olt_stops : goal.returns-in-Some-Olt-clause-olt_stops
returns-in-Some-Olt-clause-olt_stops g c = λ turns bytes words told long calm_source some.
    olt_stops_of g.L.Link.left g.L.Link.sent g.L.Link.faults _ _ _ _ _ _ _ _ _ _ _ c.olt-status.result c.olt-status.ensures.answers bytes told long calm_source some

pub returns-in-Some-Olt-clause-show_stops : goal.returns-in-Some-Olt-clause-show_stops
returns-in-Some-Olt-clause-show_stops g c = λ frames bytes words told long has calm_source calm_sink some.
    let is = c.in-Some-Olt.ensures.value in let which = c.in-Some-Olt.field-0-is in absurd (cc)

pub returns-in-Some-Olt-clause-check_stops : goal.returns-in-Some-Olt-clause-check_stops
returns-in-Some-Olt-clause-check_stops g c = λ frames bytes words told long has calm_source calm_sink some.
    let is = c.in-Some-Olt.ensures.value in let which = c.in-Some-Olt.field-0-is in absurd (cc)

pub returns-in-Some-Olt-clause-same_source : goal.returns-in-Some-Olt-clause-same_source
returns-in-Some-Olt-clause-same_source g c = λ no. absurd (is_called reads_source _ _ _ c.in-Some-Olt.ensures.value c.in-Some-Olt.field-0-is refl no)

pub returns-in-Some-Olt-clause-same_sink : goal.returns-in-Some-Olt-clause-same_sink
returns-in-Some-Olt-clause-same_sink g c = λ no. absurd (is_called writes_sink _ _ _ c.in-Some-Olt.ensures.value c.in-Some-Olt.field-0-is refl no)

pub returns-in-Some-Olt-clause-same_link : goal.returns-in-Some-Olt-clause-same_link
returns-in-Some-Olt-clause-same_link g c = λ no. absurd (is_called calls_link _ _ _ c.in-Some-Olt.ensures.value c.in-Some-Olt.field-0-is refl no)

-- ---- the unit

pub returns-in-Some-Unit-clause-unit : goal.returns-in-Some-Unit-clause-unit
returns-in-Some-Unit-clause-unit g c = λ turns words.
    unit_of_words g.D.Disk.seen g.D.Disk.may_leave g.D.Disk.clock g.D.Disk.left_since g.D.Disk.faults _ _ c.in-Some-Unit.turns turns _ _ _ _ _ _ _ _ _ _ _ _ _ c.in-Some-Unit.ensures.value c.in-Some-Unit.field-0-is c.unit.ensures.answers words

pub returns-in-Some-Unit-clause-unit_runs : goal.returns-in-Some-Unit-clause-unit_runs
returns-in-Some-Unit-clause-unit_runs g c = λ turns room slots bytes words told stands calm_sink calm_link calm_disk some.
    c.unit.ensures.runs room slots bytes told stands calm_sink calm_link calm_disk some

pub returns-in-Some-Unit-clause-unit_refuses : goal.returns-in-Some-Unit-clause-unit_refuses
returns-in-Some-Unit-clause-unit_refuses g c = λ turns bytes words told other calm some.
    c.unit.ensures.refuses bytes told other calm some

pub returns-in-Some-Unit-clause-show_stops : goal.returns-in-Some-Unit-clause-show_stops
returns-in-Some-Unit-clause-show_stops g c = λ frames bytes words told long has calm_source calm_sink some.
    let is = c.in-Some-Unit.ensures.value in let which = c.in-Some-Unit.field-0-is in absurd (cc)

pub returns-in-Some-Unit-clause-check_stops : goal.returns-in-Some-Unit-clause-check_stops
returns-in-Some-Unit-clause-check_stops g c = λ frames bytes words told long has calm_source calm_sink some.
    let is = c.in-Some-Unit.ensures.value in let which = c.in-Some-Unit.field-0-is in absurd (cc)

pub returns-in-Some-Unit-clause-same_sink : goal.returns-in-Some-Unit-clause-same_sink
returns-in-Some-Unit-clause-same_sink g c = λ no. absurd (is_called writes_sink _ _ _ c.in-Some-Unit.ensures.value c.in-Some-Unit.field-0-is refl no)

pub returns-in-Some-Unit-clause-same_disk : goal.returns-in-Some-Unit-clause-same_disk
returns-in-Some-Unit-clause-same_disk g c = λ no. absurd (is_called calls_disk _ _ _ c.in-Some-Unit.ensures.value c.in-Some-Unit.field-0-is refl no)

pub returns-in-Some-Unit-clause-same_link : goal.returns-in-Some-Unit-clause-same_link
returns-in-Some-Unit-clause-same_link g c = λ no. absurd (is_called calls_link _ _ _ c.in-Some-Unit.ensures.value c.in-Some-Unit.field-0-is refl no)

pub returns-in-Some-Unit-clause-disk_kept : goal.returns-in-Some-Unit-clause-disk_kept
returns-in-Some-Unit-clause-disk_kept g c = λ other calm.
    absurd (other c.in-Some-Unit.turns (unit_words _ _ _ c.in-Some-Unit.ensures.value c.in-Some-Unit.field-0-is))

-- ---- a filter

pub returns-in-Some-Filter-clause-filter : goal.returns-in-Some-Filter-clause-filter
returns-in-Some-Filter-clause-filter g c = λ filter words.
    filter_of_words _ _ c.in-Some-Filter.filter filter _ _ _ _ _ _ _ _ _ c.in-Some-Filter.ensures.value c.in-Some-Filter.field-0-is c.filter-status.ensures.answers words

pub returns-in-Some-Filter-clause-filter_runs : goal.returns-in-Some-Filter-clause-filter_runs
returns-in-Some-Filter-clause-filter_runs g c = λ filter text bytes words told few is calm_source calm_sink some.
    filter_runs_of filter _ _ _ _ _ _ _ _ c.filter-status.result
    (filter_of_words _ _ c.in-Some-Filter.filter filter _ _ _ _ _ _ _ _ _ c.in-Some-Filter.ensures.value c.in-Some-Filter.field-0-is c.filter-status.ensures.answers words)
    text bytes told few is calm_source calm_sink some

pub returns-in-Some-Filter-clause-filter_refuses : goal.returns-in-Some-Filter-clause-filter_refuses
returns-in-Some-Filter-clause-filter_refuses g c = λ filter place reason bytes words told few faulty calm_source calm_sink some.
    filter_refuses_of filter _ _ _ _ _ _ _ _ c.filter-status.result
    (filter_of_words _ _ c.in-Some-Filter.filter filter _ _ _ _ _ _ _ _ _ c.in-Some-Filter.ensures.value c.in-Some-Filter.field-0-is c.filter-status.ensures.answers words)
    place reason bytes told few faulty calm_source calm_sink some

pub returns-in-Some-Filter-clause-filter_stops : goal.returns-in-Some-Filter-clause-filter_stops
returns-in-Some-Filter-clause-filter_stops g c = λ filter bytes words told long calm_source some.
    filter_stops_of filter _ _ _ _ _ _ _ _ c.filter-status.result
    (filter_of_words _ _ c.in-Some-Filter.filter filter _ _ _ _ _ _ _ _ _ c.in-Some-Filter.ensures.value c.in-Some-Filter.field-0-is c.filter-status.ensures.answers words)
    bytes told long calm_source some

pub returns-in-Some-Filter-clause-show_stops : goal.returns-in-Some-Filter-clause-show_stops
returns-in-Some-Filter-clause-show_stops g c = λ frames bytes words told long has calm_source calm_sink some.
    let is = c.in-Some-Filter.ensures.value in let which = c.in-Some-Filter.field-0-is in absurd (cc)

pub returns-in-Some-Filter-clause-check_stops : goal.returns-in-Some-Filter-clause-check_stops
returns-in-Some-Filter-clause-check_stops g c = λ frames bytes words told long has calm_source calm_sink some.
    let is = c.in-Some-Filter.ensures.value in let which = c.in-Some-Filter.field-0-is in absurd (cc)

pub returns-in-Some-Filter-clause-same_source : goal.returns-in-Some-Filter-clause-same_source
returns-in-Some-Filter-clause-same_source g c = λ no. absurd (is_called reads_source _ _ _ c.in-Some-Filter.ensures.value c.in-Some-Filter.field-0-is refl no)

pub returns-in-Some-Filter-clause-same_sink : goal.returns-in-Some-Filter-clause-same_sink
returns-in-Some-Filter-clause-same_sink g c = λ no. absurd (is_called writes_sink _ _ _ c.in-Some-Filter.ensures.value c.in-Some-Filter.field-0-is refl no)
