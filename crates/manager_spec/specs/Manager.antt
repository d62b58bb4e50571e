-- The manager with its two lanes, its copy of the unit's database, its table of alarms, and the job
-- that runs.
use Rattle.std.specs.Prelude.{ℕ, Bool, true, List, [], ◌∷◌, ◌++◌, Option, None}
use Rattle.std.specs.List.{flat_map}
use Rattle.omci_types.specs.declared.Priority.{Priority}
use Rattle.omci_types.specs.declared.Priority.TheVariants.{Low, High}
use Rattle.upload_spec.specs.Pieces.{Copy}
use Rattle.alarm_spec.specs.Alarms.{Alarm}
use Rattle.alarm_spec.specs.Table.{Table, new_table}
use Rattle.window_spec.specs.Outgoing.{Outgoing}
use Rattle.lane_spec.specs.Command.{Command, command_packets}
use Rattle.lane_spec.specs.Lane.{Lane, new_lane, next_tci, with_command}
use Rattle.manager_spec.specs.declared.Phase.{Phase}
use Rattle.manager_spec.specs.declared.Phase.TheVariants as phase
use Rattle.manager_spec.specs.declared.Report.{Report}
use Rattle.manager_spec.specs.declared.Report.TheVariants as report

-- what is said of a download: the slot that the image is for, and the check value that is given
pub record Order : Type 0 where
  pub slot : ℕ
  pub check : ℕ

-- how far a resynchronisation, an audit or a download has come
pub data Stage : Type 0 where
  -- it waits for the probes of these lanes
  Probing : (high low : Bool) → Stage
  -- it waits for the reply that says how many pieces there are
  Asking : Stage
  -- of so many pieces that one comes next, and those before it gave this copy
  Gathering : (expected next : ℕ) (copy : Copy) → Stage
  -- it waits for the reply that says how many rows of alarms there are
  AskingAlarms : Stage
  -- of so many rows that one comes next, and the table gathers them
  GatheringRows : (expected next : ℕ) → Stage
  -- it waits for the reply that grants a download, for which windows of so many sections were asked
  StartingImage : (order : Order) (asked : ℕ) (image : List ℕ) → Stage
  -- this window of the image is sent, anew for the so-manieth time
  SendingImage : (order : Order) (outgoing : Outgoing) (resent : ℕ) → Stage
  -- all of the image was taken, and the download's end is sent; so often it was answered busy
  EndingImage : (order : Order) (image : List ℕ) (busy : ℕ) → Stage
  -- the end is sent anew with the next second
  DelayingEnd : (order : Order) (image : List ℕ) (busy : ℕ) → Stage

-- the two lanes, the phase, the copy of the last resynchronisation with the changes since, the
-- table of alarms, the stage of the job that runs, and the reports that wait to be taken out,
-- oldest first
pub record Manager : Type 0 where
  pub low : Lane
  pub high : Lane
  pub phase : Phase
  pub copy : Option Copy
  pub table : Table
  pub job : Option Stage
  pub reports : List Report

-- a manager that starts with these numbers of its lanes: nothing is proved, nothing is outstanding
abbrev pub manager_started : (low high : ℕ) → Manager
manager_started low high =
    record {
      low = new_lane Low low;
      high = new_lane High high;
      phase = phase.New;
      copy = None;
      table = new_table;
      job = None;
      reports = [];
    }

abbrev pub lane_in : Priority → Manager → Lane
lane_in Low m = m.low
lane_in High m = m.high

abbrev pub with_lane : Priority → Lane → Manager → Manager
with_lane Low l m = record m { low = l }
with_lane High l m = record m { high = l }

abbrev pub other_lane : Priority → Priority
other_lane Low = High
other_lane High = Low

abbrev pub with_report : Report → Manager → Manager
with_report r m = record m { reports = m.reports ++ r ∷ [] }

-- ---- the phase

-- the phase, where the manager leaves the step
abbrev pub phase_left : Phase → Manager → Manager
phase_left phase.InStep m = with_report report.PhaseOut (record m { phase = phase.Out })
phase_left phase.New m = m
phase_left phase.Out m = m

-- a manager that is in step no longer is, and reports it
abbrev pub leave_step : Manager → Manager
leave_step m = phase_left m.phase m

-- the phase is out, which is reported where it was in step
abbrev pub step_lost : Manager → Manager
step_lost m = record (leave_step m) { phase = phase.Out }

-- ---- what a step comes to

-- Packets of a lane's command, which it draws now or sends again; and whether it is the command by
-- which the job asks for a snapshot.
pub record Sending : Type 0 where
  pub lane : Priority
  pub drawn : Bool
  pub asks : Bool
  pub packets : List (List ℕ)

-- the manager after a step, the lanes in which it took a reply to a command that isn't a probe, the
-- alarm notices that it took, and what it sends, in order
pub record Outcome : Type 0 where
  pub manager : Manager
  pub taken : List Priority
  pub noticed : List Alarm
  pub sendings : List Sending

abbrev pub sends_nothing : Manager → Outcome
sends_nothing m = record { manager = m; taken = []; noticed = []; sendings = [] }

-- one step and then another
abbrev pub and_then : Outcome → (Manager → Outcome) → Outcome
and_then o next =
    record {
      manager = (next o.manager).manager;
      taken = o.taken ++ (next o.manager).taken;
      noticed = o.noticed ++ (next o.manager).noticed;
      sendings = o.sendings ++ (next o.manager).sendings;
    }

-- all packets that a step sends
abbrev pub packets_of : List Sending → List (List ℕ)
packets_of sendings = flat_map (λ s. s.packets) sendings

-- a command draws its lane's next number and goes out
abbrev pub command_sent : (asks : Bool) → Priority → Command → Manager → Outcome
command_sent asks lane c m =
    record {
      manager = with_lane lane (with_command c (lane_in lane m)) m;
      taken = [];
      noticed = [];
      sendings =
          record {
            lane = lane;
            drawn = true;
            asks = asks;
            packets = command_packets (next_tci (lane_in lane m)) c;
          } ∷ [];
    }
