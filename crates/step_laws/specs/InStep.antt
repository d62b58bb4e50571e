-- In step: what the manager's phase says of its copy and of the unit's database.
use Rattle.std.specs.Prelude.{ℕ, ◌≡◌, ◌≢◌, ◌⊎◌, true, List, [], ◌∷◌, take, Some}
use Rattle.omci_types.specs.declared.Frame.{Frame}
use Rattle.omci_types.specs.declared.Priority.{Priority}
use Rattle.omci_types.specs.declared.Priority.TheVariants.{Low, High}
use Rattle.mib_spec.specs.Database.{Database, counter}
use Rattle.upload_spec.specs.Pieces.{Copy}
use Rattle.upload_spec.specs.Copies.{copy_counter}
use Rattle.lane_spec.specs.Command.{is_changing}
use Rattle.lane_spec.specs.Lane.{Waiting}
use Rattle.manager_spec.specs.declared.Phase.TheVariants as phase
use Rattle.manager_spec.specs.declared.Report.TheVariants as report
use Rattle.manager_spec.specs.Manager.{Manager, lane_in, with_report}
use Rattle.manager_spec.specs.Steps.{response_of, checked_by}
use Rattle.unit_spec.specs.Onu.{Onu}
use Rattle.script_spec.specs.Script.{Header, Action}
use Rattle.history_spec.specs.History.{Entry, CarriedOut, TookReply, Remarked, TookSnapshot, Synced}
use Rattle.history_spec.specs.History.{TookAlarms, Audited, Stored, Downloaded}
use Rattle.world_spec.specs.Nodes.{Nodes, first_nodes, nodes_after}
use Rattle.world_spec.specs.History.{Told, first_told, told_after, drawn_in}
use Rattle.resync_laws.specs.Agreeing.{Agrees}

-- ---- what the history says

-- the command is the upload of the last resynchronisation that was completed
abbrev pub LastSynced : ℕ → List Entry → Type 0
LastSynced command [] = ⊥
LastSynced command (CarriedOut life c reply before ∷ older) = LastSynced command older
LastSynced command (TookReply c reply ∷ older) = LastSynced command older
LastSynced command (Remarked (TookSnapshot life c database) ∷ older) = LastSynced command older
LastSynced command (Remarked (Synced c copy) ∷ older) = c ≡ command
LastSynced command (Remarked (TookAlarms life c alarms) ∷ older) = LastSynced command older
LastSynced command (Remarked (Audited c table notices) ∷ older) = LastSynced command older
LastSynced command (Remarked (Stored entry) ∷ older) = LastSynced command older
LastSynced command (Remarked (Downloaded slot image) ∷ older) = LastSynced command older

-- it was that life of the unit in which the upload command put a database by the last time
abbrev pub LastSnapshotIn : (life command : ℕ) → List Entry → Type 0
LastSnapshotIn life command [] = ⊥
LastSnapshotIn life command (CarriedOut l c reply before ∷ older) =
    LastSnapshotIn life command older
LastSnapshotIn life command (TookReply c reply ∷ older) = LastSnapshotIn life command older
LastSnapshotIn life command (Remarked (TookSnapshot l c database) ∷ older) =
    ((c ≡ command) × (l ≡ life)) ⊎ ((c ≢ command) × LastSnapshotIn life command older)
LastSnapshotIn life command (Remarked (Synced c copy) ∷ older) = LastSnapshotIn life command older
LastSnapshotIn life command (Remarked (TookAlarms l c alarms) ∷ older) =
    LastSnapshotIn life command older
LastSnapshotIn life command (Remarked (Audited c table notices) ∷ older) =
    LastSnapshotIn life command older
LastSnapshotIn life command (Remarked (Stored entry) ∷ older) = LastSnapshotIn life command older
LastSnapshotIn life command (Remarked (Downloaded slot image) ∷ older) =
    LastSnapshotIn life command older

-- in that life the command was carried out, and this was the database before it
abbrev pub CarriedOn : (life command : ℕ) → Database → List Entry → Type 0
CarriedOn life command database [] = ⊥
CarriedOn life command database (CarriedOut l c reply before ∷ older) =
    ((l ≡ life) × (c ≡ command) × (before ≡ database)) ⊎ CarriedOn life command database older
CarriedOn life command database (TookReply c reply ∷ older) = CarriedOn life command database older
CarriedOn life command database (Remarked remark ∷ older) = CarriedOn life command database older

-- ---- agreement

-- the database has the copy's entities, the copy's values in all attributes that may be written,
-- and
-- the copy's counter
pub record AgreesWith (database : Database) (copy : Copy) : Type 0 where
  pub values : Agrees database copy
  pub counters : counter database ≡ copy_counter copy

-- ---- in step

-- The manager is on and in step, and the unit is on, in the life in which it put by the database of
-- the manager's last resynchronisation. The command is that resynchronisation's upload.
pub record AreInStep (n : Nodes) (t : Told) (m : Manager) (u : Onu) (command : ℕ) : Type 0 where
  pub managed : n.ends.manager ≡ Some m
  pub on : n.ends.unit ≡ Some u
  pub in_step : m.phase ≡ phase.InStep
  pub synced : LastSynced command t.history
  pub life : LastSnapshotIn n.ends.lives command t.history

-- the manager waits in that lane for the reply to a change, or to the start or the end of a
-- download
pub record IsOutstandingChange (lane : Priority) (m : Manager) (w : Waiting) : Type 0 where
  pub waits : (lane_in lane m).outstanding ≡ Some w
  pub changing : is_changing w.command.request ≡ true

-- the change that is outstanding was carried out in this life, and before it the database agreed
pub record IsAhead (n : Nodes) (t : Told) (m : Manager) (copy : Copy) : Type 0 where
  pub lane : Priority
  pub waiting : Waiting
  pub change : IsOutstandingChange lane m waiting
  pub before : Database
  pub carried : CarriedOn n.ends.lives (drawn_in lane t) before t.history
  pub agreed : AgreesWith before copy

-- The manager has a copy, and at most one change is outstanding. The unit's database agrees with
-- the
-- copy, or that change was carried out, and the database before it agreed.
pub record KeepStep (n : Nodes) (t : Told) (m : Manager) (u : Onu) : Type 0 where
  pub copy : Copy
  pub has : m.copy ≡ Some copy
  pub one : (w v : Waiting) → IsOutstandingChange Low m w → IsOutstandingChange High m v → ⊥
  pub agrees : AgreesWith u.database copy ⊎ IsAhead n t m copy

-- in step: wherever the two ends are in step by their phase, they keep step
abbrev pub InStep : Nodes → Told → Type 0
InStep n t = (m : Manager) (u : Onu) (command : ℕ) → AreInStep n t m u command → KeepStep n t m u

-- no change is outstanding
abbrev pub IsAtRest : Manager → Type 0
IsAtRest m = (lane : Priority) (w : Waiting) → IsOutstandingChange lane m w → ⊥

-- the manager has a copy, and the unit's database agrees with it
pub record AgreeOutright (m : Manager) (u : Onu) : Type 0 where
  pub copy : Copy
  pub has : m.copy ≡ Some copy
  pub agrees : AgreesWith u.database copy

-- The unit's answer to the request of a check shows the manager two equal counters, and a manager
-- with
-- that copy stays as it is but for its report.
abbrev pub ChecksEqual : Manager → Onu → Frame → Type 0
ChecksEqual m u reply =
    (x : Manager) → x.copy ≡ m.copy
    → checked_by (response_of reply) reply x
    ≡ with_report (report.Checked (counter u.database) (counter u.database)) x

-- in step after each line of a script
abbrev pub ScriptInStep : Header → List Action → Type 0
ScriptInStep h actions =
    (lines : ℕ)
    → InStep (nodes_after (take lines actions) (first_nodes h))
    (told_after (take lines actions) (first_nodes h) first_told)
