-- Scripts worked by hand, at whose ends the two ends are in step or aren't.
use Rattle.std.specs.Prelude.{ℕ, [], ◌∷◌, Option, Some, None}
use Rattle.std.specs.Option.{option_map}
use Rattle.omci_types.specs.declared.Priority.TheVariants.{Low}
use Rattle.mib_spec.specs.Database.{counter}
use Rattle.upload_spec.specs.Copies.{copy_counter}
use Rattle.manager_spec.specs.declared.Phase.{Phase}
use Rattle.manager_spec.specs.Manager.{Manager}
use Rattle.unit_spec.specs.Onu.{Onu}
use Rattle.script_spec.specs.Script.{Script, Create, Deliver, CutUnit, StartUnit}
use Rattle.world_spec.specs.Nodes.{Nodes, first_nodes, nodes_after}
use Rattle.world_spec.specs.History.{Told, first_told, told_after}
use Rattle.world_laws.specs.Worked.{header, entity}
use Rattle.world_laws.specs.WorkedCopies.{synced}
use Rattle.step_laws.specs.InStep.{AreInStep}

-- a create that the unit has carried out, and whose reply is under way
unfoldable pub created_alone : Script
created_alone = record {
  header = header;
  actions = synced (Create Low (entity 272 5) (0 ∷ 48 ∷ []) ∷ Deliver 32 ∷ []);
}

-- the unit starts again after the resynchronisation, and the manager doesn't know it
unfoldable pub started_again : Script
started_again = record { header = header; actions = synced (CutUnit ∷ StartUnit ∷ []) }

-- ---- what stands at the end of a script

abbrev pub end_nodes : Script → Nodes
end_nodes s = nodes_after s.actions (first_nodes s.header)

abbrev pub end_told : Script → Told
end_told s = told_after s.actions (first_nodes s.header) first_told

-- both ends are in step by their phase, and that was the upload command
pub record EndsInStep (s : Script) (command : ℕ) : Type 0 where
  pub manager : Manager
  pub unit : Onu
  pub are : AreInStep (end_nodes s) (end_told s) manager unit command

abbrev pub phase_of : Option Manager → Option Phase
phase_of None = None
phase_of (Some m) = Some m.phase

abbrev pub unit_counter : Option Onu → Option ℕ
unit_counter None = None
unit_counter (Some u) = Some (counter u.database)

abbrev pub copied_count : Option Manager → Option ℕ
copied_count None = None
copied_count (Some m) = option_map copy_counter m.copy
