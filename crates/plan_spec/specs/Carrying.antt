-- Carrying a plan out over a unit's database, and what it must reach.
use Rattle.std.specs.Prelude.{◌≡◌, ℕ, ◌==◌, ◌&&◌, ◌||◌, not, Bool, true, false, List, [], ◌∷◌, map, Option, Some, None}
use Rattle.std.specs.List.{list_any, All}
use Rattle.std.specs.BTreeMap.{is_at}
use Rattle.omci_types.specs.declared.EntityId.{EntityId}
use Rattle.mib_spec.specs.Database.{Database, Values, entity_cmp, is_held, value_at, values_of}
use Rattle.mib_spec.specs.Requests.{create_outcome, delete_outcome, set_outcome, is_unit_made, is_onu_data}
use Rattle.upload_spec.specs.Pieces.{Copy}
use Rattle.upload_spec.specs.Copies.{is_copied, copied_values}
use Rattle.plan_spec.specs.Steps.{Step, Delete, Create, Set}

-- the code that the unit answers to a step
abbrev pub step_code : Step → Database → ℕ
step_code (Delete one) database = (delete_outcome one database).0
step_code (Create one given) database = (create_outcome one given database).0
step_code (Set one mask given) database = (set_outcome one mask given database).code

-- the database after a step
abbrev pub after_step : Step → Database → Database
after_step (Delete one) database = (delete_outcome one database).1
after_step (Create one given) database = (create_outcome one given database).1
after_step (Set one mask given) database = (set_outcome one mask given database).database

-- the codes that the unit answers to the steps, one after the other
abbrev pub codes_of : List Step → Database → List ℕ
codes_of [] database = []
codes_of (step ∷ steps) database = step_code step database
    ∷ codes_of steps (after_step step database)

-- the database after the steps, one after the other
abbrev pub after_steps : List Step → Database → Database
after_steps [] database = database
after_steps (step ∷ steps) database = after_steps steps (after_step step database)

-- whether the attribute is the counter of the database
abbrev pub is_counter : EntityId → ℕ → Bool
is_counter one number = is_onu_data one && number == 1

-- The database has the wanted entities, those of the one before whose class the unit makes, and no
-- other. Each named attribute has its wanted value. Every other is as it was, and zero in an entity
-- that wasn't there; the counter isn't compared.
pub record Wants (want : Copy) (before after : Database) : Type 0 where
  pub entities : (one : EntityId)
      → is_held one after ≡ (is_copied one want || (is_held one before && is_unit_made one.class))
  pub wanted : (one : EntityId) (number : ℕ) (value : List ℕ)
      → value_at number (copied_values one want) ≡ Some value
      → value_at number (values_of one after) ≡ Some value
  pub others : (one : EntityId) (number : ℕ) → is_held one after ≡ true
      → value_at number (copied_values one want) ≡ None → is_counter one number ≡ false
      → value_at number (values_of one after) ≡ value_at number (values_of one before)

-- the entity that a step names
abbrev pub named_by : Step → EntityId
named_by (Delete one) = one
named_by (Create one given) = one
named_by (Set one mask given) = one

-- whether a step names the entity
abbrev pub names : List Step → EntityId → Bool
names steps one = list_any (is_at (entity_cmp one)) (map named_by steps)

-- every step is answered by the code 0, and the database after them is what is wanted
pub record Reaches (steps : List Step) (want : Copy) (before : Database) : Type 0 where
  pub answered : All (λ code. code ≡ 0) (codes_of steps before)
  pub reached : Wants want before (after_steps steps before)
